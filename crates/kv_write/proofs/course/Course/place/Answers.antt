use Rattle.std.proofs.Common.{ap, ◌∙◌, arith}
use Rattle.kv_write.proofs.CourseLemmas.{held_place, held_place-inside, low_place}
use Rattle.kv_write.specs.Courses.{written_as}
use Rattle.kv_write.proofs.course.Course.place.Goals as goal

pub overflow_add-result : goal.overflow_add-result
overflow_add-result c =
    let turn = c.written_as.ensures ∙ ap (written_as c.self.inside.replica) c.len.ensures.value in
    let low = low_place _ _ c.deref.result.now c.written_as.result c.self.invariant c.deref.ensures.0 turn in
    omega (arith, c.requires.word)

pub returns-clause-place : goal.returns-clause-place
returns-clause-place c =
    let turn = c.written_as.ensures ∙ ap (written_as c.self.inside.replica) c.len.ensures.value in
    held_place _ c.args.self.now _ c.deref.result.now c.args.word c.written_as.result c.self.invariant c.self.view_is c.deref.ensures.0 turn

pub returns-clause-inside : goal.returns-clause-inside
returns-clause-inside c =
    let turn = c.written_as.ensures ∙ ap (written_as c.self.inside.replica) c.len.ensures.value in
    held_place-inside _ c.args.self.now _ c.deref.result.now c.args.word c.written_as.result c.self.invariant c.self.view_is c.deref.ensures.0 turn c.requires.has
