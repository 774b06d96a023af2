use Rattle.std.proofs.Common.{sym, ap, ◌/◌, ◌∙◌, rules}
use Rattle.kv_find.proofs.ReadingLemmas.{pushed-held, pushed-is, still-unread, turn-word}
use Rattle.kv_find.proofs.reading.ReadValue.take.Goals.{then-len-div_ceil, else-len-div_ceil}
use Rattle.kv_find.proofs.reading.ReadValue.take.Goals as goal

pub invariant_of-self : goal.invariant_of-self
invariant_of-self c =
    let r = c.self.inside in
    pushed-held r.view r.pointer r.key_len r.value_len r.bytes.items c.push_word.new.bytes.items r.first c.args.found c.args.self.now c.self.invariant c.self.view_is c.requires (search rules) c.push_word.ensures

pub returns-clause-state : goal.returns-clause-state
returns-clause-state c =
    let r = c.self.inside in
    pushed-is r.view r.pointer r.key_len r.value_len r.bytes.items c.push_word.new.bytes.items r.first c.args.found c.args.self.now c.self.invariant c.self.view_is (search rules) c.push_word.ensures
    ∙ sym (turn-word c.args.self.now c.args.found)

pub returns-clause-unread : goal.returns-clause-unread
returns-clause-unread c =
    let r = c.self.inside in
    λ goes. elim c.if-len-div_ceil.branch [
      | then-len-div_ceil w ↦ absurd cc
      | else-len-div_ceil w ↦
          still-unread r.view r.pointer r.key_len r.value_len r.bytes.items c.push_word.new.bytes.items r.first c.args.found c.args.self.now c.self.invariant c.self.view_is c.requires c.push_word.ensures
          (λ same. w.if-len-div_ceil.false (ap (λ n. n / 8) c.len.ensures.value ∙ same ∙ sym c.div_ceil.ensures))
    ]
