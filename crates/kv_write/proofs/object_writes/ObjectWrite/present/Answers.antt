use Rattle.std.proofs.Common.{ℕ, List, ◌+◌, ap, get_or, sym, ◌∙◌, arith}
use Rattle.std.specs.Prelude.{slice_index_or}
use Rattle.machine.specs.WordsWrite.{present_piece}
use Rattle.kv_write.specs.Writes.{pieces_of}
use Rattle.kv_write.proofs.WriteLemmas.{pieces_of-content}
use Rattle.kv_write.proofs.object_writes.ObjectWrite.present.Goals as goal

pub returns-then-piece-len : goal.returns-then-piece-len
returns-then-piece-len c =
    let w = c.self.inside in
    let i = c.piece-piece.result in
    ap (λ (l : List ℕ). (1 + i, get_or l i 0)) c.deref.ensures.0
    ∙ sym (pieces_of-content w.content.items w.link i (omega (arith, c.len.ensures.value)))
    ∙ ap (λ (n : ℕ). slice_index_or (pieces_of w.content.items w.link) n (0, 0)) c.piece-piece.ensures
    ∙ ap present_piece c.self.view_is
