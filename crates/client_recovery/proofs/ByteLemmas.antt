-- The bytes of words, one after the other.
use Rattle.std.proofs.Common.{◌≡◌, ℕ, ◌+◌, ◌*◌, ◌/◌, ◌%◌, ◌<◌, List, [], ◌∷◌, ◌++◌, length, take, get_or, sym, ap₂, ◌∙◌, arith}
use Rattle.std.specs.Int.{w64, to_le_bytes}
use Rattle.std.proofs.lemmas.List.{take_more}
use Rattle.object_form.specs.Content.{bytes_of_words}
use Rattle.object_form.proofs.ContentLemmas.{get_or-bytes_of_words, length-bytes_of_words}

pub bytes_more : (words bytes : List ℕ) (index byte : ℕ) → index < 8 * length words → bytes ≡ take index (bytes_of_words words)
    → byte ≡ get_or (to_le_bytes w64 (get_or words (index / 8) 0)) (index % 8) 0 → bytes ++ byte ∷ [] ≡ take (index + 1) (bytes_of_words words)
bytes_more words bytes index byte within are is =
    ap₂ (λ (front : List ℕ) (last : ℕ). front ++ last ∷ []) are (is ∙ sym (get_or-bytes_of_words words index within))
    ∙ sym (take_more (bytes_of_words words) index 0 (omega (arith, length-bytes_of_words words)))
