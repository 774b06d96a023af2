-- How far a writing of words has come after so many verbs.
use Rattle.std.proofs.Common.{◌≡◌, ℕ, zero, suc, ◌+◌, ◌*◌, ◌<◌, Bool, true, false, List, length, refl, ap, ◌∙◌, ◌↔◌, arith}
use Rattle.std.specs.Prelude.{nat_lt, slice_index_or}
use Rattle.std.proofs.Math.Nat.{suc-mul}
use Rattle.std.proofs.lemmas.Bool.Decides.{nat_tests}
use Rattle.std.proofs.lemmas.Bool.{lt-ltb}
use Rattle.kv_write.specs.Done.{done}
use Rattle.machine.specs.declared.object_write.Written.TheVariants.{Whole}
use Rattle.machine.specs.Places.{object_word, replica_count, written_place}
use Rattle.machine.specs.WordsWrite.{Piece, WordsWrite, next, turn, words_write_of}
use Rattle.region_view.specs.Placed.{Viewed}
use Rattle.verb_words.specs.declared.verbs.Answer.TheVariants.{Done}
use Rattle.verb_words.specs.declared.verbs.Verb.TheVariants.{Write}

-- a writing that is at a piece and a replica
at : Viewed → ℕ → List Piece → ℕ → ℕ → WordsWrite
at view pointer pieces piece replica = record (words_write_of view pointer pieces) { piece = piece; replica = replica }

turn-replica : (view : Viewed) (pointer : ℕ) (pieces : List Piece) (piece replica : ℕ) → replica + 1 < replica_count view (object_word pointer 0)
    → (turn (at view pointer pieces piece replica) Done).state ≡ at view pointer pieces piece (replica + 1)
unfolding at
turn-replica view pointer pieces piece replica more = rw (lt-ltb _ _ more) refl

turn-piece : (view : Viewed) (pointer : ℕ) (pieces : List Piece) (piece replica : ℕ) → replica + 1 ≡ replica_count view (object_word pointer 0) → piece + 1 < length pieces
    → (turn (at view pointer pieces piece replica) Done).state ≡ at view pointer pieces (piece + 1) 0
unfolding at
turn-piece view pointer pieces piece replica last more = by (nat_lt (replica + 1) (replica_count view (object_word pointer 0))) refl
  where
    by : (t : Bool) → nat_lt (replica + 1) (replica_count view (object_word pointer 0)) ≡ t → (turn (at view pointer pieces piece replica) Done).state ≡ at view pointer pieces (piece + 1) 0
    by true is = absurd (grind (arith, nat_tests))
    by false is = rw (is, lt-ltb _ _ more) refl

-- along the replicas of a word
along : (view : Viewed) (pointer : ℕ) (pieces : List Piece) (piece verbs replica : ℕ) → done verbs (words_write_of view pointer pieces) ≡ at view pointer pieces piece 0 → replica < replica_count view (object_word pointer 0)
    → done (verbs + replica) (words_write_of view pointer pieces) ≡ at view pointer pieces piece replica
along view pointer pieces piece verbs zero is within =
    let same : verbs + 0 ≡ verbs = omega arith in
    ap (λ n. done n (words_write_of view pointer pieces)) same ∙ is
along view pointer pieces piece verbs (suc replica) is within =
    let same : verbs + suc replica ≡ suc (verbs + replica) = omega arith in
    let before = along view pointer pieces piece verbs replica is (omega arith) in
    let next_one : replica + 1 ≡ suc replica = omega arith in
    ap (λ n. done n (words_write_of view pointer pieces)) same
    ∙ ap (λ w. (turn w Done).state) before
    ∙ turn-replica view pointer pieces piece replica (omega arith)
    ∙ ap (at view pointer pieces piece) next_one

-- at the first replica of a word
begun_piece : (view : Viewed) (pointer : ℕ) (pieces : List Piece) (piece : ℕ) → piece < length pieces → 0 < replica_count view (object_word pointer 0)
    → done (piece * replica_count view (object_word pointer 0)) (words_write_of view pointer pieces) ≡ at view pointer pieces piece 0
unfolding at
begun_piece view pointer pieces zero within some =
    let none : 0 * replica_count view (object_word pointer 0) ≡ 0 = omega arith in
    ap (λ n. done n (words_write_of view pointer pieces)) none
begun_piece view pointer pieces (suc piece) within some = by (replica_count view (object_word pointer 0)) refl some (begun_piece view pointer pieces piece (omega arith) some)
  where
    by : (count : ℕ) → replica_count view (object_word pointer 0) ≡ count → 0 < count
        → done (piece * replica_count view (object_word pointer 0)) (words_write_of view pointer pieces) ≡ at view pointer pieces piece 0
        → done (suc piece * replica_count view (object_word pointer 0)) (words_write_of view pointer pieces) ≡ at view pointer pieces (suc piece) 0
    by zero is none before = absurd (omega arith)
    by (suc last) is more before =
        let count = replica_count view (object_word pointer 0) in
        let product : suc piece * count ≡ piece * count + count = suc-mul piece count in
        let same : suc piece * count ≡ suc (piece * count + last) = omega arith in
        let here = along view pointer pieces piece (piece * count) last before (omega arith) in
        let next_one : piece + 1 ≡ suc piece = omega arith in
        ap (λ n. done n (words_write_of view pointer pieces)) same
        ∙ ap (λ w. (turn w Done).state) here
        ∙ turn-piece view pointer pieces piece last (omega arith) (omega arith)
        ∙ ap (λ n. at view pointer pieces n 0) next_one

done-at : (view : Viewed) (pointer : ℕ) (pieces : List Piece) (piece replica : ℕ) → piece < length pieces → replica < replica_count view (object_word pointer 0)
    → done (piece * replica_count view (object_word pointer 0) + replica) (words_write_of view pointer pieces) ≡ at view pointer pieces piece replica
done-at view pointer pieces piece replica within below =
    along view pointer pieces piece (piece * replica_count view (object_word pointer 0)) replica (begun_piece view pointer pieces piece within (omega arith)) below

pub next-done : (view : Viewed) (pointer : ℕ) (pieces : List Piece) (piece replica : ℕ) → piece < length pieces → replica < replica_count view (object_word pointer 0)
    → next (done (piece * replica_count view (object_word pointer 0) + replica) (words_write_of view pointer pieces))
    ≡ Write (written_place view (object_word pointer (slice_index_or pieces piece (0, 0)).0) replica) (slice_index_or pieces piece (0, 0)).1
unfolding at
next-done view pointer pieces piece replica within below = ap next (done-at view pointer pieces piece replica within below)

turn-whole : (view : Viewed) (pointer : ℕ) (pieces : List Piece) (piece replica : ℕ) → piece < length pieces → replica < replica_count view (object_word pointer 0)
    → ((turn (at view pointer pieces piece replica) Done).told ≡ Whole) ↔ ((piece + 1 ≡ length pieces) × (replica + 1 ≡ replica_count view (object_word pointer 0)))
unfolding at
turn-whole view pointer pieces piece replica within below = by (nat_lt (replica + 1) (replica_count view (object_word pointer 0))) refl (nat_lt (piece + 1) (length pieces)) refl
  where
    by : (t : Bool) → nat_lt (replica + 1) (replica_count view (object_word pointer 0)) ≡ t → (u : Bool) → nat_lt (piece + 1) (length pieces) ≡ u
        → ((turn (at view pointer pieces piece replica) Done).told ≡ Whole) ↔ ((piece + 1 ≡ length pieces) × (replica + 1 ≡ replica_count view (object_word pointer 0)))
    by true more u pieces_left = rw more ((λ told. absurd cc), λ last. absurd (grind (arith, nat_tests)))
    by false last true more = rw (last, more) ((λ told. absurd cc), λ both. absurd (grind (arith, nat_tests)))
    by false last false done = rw (last, done) ((λ told. (grind (arith, nat_tests), grind (arith, nat_tests))), λ both. refl)

pub whole-done : (view : Viewed) (pointer : ℕ) (pieces : List Piece) (piece replica : ℕ) → piece < length pieces → replica < replica_count view (object_word pointer 0)
    → ((turn (done (piece * replica_count view (object_word pointer 0) + replica) (words_write_of view pointer pieces)) Done).told ≡ Whole)
    ↔ ((piece + 1 ≡ length pieces) × (replica + 1 ≡ replica_count view (object_word pointer 0)))
whole-done view pointer pieces piece replica within below =
    rw (done-at view pointer pieces piece replica within below) (turn-whole view pointer pieces piece replica within below)
