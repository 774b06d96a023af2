-- A settling comes to a client's pause word by the answer of its begin word alone.
use Rattle.std.proofs.Common.{◌≡◌, ℕ, ◌+◌, ◌⊎◌, inl, inr, ◌==◌, nat_lt, Bool, true, false, List, [], ◌∷◌, length, Option, Some, None, refl, sym, ap, ◌∙◌}
use Rattle.machine.specs.Copying.{copied_words, sources_of}
use Rattle.machine.specs.EpochRead.{leaves_none_bare, open_mask}
use Rattle.machine.specs.Settling.{Phase, ReadEpoch, Seal, ReadBegin, ReadPause, ReadStatus, ReadWord, WriteWord, Open, Settling, after_client, after_status, copies_to, is_out, next_word, old_mask, on_begin, on_epoch, on_pause, settling_of, targets, turn, turn_at, with_status, writes_from}
use Rattle.region_view.specs.Sizes.{Sizes}
use Rattle.verb_words.specs.declared.verbs.Answer.{Answer}
use Rattle.verb_words.specs.declared.verbs.Answer.TheVariants.{Word, Done, Lost}
use Rattle.node_recovery.specs.Asked.{WasAnswered, after_all}

-- another phase
abbrev IsOther : Phase → Type 0
IsOther phase = (client begin : ℕ) → phase ≡ ReadPause client begin → ⊥

after_client-other : (settling : Settling) (client : ℕ) → IsOther (after_client settling client).state.phase
after_client-other settling client = by (nat_lt client settling.shape.clients) refl
  where
    by : (t : Bool) → nat_lt client settling.shape.clients ≡ t → IsOther (after_client settling client).state.phase
    by true is = rw is (λ c b same. absurd cc)
    by false is = rw is (λ c b same. absurd cc)

on_epoch-other : (settling : Settling) (found : ℕ) → IsOther (on_epoch settling found).state.phase
on_epoch-other settling found = by (open_mask settling.shape found) refl
  where
    by : (mask : Option ℕ) → open_mask settling.shape found ≡ mask → IsOther (on_epoch settling found).state.phase
    by None is = rw is (λ c b same. absurd cc)
    by (Some mask) is = rw is (λ c b same. absurd cc)

on_pause-other : (settling : Settling) (client begin found : ℕ) → IsOther (on_pause settling client begin found).state.phase
on_pause-other settling client begin found = by (found == settling.sealed) refl
  where
    by : (t : Bool) → (found == settling.sealed) ≡ t → IsOther (on_pause settling client begin found).state.phase
    by true is = rw is (after_client-other settling client)
    by false is = rw is (λ c b same. absurd cc)

copies_to-other : (settling : Settling) (live : ℕ) → IsOther (copies_to settling live).state.phase
copies_to-other settling live = by (leaves_none_bare settling.shape (sources_of (old_mask settling) live)) refl
  where
    by : (t : Bool) → leaves_none_bare settling.shape (sources_of (old_mask settling) live) ≡ t → IsOther (copies_to settling live).state.phase
    by true is = rw is (λ c b same. absurd cc)
    by false is = rw is (λ c b same. absurd cc)

after_status-other : (settling : Settling) (node live : ℕ) → IsOther (after_status settling node live).state.phase
after_status-other settling node live = by (nat_lt node settling.shape.nodes) refl
  where
    by : (t : Bool) → nat_lt node settling.shape.nodes ≡ t → IsOther (after_status settling node live).state.phase
    by true is = rw is (λ c b same. absurd cc)
    by false is = rw is (copies_to-other settling live)

next_word-other : (settling : Settling) → IsOther (next_word settling).state.phase
next_word-other settling = by (nat_lt (settling.offset + 1) (copied_words settling.shape settling.region)) (nat_lt settling.region settling.shape.regions) refl refl
  where
    by : (more regions : Bool) → nat_lt (settling.offset + 1) (copied_words settling.shape settling.region) ≡ more → nat_lt settling.region settling.shape.regions ≡ regions → IsOther (next_word settling).state.phase
    by true regions is are = rw is (λ c b same. absurd cc)
    by false true is are = rw (is, are) (λ c b same. absurd cc)
    by false false is are = rw (is, are) (λ c b same. absurd cc)

writes_from-other : (settling : Settling) (word target : ℕ) → IsOther (writes_from settling word target).state.phase
writes_from-other settling word target = by (nat_lt target (length (targets settling))) refl
  where
    by : (t : Bool) → nat_lt target (length (targets settling)) ≡ t → IsOther (writes_from settling word target).state.phase
    by true is = rw is (λ c b same. absurd cc)
    by false is = rw is (next_word-other settling)

-- the phase stays, or a client's begin word was answered
abbrev Comes : Phase → Answer → ℕ → ℕ → Type 0
Comes phase answer client begin = (phase ≡ ReadPause client begin) ⊎ ((phase ≡ ReadBegin client) × (answer ≡ Word begin))

pause_client : (a c f b : ℕ) → ReadPause a f ≡ ReadPause c b → a ≡ c
pause_client a c f b same = cc

pause_begin : (a c f b : ℕ) → ReadPause a f ≡ ReadPause c b → f ≡ b
pause_begin a c f b same = cc

on_begin-comes : (settling : Settling) (asked found client begin : ℕ) → (on_begin settling asked found).state.phase ≡ ReadPause client begin → Comes (ReadBegin asked) (Word found) client begin
on_begin-comes settling asked found client begin = by (is_out settling asked found) refl
  where
    by : (t : Bool) → is_out settling asked found ≡ t → (on_begin settling asked found).state.phase ≡ ReadPause client begin → Comes (ReadBegin asked) (Word found) client begin
    by true is = rw is (λ same. absurd (after_client-other settling asked client begin same))
    by false is = rw is (λ same. inr (ap ReadBegin (pause_client asked client found begin same), ap Word (pause_begin asked client found begin same)))

turn_at-comes : (phase : Phase) (settling : Settling) (answer : Answer) (client begin : ℕ) → settling.phase ≡ phase → (turn_at phase settling answer).state.phase ≡ ReadPause client begin → Comes phase answer client begin
turn_at-comes ReadEpoch settling (Word found) client begin at comes = absurd (on_epoch-other settling found client begin comes)
turn_at-comes ReadEpoch settling Done client begin at comes = inl (sym at ∙ comes)
turn_at-comes ReadEpoch settling Lost client begin at comes = inl (sym at ∙ comes)
turn_at-comes Seal settling (Word found) client begin at comes = inl (sym at ∙ comes)
turn_at-comes Seal settling Done client begin at comes = absurd cc
turn_at-comes Seal settling Lost client begin at comes = inl (sym at ∙ comes)
turn_at-comes (ReadBegin asked) settling (Word found) client begin at comes = on_begin-comes settling asked found client begin comes
turn_at-comes (ReadBegin asked) settling Done client begin at comes = inl (sym at ∙ comes)
turn_at-comes (ReadBegin asked) settling Lost client begin at comes = inl (sym at ∙ comes)
turn_at-comes (ReadPause asked kept) settling (Word found) client begin at comes = absurd (on_pause-other settling asked kept found client begin comes)
turn_at-comes (ReadPause asked kept) settling Done client begin at comes = inl (sym at ∙ comes)
turn_at-comes (ReadPause asked kept) settling Lost client begin at comes = inl (sym at ∙ comes)
turn_at-comes (ReadStatus node live) settling (Word found) client begin at comes = absurd (after_status-other settling node (with_status live node found) client begin comes)
turn_at-comes (ReadStatus node live) settling Done client begin at comes = inl (sym at ∙ comes)
turn_at-comes (ReadStatus node live) settling Lost client begin at comes = inl (sym at ∙ comes)
turn_at-comes ReadWord settling (Word found) client begin at comes = absurd (writes_from-other settling found 0 client begin comes)
turn_at-comes ReadWord settling Done client begin at comes = inl (sym at ∙ comes)
turn_at-comes ReadWord settling Lost client begin at comes = absurd cc
turn_at-comes (WriteWord word target) settling (Word found) client begin at comes = inl (sym at ∙ comes)
turn_at-comes (WriteWord word target) settling Done client begin at comes = absurd (writes_from-other settling word (target + 1) client begin comes)
turn_at-comes (WriteWord word target) settling Lost client begin at comes = absurd cc
turn_at-comes Open settling (Word found) client begin at comes = inl (sym at ∙ comes)
turn_at-comes Open settling Done client begin at comes = inl (sym at ∙ comes)
turn_at-comes Open settling Lost client begin at comes = inl (sym at ∙ comes)

asked : (start : Settling) (answers : List Answer) (client begin : ℕ) → (after_all start answers).phase ≡ ReadPause client begin → (start.phase ≡ ReadPause client begin) ⊎ WasAnswered start answers client begin
asked start [] client begin at = inl at
asked start (answer ∷ answers) client begin at = elim (asked (turn start answer).state answers client begin at) [
  | inl now ↦ elim (turn_at-comes start.phase start answer client begin refl now) [
    | inl before ↦ inl before
    | inr came ↦ inr (record { before = []; later = answers; are = ap (λ a. a ∷ answers) came.1; asked = came.0 })
  ]
  | inr was ↦ inr (record { before = answer ∷ was.before; later = was.later; are = ap (λ l. answer ∷ l) was.are; asked = was.asked })
]

pub begun-asked : (sizes : Sizes) (stopped : ℕ) (answers : List Answer) (client begin : ℕ) → (after_all (settling_of sizes stopped) answers).phase ≡ ReadPause client begin → WasAnswered (settling_of sizes stopped) answers client begin
begun-asked sizes stopped answers client begin at = elim (asked (settling_of sizes stopped) answers client begin at) [
  | inl now ↦ absurd (epoch_pause client begin now)
  | inr was ↦ was
]
  where
    epoch_pause : (client begin : ℕ) → ReadEpoch ≡ ReadPause client begin → ⊥
    epoch_pause client begin same = cc
