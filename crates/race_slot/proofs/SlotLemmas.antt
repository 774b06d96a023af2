use Rattle.std.proofs.Common.{◌≡◌, ◌≢◌, ℕ, ◌+◌, ◌*◌, ◌/◌, ◌%◌, ◌^◌, ◌<◌, ◌==◌, Bool, true, false, nat_lt, if◌then◌else◌, bit_or, Some, None, IfSome, subst, refl, sym, ◌∙◌, ap, ap₂, arith}
use Rattle.std.proofs.lemmas.Nat.{or_shifted}
use Rattle.std.proofs.lemmas.Bool.Decides.{Decides-ltb, nat_tests}
use Rattle.pointer_fields.specs.Pointer.{region_of}
use Rattle.race_slot.specs.declared.Slot.{Slot}
use Rattle.race_slot.specs.Slot.{IsSlot, slot_word, fields_of, unpacked}

-- three fields that are put together by `|` are the sum of what each puts in
pub or_fields : (finger units pointer : ℕ) → finger < 2 ^ 8 → units < 2 ^ 8 → pointer < 2 ^ 28
    → bit_or (bit_or (finger * 2 ^ 56 % 2 ^ 64) (units * 2 ^ 48 % 2 ^ 64)) pointer
    ≡ finger * 2 ^ 56 + units * 2 ^ 48 + pointer
or_fields finger units pointer f u p =
    let whole_finger : finger * 2 ^ 56 % 2 ^ 64 ≡ finger * 2 ^ 56 = omega arith in
    let whole_units : units * 2 ^ 48 % 2 ^ 64 ≡ units * 2 ^ 48 = omega arith in
    let together : finger * 2 ^ 56 + units * 2 ^ 48 ≡ (finger * 2 ^ 8 + units) * 2 ^ 48 = omega arith in
    ap (λ high. bit_or high pointer) (ap₂ bit_or whole_finger whole_units)
    ∙ ap (λ high. bit_or high pointer) (or_shifted finger 56 (units * 2 ^ 48) (omega arith))
    ∙ ap (λ high. bit_or high pointer) together
    ∙ or_shifted (finger * 2 ^ 8 + units) 48 pointer (omega arith)
    ∙ ap (λ high. high + pointer) (sym together)

-- slots are the same where their parts are
pub slot_ext : (a b : Slot) → a.finger ≡ b.finger → a.units ≡ b.units → a.pointer ≡ b.pointer → a ≡ b
slot_ext a b finger units pointer =
    ap₂ (λ f u. let r : Slot = record { finger = f; units = u; pointer = a.pointer } in r) finger units
    ∙ ap (λ p. let r : Slot = record { finger = b.finger; units = b.units; pointer = p } in r) pointer

-- a slot stands in its word
pub fields_of-slot_word : (slot : Slot) → IsSlot slot → fields_of (slot_word slot) ≡ slot
fields_of-slot_word slot is =
    slot_ext (fields_of (slot_word slot)) slot (omega arith) (omega arith) (omega arith)

-- two slots with one word are the same
pub slot_word-injective : (a b : Slot) → IsSlot a → IsSlot b → slot_word a ≡ slot_word b → a ≡ b
slot_word-injective a b is_a is_b same = slot_ext a b (omega arith) (omega arith) (omega arith)

-- a slot's word is a word of 8 bytes, and not the empty slot's
pub slot_word_bounds : (slot : Slot) → IsSlot slot → (0 < slot_word slot) × (slot_word slot < 2 ^ 64)
slot_word_bounds slot is = (omega arith, omega arith)

-- a slot comes back from its word
pub unpacked-slot_word : (slot : Slot) → IsSlot slot → unpacked (slot_word slot) ≡ Some slot
unfolding unpacked
unpacked-slot_word slot is =
    let word = slot_word slot in
    let below : nat_lt word (2 ^ 64) ≡ true = grind (arith, nat_tests) in
    let units : ((fields_of word).units == 0) ≡ false = grind (arith, nat_tests, fields_of-slot_word slot is) in
    let region : (region_of (fields_of word).pointer == 0) ≡ false = grind (arith, nat_tests) in
    let between : (word / 2 ^ 28 % 2 ^ 20 == 0) ≡ true = grind (arith, nat_tests) in
    rw (below, units, region, between) (ap Some (fields_of-slot_word slot is))

-- where all tests are passed, the fields are a slot with the word
chosen : (below no_units no_region no_between : Bool) (word : ℕ)
    → nat_lt word (2 ^ 64) ≡ below
    → ((fields_of word).units == 0) ≡ no_units
    → (region_of (fields_of word).pointer == 0) ≡ no_region
    → (word / 2 ^ 28 % 2 ^ 20 == 0) ≡ no_between
    → IfSome (if below
    then if no_units then None else if no_region then None else if no_between then Some (fields_of word) else None
    else None) (λ slot. IsSlot slot × (slot_word slot ≡ word))
chosen false no_units no_region no_between word b u r n = tt
chosen true true no_region no_between word b u r n = tt
chosen true false true no_between word b u r n = tt
chosen true false false false word b u r n = tt
chosen true false false true word b u r n =
    let below : word < 2 ^ 64 = (Decides-ltb word (2 ^ 64)).0 b in
    let units : word / 2 ^ 48 % 2 ^ 8 ≢ 0 = grind (arith, nat_tests) in
    let region : word % 2 ^ 28 / 2 ^ 20 ≢ 0 = grind (arith, nat_tests) in
    let between : word / 2 ^ 28 % 2 ^ 20 ≡ 0 = grind (arith, nat_tests) in (
      record {
        finger = omega arith;
        units = omega arith;
        units_below = omega arith;
        pointer = omega arith;
        region = omega arith;
      },
      omega arith,
    )

-- what a word gives is a slot, with that word
pub unpacked-gives : (word : ℕ) (slot : Slot) → unpacked word ≡ Some slot
    → IsSlot slot × (slot_word slot ≡ word)
unfolding unpacked
unpacked-gives word slot gives =
    subst (λ found. IfSome found (λ s. IsSlot s × (slot_word s ≡ word))) gives
    (chosen (nat_lt word (2 ^ 64)) ((fields_of word).units == 0) (region_of (fields_of word).pointer == 0)
    (word / 2 ^ 28 % 2 ^ 20 == 0) word refl refl refl refl)

-- the empty slot's word gives none
pub unpacked-empty : unpacked 0 ≡ None
unfolding unpacked
unpacked-empty = refl
