use Rattle.std.proofs.Common.{◌≡◌, ◌≢◌, ℕ, ◌⊎◌, inl, inr, ◌*◌, ◌/◌, ◌<◌, List, [], ◌∷◌, ◌++◌, length, get_or, take, refl, sym, ◌∙◌, ap, ap₂, arith}
use Rattle.std.specs.List.{All, AllPairs}
use Rattle.std.proofs.Math.Nat.{mod-lt}
use Rattle.std.proofs.lemmas.Bool.Decides.{eqb_tells}
use Rattle.slot_order.specs.Fnv.{hash_after, fnv1a}
use Rattle.slot_order.specs.Slots.{main_bucket, first_bucket, second_bucket, eight_from, main_start, main_slots, overflow_slots, bucket_slots, then_new, order_of}
use Rattle.slot_order.proofs.FnvLemmas.{fnv1a-push}
use Rattle.slot_order.proofs.SlotLemmas.{bucket_slots-same, bucket_slots-one_group, bucket_slots-two_groups, AllDifferent-then_new, below-then_new}

-- a main bucket is one of two in each group
pub main_bucket-below : (groups hash : ℕ) → 0 < groups → main_bucket groups hash < 2 * groups
main_bucket-below groups hash some = mod-lt (hash / 4294967296) (omega arith)

-- a key's slots are all different
pub order_of-different : (key : List ℕ) (groups : ℕ) → AllPairs (λ one other. one ≢ other) (order_of key groups)
order_of-different key groups = AllDifferent-then_new (first_bucket key groups) (second_bucket key groups)

-- a key's slots are slots of the groups
pub order_of-below : (key : List ℕ) (groups : ℕ) → 0 < groups
    → All (λ slot. slot < 24 * groups) (order_of key groups)
order_of-below key groups some =
    below-then_new (first_bucket key groups) (second_bucket key groups) groups (main_bucket-below groups _ some) (main_bucket-below groups _ some)

-- a main bucket that comes first
first_eight : (m n : ℕ) → take 8 (then_new (bucket_slots m) (bucket_slots n)) ≡ main_slots m
unfolding then_new eight_from
first_eight m n = refl

-- the order begins with the main bucket of the first hash
pub order_of-begins : (key : List ℕ) (groups : ℕ)
    → take 8 (order_of key groups) ≡ main_slots (first_bucket key groups)
order_of-begins key groups = first_eight (first_bucket key groups) (second_bucket key groups)

-- the slot that comes first
first_slot : (m n d : ℕ) → get_or (then_new (bucket_slots m) (bucket_slots n)) 0 d ≡ main_start m
unfolding then_new eight_from
first_slot m n d = refl

-- the first slot of the order is the first of the main bucket of the first hash
pub order_of-first_slot : (key : List ℕ) (groups d : ℕ)
    → get_or (order_of key groups) 0 d ≡ main_start (first_bucket key groups)
order_of-first_slot key groups d = first_slot (first_bucket key groups) (second_bucket key groups) d

-- two buckets have 16 slots, three 24 and four 32
length-two : (m : ℕ) → length (main_slots m ++ overflow_slots m) ≡ 16
unfolding eight_from
length-two m = refl

length-three : (m n : ℕ) → length ((main_slots m ++ overflow_slots m) ++ main_slots n) ≡ 24
unfolding eight_from
length-three m n = refl

length-four : (m n : ℕ) → length (((main_slots m ++ overflow_slots m) ++ main_slots n) ++ overflow_slots n) ≡ 32
unfolding eight_from
length-four m n = refl

-- where both hashes choose one main bucket there are 16 slots
pub length-order_of-one_bucket : (key : List ℕ) (groups : ℕ)
    → first_bucket key groups ≡ second_bucket key groups → length (order_of key groups) ≡ 16
length-order_of-one_bucket key groups same =
    ap length (bucket_slots-same (first_bucket key groups) (second_bucket key groups) same)
    ∙ length-two (first_bucket key groups)

-- where they choose the two main buckets of one group there are 24
pub length-order_of-one_group : (key : List ℕ) (groups : ℕ)
    → first_bucket key groups ≢ second_bucket key groups
    → first_bucket key groups / 2 ≡ second_bucket key groups / 2 → length (order_of key groups) ≡ 24
length-order_of-one_group key groups differ same =
    ap length (bucket_slots-one_group (first_bucket key groups) (second_bucket key groups) differ same)
    ∙ length-three (first_bucket key groups) (second_bucket key groups)

-- where they choose two groups there are 32
pub length-order_of-two_groups : (key : List ℕ) (groups : ℕ)
    → first_bucket key groups / 2 ≢ second_bucket key groups / 2 → length (order_of key groups) ≡ 32
length-order_of-two_groups key groups differ =
    ap length (bucket_slots-two_groups (first_bucket key groups) (second_bucket key groups) differ)
    ∙ length-four (first_bucket key groups) (second_bucket key groups)

-- there are 16, 24 or 32 slots
pub length-order_of-cases : (key : List ℕ) (groups : ℕ)
    → (length (order_of key groups) ≡ 16) ⊎ ((length (order_of key groups) ≡ 24) ⊎ (length (order_of key groups) ≡ 32))
length-order_of-cases key groups =
    let m = first_bucket key groups in
    let n = second_bucket key groups in
    elim (eqb_tells (m / 2) (n / 2)) [
      | inr groups_differ ↦ inr (inr (length-order_of-two_groups key groups groups_differ.1))
      | inl one_group ↦
          elim (eqb_tells m n) [
            | inl same ↦ inl (length-order_of-one_bucket key groups same.1)
            | inr differ ↦ inr (inl (length-order_of-one_group key groups differ.1 one_group.1))
          ]
    ]

-- a key's slots, from its first hash, one step more and the main buckets of the two
pub order_of-from_steps : (key : List ℕ) (groups hash more first second : ℕ)
    → hash ≡ fnv1a key → more ≡ hash_after hash 255
    → first ≡ main_bucket groups hash → second ≡ main_bucket groups more
    → then_new (bucket_slots first) (bucket_slots second) ≡ order_of key groups
order_of-from_steps key groups hash more first second is_hash is_more is_first is_second =
    let second_is : more ≡ fnv1a (key ++ 255 ∷ []) = is_more ∙ ap (λ h. hash_after h 255) is_hash ∙ sym (fnv1a-push key 255) in
    ap₂ (λ m n. then_new (bucket_slots m) (bucket_slots n)) (is_first ∙ ap (main_bucket groups) is_hash) (is_second ∙ ap (main_bucket groups) second_is)
