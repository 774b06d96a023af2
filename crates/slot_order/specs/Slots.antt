use Rattle.std.specs.Prelude.{ℕ, ◌+◌, ◌*◌, ◌/◌, ◌%◌, ◌^◌, ◌==◌, not, List, ◌++◌, filter}
use Rattle.std.specs.List.{list_any, range_with_len}
use Rattle.slot_order.specs.Fnv.{first_hash, second_hash}

-- the main bucket that a hash chooses: bucket m is of group m / 2, on side m % 2
abbrev pub main_bucket : ℕ → ℕ → ℕ
main_bucket groups hash = hash / 2 ^ 32 % (2 * groups)

-- the main bucket of a key's first hash
abbrev pub first_bucket : List ℕ → ℕ → ℕ
first_bucket key groups = main_bucket groups (first_hash key)

-- the main bucket of a key's second hash
abbrev pub second_bucket : List ℕ → ℕ → ℕ
second_bucket key groups = main_bucket groups (second_hash key)

-- a slot and the seven after it
unfoldable pub eight_from : ℕ → List ℕ
eight_from slot = range_with_len slot 8

-- the first slot of a main bucket
abbrev pub main_start : ℕ → ℕ
main_start bucket = 24 * (bucket / 2) + 16 * (bucket % 2)

-- the first slot of the overflow bucket that a main bucket shares
abbrev pub overflow_start : ℕ → ℕ
overflow_start bucket = 24 * (bucket / 2) + 8

-- the slots of a main bucket
abbrev pub main_slots : ℕ → List ℕ
main_slots bucket = eight_from (main_start bucket)

-- the slots of the overflow bucket that a main bucket shares
abbrev pub overflow_slots : ℕ → List ℕ
overflow_slots bucket = eight_from (overflow_start bucket)

-- the slots of a main bucket, then those of its overflow bucket
abbrev pub bucket_slots : ℕ → List ℕ
bucket_slots bucket = main_slots bucket ++ overflow_slots bucket

-- the slots of a hash
abbrev pub slots_of : ℕ → ℕ → List ℕ
slots_of groups hash = bucket_slots (main_bucket groups hash)

-- some slots, then those of the others that have not come
unfoldable pub then_new : List ℕ → List ℕ → List ℕ
then_new come others = come ++ filter (λ slot. not (list_any (λ other. other == slot) come)) others

-- a key's slots: those of its first hash, then those of its second hash that have not come
abbrev pub order_of : List ℕ → ℕ → List ℕ
order_of key groups =
    then_new (slots_of groups (first_hash key)) (slots_of groups (second_hash key))
