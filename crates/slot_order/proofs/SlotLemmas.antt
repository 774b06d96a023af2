use Rattle.std.proofs.Common.{◌≡◌, ◌≢◌, ℕ, ◌+◌, ◌*◌, ◌/◌, ◌<◌, ◌≤◌, ◌⊎◌, inl, inr, true, false, not, ◌||◌, ◌==◌, List, [], ◌++◌, length, get_or, refl, sym, ◌∙◌, ap, ap₂, append_assoc, arith}
use Rattle.std.specs.List.{All, filter}
use Rattle.std.proofs.lemmas.Bool.{cases_lt}
use Rattle.std.proofs.lemmas.List.{append-nil}
use Rattle.std.proofs.lemmas.List.Elements.{All-append, All-filter, filter-append}
use Rattle.std.proofs.lemmas.List.Folds.{list_any-append}
use Rattle.std.proofs.lemmas.List.FromFn.{get_or-range_with_len}
use Rattle.slot_order.specs.Slots.{eight_from, main_start, overflow_start, main_slots, overflow_slots, bucket_slots, then_new}
use Rattle.slot_order.proofs.ListLemmas.{is_one_of, is_one_of-range-inside, is_one_of-range-outside, filter-range-kept, filter-range-gone, AllDifferent, AllDifferent-append, AllDifferent-new}

-- there are eight of them
pub length-eight_from : (a : ℕ) → length (eight_from a) ≡ 8
unfolding eight_from
length-eight_from a = refl

-- each of them by its place
pub get_or-eight_from : (a i d : ℕ) → i < 8 → get_or (eight_from a) i d ≡ a + i
unfolding eight_from
get_or-eight_from a i d within = get_or-range_with_len a 8 i d within

-- two runs of eight slots share none
abbrev pub Apart : ℕ → ℕ → Type 0
Apart a b = (a + 8 ≤ b) ⊎ (b + 8 ≤ a)

-- a slot of the first run has come
pub come-first : (a b k : ℕ) → a ≤ k → k < a + 8 → is_one_of (eight_from a ++ eight_from b) k ≡ true
unfolding eight_from
come-first a b k low high =
    list_any-append (λ other. other == k) (eight_from a) (eight_from b)
    ∙ ap (λ t. t || is_one_of (eight_from b) k) (is_one_of-range-inside a 8 k low high)

-- a slot of the second run has come, if it is none of the first
pub come-second : (a b k : ℕ) → Apart a b → b ≤ k → k < b + 8 → is_one_of (eight_from a ++ eight_from b) k ≡ true
unfolding eight_from
come-second a b k apart low high =
    let outside : (k < a) ⊎ (a + 8 ≤ k) = elim apart [ inl above ↦ inr (omega arith) | inr below ↦ inl (omega arith) ] in
    list_any-append (λ other. other == k) (eight_from a) (eight_from b)
    ∙ ap (λ t. t || is_one_of (eight_from b) k) (is_one_of-range-outside a 8 k outside)
    ∙ is_one_of-range-inside b 8 k low high

-- a slot that is apart from a run is outside it
outside_run : (a c k : ℕ) → Apart a c → c ≤ k → k < c + 8 → (k < a) ⊎ (a + 8 ≤ k)
outside_run a c k (inl above) low high = inr (omega arith)
outside_run a c k (inr below) low high = inl (omega arith)

-- a slot of a run apart from both has not come
pub come-neither : (a b c k : ℕ) → Apart a c → Apart b c → c ≤ k → k < c + 8
    → is_one_of (eight_from a ++ eight_from b) k ≡ false
unfolding eight_from
come-neither a b c k from_a from_b low high =
    list_any-append (λ other. other == k) (eight_from a) (eight_from b)
    ∙ ap (λ t. t || is_one_of (eight_from b) k) (is_one_of-range-outside a 8 k (outside_run a c k from_a low high))
    ∙ is_one_of-range-outside b 8 k (outside_run b c k from_b low high)

-- what is new of a run, after the runs from a and from b
abbrev pub fresh : ℕ → ℕ → List ℕ → List ℕ
fresh a b slots = filter (λ slot. not (is_one_of (eight_from a ++ eight_from b) slot)) slots

-- all of a run that is apart from both is new
fresh-apart : (a b c : ℕ) → Apart a c → Apart b c → fresh a b (eight_from c) ≡ eight_from c
unfolding eight_from
fresh-apart a b c from_a from_b =
    filter-range-kept (λ slot. not (is_one_of (eight_from a ++ eight_from b) slot)) c 8 (λ k low high. ap not (come-neither a b c k from_a from_b low high))

-- nothing of the first run is new
fresh-first : (a b : ℕ) → fresh a b (eight_from a) ≡ []
unfolding eight_from
fresh-first a b =
    filter-range-gone (λ slot. not (is_one_of (eight_from a ++ eight_from b) slot)) a 8 (λ k low high. ap not (come-first a b k low high))

-- nothing of the second run is new
fresh-second : (a b : ℕ) → Apart a b → fresh a b (eight_from b) ≡ []
unfolding eight_from
fresh-second a b apart =
    filter-range-gone (λ slot. not (is_one_of (eight_from a ++ eight_from b) slot)) b 8 (λ k low high. ap not (come-second a b k apart low high))

-- the same two runs again add nothing
pub then_new-same : (a b : ℕ) → Apart a b
    → then_new (eight_from a ++ eight_from b) (eight_from a ++ eight_from b) ≡ eight_from a ++ eight_from b
unfolding then_new
then_new-same a b apart =
    let come = eight_from a ++ eight_from b in
    let split = filter-append (λ slot. not (is_one_of come slot)) (eight_from a) (eight_from b) in
    let none : fresh a b (eight_from a) ++ fresh a b (eight_from b) ≡ [] =
    ap₂ (λ xs ys. xs ++ ys) (fresh-first a b) (fresh-second a b apart) in
    ap (λ xs. come ++ xs) (split ∙ none) ∙ append-nil come

-- another run and the second again add the other run
pub then_new-shared : (a b c : ℕ) → Apart a b → Apart a c → Apart b c
    → then_new (eight_from a ++ eight_from b) (eight_from c ++ eight_from b)
    ≡ (eight_from a ++ eight_from b) ++ eight_from c
unfolding then_new
then_new-shared a b c apart from_a from_b =
    let come = eight_from a ++ eight_from b in
    let split = filter-append (λ slot. not (is_one_of come slot)) (eight_from c) (eight_from b) in
    let one : fresh a b (eight_from c) ++ fresh a b (eight_from b) ≡ eight_from c ++ [] =
    ap₂ (λ xs ys. xs ++ ys) (fresh-apart a b c from_a from_b) (fresh-second a b apart) in
    ap (λ xs. come ++ xs) (split ∙ one ∙ append-nil (eight_from c))

-- two other runs add both
pub then_new-apart : (a b c d : ℕ) → Apart a c → Apart b c → Apart a d → Apart b d
    → then_new (eight_from a ++ eight_from b) (eight_from c ++ eight_from d)
    ≡ ((eight_from a ++ eight_from b) ++ eight_from c) ++ eight_from d
unfolding then_new
then_new-apart a b c d a_c b_c a_d b_d =
    let come = eight_from a ++ eight_from b in
    let split = filter-append (λ slot. not (is_one_of come slot)) (eight_from c) (eight_from d) in
    let both : fresh a b (eight_from c) ++ fresh a b (eight_from d) ≡ eight_from c ++ eight_from d =
    ap₂ (λ xs ys. xs ++ ys) (fresh-apart a b c a_c b_c) (fresh-apart a b d a_d b_d) in
    ap (λ xs. come ++ xs) (split ∙ both) ∙ sym (append_assoc come (eight_from c) (eight_from d))

-- a main bucket is apart from each overflow bucket
pub main_overflow_apart : (m n : ℕ) → Apart (main_start m) (overflow_start n)
main_overflow_apart m n =
    elim (cases_lt (main_start m) (overflow_start n)) [ inl below ↦ inl (omega arith) | inr above ↦ inr (omega arith) ]

-- two main buckets are apart
pub mains_apart : (m n : ℕ) → m ≢ n → Apart (main_start m) (main_start n)
mains_apart m n differ =
    elim (cases_lt m n) [ inl below ↦ inl (omega arith) | inr above ↦ inr (omega arith) ]

-- the overflow buckets of two groups are apart
pub overflows_apart : (m n : ℕ) → m / 2 ≢ n / 2 → Apart (overflow_start m) (overflow_start n)
overflows_apart m n differ =
    elim (cases_lt (m / 2) (n / 2)) [ inl below ↦ inl (omega arith) | inr above ↦ inr (omega arith) ]

-- the other way round
pub Apart-flip : (a b : ℕ) → Apart a b → Apart b a
Apart-flip a b (inl above) = inr above
Apart-flip a b (inr below) = inl below

-- where both hashes choose one main bucket
pub bucket_slots-same : (m n : ℕ) → m ≡ n
    → then_new (bucket_slots m) (bucket_slots n) ≡ main_slots m ++ overflow_slots m
bucket_slots-same m n same =
    let one = then_new-same (main_start m) (overflow_start m) (main_overflow_apart m m) in
    ap (λ k. then_new (bucket_slots m) (bucket_slots k)) (sym same) ∙ one

-- where they choose the two main buckets of one group
pub bucket_slots-one_group : (m n : ℕ) → m ≢ n → m / 2 ≡ n / 2
    → then_new (bucket_slots m) (bucket_slots n) ≡ (main_slots m ++ overflow_slots m) ++ main_slots n
bucket_slots-one_group m n differ same =
    let shared = then_new-shared (main_start m) (overflow_start m) (main_start n) (main_overflow_apart m m) (mains_apart m n differ) (Apart-flip (main_start n) (overflow_start m) (main_overflow_apart n m)) in
    ap (λ q. then_new (bucket_slots m) (main_slots n ++ eight_from (24 * q + 8))) (sym same) ∙ shared

-- where they choose two groups
pub bucket_slots-two_groups : (m n : ℕ) → m / 2 ≢ n / 2
    → then_new (bucket_slots m) (bucket_slots n)
    ≡ ((main_slots m ++ overflow_slots m) ++ main_slots n) ++ overflow_slots n
bucket_slots-two_groups m n differ =
    then_new-apart (main_start m) (overflow_start m) (main_start n) (overflow_start n) (mains_apart m n (λ same. differ (ap (λ k. k / 2) same))) (Apart-flip (main_start n) (overflow_start m) (main_overflow_apart n m)) (main_overflow_apart m n) (overflows_apart m n differ)

-- the slots of a run are different
AllDifferent-eight_from : (a : ℕ) → AllDifferent (eight_from a)
AllDifferent-eight_from a i j d before within same =
    let in_eight : j < 8 = omega (arith, length-eight_from a) in
    omega (arith, get_or-eight_from a i d (omega arith), get_or-eight_from a j d in_eight)

-- the slots of two runs that are apart are different
runs_differ : (a b i j d : ℕ) → Apart a b → i < length (eight_from a) → j < length (eight_from b)
    → get_or (eight_from a) i d ≢ get_or (eight_from b) j d
runs_differ a b i j d apart i_within j_within same =
    let i_in : i < 8 = omega (arith, length-eight_from a) in
    let j_in : j < 8 = omega (arith, length-eight_from b) in
    let at_i = get_or-eight_from a i d i_in in
    let at_j = get_or-eight_from b j d j_in in
    elim apart [ inl above ↦ omega arith | inr below ↦ omega arith ]

-- the slots of a main bucket and its overflow bucket are different
AllDifferent-bucket_slots : (m : ℕ) → AllDifferent (bucket_slots m)
AllDifferent-bucket_slots m =
    AllDifferent-append (main_slots m) (overflow_slots m) (AllDifferent-eight_from (main_start m)) (AllDifferent-eight_from (overflow_start m)) (λ i j d. runs_differ (main_start m) (overflow_start m) i j d (main_overflow_apart m m))

-- no slot comes twice
pub AllDifferent-then_new : (m n : ℕ) → AllDifferent (then_new (bucket_slots m) (bucket_slots n))
unfolding then_new
AllDifferent-then_new m n =
    AllDifferent-new (bucket_slots m) (bucket_slots n) (AllDifferent-bucket_slots m) (AllDifferent-bucket_slots n)

-- the slots of a run are below its end
below-eight_from : (a bound : ℕ) → a + 8 ≤ bound → All (λ slot. slot < bound) (eight_from a)
below-eight_from a bound ends k d within =
    let in_eight : k < 8 = omega (arith, length-eight_from a) in
    omega (arith, get_or-eight_from a k d in_eight)

-- the slots of a main bucket and its overflow bucket are below the end of the groups
below-bucket_slots : (m groups : ℕ) → m < 2 * groups → All (λ slot. slot < 24 * groups) (bucket_slots m)
below-bucket_slots m groups within =
    All-append (λ slot. slot < 24 * groups) (main_slots m) (overflow_slots m) (below-eight_from (main_start m) (24 * groups) (omega arith)) (below-eight_from (overflow_start m) (24 * groups) (omega arith))

-- each slot is below the end of the groups
pub below-then_new : (m n groups : ℕ) → m < 2 * groups → n < 2 * groups
    → All (λ slot. slot < 24 * groups) (then_new (bucket_slots m) (bucket_slots n))
unfolding then_new
below-then_new m n groups first second =
    let others = filter (λ slot. not (is_one_of (bucket_slots m) slot)) (bucket_slots n) in
    All-append (λ slot. slot < 24 * groups) (bucket_slots m) others (below-bucket_slots m groups first) (All-filter (λ slot. not (is_one_of (bucket_slots m) slot)) (λ slot. slot < 24 * groups) (bucket_slots n) (below-bucket_slots n groups second))
