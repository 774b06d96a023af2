-- Bits of clients: each client's bit is set, and no other.
use Rattle.std.proofs.Common.{◌≡◌, ◌≢◌, ℕ, zero, suc, ◌+◌, ◌-◌, ◌*◌, ◌^◌, ◌<◌, ◌≤◌, ◌==◌, ◌⊎◌, inl, inr, Bool, true, false, ◌||◌, if◌then◌else◌, List, [], ◌∷◌, length, map, max, refl, sym, ap, subst, ◌∙◌, arith}
use Rattle.std.specs.Prelude.{All, bit_and, bit_or}
use Rattle.std.specs.Int.{bit_at}
use Rattle.std.specs.Int.Bits.{or_add_and}
use Rattle.std.specs.List.{AllByRecursion, IsDistinct, list_any}
use Rattle.std.proofs.lemmas.Bool.{false≢true}
use Rattle.std.proofs.lemmas.Bool.Decides.{eqb_tells, nat_tests}
use Rattle.std.proofs.lemmas.List.Folds.{list_any_none}
use Rattle.std.proofs.lemmas.List.Sums.{sum_by-cons}
use Rattle.std.proofs.lemmas.Map.Keys.{IsDistinct-cons, IsDistinct-head, IsDistinct-tail}
use Rattle.std.proofs.lemmas.Map.Steps.{length-le_from_distinct_below}
use Rattle.std.proofs.lemmas.Nat.Bits.{and_pow, bit_at-lt, bit_at-pow_other, bit_at-pow_same, bit_at-zero, bit_at_or}
use Rattle.machine_world.specs.Events.{client_bits}
use Rattle.machine_world.specs.World.{is_among}
use Rattle.world_ledger.specs.Clients.{AreClients}

abbrev IsNumber : ℕ → Type 0
IsNumber client = (1 ≤ client) × (client ≤ 64)

bits-cons : (x : ℕ) (xs : List ℕ) → client_bits (x ∷ xs) ≡ 2 ^ (x - 1) + client_bits xs
bits-cons x xs = sum_by-cons (λ n. n) (2 ^ (x - 1)) (map (λ client. 2 ^ (client - 1)) xs)

-- a bit that is not set is added
pub added_bit : (n k : ℕ) → bit_at n k ≡ 0 → 2 ^ k + n ≡ bit_or n (2 ^ k)
added_bit n k clear =
    let both : bit_and n (2 ^ k) ≡ 0 = and_pow n k ∙ ap (λ b. b * 2 ^ k) clear ∙ omega arith in
    omega (arith, or_add_and n (2 ^ k), both)

bit_at-added : (n k i : ℕ) → bit_at n k ≡ 0 → bit_at (2 ^ k + n) i ≡ max (bit_at n i) (bit_at (2 ^ k) i)
bit_at-added n k i clear = ap (λ m. bit_at m i) (added_bit n k clear) ∙ bit_at_or n (2 ^ k) i

tail : (P : ℕ → Type 0) (x : ℕ) (xs : List ℕ) → All P (x ∷ xs) → All P xs
tail P x xs all k d under = all (suc k) d (omega arith)

other_way : (x y : ℕ) → (x == y) ≡ false → (y == x) ≡ false
other_way x y differ = grind (arith, nat_tests)

none_among : (x : ℕ) (xs : List ℕ) → AllByRecursion (λ y. (x == y) ≡ false) xs → is_among x xs ≡ false
none_among x [] all = refl
none_among x (y ∷ ys) all = rw (other_way x y all.0) (none_among x ys all.1)

apart_from : (x : ℕ) (xs : List ℕ) → is_among x xs ≡ false → AllByRecursion (λ y. (x == y) ≡ false) xs
apart_from x [] none = tt
apart_from x (y ∷ ys) none = by (y == x) refl none (apart_from x ys)
  where
    by : (t : Bool) → (y == x) ≡ t → (t || is_among x ys) ≡ false → (is_among x ys ≡ false → AllByRecursion (λ z. (x == z) ≡ false) ys) → AllByRecursion (λ z. (x == z) ≡ false) (y ∷ ys)
    by true same any rest = absurd (false≢true (sym any))
    by false differ any rest = (other_way y x differ, rest any)

bit_of : (clients : List ℕ) (c : ℕ) → All IsNumber clients → IsDistinct (λ one other. one == other) clients → 1 ≤ c → bit_at (client_bits clients) (c - 1) ≡ (if is_among c clients then 1 else 0)
bit_of [] c numbers distinct some = bit_at-zero (c - 1)
bit_of (x ∷ xs) c numbers distinct some =
    let rest = IsDistinct-tail (λ one other. one == other) x xs distinct in
    let others = tail IsNumber x xs numbers in
    let here = numbers 0 x (omega arith) in
    let none = none_among x xs (IsDistinct-head (λ one other. one == other) x xs distinct) in
    by here (eqb_tells x c) (bit_of xs c others rest some) (bit_of xs x others rest here.0 ∙ ap (λ b. if b then 1 else 0) none)
  where
    by : IsNumber x → (((x == c) ≡ true) × (x ≡ c)) ⊎ (((x == c) ≡ false) × (x ≢ c)) → bit_at (client_bits xs) (c - 1) ≡ (if is_among c xs then 1 else 0) → bit_at (client_bits xs) (x - 1) ≡ 0
        → bit_at (client_bits (x ∷ xs)) (c - 1) ≡ (if is_among c (x ∷ xs) then 1 else 0)
    by here (inl (test, same)) later clear =
        let own : bit_at (2 ^ (x - 1)) (c - 1) ≡ 1 = ap (λ n. bit_at (2 ^ (x - 1)) (n - 1)) (sym same) ∙ bit_at-pow_same (x - 1) in
        let all = ap (λ m. bit_at m (c - 1)) (bits-cons x xs) ∙ bit_at-added (client_bits xs) (x - 1) (c - 1) clear in
        rw test (omega (arith, all, own, bit_at-lt (client_bits xs) (c - 1)))
    by here (inr (test, differ)) later clear =
        let own = bit_at-pow_other (x - 1) (c - 1) (λ same. differ (omega (arith, same, here.0, some))) in
        let all = ap (λ m. bit_at m (c - 1)) (bits-cons x xs) ∙ bit_at-added (client_bits xs) (x - 1) (c - 1) clear in
        rw test (all ∙ omega (arith, own) ∙ later)

-- a bit tells whether the client is one of these
pub bit_tells : (bits c : ℕ) (clients : List ℕ) → AreClients bits clients → 1 ≤ c → (bit_at bits (c - 1) == 1) ≡ is_among c clients
bit_tells bits c clients are some = by (is_among c clients) (ap (λ n. bit_at n (c - 1)) are.counted ∙ bit_of clients c are.numbers are.distinct some)
  where
    by : (b : Bool) → bit_at bits (c - 1) ≡ (if b then 1 else 0) → (bit_at bits (c - 1) == 1) ≡ b
    by true is = rw is refl
    by false is = rw is refl

-- no other number is one of these
pub not_among : (bits c : ℕ) (clients : List ℕ) → AreClients bits clients → (c < 1) ⊎ (64 < c) → is_among c clients ≡ false
not_among bits c clients are outside = list_any_none (λ other. other == c) clients (λ k d under. differ (are.numbers k d under) outside)
  where
    differ : {x : ℕ} → IsNumber x → (c < 1) ⊎ (64 < c) → (x == c) ≡ false
    differ number (inl low) = grind (arith, nat_tests)
    differ number (inr high) = grind (arith, nat_tests)

-- a bit that none of these has
pub bit_clear : (bits c : ℕ) (clients : List ℕ) → AreClients bits clients → 1 ≤ c → is_among c clients ≡ false → bit_at bits (c - 1) ≡ 0
bit_clear bits c clients are some none =
    ap (λ n. bit_at n (c - 1)) are.counted ∙ bit_of clients c are.numbers are.distinct some ∙ ap (λ b. if b then 1 else 0) none

with_number : (c : ℕ) (clients : List ℕ) → IsNumber c → All IsNumber clients → All IsNumber (c ∷ clients)
with_number c clients number numbers zero d under = number
with_number c clients number numbers (suc k) d under = numbers k d (omega arith)

pub with_client-are : (bits c : ℕ) (clients : List ℕ) → 1 ≤ c → c ≤ 64 → is_among c clients ≡ false → AreClients bits clients → AreClients (bits + 2 ^ (c - 1)) (c ∷ clients)
with_client-are bits c clients least most none are = record {
  numbers = with_number c clients (least, most) are.numbers;
  distinct = IsDistinct-cons (λ one other. one == other) c clients (apart_from c clients none) are.distinct;
  counted = omega (arith, are.counted, bits-cons c clients);
}

pub no_clients : AreClients 0 []
unfolding IsDistinct
no_clients = record { numbers = λ k d under. absurd (omega arith); distinct = tt; counted = refl }

-- there are at most 64
pub few_clients : (bits c : ℕ) (clients : List ℕ) → 1 ≤ c → c ≤ 64 → is_among c clients ≡ false → AreClients bits clients → length clients < 64
few_clients bits c clients least most none are =
    let all = with_number c clients (least, most) are.numbers in
    let apart = IsDistinct-cons (λ one other. one == other) c clients (apart_from c clients none) are.distinct in
    let few = length-le_from_distinct_below (0 ∷ c ∷ clients) 65 (IsDistinct-cons (λ one other. one == other) 0 (c ∷ clients) (not_zero (c ∷ clients) all) apart) (λ q any. below q (c ∷ clients) all any) in
    omega (arith, few)
  where
    not_zero : (xs : List ℕ) → All IsNumber xs → AllByRecursion (λ y. (0 == y) ≡ false) xs
    not_zero [] all = tt
    not_zero (x ∷ xs) all = (zero_differs x (all 0 x (omega arith)), not_zero xs (tail IsNumber x xs all))
      where
        zero_differs : (x : ℕ) → IsNumber x → (0 == x) ≡ false
        zero_differs x number = grind (arith, nat_tests)

    inside : (q : ℕ) (xs : List ℕ) → All IsNumber xs → list_any (λ n. q == n) xs ≡ true → q < 65
    inside q [] all any = absurd (false≢true any)
    inside q (x ∷ xs) all any = by (eqb_tells q x) (all 0 x (omega arith)) any (inside q xs (tail IsNumber x xs all))
      where
        by : (((q == x) ≡ true) × (q ≡ x)) ⊎ (((q == x) ≡ false) × (q ≢ x)) → IsNumber x → ((q == x) || list_any (λ n. q == n) xs) ≡ true → (list_any (λ n. q == n) xs ≡ true → q < 65) → q < 65
        by (inl (test, same)) number any rest = omega (arith, same, number.1)
        by (inr (test, differ)) number any rest = rest (let P : Bool → Type 0 = λ b. (b || list_any (λ n. q == n) xs) ≡ true in subst P test any)

    below : (q : ℕ) (xs : List ℕ) → All IsNumber xs → list_any (λ n. q == n) (0 ∷ xs) ≡ true → q < 65
    below q xs all any = by (eqb_tells q 0) any
      where
        by : (((q == 0) ≡ true) × (q ≡ 0)) ⊎ (((q == 0) ≡ false) × (q ≢ 0)) → ((q == 0) || list_any (λ n. q == n) xs) ≡ true → q < 65
        by (inl (test, same)) any = omega (arith, same)
        by (inr (test, differ)) any = inside q xs all (let P : Bool → Type 0 = λ b. (b || list_any (λ n. q == n) xs) ≡ true in subst P test any)
