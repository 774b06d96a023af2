-- Lists of lists, one of which is changed; and the first that passes a test.
use Rattle.std.proofs.Common.{◌≡◌, ◌≢◌, ℕ, zero, suc, ◌+◌, ◌<◌, ◌≤◌, ◌==◌, ◌⊎◌, inl, inr, Bool, true, false, List, [], length, map, get_or, set, refl, sym, ap, subst, ◌∙◌, arith, None, Some, slice_get, Result, Ok, Err, OnOk}
use Rattle.std.specs.List.{find, list_any, range_with_len}
use Rattle.std.proofs.lemmas.Bool.{cases_lt}
use Rattle.std.proofs.lemmas.Bool.Decides.{eqb_tells}
use Rattle.std.proofs.lemmas.List.Folds.{list_any_at}
use Rattle.std.proofs.lemmas.List.FromFn.{get_or-map-range_with_len, length-map-range_with_len}
use Rattle.std.proofs.lemmas.List.{get_or-map, get_or-set_other, get_or-set_same, get_or_past, length-map, map-set}

-- one list is changed by g, of which f sees the same change
pub map-set_by : {V W : Type 0} (f : V → W) (lists : List V) (i : ℕ) (list stored : V) (g : W → W) (d : W) → i < length lists → list ≡ get_or lists i list → f stored ≡ g (f list)
    → map f (set lists i stored) ≡ set (map f lists) i (g (get_or (map f lists) i d))
map-set_by f lists i list stored g d within is made =
    map-set f lists i stored ∙ ap (λ x. set (map f lists) i x) (made ∙ ap g (ap f is ∙ sym (get_or-map f lists i list d within)))

-- a list of which there is a number above another
pub within_above : {V : Type 0} (f : V → ℕ) (lists : List V) (i n : ℕ) → n < get_or (map f lists) i 0 → i < length lists
within_above f lists i n above = elim (cases_lt i (length lists)) [
  | inl within ↦ within
  | inr past ↦ absurd (let none = get_or_past (map f lists) i 0 (omega (arith, length-map lists f)) in omega arith)
]

-- a list that is changed has as many as before, or more
pub map-set_grows : {V : Type 0} (f : V → ℕ) (lists : List V) (i other : ℕ) (list stored : V) → i < length lists → list ≡ get_or lists i list → f list ≤ f stored
    → get_or (map f lists) other 0 ≤ get_or (map f (set lists i stored)) other 0
map-set_grows f lists i other list stored within is more = by (eqb_tells other i)
  where
    long : i < length (map f lists)
    long = omega (arith, length-map lists f)

    by : (((other == i) ≡ true) × (other ≡ i)) ⊎ (((other == i) ≡ false) × (other ≢ i)) → get_or (map f lists) other 0 ≤ get_or (map f (set lists i stored)) other 0
    by (inl (test, same)) =
        let P : ℕ → Type 0 = λ k. get_or (map f lists) k 0 ≤ get_or (map f (set lists i stored)) k 0 in
        let before = get_or-map f lists i list 0 within ∙ ap f (sym is) in
        let now = ap (λ l. get_or l i 0) (map-set f lists i stored) ∙ get_or-set_same (map f lists) i (f stored) 0 long in
        subst P (sym same) (omega arith)
    by (inr (test, differ)) =
        let now = ap (λ l. get_or l other 0) (map-set f lists i stored) ∙ get_or-set_other (map f lists) i other (f stored) 0 differ in
        omega arith

pub on_ok : {T E : Type 0} {P Q : Type 0} (r : Result T E) → OnOk r P → (P → Q) → OnOk r Q
on_ok (Ok x) is then = then is
on_ok (Err e) is then = is

pub find_none : (p : ℕ → Bool) (a n : ℕ) → ((k : ℕ) → a ≤ k → k < a + n → p k ≡ false) → find p (range_with_len a n) ≡ None
find_none p a zero none = refl
find_none p a (suc n) none = rw (none a (omega arith) (omega arith)) (find_none p (a + 1) n (λ k above under. none k (omega arith) (omega arith)))

-- the list that was looked up, as f sees it
pub of_index : {V W : Type 0} (f : V → W) (lists : List V) (i : ℕ) (list : V) (d : W) → i < length lists → list ≡ get_or lists i list → get_or (map f lists) i d ≡ f list
of_index f lists i list d within is = get_or-map f lists i list d within ∙ ap f (sym is)

-- a list in which something was found
pub within_found : {V W : Type 0} (f : V → List W) (lists : List V) (i k : ℕ) (x : W) → slice_get (get_or (map f lists) i []) k ≡ Some x → i < length lists
within_found f lists i k x found = elim (cases_lt i (length lists)) [
  | inl within ↦ within
  | inr past ↦ absurd (
      let none = get_or_past (map f lists) i [] (omega (arith, length-map lists f)) in
      let nothing : slice_get (get_or (map f lists) i []) k ≡ None = ap (λ l. slice_get l k) none in
      let clash = sym nothing ∙ found in
      cc)
]

-- a list that was changed, as f sees it
pub of_set : {V W : Type 0} (f : V → W) (lists : List V) (i : ℕ) (stored : V) (d : W) → i < length lists → get_or (map f (set lists i stored)) i d ≡ f stored
of_set f lists i stored d within = ap (λ l. get_or l i d) (map-set f lists i stored) ∙ get_or-set_same (map f lists) i (f stored) d (omega (arith, length-map lists f))

pub any_passes : (p : ℕ → Bool) (f : ℕ → ℕ) (n i : ℕ) → i < n → p (f i) ≡ true → list_any p (map f (range_with_len 0 n)) ≡ true
any_passes p f n i below passes =
    let long : length (map f (range_with_len 0 n)) ≡ n = length-map-range_with_len f 0 n in
    let here : get_or (map f (range_with_len 0 n)) i 0 ≡ f i = get_or-map-range_with_len f 0 n i i 0 below (omega arith) in
    list_any_at p (map f (range_with_len 0 n)) i 0 (omega arith) (ap p here ∙ passes)

pub none_passes : (p : ℕ → Bool) (f : ℕ → ℕ) (a n : ℕ) → ((k : ℕ) → a ≤ k → k < a + n → p (f k) ≡ false) → list_any p (map f (range_with_len a n)) ≡ false
none_passes p f a zero none = refl
none_passes p f a (suc n) none = rw (none a (omega arith) (omega arith)) (none_passes p f (a + 1) n (λ k above under. none k (omega arith) (omega arith)))
