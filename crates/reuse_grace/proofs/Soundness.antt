-- What stays true of an owner's objects and of the calls that may know them, whatever happens.
use Rattle.std.proofs.Common.{◌≡◌, ◌≢◌, ℕ, ◌<◌, ◌≤◌, true, false, inl, inr, eq-eqb, ne_eqb, Contains}
use Rattle.std.proofs.lemmas.Bool.{cases_eq}
use Rattle.reuse_grace.specs.Stock.{State, Unmarked, Waiting, Ripe, updated, is_inside}

pub record IsSound (state : State) : Type 0 where
  -- who is inside a call is a client
  pub known : (client : ℕ) → is_inside state client ≡ true → (0 < client) × (client ≤ state.clients)
  -- who has met an object is inside a call
  pub inside : (client object : ℕ) → state.met client object ≡ true → is_inside state client ≡ true
  -- who is inside a call has met what is out of stock
  pub out : (client object : ℕ) → is_inside state client ≡ true → state.stock object ≡ false → state.met client object ≡ true
  -- what waits or is ripe is in stock
  pub stocked : (object : ℕ) → state.marks object ≢ Unmarked → state.stock object ≡ true
  -- no other client's call has met what is ripe
  pub ripe : (client object : ℕ) → client ≢ state.owner → state.marks object ≡ Ripe → state.met client object ≡ true → ⊥
  -- another client whose call has met what waits is awaited with its present begin word, once it was asked
  pub waits : (client object : ℕ) → client ≢ state.owner → state.marks object ≡ Waiting → state.met client object ≡ true
      → client ≤ state.asked → Contains state.awaited (client, state.begins client)

-- what holds of the new value at its place, and elsewhere of the value that was there, holds of the value
-- that is there now
pub at_updated : {A : Type 0} (P : A → Type 0) (values : ℕ → A) (place : ℕ) (value : A) (other : ℕ)
    → (place ≡ other → P value) → (place ≢ other → P (values other)) → P (updated values place value other)
at_updated P values place value other here there =
    elim (cases_eq place other) [
      | inl same ↦ rw (eq-eqb place other same) (here same)
      | inr apart ↦ rw (ne_eqb place other apart) (there apart)
    ]

pub updated-other : {A : Type 0} (values : ℕ → A) (place : ℕ) (value : A) (other : ℕ) → place ≢ other
    → updated values place value other ≡ values other
updated-other values place value other apart = rw (ne_eqb place other apart)

pub updated-same : {A : Type 0} (values : ℕ → A) (place : ℕ) (value : A) (other : ℕ) → place ≡ other
    → updated values place value other ≡ value
updated-same values place value other same = rw (eq-eqb place other same)
