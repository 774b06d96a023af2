use Rattle.std.proofs.Common.{◌≡◌, ◌≢◌, ◌⊎◌, inl, inr, ap, ap₂}
use Rattle.std.proofs.lemmas.Bool.Decides.{eqb_tells}
use Rattle.verb_words.specs.declared.verbs.Place.{Place}

-- places are the same where their parts are
pub place_ext : (a b : Place) → a.node ≡ b.node → a.at ≡ b.at → a ≡ b
place_ext a b same_node same_at = ap₂ (λ n p. let r : Place = record { node = n; at = p } in r) same_node same_at

-- places differ where their nodes or their positions do
pub places_differ : (a b : Place) → (a.node ≢ b.node) ⊎ (a.at ≢ b.at) → a ≢ b
places_differ a b (inl nodes) same = nodes (ap (λ (p : Place). p.node) same)
places_differ a b (inr positions) same = positions (ap (λ (p : Place). p.at) same)

-- a place is another one or not, and where it is another, its node or its position differs
pub place_cases : (a b : Place) → (a ≡ b) ⊎ ((a.node ≢ b.node) ⊎ (a.at ≢ b.at))
place_cases a b =
    elim (eqb_tells a.node b.node) [
      | inr n ↦ inr (inl n.1)
      | inl n ↦ elim (eqb_tells a.at b.at) [ inr p ↦ inr (inr p.1) | inl p ↦ inl (place_ext a b n.1 p.1) ]
    ]
