-- Client c stands at place c of the world's clients, and nobody at place 0.
use Rattle.std.proofs.Common.{◌≡◌, ℕ, zero, suc, ◌-◌, ◌<◌, ◌≤◌, true, ◌&&◌, List, ◌∷◌, length, get_or, ap, ◌∙◌, arith}
use Rattle.std.specs.Prelude.{nat_lt}
use Rattle.std.proofs.lemmas.Bool.Decides.{nat_tests}
use Rattle.std.proofs.lemmas.List.{get_or_default}
use Rattle.machine.specs.Stage.{Client}

pub registered_within : (client count : ℕ) → (nat_lt 0 client && nat_lt client count) ≡ true → (1 ≤ client) × (client < count)
registered_within client count known = (grind (arith, nat_tests), grind (arith, nat_tests))

pub at_own_place : (nobody default : Client) (clients : List Client) (client : ℕ) (found : Client) → (1 ≤ client) × (client < length (nobody ∷ clients)) → found ≡ get_or clients (client - 1) found → found ≡ get_or (nobody ∷ clients) client default
at_own_place nobody default clients zero found within is = absurd (omega (arith, within.0))
at_own_place nobody default clients (suc k) found within is =
    let before : suc k - 1 ≡ k = omega arith in
    is ∙ ap (λ n. get_or clients n found) before ∙ get_or_default clients k found default (omega (arith, within.1))
