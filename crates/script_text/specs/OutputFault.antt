-- The faults of the words of an output line, and the first of their kinds.
use Rattle.std.specs.Prelude.{◌≡◌, ℕ, ◌≤◌, ◌⊎◌, List, [], ◌∷◌, Some}
use Rattle.script_text.specs.OutputPlace.{Place, behind, place_fault, rank}
use Rattle.script_text.specs.declared.faults.BadKind.{BadKind}
use Rattle.script_text.specs.declared.faults.BadKind.TheVariants as kind

-- a fault of this kind stands at one of the places, or a word is left behind them
abbrev pub HasFault : List Place → List (List ℕ) → BadKind → Type 0
HasFault [] [] fault = ⊥
HasFault [] (word ∷ words) fault = fault ≡ kind.Count
HasFault (place ∷ places) words fault = (place_fault place words ≡ Some fault) ⊎ HasFault places (behind place words) fault

-- the kind of one of the faults, and none is tested before it
pub record IsFirstKind (places : List Place) (words : List (List ℕ)) (fault : BadKind) : Type 0 where
  pub here : HasFault places words fault
  pub first : (other : BadKind) → HasFault places words other → rank fault ≤ rank other
