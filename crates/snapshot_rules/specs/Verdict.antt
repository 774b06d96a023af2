use Rattle.std.specs.Prelude.{ℕ, Bool, ◌==◌, ◌&&◌, is_none, List, if◌then◌else◌}
use Rattle.std.specs.List.{list_all}
use Rattle.snapshot_rules.specs.declared.rules.Verdict.{Verdict}
use Rattle.snapshot_rules.specs.declared.rules.Verdict.TheVariants.{All, Most, CheckLeast, Lose}
use Rattle.snapshot_rules.specs.Winner.{is_majority, majority_of, least}

-- every word of a list is this one
abbrev pub is_constant : ℕ → List ℕ → Bool
is_constant mine list = list_all (λ word. word == mine) list

-- what a list says of the word of one client: it is every word, it is the majority, there is no
-- majority and it is the least, or else another word wins
abbrev pub verdict_of : List ℕ → ℕ → Verdict
verdict_of list mine =
    if is_constant mine list then All
    else if is_majority mine list then Most
    else if is_none (majority_of list) && (least list == mine) then CheckLeast
    else Lose
