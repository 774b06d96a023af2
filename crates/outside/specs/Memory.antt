-- The ends in memory: what each call answers and leaves.
use Rattle.std.specs.Prelude.{ℕ, ◌-◌, ◌^◌, ◌<◌, Bool, ◌==◌, nat_lt, ◌&&◌, if◌then◌else◌, List, length, drop, ◌++◌, min, All}
use Rattle.std.specs.List.{list_any}
use Rattle.outside.specs.Faults.{one_more}
use Rattle.outside.specs.declared.sources.Got.{Got}
use Rattle.outside.specs.declared.sources.Got.TheVariants as got

-- a source in memory: what is left, the most that one read gives, the calls that fail, and how many calls and faults there were
pub record Supply : Type 0 where
  pub left : List ℕ
  pub piece : ℕ
  pub fails : List ℕ
  pub calls : ℕ
  pub faults : ℕ

-- a sink in memory: what it holds, the calls that fail, and how many calls and faults there were
pub record Store : Type 0 where
  pub held : List ℕ
  pub fails : List ℕ
  pub calls : ℕ
  pub faults : ℕ

-- whether the next call is one of those that fail
abbrev pub is_failing : List ℕ → ℕ → Bool
is_failing fails calls = list_any (λ n. n == calls) fails

-- no call from this one on is one of those that fail
abbrev pub IsPast : List ℕ → ℕ → Type 0
IsPast fails calls = All (λ n. n < calls) fails

-- so no later call can fail, and the count of faults can still rise
abbrev pub SourceCannotFail : Supply → Type 0
SourceCannotFail s = IsPast s.fails s.calls × (s.faults < 2 ^ 64 - 1)

abbrev pub SinkCannotFail : Store → Type 0
SinkCannotFail s = IsPast s.fails s.calls × (s.faults < 2 ^ 64 - 1)

-- how many bytes the next read moves into so much room
abbrev pub moved : Supply → ℕ → ℕ
moved s room = min (min s.piece room) (length s.left)

-- what a read into so much room answers
abbrev pub answer_of : Supply → ℕ → Got
answer_of s room =
    if is_failing s.fails s.calls then got.Failed
    else (if length s.left == 0 && nat_lt 0 room then got.End else got.Got (moved s room))

-- what it leaves
abbrev pub after_read : Supply → ℕ → Supply
after_read s room =
    if is_failing s.fails s.calls then record s { calls = one_more s.calls; faults = one_more s.faults }
    else record s { left = drop (moved s room) s.left; calls = one_more s.calls }

-- what a write of a piece leaves, where memory is there
abbrev pub after_write : Store → List ℕ → Store
after_write s piece =
    if is_failing s.fails s.calls then record s { calls = one_more s.calls; faults = one_more s.faults }
    else record s { held = s.held ++ piece; calls = one_more s.calls }
