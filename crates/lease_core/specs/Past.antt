-- The answers to lines, told by the lines before each and their answers alone. Of what came before, the latest comes first.
use Rattle.std.specs.Prelude.{ℕ, ◌+◌, ◌-◌, Bool, false, ◌&&◌, ◌||◌, ◌==◌, nat_lt, nat_le, if◌then◌else◌, max, List, [], ◌∷◌, ◌++◌, length, slice_index, Option, Some, None}
use Rattle.std.specs.Int.{abs_diff}
use Rattle.std.specs.List.{list_any}
use Rattle.lease_core.specs.declared.lease_lines.LeaseLine.{LeaseLine}
use Rattle.lease_core.specs.declared.lease_lines.LeaseLine.TheVariants as event
use Rattle.lease_core.specs.declared.answering.LeaseAnswer.{LeaseAnswer}
use Rattle.lease_core.specs.declared.answering.LeaseAnswer.TheVariants as told
use Rattle.lease_core.specs.declared.answering.LeaseRefusal.{LeaseRefusal}
use Rattle.lease_core.specs.declared.answering.LeaseRefusal.TheVariants as refusal
use Rattle.lease_core.specs.Terms.{Agreed}
use Rattle.lease_core.specs.Book.{is_client}
use Rattle.lease_core.specs.Claims.{is_accepted}
use Rattle.lease_core.specs.Holder.{end_of}
use Rattle.lease_core.specs.Line.{client_of, client_clock, master_clock}
use Rattle.lease_core.specs.Run.{answer_unless}

-- a line with its answer
pub record Told : Type 0 where
  pub line : LeaseLine
  pub answer : LeaseAnswer

-- ---- clocks

-- the master's clock at the last accepted line
abbrev pub last_master_clock : List Told → ℕ
last_master_clock [] = 0
last_master_clock (one ∷ past) = if is_accepted one.answer then master_clock one.line else last_master_clock past

-- a client's clock at the last accepted line of it
abbrev pub last_clock : ℕ → List Told → ℕ
last_clock client [] = 0
last_clock client (one ∷ past) = if is_accepted one.answer && (client_of one.line == client) then client_clock one.line else last_clock client past

-- ---- leases of a client

abbrev pub is_ask_of : ℕ → LeaseAnswer → Bool
is_ask_of client (told.Asked other ask) = other == client
is_ask_of client answer = false

-- the moments of its asks, in order
abbrev pub asked : ℕ → List Told → List ℕ
asked client [] = []
asked client (one ∷ past) = asked client past ++ (if is_ask_of client one.answer then client_clock one.line ∷ [] else [])

abbrev pub is_grant_of : ℕ → LeaseAnswer → Bool
is_grant_of client (told.Granted other ask expiry) = other == client
is_grant_of client answer = false

abbrev pub is_of_ask : ℕ → LeaseAnswer → Bool
is_of_ask ask (told.Granted client other expiry) = other == ask
is_of_ask ask answer = false

-- whether an ask of it was granted
abbrev pub was_granted : ℕ → ℕ → List Told → Bool
was_granted client ask past = list_any (λ one. is_grant_of client one.answer && is_of_ask ask one.answer) past

-- when the last of its granted leases is over by the master's clock
abbrev pub last_expiry : Agreed → ℕ → List Told → ℕ
last_expiry terms client [] = 0
last_expiry terms client (one ∷ past) =
    if is_grant_of client one.answer then max (last_expiry terms client past) (master_clock one.line + terms.length) else last_expiry terms client past

-- with a grant that reached it: it may act until the end of that lease
abbrev pub until_with : Agreed → ℕ → List Told → LeaseAnswer → ℕ → ℕ
until_with terms client past (told.Taken other ask until) before =
    if other == client then max before (end_of terms (slice_index (asked client past) (ask - 1))) else before
until_with terms client past answer before = before

-- until when it may act by its own clock
abbrev pub last_until : Agreed → ℕ → List Told → ℕ
last_until terms client [] = 0
last_until terms client (one ∷ past) = until_with terms client past one.answer (last_until terms client past)

abbrev pub is_fencing_of : ℕ → LeaseAnswer → Bool
is_fencing_of client (told.Fenced other) = other == client
is_fencing_of client answer = false

abbrev pub was_fenced : ℕ → List Told → Bool
was_fenced client past = list_any (λ one. is_fencing_of client one.answer) past

-- ---- the answer to a line behind what came before it

-- the two clocks differ by more than the error, or one of them ran back since it was last accepted
abbrev pub are_clocks_off : Agreed → List Told → LeaseLine → Bool
are_clocks_off terms past line =
    nat_lt terms.error (abs_diff (client_clock line) (master_clock line))
    || nat_lt (client_clock line) (last_clock (client_of line) past)
    || nat_lt (master_clock line) (last_master_clock past)

abbrev pub has_asked : ℕ → ℕ → List Told → Bool
has_asked client ask past = nat_lt 0 ask && nat_le ask (length (asked client past))

-- why a line of a known client at good clocks is refused
abbrev pub kind_refused : List Told → LeaseLine → Option LeaseRefusal
kind_refused past (event.Ask client p m) = None
kind_refused past (event.Grant client ask p m) =
    if has_asked client ask past then (if was_fenced client past then Some (refusal.Fenced client) else None) else Some (refusal.Ask ask)
kind_refused past (event.Take client ask p m) =
    if has_asked client ask past then (if was_granted client ask past then None else Some (refusal.Grant ask)) else Some (refusal.Ask ask)
kind_refused past (event.Verb client p m) = None
kind_refused past (event.Fence client p m) = if was_fenced client past then Some (refusal.Fenced client) else None

-- why a line is refused
abbrev pub refused : Agreed → List Told → LeaseLine → Option LeaseRefusal
refused terms past line =
    if is_client (client_of line)
    then (if are_clocks_off terms past line then Some refusal.Clocks else kind_refused past line)
    else Some (refusal.Unknown (client_of line))

-- the answer to a line that is not refused
abbrev pub answer_by_kind : Agreed → List Told → LeaseLine → LeaseAnswer
answer_by_kind terms past (event.Ask client p m) = told.Asked client (length (asked client past) + 1)
answer_by_kind terms past (event.Grant client ask p m) = told.Granted client ask (max (last_expiry terms client past) (m + terms.length))
answer_by_kind terms past (event.Take client ask p m) =
    told.Taken client ask (max (last_until terms client past) (end_of terms (slice_index (asked client past) (ask - 1))))
answer_by_kind terms past (event.Verb client p m) = if nat_lt p (last_until terms client past) then told.Lawful client else told.Unlawful client
answer_by_kind terms past (event.Fence client p m) =
    if nat_lt m (last_expiry terms client past) then told.Early client (last_expiry terms client past) else told.Fenced client

-- the answer to any line
abbrev pub answer_after : Agreed → List Told → LeaseLine → LeaseAnswer
answer_after terms past line = answer_unless (refused terms past line) (answer_by_kind terms past line)

-- the answers to lines behind what came before them, and `end`
abbrev pub answers_after : Agreed → List Told → List LeaseLine → List LeaseAnswer
answers_after terms past [] = told.End ∷ []
answers_after terms past (line ∷ lines) =
    answer_after terms past line ∷ answers_after terms (record { line = line; answer = answer_after terms past line } ∷ past) lines
