-- A run over lines: what is known after each, and the answer to each.
use Rattle.std.specs.Prelude.{ℕ, ◌+◌, ◌-◌, Bool, true, false, ◌&&◌, ◌||◌, nat_lt, nat_le, if◌then◌else◌, List, [], ◌∷◌, ◌++◌, length, replicate, slice_index_or, slice_set, Option, Some, None}
use Rattle.std.specs.Int.{abs_diff}
use Rattle.lease_core.specs.declared.granting.TheConstants.{CLIENTS}
use Rattle.lease_core.specs.declared.lease_lines.LeaseLine.{LeaseLine}
use Rattle.lease_core.specs.declared.lease_lines.LeaseLine.TheVariants as event
use Rattle.lease_core.specs.declared.members.Ask.{Ask}
use Rattle.lease_core.specs.declared.answering.LeaseAnswer.{LeaseAnswer}
use Rattle.lease_core.specs.declared.answering.LeaseAnswer.TheVariants as told
use Rattle.lease_core.specs.declared.answering.LeaseRefusal.{LeaseRefusal}
use Rattle.lease_core.specs.declared.answering.LeaseRefusal.TheVariants as refusal
use Rattle.lease_core.specs.Terms.{Agreed}
use Rattle.lease_core.specs.Book.{Booked, is_client, place_of, empty_book, expiry_of, is_fenced, longer_expiry, after_grant, after_fence}
use Rattle.lease_core.specs.Holder.{Held, new_holder, taken}
use Rattle.lease_core.specs.Line.{client_of, client_clock, master_clock}

-- a client: its clock at its last accepted line, its asks in order, and what it holds
pub record Member : Type 0 where
  pub clock : ℕ
  pub asks : List Ask
  pub holder : Held

-- what is agreed, the master's clock at the last accepted line, the clients by their numbers, and the book
pub record Run : Type 0 where
  pub terms : Agreed
  pub clock : ℕ
  pub members : List Member
  pub book : Booked

abbrev pub new_member : Agreed → Member
new_member terms = record { clock = 0; asks = []; holder = new_holder terms }

-- nothing is known yet
abbrev pub opening : Agreed → Run
opening terms = record { terms = terms; clock = 0; members = replicate CLIENTS (new_member terms); book = empty_book terms }

abbrev pub member_of : Run → ℕ → Member
member_of run client = slice_index_or run.members (place_of client) (new_member run.terms)

-- ---- asks, which are counted from 1

abbrev pub no_ask : Ask
no_ask = record { at = 0; granted = false }

abbrev pub has_ask : Member → ℕ → Bool
has_ask member ask = nat_lt 0 ask && nat_le ask (length member.asks)

abbrev pub ask_of : Member → ℕ → Ask
ask_of member ask = slice_index_or member.asks (ask - 1) no_ask

-- ---- refusals

-- no client has the line's number
abbrev pub unknown : LeaseLine → Option LeaseRefusal
unknown line = if is_client (client_of line) then None else Some (refusal.Unknown (client_of line))

-- the two clocks differ by more than the error, or one of them ran back since it was last accepted
abbrev pub is_out_of_time : Run → ℕ → ℕ → ℕ → Bool
is_out_of_time run client p m =
    nat_lt run.terms.error (abs_diff p m) || nat_lt p (member_of run client).clock || nat_lt m run.clock

abbrev pub out_of_time : Run → LeaseLine → Option LeaseRefusal
out_of_time run line = if is_out_of_time run (client_of line) (client_clock line) (master_clock line) then Some refusal.Clocks else None

-- the line names an ask that its client has not made
abbrev pub not_asked : Run → LeaseLine → Option LeaseRefusal
not_asked run (event.Ask client p m) = None
not_asked run (event.Grant client ask p m) = if has_ask (member_of run client) ask then None else Some (refusal.Ask ask)
not_asked run (event.Take client ask p m) = if has_ask (member_of run client) ask then None else Some (refusal.Ask ask)
not_asked run (event.Verb client p m) = None
not_asked run (event.Fence client p m) = None

-- a grant reaches its client, and was never made
abbrev pub not_granted : Run → LeaseLine → Option LeaseRefusal
not_granted run (event.Ask client p m) = None
not_granted run (event.Grant client ask p m) = None
not_granted run (event.Take client ask p m) = if (ask_of (member_of run client) ask).granted then None else Some (refusal.Grant ask)
not_granted run (event.Verb client p m) = None
not_granted run (event.Fence client p m) = None

-- the master grants to a fenced client, or fences it once more
abbrev pub already_fenced : Run → LeaseLine → Option LeaseRefusal
already_fenced run (event.Ask client p m) = None
already_fenced run (event.Grant client ask p m) = if is_fenced run.book client then Some (refusal.Fenced client) else None
already_fenced run (event.Take client ask p m) = None
already_fenced run (event.Verb client p m) = None
already_fenced run (event.Fence client p m) = if is_fenced run.book client then Some (refusal.Fenced client) else None

infixr 5 ◌or_else◌
-- the first refusal, or the later one
abbrev pub ◌or_else◌ : Option LeaseRefusal → Option LeaseRefusal → Option LeaseRefusal
(Some why) or_else later = Some why
None or_else later = later

-- why a line of a known client that is in time is refused
abbrev pub kind_refusal : Run → LeaseLine → Option LeaseRefusal
kind_refusal run line = not_asked run line or_else not_granted run line or_else already_fenced run line

-- why a line is refused: what comes first of these
abbrev pub refusal_of : Run → LeaseLine → Option LeaseRefusal
refusal_of run line = unknown line or_else out_of_time run line or_else kind_refusal run line

-- ---- accepted lines

-- the client asks at this moment
abbrev pub asking : Member → ℕ → Member
asking member now = record { clock = now; asks = member.asks ++ record { at = now; granted = false } ∷ []; holder = member.holder }

-- an ask of it is granted
abbrev pub granting : Member → ℕ → ℕ → Member
granting member ask now = record { clock = now; asks = slice_set member.asks (ask - 1) (record { at = (ask_of member ask).at; granted = true }); holder = member.holder }

-- the grant of an ask reaches it
abbrev pub taking : Member → ℕ → ℕ → Member
taking member ask now = record { clock = now; asks = member.asks; holder = taken member.holder (ask_of member ask).at }

-- only its clock moves
abbrev pub passing : Member → ℕ → Member
passing member now = record { clock = now; asks = member.asks; holder = member.holder }

abbrev pub member_after : Member → LeaseLine → Member
member_after member (event.Ask client p m) = asking member p
member_after member (event.Grant client ask p m) = granting member ask p
member_after member (event.Take client ask p m) = taking member ask p
member_after member (event.Verb client p m) = passing member p
member_after member (event.Fence client p m) = passing member p

abbrev pub book_after : Booked → LeaseLine → Booked
book_after book (event.Ask client p m) = book
book_after book (event.Grant client ask p m) = after_grant book client m
book_after book (event.Take client ask p m) = book
book_after book (event.Verb client p m) = book
book_after book (event.Fence client p m) = after_fence book client m

abbrev pub accepted : Run → LeaseLine → Run
accepted run line = record {
  terms = run.terms;
  clock = master_clock line;
  members = slice_set run.members (place_of (client_of line)) (member_after (member_of run (client_of line)) line);
  book = book_after run.book line;
}

abbrev pub accepted_answer : Run → LeaseLine → LeaseAnswer
accepted_answer run (event.Ask client p m) = told.Asked client (length (member_of run client).asks + 1)
accepted_answer run (event.Grant client ask p m) = told.Granted client ask (longer_expiry run.book client m)
accepted_answer run (event.Take client ask p m) = told.Taken client ask (taking (member_of run client) ask p).holder.until
accepted_answer run (event.Verb client p m) = if nat_lt p (member_of run client).holder.until then told.Lawful client else told.Unlawful client
accepted_answer run (event.Fence client p m) = if nat_lt m (expiry_of run.book client) then told.Early client (expiry_of run.book client) else told.Fenced client

-- ---- any line

abbrev pub answer_unless : Option LeaseRefusal → LeaseAnswer → LeaseAnswer
answer_unless (Some why) answer = told.Refused why
answer_unless None answer = answer

abbrev pub run_unless : Option LeaseRefusal → Run → Run → Run
run_unless (Some why) run after = run
run_unless None run after = after

-- the answer to a line of a known client that is in time, and what is known after it
abbrev pub answer_in_time : Run → LeaseLine → LeaseAnswer
answer_in_time run line = answer_unless (kind_refusal run line) (accepted_answer run line)

abbrev pub run_in_time : Run → LeaseLine → Run
run_in_time run line = run_unless (kind_refusal run line) run (accepted run line)

-- the answer to a line, and what is known after it
abbrev pub answer_of : Run → LeaseLine → LeaseAnswer
answer_of run line = answer_unless (refusal_of run line) (accepted_answer run line)

abbrev pub run_after : Run → LeaseLine → Run
run_after run line = run_unless (refusal_of run line) run (accepted run line)

-- ---- lists of lines

-- what is known after the lines
abbrev pub run_along : Run → List LeaseLine → Run
run_along run [] = run
run_along run (line ∷ lines) = run_along (run_after run line) lines

-- the answers to the lines
abbrev pub answers_along : Run → List LeaseLine → List LeaseAnswer
answers_along run [] = []
answers_along run (line ∷ lines) = answer_of run line ∷ answers_along (run_after run line) lines

-- the answers of a run from its opening, the last of which is `end`
abbrev pub answers : Agreed → List LeaseLine → List LeaseAnswer
answers terms lines = answers_along (opening terms) lines ++ told.End ∷ []
