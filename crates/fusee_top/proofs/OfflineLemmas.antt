-- The statuses of the top call, from what it met.
use Rattle.std.proofs.Common.{◌≡◌, ◌≢◌, ℕ, ◌<◌, ◌≤◌, Bool, true, false, ◌&&◌, ◌⊎◌, inl, inr, List, ◌++◌, length, Some, None, refl, sym, ap, ◌∙◌, arith, length-append}
use Rattle.std.specs.Prelude.{Option, Result, Ok, Err, nat_lt, if◌then◌else◌}
use Rattle.std.specs.Io.KnownBytes.{Consumes, IsAtEnd}
use Rattle.std.proofs.lemmas.Bool.Decides.{nat_tests}
use Rattle.std.proofs.lemmas.List.{append-nil}
use Rattle.lease_core.specs.Grammar.{events_from}
use Rattle.lease_core.specs.Terms.{Agreed, AreTerms}
use Rattle.lease_core.specs.declared.lease_lines.LeaseLine.{LeaseLine}
use Rattle.lease_core.specs.declared.reading.LeaseKind.{LeaseKind}
use Rattle.lease_core.proofs.FencingLemmas.{no_lawful_after}
use Rattle.outside.proofs.AppendedLemmas.{front_of_all}
use Rattle.script_meaning.specs.Scripts.{rendered as script_rendered}
use Rattle.sim_meaning.specs.Summary.{rendered}
use Rattle.sim_meaning.specs.declared.numbers.Numbers.{Numbers}
use Rattle.script_run.specs.declared.running.TheConstants.{MOST_WORDS}
use Rattle.script_text.specs.OutputRead.{Bad, output_of}
use Rattle.script_text.specs.ScriptForm.{Fault, Plan, reading_of}
use Rattle.script_text.specs.ScriptRead.{plan_of}
use Rattle.script_text.specs.declared.scripts.Script.{Script}
use Rattle.script_text.proofs.ScriptFormLemmas.{means-reading_of, reading_of-means}
use Rattle.script_text.specs.declared.out_lines.OutLine.{OutLine}
use Rattle.text_lines.specs.Lines as text
use Rattle.trace_audit.specs.Verdicts.{IsVerdict}
use Rattle.trace_audit.specs.declared.verdicts.Verdict.{Verdict}
use Rattle.script_text.specs.declared.faults.BadKind.{BadKind}
use Rattle.fusee_top.specs.Notices.{bad_line_text}
use Rattle.fusee_top.specs.Verdict.{verdict_text}
use Rattle.fusee_top.specs.Course.{Concludes, Ends, Starves, EndsIn, SinkCourse, SourceCourse, ReadFailed, WriteFailed, Wrote}
use Rattle.fusee_top.specs.Endings.{Comes, Ending, IsOutputEnding, Ran, Told, ending_status, ending_text, events_ending, output_status, printed, read_ending, sized_ending, status_of}
use Rattle.fusee_top.specs.Input.{WasAll}
use Rattle.fusee_top.specs.Offline.{Answers, HasBadLine, HasReadFault, HasTooManyWords, HasUsage, IsAccepted, IsStatus, IsTooLarge, LeavesFront, Meets, Outcome, RanAudit, RanLeases, RanScript, ReadFault, Simulates, TooLarge, Usage, Whole, input_status, outcome_ending}
use Rattle.fusee_top.specs.Sizes.{shape_words}
use Rattle.fusee_top.specs.Words.{is_reading, reads}
use Rattle.fusee_top.specs.declared.commands.Command.{Command}
use Rattle.fusee_top.specs.declared.commands.Command.TheVariants as command
use Rattle.fusee_top.specs.declared.notices.Notice.TheVariants as notice
use Rattle.fusee_top.specs.declared.reading.TheConstants.{LIMIT}

-- ---- what was met, where the answer is neither 5 nor 6

pub record Met (named : Option Command) (source : SourceCourse) (sink : SinkCourse) (status : ℕ) : Type 0 where
  pub outcome : Outcome
  pub meets : Meets named source outcome
  pub status_is : ending_status (outcome_ending outcome) ≡ status
  pub wrote : Wrote sink (ending_text (outcome_ending outcome))

settled : (sink : SinkCourse) (text : List ℕ) (status result n : ℕ) → Ends sink text status result → result ≡ n → n ≢ 5 → n ≢ 6 → (status ≡ n) × Wrote sink text
settled sink text status result n (inl p) is five six = (sym p.0 ∙ is, p.1)
settled sink text status result n (inr (inl p)) is five six = absurd (five (sym is ∙ p.0))
settled sink text status result n (inr (inr p)) is five six = absurd (six (sym is ∙ p.0))

met : (named : Option Command) (source : SourceCourse) (sink : SinkCourse) (result n : ℕ) → Answers named source sink result → result ≡ n → n ≢ 5 → n ≢ 6 → Met named source sink n
met named source sink result n (inl p) is five six = absurd (six (sym is ∙ p.0))
met named source sink result n (inr (outcome, meets, ends)) is five six =
    let done = settled sink (ending_text (outcome_ending outcome)) (ending_status (outcome_ending outcome)) result n ends is five six in
    record { outcome = outcome; meets = meets; status_is = done.0; wrote = done.1 }

same_command : (named called : Command) → Some named ≡ Some called → called ≡ named
same_command named called is = cc

-- ---- script

not_over : (n : ℕ) → nat_lt MOST_WORDS n ≡ false → n ≤ MOST_WORDS
not_over n is = grind (arith, nat_tests)

over : (n : ℕ) → nat_lt MOST_WORDS n ≡ true → MOST_WORDS < n
over n is = grind (arith, nat_tests)

below : (n : ℕ) → n ≤ MOST_WORDS → nat_lt MOST_WORDS n ≡ false
below n few = grind (arith, nat_tests)

sized_ran : (source : SourceCourse) (sink : SinkCourse) (input : List ℕ) (plan : Plan) (large : Bool) (ending : Ending)
    → WasAll source.left source.left_now input → reading_of input ≡ Ok plan → nat_lt MOST_WORDS (shape_words plan.shape) ≡ large
    → ending ≡ (if large then Told (notice.TooLarge (shape_words plan.shape)) else Ran (printed plan)) → ending_status ending ≡ 0 → Wrote sink (ending_text ending) → RanScript source sink
sized_ran source sink input plan true ending was read large_is is status wrote = let seven = ap ending_status is in absurd (omega arith)
sized_ran source sink input plan false ending was read large_is is status wrote = record {
  input = input;
  plan = plan;
  read = was;
  script = means-reading_of input plan read;
  within = not_over (shape_words plan.shape) large_is;
  wrote = rw is at wrote;
}

script_ran : (source : SourceCourse) (sink : SinkCourse) (input : List ℕ) (read : Result Plan Fault) (ending : Ending)
    → WasAll source.left source.left_now input → reading_of input ≡ read → ending ≡ read_ending read → ending_status ending ≡ 0 → Wrote sink (ending_text ending) → RanScript source sink
script_ran source sink input (Ok plan) ending was read_is is status wrote = sized_ran source sink input plan (nat_lt MOST_WORDS (shape_words plan.shape)) ending was read_is refl is status wrote
script_ran source sink input (Err fault) ending was read_is is status wrote = let three = ap ending_status is in absurd (omega arith)

script_of : (named : Option Command) (source : SourceCourse) (sink : SinkCourse) (outcome : Outcome) → named ≡ Some command.Script → Meets named source outcome
    → ending_status (outcome_ending outcome) ≡ 0 → Wrote sink (ending_text (outcome_ending outcome)) → RanScript source sink
script_of named source sink Usage names meets status wrote = absurd (omega arith)
script_of named source sink ReadFault names meets status wrote = absurd (omega arith)
script_of named source sink TooLarge names meets status wrote = absurd (omega arith)
script_of named source sink (Simulates numbers) names meets status wrote = let other = sym names ∙ meets in cc
script_of named source sink (Whole called input ending) names meets status wrote =
    let comes = rw (same_command command.Script called (sym names ∙ meets.0)) at meets.2 in
    script_ran source sink input (reading_of input) ending meets.1 refl comes status wrote

pub RanScript-answers : (named : Option Command) (source : SourceCourse) (sink : SinkCourse) (result : ℕ) → Answers named source sink result → result ≡ 0 → named ≡ Some command.Script → RanScript source sink
RanScript-answers named source sink result answers is names =
    let m = met named source sink result 0 answers is (omega arith) (omega arith) in
    script_of named source sink m.outcome names m.meets m.status_is m.wrote

-- ---- audit

output_ran : (source : SourceCourse) (sink : SinkCourse) (input : List ℕ) (read : Result (List OutLine) Bad) (ending : Ending)
    → WasAll source.left source.left_now input → output_of input ≡ read → IsOutputEnding read ending → ending_status ending ≡ 0 → Wrote sink (ending_text ending) → RanAudit source sink
output_ran source sink input (Ok lines) ending was read_is is status wrote = record {
  input = input;
  lines = lines;
  verdict = is.0;
  read = was;
  output = read_is;
  judged = is.1;
  wrote = rw is.2 at wrote;
}
output_ran source sink input (Err bad) ending was read_is is status wrote = let three = ap ending_status is in absurd (omega arith)

audit_of : (named : Option Command) (source : SourceCourse) (sink : SinkCourse) (outcome : Outcome) → named ≡ Some command.Audit → Meets named source outcome
    → ending_status (outcome_ending outcome) ≡ 0 → Wrote sink (ending_text (outcome_ending outcome)) → RanAudit source sink
audit_of named source sink Usage names meets status wrote = absurd (omega arith)
audit_of named source sink ReadFault names meets status wrote = absurd (omega arith)
audit_of named source sink TooLarge names meets status wrote = absurd (omega arith)
audit_of named source sink (Simulates numbers) names meets status wrote = let other = sym names ∙ meets in cc
audit_of named source sink (Whole called input ending) names meets status wrote =
    let comes = rw (same_command command.Audit called (sym names ∙ meets.0)) at meets.2 in
    output_ran source sink input (output_of input) ending meets.1 refl comes status wrote

pub RanAudit-answers : (named : Option Command) (source : SourceCourse) (sink : SinkCourse) (result : ℕ) → Answers named source sink result → result ≡ 0 → named ≡ Some command.Audit → RanAudit source sink
RanAudit-answers named source sink result answers is names =
    let m = met named source sink result 0 answers is (omega arith) (omega arith) in
    audit_of named source sink m.outcome names m.meets m.status_is m.wrote

-- ---- leases

events_ran : (source : SourceCourse) (sink : SinkCourse) (terms : Agreed) (input : List ℕ) (read : Result (List LeaseLine) (ℕ × LeaseKind)) (ending : Ending)
    → AreTerms terms → WasAll source.left source.left_now input → events_from 1 (text.lines_of input) ≡ read → ending ≡ events_ending terms read
    → ending_status ending ≡ 0 → Wrote sink (ending_text ending) → RanLeases terms source sink
events_ran source sink terms input (Ok lines) ending are was read_is is status wrote = record {
  input = input;
  lines = lines;
  read = was;
  events = read_is;
  wrote = rw is at wrote;
  fenced = λ client fenced verb stopped later lawful. no_lawful_after terms lines client fenced verb are stopped later lawful;
}
events_ran source sink terms input (Err bad) ending are was read_is is status wrote = let three = ap ending_status is in absurd (omega arith)

leases_of : (named : Option Command) (source : SourceCourse) (sink : SinkCourse) (terms : Agreed) (outcome : Outcome) → named ≡ Some (command.Leases terms) → AreTerms terms → Meets named source outcome
    → ending_status (outcome_ending outcome) ≡ 0 → Wrote sink (ending_text (outcome_ending outcome)) → RanLeases terms source sink
leases_of named source sink terms Usage names are meets status wrote = absurd (omega arith)
leases_of named source sink terms ReadFault names are meets status wrote = absurd (omega arith)
leases_of named source sink terms TooLarge names are meets status wrote = absurd (omega arith)
leases_of named source sink terms (Simulates numbers) names are meets status wrote = let other = sym names ∙ meets in cc
leases_of named source sink terms (Whole called input ending) names are meets status wrote =
    let comes = rw (same_command (command.Leases terms) called (sym names ∙ meets.0)) at meets.2 in
    events_ran source sink terms input (events_from 1 (text.lines_of input)) ending are meets.1 refl comes status wrote

pub RanLeases-answers : (named : Option Command) (source : SourceCourse) (sink : SinkCourse) (result : ℕ) (terms : Agreed) → Answers named source sink result → result ≡ 0
    → named ≡ Some (command.Leases terms) → AreTerms terms → RanLeases terms source sink
RanLeases-answers named source sink result terms answers is names are =
    let m = met named source sink result 0 answers is (omega arith) (omega arith) in
    leases_of named source sink terms m.outcome names are m.meets m.status_is m.wrote

-- ---- sim

sim_of : (named : Option Command) (source : SourceCourse) (sink : SinkCourse) (numbers : Numbers) (outcome : Outcome) → named ≡ Some (command.Sim numbers) → Meets named source outcome
    → ending_status (outcome_ending outcome) ≡ 0 → Wrote sink (ending_text (outcome_ending outcome)) → Wrote sink (rendered numbers)
sim_of named source sink numbers Usage names meets status wrote = absurd (omega arith)
sim_of named source sink numbers ReadFault names meets status wrote = absurd (omega arith)
sim_of named source sink numbers TooLarge names meets status wrote = absurd (omega arith)
sim_of named source sink numbers (Whole called input ending) names meets status wrote =
    let comes = rw (same_command (command.Sim numbers) called (sym names ∙ meets.0)) at meets.2 in
    absurd comes
sim_of named source sink numbers (Simulates others) names meets status wrote =
    let called = sym meets ∙ names in
    let same : others ≡ numbers = cc in
    rw same at wrote

pub simulated-answers : (named : Option Command) (source : SourceCourse) (sink : SinkCourse) (result : ℕ) (numbers : Numbers) → Answers named source sink result → result ≡ 0
    → named ≡ Some (command.Sim numbers) → Wrote sink (rendered numbers)
simulated-answers named source sink result numbers answers is names =
    let m = met named source sink result 0 answers is (omega arith) (omega arith) in
    sim_of named source sink numbers m.outcome names m.meets m.status_is m.wrote

-- ---- the statuses of an input

abbrev IsInputStatus : ℕ → Type 0
IsInputStatus status = (status ≡ 0) ⊎ ((status ≡ 3) ⊎ (status ≡ 7))

sized_status : (count : ℕ) (text : List ℕ) (large : Bool) → IsInputStatus (ending_status (if large then Told (notice.TooLarge count) else Ran text))
sized_status count text true = inr (inr refl)
sized_status count text false = inl refl

read_status : (read : Result Plan Fault) → IsInputStatus (ending_status (read_ending read))
read_status (Ok plan) = sized_status (shape_words plan.shape) (printed plan) (nat_lt MOST_WORDS (shape_words plan.shape))
read_status (Err fault) = inr (inl refl)

verdict_status : (read : Result (List OutLine) Bad) → IsInputStatus (output_status read)
verdict_status (Ok lines) = inl refl
verdict_status (Err bad) = inr (inl refl)

events_status : (terms : Agreed) (read : Result (List LeaseLine) (ℕ × LeaseKind)) → IsInputStatus (ending_status (events_ending terms read))
events_status terms (Ok lines) = inl refl
events_status terms (Err bad) = inr (inl refl)

status_of-input : (command : Command) (input : List ℕ) → IsInputStatus (status_of command input)
status_of-input command.Script input = read_status (reading_of input)
status_of-input command.Audit input = verdict_status (output_of input)
status_of-input (command.Leases terms) input = events_status terms (events_from 1 (text.lines_of input))
status_of-input (command.Sim numbers) input = inl refl

output_ends : (read : Result (List OutLine) Bad) (ending : Ending) → IsOutputEnding read ending → ending_status ending ≡ output_status read
output_ends (Ok lines) ending is = ap ending_status is.2
output_ends (Err bad) ending is = ap ending_status is

-- what an input comes to has its status
pub ending_status-comes : (command : Command) (input : List ℕ) (ending : Ending) → Comes command input ending → ending_status ending ≡ status_of command input
ending_status-comes command.Script input ending comes = ap ending_status comes
ending_status-comes command.Audit input ending comes = output_ends (output_of input) ending comes
ending_status-comes (command.Leases terms) input ending comes = ap ending_status comes
ending_status-comes (command.Sim numbers) input ending comes = absurd comes

other_status : (command : Command) (input : List ℕ) (ending : Ending) (n : ℕ) → Comes command input ending → ending_status ending ≡ n → n ≢ 0 → n ≢ 3 → n ≢ 7 → ⊥
other_status command input ending n comes is zero three seven =
    let same = ending_status-comes command input ending comes in
    elim (status_of-input command input) [
      | inl e ↦ zero (sym is ∙ same ∙ e)
      | inr (inl e) ↦ three (sym is ∙ same ∙ e)
      | inr (inr e) ↦ seven (sym is ∙ same ∙ e)
    ]

-- ---- 2, 3 and 4

usage_of : (named : Option Command) (source : SourceCourse) (sink : SinkCourse) (outcome : Outcome) → Meets named source outcome
    → ending_status (outcome_ending outcome) ≡ 2 → Wrote sink (ending_text (outcome_ending outcome)) → HasUsage named sink
usage_of named source sink Usage meets status wrote = record { none = meets; wrote = wrote }
usage_of named source sink ReadFault meets status wrote = absurd (omega arith)
usage_of named source sink TooLarge meets status wrote = absurd (omega arith)
usage_of named source sink (Simulates numbers) meets status wrote = absurd (omega arith)
usage_of named source sink (Whole command input ending) meets status wrote = absurd (other_status command input ending 2 meets.2 status (omega arith) (omega arith) (omega arith))

pub HasUsage-answers : (named : Option Command) (source : SourceCourse) (sink : SinkCourse) (result : ℕ) → Answers named source sink result → result ≡ 2 → HasUsage named sink
HasUsage-answers named source sink result answers is =
    let m = met named source sink result 2 answers is (omega arith) (omega arith) in
    usage_of named source sink m.outcome m.meets m.status_is m.wrote

ends_in : (sink : SinkCourse) (text : List ℕ) (status result : ℕ) → Ends sink text status result → EndsIn status result
ends_in sink text status result (inl p) = inl p.0
ends_in sink text status result (inr (inl p)) = inr (inl p.0)
ends_in sink text status result (inr (inr p)) = inr (inr p.0)

none_reads : (named : Option Command) → named ≡ None → is_reading named ≡ true → ⊥
none_reads None none reads = cc
none_reads (Some command) none reads = cc

pub only_usage_of : (named : Option Command) (source : SourceCourse) (sink : SinkCourse) (result : ℕ) → Answers named source sink result → named ≡ None → EndsIn 2 result
only_usage_of named source sink result (inl p) none = inr (inr p.0)
only_usage_of named source sink result (inr (Usage, meets, ends)) none = ends_in sink _ 2 result ends
only_usage_of named source sink result (inr (ReadFault, meets, ends)) none = absurd (none_reads named none meets.0)
only_usage_of named source sink result (inr (TooLarge, meets, ends)) none = absurd (none_reads named none meets.0)
only_usage_of named source sink result (inr (Simulates numbers, meets, ends)) none = let other = sym none ∙ meets in cc
only_usage_of named source sink result (inr (Whole command input ending, meets, ends)) none = let other = sym none ∙ meets.0 in cc

fault_of : (named : Option Command) (source : SourceCourse) (sink : SinkCourse) (outcome : Outcome) → Meets named source outcome
    → ending_status (outcome_ending outcome) ≡ 4 → Wrote sink (ending_text (outcome_ending outcome)) → HasReadFault source sink
fault_of named source sink Usage meets status wrote = absurd (omega arith)
fault_of named source sink ReadFault meets status wrote = record { failed = meets.1; wrote = wrote }
fault_of named source sink TooLarge meets status wrote = absurd (omega arith)
fault_of named source sink (Simulates numbers) meets status wrote = absurd (omega arith)
fault_of named source sink (Whole command input ending) meets status wrote = absurd (other_status command input ending 4 meets.2 status (omega arith) (omega arith) (omega arith))

pub HasReadFault-answers : (named : Option Command) (source : SourceCourse) (sink : SinkCourse) (result : ℕ) → Answers named source sink result → result ≡ 4 → HasReadFault source sink
HasReadFault-answers named source sink result answers is =
    let m = met named source sink result 4 answers is (omega arith) (omega arith) in
    fault_of named source sink m.outcome m.meets m.status_is m.wrote

bad_ending : (named : Option Command) (source : SourceCourse) (sink : SinkCourse) (command : Command) (input : List ℕ) (ending : Ending) → named ≡ Some command
    → WasAll source.left source.left_now input → Comes command input ending → ending_status ending ≡ 3 → Wrote sink (ending_text ending) → HasBadLine named source sink
bad_ending named source sink command input (Told notice.Usage) names was comes status wrote = absurd (omega arith)
bad_ending named source sink command input (Told notice.ReadFault) names was comes status wrote = absurd (omega arith)
bad_ending named source sink command input (Told (notice.TooLarge count)) names was comes status wrote = absurd (omega arith)
bad_ending named source sink command input (Told (notice.BadLine number kind)) names was comes status wrote =
    record { command = command; input = input; number = number; kind = kind; names = names; read = was; bad = comes; wrote = wrote }
bad_ending named source sink command input (Ran text) names was comes status wrote = absurd (omega arith)

bad_of : (named : Option Command) (source : SourceCourse) (sink : SinkCourse) (outcome : Outcome) → Meets named source outcome
    → ending_status (outcome_ending outcome) ≡ 3 → Wrote sink (ending_text (outcome_ending outcome)) → HasBadLine named source sink
bad_of named source sink Usage meets status wrote = absurd (omega arith)
bad_of named source sink ReadFault meets status wrote = absurd (omega arith)
bad_of named source sink TooLarge meets status wrote = absurd (omega arith)
bad_of named source sink (Simulates numbers) meets status wrote = absurd (omega arith)
bad_of named source sink (Whole command input ending) meets status wrote = bad_ending named source sink command input ending meets.0 meets.1 meets.2 status wrote

pub HasBadLine-answers : (named : Option Command) (source : SourceCourse) (sink : SinkCourse) (result : ℕ) → Answers named source sink result → result ≡ 3 → HasBadLine named source sink
HasBadLine-answers named source sink result answers is =
    let m = met named source sink result 3 answers is (omega arith) (omega arith) in
    bad_of named source sink m.outcome m.meets m.status_is m.wrote

-- ---- 5

pub write_fault_of : (named : Option Command) (source : SourceCourse) (sink : SinkCourse) (result : ℕ) → Answers named source sink result → result ≡ 5 → WriteFailed sink
write_fault_of named source sink result (inl p) is = let six = p.0 in absurd (omega arith)
write_fault_of named source sink result (inr (outcome, meets, inr (inl p))) is = p.1
write_fault_of named source sink result (inr (outcome, meets, inr (inr p))) is = let six = p.0 in absurd (omega arith)
write_fault_of named source sink result (inr (Usage, meets, inl p)) is = let two = p.0 in absurd (omega arith)
write_fault_of named source sink result (inr (ReadFault, meets, inl p)) is = let four = p.0 in absurd (omega arith)
write_fault_of named source sink result (inr (TooLarge, meets, inl p)) is = let seven = p.0 in absurd (omega arith)
write_fault_of named source sink result (inr (Simulates numbers, meets, inl p)) is = let zero = p.0 in absurd (omega arith)
write_fault_of named source sink result (inr (Whole command input ending, meets, inl p)) is =
    absurd (other_status command input ending 5 meets.2 (sym p.0 ∙ is) (omega arith) (omega arith) (omega arith))

-- ---- 5 and 6

pub LeavesFront-answers : (named : Option Command) (source : SourceCourse) (sink : SinkCourse) (result : ℕ) → Answers named source sink result → LeavesFront named source sink
LeavesFront-answers named source sink result (inl p) = inl p.1
LeavesFront-answers named source sink result (inr (outcome, meets, inl p)) = inr (outcome, meets, front_of_all sink.held sink.held_now _ p.1)
LeavesFront-answers named source sink result (inr (outcome, meets, inr (inl p))) = inr (outcome, meets, p.2)
LeavesFront-answers named source sink result (inr (outcome, meets, inr (inr p))) = inr (outcome, meets, p.1)

-- ---- 7

sized_large : (named : Option Command) (source : SourceCourse) (sink : SinkCourse) (input : List ℕ) (plan : Plan) (large : Bool) (ending : Ending)
    → named ≡ Some command.Script → WasAll source.left source.left_now input → reading_of input ≡ Ok plan → nat_lt MOST_WORDS (shape_words plan.shape) ≡ large
    → ending ≡ (if large then Told (notice.TooLarge (shape_words plan.shape)) else Ran (printed plan)) → ending_status ending ≡ 7 → Wrote sink (ending_text ending) → HasTooManyWords named source sink
sized_large named source sink input plan true ending names was read large_is is status wrote =
    record { input = input; plan = plan; names = names; read = was; script = means-reading_of input plan read; over = over (shape_words plan.shape) large_is; wrote = rw is at wrote }
sized_large named source sink input plan false ending names was read large_is is status wrote = let zero = ap ending_status is in absurd (omega arith)

read_large : (named : Option Command) (source : SourceCourse) (sink : SinkCourse) (input : List ℕ) (read : Result Plan Fault) (ending : Ending)
    → named ≡ Some command.Script → WasAll source.left source.left_now input → reading_of input ≡ read → ending ≡ read_ending read → ending_status ending ≡ 7 → Wrote sink (ending_text ending) → HasTooManyWords named source sink
read_large named source sink input (Ok plan) ending names was read_is is status wrote =
    sized_large named source sink input plan (nat_lt MOST_WORDS (shape_words plan.shape)) ending names was read_is refl is status wrote
read_large named source sink input (Err fault) ending names was read_is is status wrote = let three = ap ending_status is in absurd (omega arith)

no_verdict : (read : Result (List OutLine) Bad) (n : ℕ) → output_status read ≡ n → n ≢ 0 → n ≢ 3 → ⊥
no_verdict (Ok lines) n is zero three = zero (sym is)
no_verdict (Err bad) n is zero three = three (sym is)

no_event : (terms : Agreed) (read : Result (List LeaseLine) (ℕ × LeaseKind)) (n : ℕ) → ending_status (events_ending terms read) ≡ n → n ≢ 0 → n ≢ 3 → ⊥
no_event terms (Ok lines) n is zero three = zero (sym is)
no_event terms (Err bad) n is zero three = three (sym is)

-- of commands scripts alone come to 7
only_script : (called : Command) (input : List ℕ) (ending : Ending) (n : ℕ) → Comes called input ending → ending_status ending ≡ n → n ≢ 0 → n ≢ 3 → called ≡ command.Script
only_script command.Script input ending n comes is zero three = refl
only_script command.Audit input ending n comes is zero three = absurd (no_verdict (output_of input) n (sym (ending_status-comes command.Audit input ending comes) ∙ is) zero three)
only_script (command.Sim numbers) input ending n comes is zero three = absurd comes
only_script (command.Leases terms) input ending n comes is zero three = absurd (no_event terms (events_from 1 (text.lines_of input)) n (sym (ending_status-comes (command.Leases terms) input ending comes) ∙ is) zero three)

large_of : (named : Option Command) (source : SourceCourse) (sink : SinkCourse) (outcome : Outcome) → Meets named source outcome
    → ending_status (outcome_ending outcome) ≡ 7 → Wrote sink (ending_text (outcome_ending outcome)) → IsTooLarge named source sink
large_of named source sink Usage meets status wrote = absurd (omega arith)
large_of named source sink ReadFault meets status wrote = absurd (omega arith)
large_of named source sink TooLarge meets status wrote = inl (record { reads = meets.0; gave = meets.1; wrote = wrote })
large_of named source sink (Simulates numbers) meets status wrote = absurd (omega arith)
large_of named source sink (Whole command input ending) meets status wrote =
    let script = only_script command input ending 7 meets.2 status (omega arith) (omega arith) in
    let comes = rw script at meets.2 in
    inr (read_large named source sink input (reading_of input) ending (meets.0 ∙ ap Some script) meets.1 refl comes status wrote)

pub IsTooLarge-answers : (named : Option Command) (source : SourceCourse) (sink : SinkCourse) (result : ℕ) → Answers named source sink result → result ≡ 7 → IsTooLarge named source sink
IsTooLarge-answers named source sink result answers is =
    let m = met named source sink result 7 answers is (omega arith) (omega arith) in
    large_of named source sink m.outcome m.meets m.status_is m.wrote

-- ---- what the input decides

-- what was given of a source that tells is a front of what it had
given_is_front : (input given : List ℕ) (left' : Option (List ℕ)) → Consumes (Some input) left' given → length given ≤ length input
given_is_front input given None c = absurd c
given_is_front input given (Some rest) c = let e = ap length c in omega (arith, length-append given rest)

all_of_it : (input text : List ℕ) (left' : Option (List ℕ)) → Consumes (Some input) left' text → IsAtEnd left' → text ≡ input
all_of_it input text None c at_end = absurd c
all_of_it input text (Some rest) c at_end = sym (c ∙ ap (λ r. text ++ r) at_end ∙ append-nil text)

over_limit : (n : ℕ) → LIMIT < n → nat_lt LIMIT n ≡ true
over_limit n above = grind (arith, nat_tests)

within_limit : (n : ℕ) → n ≤ LIMIT → nat_lt LIMIT n ≡ false
within_limit n below = grind (arith, nat_tests)

small : (reading : Bool) (n : ℕ) → n ≤ LIMIT → (reading && nat_lt LIMIT n) ≡ false
small true n below = within_limit n below
small false n below = refl

simulated_in : (called : Command) (input : List ℕ) (numbers : Numbers) (result : ℕ) → Some called ≡ Some (command.Sim numbers) → EndsIn 0 result → EndsIn (input_status called input) result
simulated_in called input numbers result names ends = let same : called ≡ command.Sim numbers = cc in rw same ends

pub decided_by : (named : Option Command) (source : SourceCourse) (sink : SinkCourse) (result : ℕ) (command : Command) (input : List ℕ)
    → Answers named source sink result → named ≡ Some command → source.left ≡ Some input → (ReadFailed source → ⊥) → EndsIn (input_status command input) result
decided_by named source sink result command input (inl p) names told calm = inr (inr p.0)
decided_by named source sink result command input (inr (Usage, meets, ends)) names told calm = let none = sym names ∙ meets in cc
decided_by named source sink result command input (inr (ReadFault, meets, ends)) names told calm = absurd (calm meets.1)
decided_by named source sink result command input (inr (TooLarge, meets, ends)) names told calm =
    let more = meets.1 in
    let front = given_is_front input more.given source.left_now (rw told at more.read) in
    let above = more.over in
    let reads_it : reads command ≡ true = ap is_reading (sym names) ∙ meets.0 in
    rw (reads_it, over_limit (length input) (omega arith)) (ends_in sink _ 7 result ends)
decided_by named source sink result command input (inr (Simulates numbers, meets, ends)) names told calm =
    simulated_in command input numbers result (sym names ∙ meets) (ends_in sink _ 0 result ends)
decided_by named source sink result command input (inr (Whole other read ending, meets, ends)) names told calm =
    let was = meets.1 in
    let all = all_of_it input read source.left_now (rw told at was.read) was.at_end in
    let few = was.within in
    let size = ap length all in
    let called = sym names ∙ meets.0 in
    let same : other ≡ command = cc in
    let status : ending_status ending ≡ status_of command input = ending_status-comes other read ending meets.2 ∙ ap (λ c. status_of c read) same ∙ ap (status_of command) all in
    rw (small (reads command) (length input) (omega arith), ← status) (ends_in sink _ (ending_status ending) result ends)

accepted_status : (command : Command) (input : List ℕ) → IsAccepted command input → input_status command input ≡ 0
accepted_status command.Script input accepted =
    let means = reading_of-means input accepted.1.0 accepted.1.1 in
    rw (within_limit (length input) accepted.0, means, below (shape_words accepted.1.0.shape) accepted.1.2) refl
accepted_status command.Audit input accepted = rw (within_limit (length input) accepted.0, accepted.1.1) refl
accepted_status (command.Leases terms) input accepted = rw (within_limit (length input) accepted.0, accepted.1.1) refl
accepted_status (command.Sim numbers) input accepted = refl

pub complete_by : (named : Option Command) (source : SourceCourse) (sink : SinkCourse) (result : ℕ) (command : Command) (input : List ℕ)
    → Answers named source sink result → named ≡ Some command → source.left ≡ Some input → IsAccepted command input → (ReadFailed source → ⊥) → (WriteFailed sink → ⊥) → (result ≡ 0) ⊎ (result ≡ 6)
complete_by named source sink result command input answers names told accepted calm whole =
    let ends : EndsIn 0 result = rw (accepted_status command input accepted) at (decided_by named source sink result command input answers names told calm) in
    elim ends [
      | inl done ↦ inl done
      | inr (inl five) ↦ absurd (whole (write_fault_of named source sink result answers five))
      | inr (inr six) ↦ inr six
    ]

-- ---- all statuses

ended_status : (sink : SinkCourse) (text : List ℕ) (status result : ℕ) → Ends sink text status result → IsStatus status → IsStatus result
ended_status sink text status result (inl p) is = rw p.0 is
ended_status sink text status result (inr (inl p)) is = inr (inr (inr (inr (inl p.0))))
ended_status sink text status result (inr (inr p)) is = inr (inr (inr (inr (inr (inl p.0)))))

input_is_status : (command : Command) (input : List ℕ) (ending : Ending) → Comes command input ending → IsStatus (ending_status ending)
input_is_status command input ending comes =
    let same = ending_status-comes command input ending comes in
    elim (status_of-input command input) [
      | inl e ↦ inl (same ∙ e)
      | inr (inl e) ↦ inr (inr (inl (same ∙ e)))
      | inr (inr e) ↦ inr (inr (inr (inr (inr (inr (same ∙ e))))))
    ]

pub IsStatus-answers : (named : Option Command) (source : SourceCourse) (sink : SinkCourse) (result : ℕ) → Answers named source sink result → IsStatus result
IsStatus-answers named source sink result (inl p) = inr (inr (inr (inr (inr (inl p.0)))))
IsStatus-answers named source sink result (inr (Usage, meets, ends)) = ended_status sink _ 2 result ends (inr (inl refl))
IsStatus-answers named source sink result (inr (ReadFault, meets, ends)) = ended_status sink _ 4 result ends (inr (inr (inr (inl refl))))
IsStatus-answers named source sink result (inr (TooLarge, meets, ends)) = ended_status sink _ 7 result ends (inr (inr (inr (inr (inr (inr refl))))))
IsStatus-answers named source sink result (inr (Simulates numbers, meets, ends)) = ended_status sink _ 0 result ends (inl refl)
IsStatus-answers named source sink result (inr (Whole command input ending, meets, ends)) = ended_status sink _ (ending_status ending) result ends (input_is_status command input ending meets.2)

-- ---- what was read is carried out

printed-rendered : (script : Script) → printed (plan_of script) ≡ script_rendered script
unfolding printed
printed-rendered script = refl

pub Concludes-sized : (sink : SinkCourse) (script : Script) (result : ℕ) → shape_words script.shape ≤ MOST_WORDS → Concludes sink (script_rendered script) 0 result
    → Concludes sink (ending_text (sized_ending (plan_of script))) (ending_status (sized_ending (plan_of script))) result
Concludes-sized sink script result within concludes = rw (below (shape_words script.shape) within, printed-rendered script) concludes

pub audit_tells : (sink : SinkCourse) (input : List ℕ) (lines : List OutLine) (result : ℕ) → output_of input ≡ Ok lines
    → (Starves sink result ⊎ ((verdict : Verdict) × IsVerdict lines verdict × Ends sink (verdict_text verdict) 0 result))
    → Starves sink result ⊎ ((ending : Ending) × IsOutputEnding (output_of input) ending × Ends sink (ending_text ending) (ending_status ending) result)
audit_tells sink input lines result read (inl p) = inl p
audit_tells sink input lines result read (inr (verdict, is, ends)) = inr (Ran (verdict_text verdict), rw read (verdict, is, refl), ends)

pub audit_refuses : (sink : SinkCourse) (input : List ℕ) (number : ℕ) (kind : BadKind) (result : ℕ) → output_of input ≡ Err (record { number = number; kind = kind })
    → Concludes sink (bad_line_text number kind) 3 result
    → Starves sink result ⊎ ((ending : Ending) × IsOutputEnding (output_of input) ending × Ends sink (ending_text ending) (ending_status ending) result)
audit_refuses sink input number kind result read (inl p) = inl p
audit_refuses sink input number kind result read (inr ends) = inr (Told (notice.BadLine number kind), rw read refl, ends)

pub Answers-carried : (named : Option Command) (source : SourceCourse) (sink : SinkCourse) (command : Command) (input read : List ℕ) (result : ℕ)
    → named ≡ Some command → read ≡ input → WasAll source.left source.left_now input
    → (((result ≡ 6) × (sink.held_now ≡ sink.held)) ⊎ ((ending : Ending) × Comes command read ending × Ends sink (ending_text ending) (ending_status ending) result))
    → Answers named source sink result
Answers-carried named source sink command input read result names same was (inl p) = inl p
Answers-carried named source sink command input read result names same was (inr (ending, comes, ends)) = inr (Whole command read ending, (names, rw same was, comes), ends)

-- the call ends by what it met
pub Answers-met : (named : Option Command) (source : SourceCourse) (sink : SinkCourse) (outcome : Outcome) (result : ℕ) → Meets named source outcome
    → Concludes sink (ending_text (outcome_ending outcome)) (ending_status (outcome_ending outcome)) result → Answers named source sink result
Answers-met named source sink outcome result meets (inl p) = inl p
Answers-met named source sink outcome result meets (inr ends) = inr (outcome, meets, ends)

-- a command that is no simulation reads
pub is_reading-named : (named : Option Command) (called : Command) → named ≡ Some called → ((numbers : Numbers) → called ≢ command.Sim numbers) → is_reading named ≡ true
is_reading-named named command.Script names other = rw names refl
is_reading-named named command.Audit names other = rw names refl
is_reading-named named (command.Leases terms) names other = rw names refl
is_reading-named named (command.Sim numbers) names other = absurd (other numbers refl)
