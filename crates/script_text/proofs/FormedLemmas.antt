-- Words that stand for the parts of a line are read as this line.
use Rattle.std.proofs.Common.{◌≡◌, ℕ, Bool, true, false, List, [], ◌∷◌, ◌++◌, codes, Option, Some, None, Ok, refl, sym, ap, ◌∙◌}
use Rattle.text_lines.specs.Number.{number_of}
use Rattle.script_text.specs.OutputForm.{call_form, entry_form, line_of_words, of_form, open_form, reply_form}
use Rattle.script_text.specs.OutputPart.{OutPart, StandFor, StandsFor, call_parts, fixed, line_parts, mark_parts, reply_parts}
use Rattle.script_text.specs.OutputPlace.{Reading, behind_all, past_all}
use Rattle.script_text.proofs.ReadingLemmas.{past_all-append, past_all-words}
use Rattle.script_text.specs.declared.out_lines.NotYetText.{NotYetText}
use Rattle.script_text.specs.declared.out_lines.NotYetText.TheVariants as notyet
use Rattle.script_text.specs.declared.out_lines.OutLine.{OutLine}
use Rattle.script_text.specs.declared.out_lines.OutLine.TheVariants as line
use Rattle.script_text.specs.declared.out_lines.RefusalText.{RefusalText}
use Rattle.script_text.specs.declared.out_lines.RefusalText.TheVariants as refusal
use Rattle.script_text.specs.declared.out_lines.ReplyText.{ReplyText}
use Rattle.script_text.specs.declared.out_lines.ReplyText.TheVariants.{Done, Value, Absent, Full, NoSpace}
use Rattle.script_text.specs.declared.scripts.CallText.{CallText}
use Rattle.script_text.specs.declared.scripts.CallText.TheVariants.{Put, Get, Delete}

-- what holds of words that stand for these parts, whatever the words
Each : List OutPart → (List (List ℕ) → Type 0) → Type 0
Each [] P = P []
Each (part ∷ parts) P = (text : List ℕ) → StandsFor text part → Each parts (λ texts. P (text ∷ texts))

each : (parts : List OutPart) (P : List (List ℕ) → Type 0) → Each parts P → (words : List (List ℕ)) → StandFor words parts → P words
unfolding Each
each [] P all [] stand = all
each [] P all (text ∷ texts) stand = absurd stand
each (part ∷ parts) P all [] stand = absurd stand
each (part ∷ parts) P all (text ∷ texts) stand = each parts (λ words. P (text ∷ words)) (all text stand.0) texts stand.1

abbrev Reads : OutLine → List (List ℕ) → Type 0
Reads out words = line_of_words words ≡ Ok out

record Cut (words : List (List ℕ)) (parts more : List OutPart) : Type 0 where
  front : List (List ℕ)
  back : List (List ℕ)
  is : words ≡ front ++ back
  first : StandFor front parts
  last : StandFor back more

cut : (parts more : List OutPart) (words : List (List ℕ)) → StandFor words (parts ++ more) → Cut words parts more
cut [] more words stand = record { front = []; back = words; is = refl; first = tt; last = stand }
cut (part ∷ parts) more [] stand = absurd stand
cut (part ∷ parts) more (text ∷ texts) stand =
    let rest = cut parts more texts stand.1 in
    record { front = text ∷ rest.front; back = rest.back; is = ap (λ ws. text ∷ ws) rest.is; first = (stand.0, rest.first); last = rest.last }

abbrev fine : List (List ℕ) → Reading
fine words = record { words = words; fault = None }

record CallReads (call : CallText) (more front : List (List ℕ)) : Type 0 where
  past : past_all (call_form (front ++ more)).places (fine (front ++ more)) ≡ fine more
  means : (call_form (front ++ more)).means ≡ call

call_reads : (call : CallText) (more front : List (List ℕ)) → StandFor front (call_parts call) → CallReads call more front
unfolding Each
call_reads (Put key value) more front s = each _ (CallReads (Put key value) more) (λ t a u b v c. record { past = rw (a, b, c) refl; means = rw (a, b, c) refl }) front s
call_reads (Get key) more front s = each _ (CallReads (Get key) more) (λ t a u b. record { past = rw (a, b) refl; means = rw (a, b) refl }) front s
call_reads (Delete key) more front s = each _ (CallReads (Delete key) more) (λ t a u b. record { past = rw (a, b) refl; means = rw (a, b) refl }) front s

record ReplyReads (reply : ReplyText) (more front : List (List ℕ)) : Type 0 where
  past : past_all (reply_form (front ++ more)).places (fine (front ++ more)) ≡ fine more
  means : (reply_form (front ++ more)).means ≡ reply

reply_reads : (reply : ReplyText) (more front : List (List ℕ)) → StandFor front (reply_parts reply) → ReplyReads reply more front
unfolding Each
reply_reads Done more front s = each _ (ReplyReads Done more) (λ t a. record { past = rw a refl; means = rw a refl }) front s
reply_reads (Value value) more front s = each _ (ReplyReads (Value value) more) (λ t a u b. record { past = rw (a, b) refl; means = rw (a, b) refl }) front s
reply_reads Absent more front s = each _ (ReplyReads Absent more) (λ t a. record { past = rw a refl; means = rw a refl }) front s
reply_reads Full more front s = each _ (ReplyReads Full more) (λ t a. record { past = rw a refl; means = rw a refl }) front s
reply_reads (NoSpace class client begin) more front s =
    each _ (ReplyReads (NoSpace class client begin) more) (λ t a u b v c w d. record { past = rw (a, b, c, d) refl; means = rw (a, b, c, d) refl }) front s

record MarkReads (mark : Bool) (words : List (List ℕ)) : Type 0 where
  past : past_all (open_form words).places (fine words) ≡ fine []
  means : (open_form words).means ≡ mark

mark_reads : (mark : Bool) (words : List (List ℕ)) → StandFor words (mark_parts mark (fixed (codes "open") ∷ [])) → MarkReads mark words
unfolding Each
mark_reads true words s = each _ (MarkReads true) (λ t a. record { past = rw a refl; means = refl }) words s
mark_reads false words s = each _ (MarkReads false) (record { past = refl; means = refl }) words s

entry_reads : (t u : List ℕ) (words middle last : List (List ℕ)) (client count : ℕ) (call : CallText) (reply : ReplyText) (mark : Bool)
    → number_of t ≡ Some client → number_of u ≡ Some count
    → past_all (call_form words).places (fine words) ≡ fine middle → (call_form words).means ≡ call
    → past_all (reply_form middle).places (fine middle) ≡ fine last → (reply_form middle).means ≡ reply → MarkReads mark last
    → of_form (entry_form (t ∷ u ∷ words)) (t ∷ u ∷ words) ≡ Ok (line.Entry client count call reply mark)
entry_reads t u words middle last client count call reply mark a b call_past call_means reply_past reply_means marks =
    let to_middle : behind_all (call_form words).places words ≡ middle = sym (past_all-words (call_form words).places (fine words)) ∙ ap (λ (r : Reading). r.words) call_past in
    let to_last : behind_all (reply_form middle).places middle ≡ last = sym (past_all-words (reply_form middle).places (fine middle)) ∙ ap (λ (r : Reading). r.words) reply_past in
    let marked = (open_form last).places in
    let replied = (reply_form middle).places in
    rw (a, b, to_middle, to_last, past_all-append (call_form words).places (replied ++ marked) (fine words), call_past, past_all-append replied marked (fine middle), reply_past, marks.past, call_means, reply_means, marks.means) refl

entry_formed : (client count : ℕ) (call : CallText) (reply : ReplyText) (mark : Bool) (words : List (List ℕ))
    → StandFor words (line_parts (line.Entry client count call reply mark)) → Reads (line.Entry client count call reply mark) words
entry_formed client count call reply mark [] s = absurd s
entry_formed client count call reply mark (t ∷ []) s = absurd s.1
entry_formed client count call reply mark (t ∷ u ∷ []) s = absurd s.1.1
entry_formed client count call reply mark (t ∷ u ∷ v ∷ words) s =
    let marks = mark_parts mark (fixed (codes "open") ∷ []) in
    let calls = cut (call_parts call) (reply_parts reply ++ marks) words s.1.1.1 in
    let replies = cut (reply_parts reply) marks calls.back calls.last in
    let call_read = call_reads call calls.back calls.front calls.first in
    let reply_read = reply_reads reply replies.back replies.front replies.first in
    rw (s.0, calls.is) (entry_reads u v (calls.front ++ calls.back) calls.back replies.back client count call reply mark s.1.0 s.1.1.0 call_read.past call_read.means
    (rw (sym replies.is) at reply_read.past) (rw (sym replies.is) at reply_read.means) (mark_reads mark replies.back replies.last))

not_yet_formed : (who : Option ℕ) (why : NotYetText) (words : List (List ℕ)) → StandFor words (line_parts (line.NotYet who why)) → Reads (line.NotYet who why) words
unfolding Each
not_yet_formed who (notyet.Sealed epoch) words s = each _ (Reads (line.NotYet who (notyet.Sealed epoch))) (λ t a u b v c w d. rw (a, c, b, d) refl) words s
not_yet_formed who (notyet.Lost node) words s = each _ (Reads (line.NotYet who (notyet.Lost node))) (λ t a u b v c w d. rw (a, c, b, d) refl) words s
not_yet_formed who (notyet.Unchanged slot old) words s = each _ (Reads (line.NotYet who (notyet.Unchanged slot old))) (λ t a u b v c w d x e. rw (a, c, b, d, e) refl) words s

called_formed : (client count : ℕ) (call : CallText) (words : List (List ℕ)) → StandFor words (line_parts (line.Called client count call)) → Reads (line.Called client count call) words
unfolding Each
called_formed client count (Put key value) words s = each _ (Reads (line.Called client count (Put key value))) (λ t a u b v c w d x e y f. rw (a, d, b, c, e, f) refl) words s
called_formed client count (Get key) words s = each _ (Reads (line.Called client count (Get key))) (λ t a u b v c w d x e. rw (a, d, b, c, e) refl) words s
called_formed client count (Delete key) words s = each _ (Reads (line.Called client count (Delete key))) (λ t a u b v c w d x e. rw (a, d, b, c, e) refl) words s

ended_formed : (client count : ℕ) (reply : ReplyText) (words : List (List ℕ)) → StandFor words (line_parts (line.Ended client count reply)) → Reads (line.Ended client count reply) words
unfolding Each
ended_formed client count Done words s = each _ (Reads (line.Ended client count Done)) (λ t a u b v c w d. rw (a, d, b, c) refl) words s
ended_formed client count (Value value) words s = each _ (Reads (line.Ended client count (Value value))) (λ t a u b v c w d x e. rw (a, d, b, c, e) refl) words s
ended_formed client count Absent words s = each _ (Reads (line.Ended client count Absent)) (λ t a u b v c w d. rw (a, d, b, c) refl) words s
ended_formed client count Full words s = each _ (Reads (line.Ended client count Full)) (λ t a u b v c w d. rw (a, d, b, c) refl) words s
ended_formed client count (NoSpace class owner begin) words s =
    each _ (Reads (line.Ended client count (NoSpace class owner begin))) (λ t a u b v c w d x e y f z g. rw (a, d, b, c, e, f, g) refl) words s

refused_formed : (why : RefusalText) (words : List (List ℕ)) → StandFor words (line_parts (line.Refused why)) → Reads (line.Refused why) words
unfolding Each
refused_formed (refusal.Clients n) words s = each _ (Reads (line.Refused (refusal.Clients n))) (λ t a u b v c. rw (a, b, c) refl) words s
refused_formed (refusal.Unknown n) words s = each _ (Reads (line.Refused (refusal.Unknown n))) (λ t a u b v c. rw (a, b, c) refl) words s
refused_formed (refusal.Stopped n) words s = each _ (Reads (line.Refused (refusal.Stopped n))) (λ t a u b v c. rw (a, b, c) refl) words s
refused_formed (refusal.Busy n) words s = each _ (Reads (line.Refused (refusal.Busy n))) (λ t a u b v c. rw (a, b, c) refl) words s
refused_formed (refusal.Key n) words s = each _ (Reads (line.Refused (refusal.Key n))) (λ t a u b v c. rw (a, b, c) refl) words s
refused_formed (refusal.Value n) words s = each _ (Reads (line.Refused (refusal.Value n))) (λ t a u b v c. rw (a, b, c) refl) words s
refused_formed (refusal.Spent n) words s = each _ (Reads (line.Refused (refusal.Spent n))) (λ t a u b v c. rw (a, b, c) refl) words s
refused_formed (refusal.Idle n) words s = each _ (Reads (line.Refused (refusal.Idle n))) (λ t a u b v c. rw (a, b, c) refl) words s
refused_formed (refusal.Live n) words s = each _ (Reads (line.Refused (refusal.Live n))) (λ t a u b v c. rw (a, b, c) refl) words s
refused_formed (refusal.Running n) words s = each _ (Reads (line.Refused (refusal.Running n))) (λ t a u b v c. rw (a, b, c) refl) words s
refused_formed (refusal.Recovered n) words s = each _ (Reads (line.Refused (refusal.Recovered n))) (λ t a u b v c. rw (a, b, c) refl) words s
refused_formed (refusal.Node n) words s = each _ (Reads (line.Refused (refusal.Node n))) (λ t a u b v c. rw (a, b, c) refl) words s
refused_formed (refusal.Gone n) words s = each _ (Reads (line.Refused (refusal.Gone n))) (λ t a u b v c. rw (a, b, c) refl) words s
refused_formed (refusal.LastLive n) words s = each _ (Reads (line.Refused (refusal.LastLive n))) (λ t a u b v c. rw (a, b, c) refl) words s
refused_formed (refusal.Masked n) words s = each _ (Reads (line.Refused (refusal.Masked n))) (λ t a u b v c. rw (a, b, c) refl) words s
refused_formed refusal.Task words s = each _ (Reads (line.Refused refusal.Task)) (λ t a u b. rw (a, b) refl) words s
refused_formed (refusal.Sealed epoch) words s = each _ (Reads (line.Refused (refusal.Sealed epoch))) (λ t a u b v c. rw (a, b, c) refl) words s
refused_formed refusal.Other words s = each _ (Reads (line.Refused refusal.Other)) (λ t a. rw a refl) words s

write_formed : (who : Option ℕ) (node at new : ℕ) (lost : Bool) (words : List (List ℕ)) → StandFor words (line_parts (line.VerbWrite who node at new lost)) → Reads (line.VerbWrite who node at new lost) words
unfolding Each
write_formed who node at new true words s = each _ (Reads (line.VerbWrite who node at new true)) (λ t a u b v c w d x e y f z g r h. rw (a, c, g, h, b, d, e, f) refl) words s
write_formed who node at new false words s = each _ (Reads (line.VerbWrite who node at new false)) (λ t a u b v c w d x e y f. rw (a, c, b, d, e, f) refl) words s

pub line_formed : (out : OutLine) (words : List (List ℕ)) → StandFor words (line_parts out) → line_of_words words ≡ Ok out
unfolding Each
line_formed (line.Client client) words s = each _ (Reads (line.Client client)) (λ t a u b. rw (a, b) refl) words s
line_formed (line.Called client count call) words s = called_formed client count call words s
line_formed (line.Ended client count reply) words s = ended_formed client count reply words s
line_formed (line.NotYet who why) words s = not_yet_formed who why words s
line_formed (line.Took who verbs) words s = each _ (Reads (line.Took who verbs)) (λ t a u b v c. rw (a, b, c) refl) words s
line_formed (line.Stopped client) words s = each _ (Reads (line.Stopped client)) (λ t a u b. rw (a, b) refl) words s
line_formed (line.Lost node) words s = each _ (Reads (line.Lost node)) (λ t a u b. rw (a, b) refl) words s
line_formed line.TaskSettle words s = each _ (Reads line.TaskSettle) (λ t a u b. rw (a, b) refl) words s
line_formed (line.TaskRecover client) words s = each _ (Reads (line.TaskRecover client)) (λ t a u b v c. rw (a, b, c) refl) words s
line_formed (line.Recovered client) words s = each _ (Reads (line.Recovered client)) (λ t a u b. rw (a, b) refl) words s
line_formed (line.Opened epoch) words s = each _ (Reads (line.Opened epoch)) (λ t a u b. rw (a, b) refl) words s
line_formed (line.Waiting client begin) words s = each _ (Reads (line.Waiting client begin)) (λ t a u b v c. rw (a, b, c) refl) words s
line_formed (line.VerbRead who node at found) words s = each _ (Reads (line.VerbRead who node at found)) (λ t a u b v c w d x e y f z g. rw (a, c, f, b, d, e, g) refl) words s
line_formed (line.VerbWrite who node at new lost) words s = write_formed who node at new lost words s
line_formed (line.VerbSwap who node at expect fresh found) words s = each _ (Reads (line.VerbSwap who node at expect fresh found)) (λ t a u b v c w d x e y f z g r h k i. rw (a, c, h, b, d, e, f, g, i) refl) words s
line_formed (line.VerbAdd who node at amount found) words s = each _ (Reads (line.VerbAdd who node at amount found)) (λ t a u b v c w d x e y f z g r h. rw (a, c, g, b, d, e, f, h) refl) words s
line_formed (line.Word node at stored) words s = each _ (Reads (line.Word node at stored)) (λ t a u b v c w d. rw (a, c, b, d) refl) words s
line_formed (line.Dumped count) words s = each _ (Reads (line.Dumped count)) (λ t a u b. rw (a, b) refl) words s
line_formed (line.Blocks unused owned awaiting released) words s = each _ (Reads (line.Blocks unused owned awaiting released)) (λ t a u b v c w d x e y f z g r h k i. rw (a, b, d, f, h, c, e, g, i) refl) words s
line_formed (line.Objects stock present held) words s = each _ (Reads (line.Objects stock present held)) (λ t a u b v c w d x e y f z g. rw (a, b, d, f, c, e, g) refl) words s
line_formed (line.History entries) words s = each _ (Reads (line.History entries)) (λ t a u b. rw (a, b) refl) words s
line_formed (line.Entry client count call reply mark) words s = entry_formed client count call reply mark words s
line_formed (line.Refused why) words s = refused_formed why words s
line_formed line.End words s = each _ (Reads line.End) (λ t a. rw a refl) words s
line_formed (line.Filled node) words s = each _ (Reads (line.Filled node)) (λ t a u b. rw (a, b) refl) words s
line_formed (line.Joined node) words s = each _ (Reads (line.Joined node)) (λ t a u b. rw (a, b) refl) words s
line_formed (line.TaskJoin node) words s = each _ (Reads (line.TaskJoin node)) (λ t a u b v c. rw (a, b, c) refl) words s
