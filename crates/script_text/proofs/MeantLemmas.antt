-- What is read stands in the words: a line that is read means what it is read as.
use Rattle.std.proofs.Common.{◌≡◌, ℕ, rules, Bool, true, false, List, [], ◌∷◌, ◌++◌, codes, Option, Some, None, Ok, refl, sym, ap, subst, ◌∙◌}
use Rattle.std.specs.Prelude.{if◌then◌else◌, bytes_eq}
use Rattle.std.proofs.lemmas.List.{append-nil}
use Rattle.std.proofs.lemmas.Slice.Eq.{bytes_eq-Decides}
use Rattle.text_lines.specs.Number.{number_of}
use Rattle.script_text.specs.OutputForm.{Form, Numbered, add_form, behind_word, call_form, form, named_call, read_form, swap_form, write_form, named_not_yet, named_reply, named_task, named_verb, fault_or, left_fault, line_form, line_name, line_names, line_of_words, lost_form, name_among, name_text, named_line, not_yet_form, number_refusal, numbered_among, numbered_refusals, open_form, refusal_of, reply_form, sealed_refusal, task_form, verb_form}
use Rattle.script_text.specs.OutputMeaning.{IsNamed, WordsMean}
use Rattle.script_text.specs.OutputPart.{OutPart, StandFor, StandsFor, actor, answer, bytes, call_parts, fixed, line_parts, mark_parts, not_yet_parts, number, refusal_parts, reply_parts, word}
use Rattle.script_text.specs.OutputPlace.{ActorDue, AnswerDue, AnyWords, BytesDue, Exactly, NumberDue, Place, Reading, Unknown, WordDue, actor_in, actor_of, answer_in, behind, behind_all, bytes_in, first_fault, number_in, past, past_all, place_fault, rest, unless_some, value_or, word_fault, word_in}
use Rattle.script_text.specs.WordValue.{word_of}
use Rattle.script_text.proofs.FormedLemmas.{line_formed}
use Rattle.script_text.specs.declared.faults.BadKind.{BadKind}
use Rattle.script_text.specs.declared.faults.BadKind.TheVariants as kind
use Rattle.script_text.specs.declared.out_lines.NotYetText.TheVariants as notyet
use Rattle.script_text.specs.declared.out_lines.OutLine.{OutLine}
use Rattle.script_text.specs.declared.out_lines.OutLine.TheVariants as line
use Rattle.script_text.specs.declared.out_lines.RefusalText.{RefusalText}
use Rattle.script_text.specs.declared.out_lines.RefusalText.TheVariants as refusal
use Rattle.script_text.specs.declared.out_lines.ReplyText.TheVariants.{Done, Value, Absent, Full, NoSpace}
use Rattle.script_text.specs.declared.scripts.CallText.TheVariants.{Put, Get, Delete}
use Rattle.script_text.specs.declared.out_names.LineName.{LineName}
use Rattle.script_text.specs.declared.out_names.LineName.TheVariants as name

-- words without a fault

-- each word is what is due at its place, and there are as many
abbrev Fit : List Place → List (List ℕ) → Type 0
Fit (AnyWords ∷ places) words = Unit {0}
Fit [] [] = Unit {0}
Fit [] (text ∷ texts) = ⊥
Fit (place ∷ places) [] = ⊥
Fit (place ∷ places) (text ∷ texts) = (word_fault place text ≡ None) × Fit places texts

no_fault : (a b : Option BadKind) → first_fault a b ≡ None → (a ≡ None) × (b ≡ None)
no_fault a None is = (is, refl)
no_fault None (Some b) is = cc
no_fault (Some a) (Some b) is = cc

none_left : (words : List (List ℕ)) → left_fault words ≡ None → Fit [] words
none_left [] is = tt
none_left (text ∷ texts) is = cc

place_fits : (place : Place) (places : List Place) (words : List (List ℕ)) → place_fault place words ≡ None → Fit places (behind place words) → Fit (place ∷ places) words
place_fits AnyWords places words is fit = tt
place_fits NumberDue places [] is fit = cc
place_fits ActorDue places [] is fit = cc
place_fits BytesDue places [] is fit = cc
place_fits WordDue places [] is fit = cc
place_fits AnswerDue places [] is fit = cc
place_fits (Exactly due) places [] is fit = cc
place_fits Unknown places [] is fit = cc
place_fits NumberDue places (text ∷ texts) is fit = (is, fit)
place_fits ActorDue places (text ∷ texts) is fit = (is, fit)
place_fits BytesDue places (text ∷ texts) is fit = (is, fit)
place_fits WordDue places (text ∷ texts) is fit = (is, fit)
place_fits AnswerDue places (text ∷ texts) is fit = (is, fit)
place_fits (Exactly due) places (text ∷ texts) is fit = (is, fit)
place_fits Unknown places (text ∷ texts) is fit = (is, fit)

all_fit : (places : List Place) (r : Reading) → first_fault (past_all places r).fault (left_fault (past_all places r).words) ≡ None → (r.fault ≡ None) × Fit places r.words
all_fit [] r is =
    let parts = no_fault r.fault (left_fault r.words) is in
    (parts.0, none_left r.words parts.1)
all_fit (place ∷ places) r is =
    let later = all_fit places (past place r) is in
    let parts = no_fault r.fault (place_fault place r.words) later.0 in
    (parts.0, place_fits place places r.words parts.1 later.1)

record Ended (fault : Option BadKind) (means out : OutLine) : Type 0 where
  none : fault ≡ None
  is : means ≡ out

fault_or-ok : (fault : Option BadKind) (means out : OutLine) → fault_or fault means ≡ Ok out → Ended fault means out
fault_or-ok None means out is = record { none = refl; is = cc }
fault_or-ok (Some fault) means out is = cc

-- a word without a fault stands for a part

abbrev part_in : Place → List (List ℕ) → OutPart
part_in NumberDue words = number (number_in words)
part_in ActorDue words = actor (actor_in words)
part_in BytesDue words = bytes (bytes_in words)
part_in WordDue words = word (word_in words)
part_in AnswerDue words = answer (answer_in words)
part_in (Exactly due) words = fixed due
part_in Unknown words = fixed []
part_in AnyWords words = fixed []

abbrev parts_in : List Place → List (List ℕ) → List OutPart
parts_in [] words = []
parts_in (place ∷ places) words = part_in place words ∷ parts_in places (rest words)

known_value : {A : Type 0} (o : Option A) (fault : BadKind) (other : A) → unless_some o fault ≡ None → o ≡ Some (value_or o other)
known_value (Some value) fault other is = refl
known_value None fault other is = cc

exact_word : (text due : List ℕ) (same : Bool) → bytes_eq text due ≡ same → (if same then None else Some kind.Word) ≡ None → text ≡ due
exact_word text due true same is = search (rules, bytes_eq-Decides)
exact_word text due false same is = cc

stands : (place : Place) (text : List ℕ) (texts : List (List ℕ)) → (place ≡ AnyWords → ⊥) → word_fault place text ≡ None → StandsFor text (part_in place (text ∷ texts))
stands NumberDue text texts plain is = known_value (number_of text) kind.Number 0 is
stands ActorDue text texts plain is = known_value _ kind.Number None is
stands BytesDue text texts plain is = known_value _ kind.Hex [] is
stands WordDue text texts plain is = known_value (word_of text) kind.Hex 0 is
stands AnswerDue text texts plain is = known_value _ kind.Hex None is
stands (Exactly due) text texts plain is = exact_word text due (bytes_eq text due) refl is
stands Unknown text texts plain is = cc
stands AnyWords text texts plain is = absurd (plain refl)

abbrev ArePlain : List Place → Type 0
ArePlain [] = Unit {0}
ArePlain (AnyWords ∷ places) = ⊥
ArePlain (place ∷ places) = ArePlain places

-- words that fit these places stand for the parts, and the words behind them fit the others
record Meant (parts : List OutPart) (places more : List Place) (words : List (List ℕ)) : Type 0 where
  front : List (List ℕ)
  back : List (List ℕ)
  is : words ≡ front ++ back
  stand : StandFor front parts
  fit : Fit more back
  behind : behind_all places words ≡ back

meant : (places more : List Place) (words : List (List ℕ)) → ArePlain places → Fit (places ++ more) words → Meant (parts_in places words) places more words
meant [] more words plain fit = record { front = []; back = words; is = refl; stand = tt; fit = fit; behind = refl }
meant (AnyWords ∷ places) more words plain fit = absurd plain
meant (place ∷ places) more [] plain fit = absurd fit
meant (place ∷ places) more (text ∷ texts) plain fit =
    let later = meant places more texts plain fit.1 in
    record {
      front = text ∷ later.front;
      back = later.back;
      is = ap (λ ws. text ∷ ws) later.is;
      stand = (stands place text texts (λ e. cc) fit.0, later.stand);
      fit = later.fit;
      behind = later.behind;
    }

-- words that fit a form mean what the form means

abbrev FormMeant : {A : Type 0} → (A → List OutPart) → Form A → List Place → List (List ℕ) → Type 0
FormMeant parts_of form more words = Fit (form.places ++ more) words → Meant (parts_of form.means) form.places more words

by_form : {A : Type 0} (parts_of : A → List OutPart) (found due : Form A) (more : List Place) (words : List (List ℕ)) → found ≡ due → FormMeant parts_of due more words → FormMeant parts_of found more words
by_form parts_of found due more words is meant_by = subst (λ f. FormMeant parts_of f more words) (sym is) meant_by

never : {P : Type 0} → Some kind.Word ≡ None → P
never is = cc

split : {P : Type 0} (b : Bool) → (b ≡ true → P) → (b ≡ false → P) → P
split true hit miss = hit refl
split false hit miss = miss refl

named_call_meant : (more : List Place) (name : List ℕ) (ws : List (List ℕ)) → FormMeant call_parts (named_call name ws) more (name ∷ ws)
named_call_meant more name ws =
    split (bytes_eq name (codes "put")) (λ hit. by_form call_parts (named_call name ws) (form (Exactly (codes "put") ∷ BytesDue ∷ BytesDue ∷ []) (Put (bytes_in ws) (bytes_in (rest ws)))) more (name ∷ ws) (rw hit refl) (meant (Exactly (codes "put") ∷ BytesDue ∷ BytesDue ∷ []) more (name ∷ ws) tt)) (λ miss0.
    split (bytes_eq name (codes "get")) (λ hit. by_form call_parts (named_call name ws) (form (Exactly (codes "get") ∷ BytesDue ∷ []) (Get (bytes_in ws))) more (name ∷ ws) (rw (miss0, hit) refl) (meant (Exactly (codes "get") ∷ BytesDue ∷ []) more (name ∷ ws) tt)) (λ miss1.
    split (bytes_eq name (codes "delete")) (λ hit. by_form call_parts (named_call name ws) (form (Exactly (codes "delete") ∷ BytesDue ∷ []) (Delete (bytes_in ws))) more (name ∷ ws) (rw (miss0, miss1, hit) refl) (meant (Exactly (codes "delete") ∷ BytesDue ∷ []) more (name ∷ ws) tt)) (λ miss2.
    by_form call_parts (named_call name ws) (form (Unknown ∷ []) (Get [])) more (name ∷ ws) (rw (miss0, miss1, miss2) refl) (λ fit. never fit.0))))

call_meant : (more : List Place) (words : List (List ℕ)) → FormMeant call_parts (call_form words) more words
call_meant more [] fit = absurd fit
call_meant more (name ∷ ws) fit = named_call_meant more name ws fit

named_reply_meant : (more : List Place) (name : List ℕ) (ws : List (List ℕ)) → FormMeant reply_parts (named_reply name ws) more (name ∷ ws)
named_reply_meant more name ws =
    split (bytes_eq name (codes "Done")) (λ hit. by_form reply_parts (named_reply name ws) (form (Exactly (codes "Done") ∷ []) (Done)) more (name ∷ ws) (rw hit refl) (meant (Exactly (codes "Done") ∷ []) more (name ∷ ws) tt)) (λ miss0.
    split (bytes_eq name (codes "Value")) (λ hit. by_form reply_parts (named_reply name ws) (form (Exactly (codes "Value") ∷ BytesDue ∷ []) (Value (bytes_in ws))) more (name ∷ ws) (rw (miss0, hit) refl) (meant (Exactly (codes "Value") ∷ BytesDue ∷ []) more (name ∷ ws) tt)) (λ miss1.
    split (bytes_eq name (codes "Absent")) (λ hit. by_form reply_parts (named_reply name ws) (form (Exactly (codes "Absent") ∷ []) (Absent)) more (name ∷ ws) (rw (miss0, miss1, hit) refl) (meant (Exactly (codes "Absent") ∷ []) more (name ∷ ws) tt)) (λ miss2.
    split (bytes_eq name (codes "Full")) (λ hit. by_form reply_parts (named_reply name ws) (form (Exactly (codes "Full") ∷ []) (Full)) more (name ∷ ws) (rw (miss0, miss1, miss2, hit) refl) (meant (Exactly (codes "Full") ∷ []) more (name ∷ ws) tt)) (λ miss3.
    split (bytes_eq name (codes "NoSpace")) (λ hit. by_form reply_parts (named_reply name ws) (form (Exactly (codes "NoSpace") ∷ NumberDue ∷ NumberDue ∷ WordDue ∷ []) (NoSpace (number_in ws) (number_in (rest ws)) (word_in (rest (rest ws))))) more (name ∷ ws) (rw (miss0, miss1, miss2, miss3, hit) refl) (meant (Exactly (codes "NoSpace") ∷ NumberDue ∷ NumberDue ∷ WordDue ∷ []) more (name ∷ ws) tt)) (λ miss4.
    by_form reply_parts (named_reply name ws) (form (Unknown ∷ []) (Done)) more (name ∷ ws) (rw (miss0, miss1, miss2, miss3, miss4) refl) (λ fit. never fit.0))))))

reply_meant : (more : List Place) (words : List (List ℕ)) → FormMeant reply_parts (reply_form words) more words
reply_meant more [] fit = absurd fit
reply_meant more (name ∷ ws) fit = named_reply_meant more name ws fit

named_not_yet_meant : (more : List Place) (name : List ℕ) (ws : List (List ℕ)) → FormMeant not_yet_parts (named_not_yet name ws) more (name ∷ ws)
named_not_yet_meant more name ws =
    split (bytes_eq name (codes "Sealed")) (λ hit. by_form not_yet_parts (named_not_yet name ws) (form (Exactly (codes "Sealed") ∷ WordDue ∷ []) (notyet.Sealed (word_in ws))) more (name ∷ ws) (rw hit refl) (meant (Exactly (codes "Sealed") ∷ WordDue ∷ []) more (name ∷ ws) tt)) (λ miss0.
    split (bytes_eq name (codes "Lost")) (λ hit. by_form not_yet_parts (named_not_yet name ws) (form (Exactly (codes "Lost") ∷ NumberDue ∷ []) (notyet.Lost (number_in ws))) more (name ∷ ws) (rw (miss0, hit) refl) (meant (Exactly (codes "Lost") ∷ NumberDue ∷ []) more (name ∷ ws) tt)) (λ miss1.
    split (bytes_eq name (codes "Unchanged")) (λ hit. by_form not_yet_parts (named_not_yet name ws) (form (Exactly (codes "Unchanged") ∷ NumberDue ∷ WordDue ∷ []) (notyet.Unchanged (number_in ws) (word_in (rest ws)))) more (name ∷ ws) (rw (miss0, miss1, hit) refl) (meant (Exactly (codes "Unchanged") ∷ NumberDue ∷ WordDue ∷ []) more (name ∷ ws) tt)) (λ miss2.
    by_form not_yet_parts (named_not_yet name ws) (form (Unknown ∷ []) (notyet.Lost 0)) more (name ∷ ws) (rw (miss0, miss1, miss2) refl) (λ fit. never fit.0))))

not_yet_meant : (more : List Place) (words : List (List ℕ)) → FormMeant not_yet_parts (not_yet_form words) more words
not_yet_meant more [] fit = absurd fit
not_yet_meant more (name ∷ ws) fit = named_not_yet_meant more name ws fit

-- the words are over behind the last place

over : (words : List (List ℕ)) → Fit [] words → words ≡ []
over [] fit = refl
over (text ∷ texts) fit = absurd fit

whole : (parts : List OutPart) (places : List Place) (words : List (List ℕ)) → Meant parts places [] words → StandFor words parts
whole parts places words m =
    let is : words ≡ m.front = m.is ∙ ap (λ back. m.front ++ back) (over m.back m.fit) ∙ append-nil m.front in
    subst (λ ws. StandFor ws parts) (sym is) m.stand

no_more : (places : List Place) (words : List (List ℕ)) → Fit places words → Fit (places ++ []) words
no_more places words fit = subst (λ ps. Fit ps words) (sym (append-nil places)) fit

plain_meant : (places : List Place) (words : List (List ℕ)) → ArePlain places → Fit places words → StandFor words (parts_in places words)
plain_meant places words plain fit = whole (parts_in places words) places words (meant places [] words plain (no_more places words fit))

both_stand : (front back : List (List ℕ)) (parts more : List OutPart) → StandFor front parts → StandFor back more → StandFor (front ++ back) (parts ++ more)
both_stand [] back [] more a b = b
both_stand [] back (part ∷ parts) more a b = absurd a
both_stand (text ∷ texts) back [] more a b = absurd a
both_stand (text ∷ texts) back (part ∷ parts) more a b = (a.0, both_stand texts back parts more a.1 b)

-- words that stand for parts, and those behind them
then_stand : (parts others : List OutPart) (places more : List Place) (words : List (List ℕ)) → Meant parts places more words → StandFor (behind_all places words) others → StandFor words (parts ++ others)
then_stand parts others places more words m later =
    subst (λ ws. StandFor ws (parts ++ others)) (sym m.is) (both_stand m.front m.back parts others m.stand (subst (λ back. StandFor back others) m.behind later))

later_fit : (parts : List OutPart) (places more : List Place) (words : List (List ℕ)) → Meant parts places more words → Fit more (behind_all places words)
later_fit parts places more words m = subst (λ back. Fit more back) (sym m.behind) m.fit

-- marks

open_meant : (words : List (List ℕ)) → Fit (open_form words).places words → StandFor words (mark_parts (open_form words).means (fixed (codes "open") ∷ []))
open_meant [] fit = tt
open_meant (text ∷ texts) fit = plain_meant (Exactly (codes "open") ∷ []) (text ∷ texts) tt fit

lost_meant : (words : List (List ℕ)) → Fit (lost_form words).places words → StandFor words (mark_parts (lost_form words).means (fixed (codes "=") ∷ fixed (codes "lost") ∷ []))
lost_meant [] fit = tt
lost_meant (text ∷ texts) fit = plain_meant (Exactly (codes "=") ∷ Exactly (codes "lost") ∷ []) (text ∷ texts) tt fit

-- tasks

abbrev TaskMeant : List (List ℕ) → Form OutLine → Type 0
TaskMeant words found = Fit found.places words → WordsMean (codes "task" ∷ words) found.means

task_meant : (words : List (List ℕ)) → TaskMeant words (task_form words)
task_meant [] = λ fit. absurd fit
task_meant (name ∷ ws) =
    split (bytes_eq name (codes "settle")) (λ hit.
    let is : named_task name ws ≡ form (Exactly (codes "settle") ∷ []) line.TaskSettle = rw hit refl in
    subst (TaskMeant (name ∷ ws)) (sym is) (λ fit. (refl, plain_meant (Exactly (codes "settle") ∷ []) (name ∷ ws) tt fit))) (λ miss0.
    split (bytes_eq name (codes "recover")) (λ hit.
    let is : named_task name ws ≡ form (Exactly (codes "recover") ∷ NumberDue ∷ []) (line.TaskRecover (number_in ws)) = rw (miss0, hit) refl in
    subst (TaskMeant (name ∷ ws)) (sym is) (λ fit. (refl, plain_meant (Exactly (codes "recover") ∷ NumberDue ∷ []) (name ∷ ws) tt fit))) (λ miss1.
    split (bytes_eq name (codes "join")) (λ hit.
    let is : named_task name ws ≡ form (Exactly (codes "join") ∷ NumberDue ∷ []) (line.TaskJoin (number_in ws)) = rw (miss0, miss1, hit) refl in
    subst (TaskMeant (name ∷ ws)) (sym is) (λ fit. (refl, plain_meant (Exactly (codes "join") ∷ NumberDue ∷ []) (name ∷ ws) tt fit))) (λ miss2.
    let is : named_task name ws ≡ form (Unknown ∷ []) line.TaskSettle = rw (miss0, miss1, miss2) refl in
    subst (TaskMeant (name ∷ ws)) (sym is) (λ fit. never fit.0))))

-- verbs

abbrev VerbMeant : List ℕ → List (List ℕ) → Form OutLine → Type 0
VerbMeant text words found = Fit found.places words → WordsMean (codes "v" ∷ text ∷ words) found.means

write_meant : (name : List ℕ) (ws : List (List ℕ)) → Fit (Exactly (codes "write") ∷ NumberDue ∷ NumberDue ∷ WordDue ∷ (lost_form (rest (rest (rest ws)))).places) (name ∷ ws)
    → StandFor (name ∷ ws) (fixed (codes "write") ∷ number (number_in ws) ∷ number (number_in (rest ws)) ∷ word (word_in (rest (rest ws))) ∷ mark_parts (lost_form (rest (rest (rest ws)))).means (fixed (codes "=") ∷ fixed (codes "lost") ∷ []))
write_meant name ws fit =
    let places = Exactly (codes "write") ∷ NumberDue ∷ NumberDue ∷ WordDue ∷ [] in
    let marks = (lost_form (rest (rest (rest ws)))).places in
    let m = meant places marks (name ∷ ws) tt fit in
    then_stand (parts_in places (name ∷ ws)) _ places marks (name ∷ ws) m (lost_meant (rest (rest (rest ws))) (later_fit (parts_in places (name ∷ ws)) places marks (name ∷ ws) m))

verb_meant : (who : Option ℕ) (text : List ℕ) (words : List (List ℕ)) → actor_of text ≡ Some who → VerbMeant text words (verb_form who words)
verb_meant who text [] is_actor = λ fit. absurd fit
verb_meant who text (name ∷ ws) is_actor =
    split (bytes_eq name (codes "read")) (λ hit.
    let is : named_verb who name ws ≡ behind_word (codes "read") (read_form who ws) = rw hit refl in
    subst (VerbMeant text (name ∷ ws)) (sym is) (λ fit. (refl, (is_actor, plain_meant (behind_word (codes "read") (read_form who ws)).places (name ∷ ws) tt fit)))) (λ miss0.
    split (bytes_eq name (codes "write")) (λ hit.
    let is : named_verb who name ws ≡ behind_word (codes "write") (write_form who ws) = rw (miss0, hit) refl in
    subst (VerbMeant text (name ∷ ws)) (sym is) (λ fit. (refl, (is_actor, write_meant name ws fit)))) (λ miss1.
    split (bytes_eq name (codes "swap")) (λ hit.
    let is : named_verb who name ws ≡ behind_word (codes "swap") (swap_form who ws) = rw (miss0, miss1, hit) refl in
    subst (VerbMeant text (name ∷ ws)) (sym is) (λ fit. (refl, (is_actor, plain_meant (behind_word (codes "swap") (swap_form who ws)).places (name ∷ ws) tt fit)))) (λ miss2.
    split (bytes_eq name (codes "add")) (λ hit.
    let is : named_verb who name ws ≡ behind_word (codes "add") (add_form who ws) = rw (miss0, miss1, miss2, hit) refl in
    subst (VerbMeant text (name ∷ ws)) (sym is) (λ fit. (refl, (is_actor, plain_meant (behind_word (codes "add") (add_form who ws)).places (name ∷ ws) tt fit)))) (λ miss3.
    let is : named_verb who name ws ≡ form (Unknown ∷ []) line.TaskSettle = rw (miss0, miss1, miss2, miss3) refl in
    subst (VerbMeant text (name ∷ ws)) (sym is) (λ fit. never fit.0)))))

-- refusals

abbrev RefusalStands : List (List ℕ) → RefusalText → Type 0
RefusalStands words why = IsNamed why → StandFor words (refusal_parts why)

abbrev AreNumbered : List Numbered → Type 0
AreNumbered [] = Unit {0}
AreNumbered (first ∷ refusals) = ((n : ℕ) → refusal_parts (first.refusal_of n) ≡ fixed first.name ∷ number n ∷ []) × AreNumbered refusals

numbered_stands : (refusals : List Numbered) (name text : List ℕ) (n : ℕ) → AreNumbered refusals → number_of text ≡ Some n → RefusalStands (name ∷ text ∷ []) (numbered_among refusals name n)
numbered_stands [] name text n are is = λ named. absurd named
numbered_stands (first ∷ refusals) name text n are is =
    split (bytes_eq name first.name) (λ hit.
    let found : numbered_among (first ∷ refusals) name n ≡ first.refusal_of n = rw hit refl in
    let here : StandFor (name ∷ text ∷ []) (fixed first.name ∷ number n ∷ []) = (exact_word name first.name true hit refl, (is, tt)) in
    subst (RefusalStands (name ∷ text ∷ [])) (sym found) (λ named. subst (StandFor (name ∷ text ∷ [])) (sym (are.0 n)) here)) (λ miss.
    let found : numbered_among (first ∷ refusals) name n ≡ numbered_among refusals name n = rw miss refl in
    subst (RefusalStands (name ∷ text ∷ [])) (sym found) (numbered_stands refusals name text n are.1 is))

all_numbered : AreNumbered numbered_refusals
all_numbered = (λ n. refl, (λ n. refl, (λ n. refl, (λ n. refl, (λ n. refl, (λ n. refl, (λ n. refl, (λ n. refl, (λ n. refl, (λ n. refl, (λ n. refl, (λ n. refl, (λ n. refl, (λ n. refl, (λ n. refl, tt)))))))))))))))

number_stands : (name text : List ℕ) (o : Option ℕ) → number_of text ≡ o → RefusalStands (name ∷ text ∷ []) (number_refusal name o)
number_stands name text None is = λ named. absurd named
number_stands name text (Some n) is = numbered_stands numbered_refusals name text n all_numbered is

sealed_stands : (name text : List ℕ) (o : Option ℕ) → bytes_eq name (codes "sealed") ≡ true → word_of text ≡ o → RefusalStands (name ∷ text ∷ []) (sealed_refusal o)
sealed_stands name text None hit is = λ named. absurd named
sealed_stands name text (Some epoch) hit is = λ named. (exact_word name (codes "sealed") true hit refl, (is, tt))

refusal_stands : (words : List (List ℕ)) → RefusalStands words (refusal_of words)
refusal_stands [] = λ named. absurd named
refusal_stands (name ∷ []) =
    split (bytes_eq name (codes "task")) (λ hit.
    let found : refusal_of (name ∷ []) ≡ refusal.Task = rw hit refl in
    subst (RefusalStands (name ∷ [])) (sym found) (λ named. (exact_word name (codes "task") true hit refl, tt))) (λ miss.
    let found : refusal_of (name ∷ []) ≡ refusal.Other = rw miss refl in
    subst (RefusalStands (name ∷ [])) (sym found) (λ named. absurd named))
refusal_stands (name ∷ text ∷ []) =
    split (bytes_eq name (codes "sealed")) (λ hit.
    let found : refusal_of (name ∷ text ∷ []) ≡ sealed_refusal (word_of text) = rw hit refl in
    subst (RefusalStands (name ∷ text ∷ [])) (sym found) (sealed_stands name text (word_of text) hit refl)) (λ miss.
    let found : refusal_of (name ∷ text ∷ []) ≡ number_refusal name (number_of text) = rw miss refl in
    subst (RefusalStands (name ∷ text ∷ [])) (sym found) (number_stands name text (number_of text) refl))
refusal_stands (name ∷ text ∷ more ∷ words) = λ named. absurd named

abbrev RefusedMeans : List (List ℕ) → RefusalText → Type 0
RefusedMeans words why = WordsMean (codes "refused" ∷ words) (line.Refused why)

not_named : (why : RefusalText) → why ≡ refusal.Other → IsNamed why → ⊥
not_named why is named = subst IsNamed is named

-- words behind `refused` of which none of the known forms is made
other_meant : (words : List (List ℕ)) → refusal_of words ≡ refusal.Other → RefusedMeans words refusal.Other
other_meant words is = (
  refl,
  λ why named stand.
      let read : Ok (line.Refused (refusal_of words)) ≡ Ok (line.Refused why) = line_formed (line.Refused why) (codes "refused" ∷ words) stand in
      let same : why ≡ refusal_of words = cc in
      not_named why (same ∙ is) named,
)

refused_meant : (words : List (List ℕ)) (why : RefusalText) → refusal_of words ≡ why → RefusalStands words why → RefusedMeans words why
refused_meant words refusal.Other is stand = other_meant words is
refused_meant words (refusal.Clients n) is stand = (refl, stand tt)
refused_meant words (refusal.Unknown n) is stand = (refl, stand tt)
refused_meant words (refusal.Stopped n) is stand = (refl, stand tt)
refused_meant words (refusal.Busy n) is stand = (refl, stand tt)
refused_meant words (refusal.Key n) is stand = (refl, stand tt)
refused_meant words (refusal.Value n) is stand = (refl, stand tt)
refused_meant words (refusal.Spent n) is stand = (refl, stand tt)
refused_meant words (refusal.Idle n) is stand = (refl, stand tt)
refused_meant words (refusal.Live n) is stand = (refl, stand tt)
refused_meant words (refusal.Running n) is stand = (refl, stand tt)
refused_meant words (refusal.Recovered n) is stand = (refl, stand tt)
refused_meant words (refusal.Node n) is stand = (refl, stand tt)
refused_meant words (refusal.Gone n) is stand = (refl, stand tt)
refused_meant words (refusal.LastLive n) is stand = (refl, stand tt)
refused_meant words (refusal.Masked n) is stand = (refl, stand tt)
refused_meant words refusal.Task is stand = (refl, stand tt)
refused_meant words (refusal.Sealed epoch) is stand = (refl, stand tt)

-- lines

form_meant : {A : Type 0} (parts_of : A → List OutPart) (due : Form A) (words : List (List ℕ)) → FormMeant parts_of due [] words → Fit due.places words → StandFor words (parts_of due.means)
form_meant parts_of due words meant_by fit = whole (parts_of due.means) due.places words (meant_by (no_more due.places words fit))

abbrev LineMeant : LineName → List (List ℕ) → Type 0
LineMeant n words = Fit (line_form n words).places words → WordsMean (name_text n ∷ words) (line_form n words).means

called_meant : (words : List (List ℕ)) → LineMeant name.Called words
called_meant [] fit = absurd fit
called_meant (t ∷ []) fit = absurd fit.1
called_meant (t ∷ u ∷ words) fit =
    (refl, (known_value (number_of t) kind.Number 0 fit.0, (known_value (number_of u) kind.Number 0 fit.1.0, form_meant call_parts (call_form words) words (call_meant [] words) fit.1.1)))

ended_meant : (words : List (List ℕ)) → LineMeant name.Ended words
ended_meant [] fit = absurd fit
ended_meant (t ∷ []) fit = absurd fit.1
ended_meant (t ∷ u ∷ words) fit =
    (refl, (known_value (number_of t) kind.Number 0 fit.0, (known_value (number_of u) kind.Number 0 fit.1.0, form_meant reply_parts (reply_form words) words (reply_meant [] words) fit.1.1)))

not_yet_line_meant : (words : List (List ℕ)) → LineMeant name.NotYet words
not_yet_line_meant [] fit = absurd fit
not_yet_line_meant (t ∷ words) fit = (refl, (known_value (actor_of t) kind.Number None fit.0, form_meant not_yet_parts (not_yet_form words) words (not_yet_meant [] words) fit.1))

verb_line_meant : (words : List (List ℕ)) → LineMeant name.Verb words
verb_line_meant [] fit = absurd fit
verb_line_meant (t ∷ words) fit = verb_meant (actor_in (t ∷ words)) t words (known_value (actor_of t) kind.Number None fit.0) fit.1

entry_meant : (words : List (List ℕ)) → LineMeant name.Entry words
entry_meant [] fit = absurd fit
entry_meant (t ∷ []) fit = absurd fit.1
entry_meant (t ∷ u ∷ words) fit =
    let call = call_form words in
    let middle = behind_all call.places words in
    let reply = reply_form middle in
    let last = behind_all reply.places middle in
    let mark = open_form last in
    let calls = call_meant (reply.places ++ mark.places) words fit.1.1 in
    let replies = reply_meant mark.places middle (later_fit (call_parts call.means) call.places (reply.places ++ mark.places) words calls) in
    let marks = open_meant last (later_fit (reply_parts reply.means) reply.places mark.places middle replies) in
    let replied = then_stand (reply_parts reply.means) (mark_parts mark.means (fixed (codes "open") ∷ [])) reply.places mark.places middle replies marks in
    let called = then_stand (call_parts call.means) (reply_parts reply.means ++ mark_parts mark.means (fixed (codes "open") ∷ [])) call.places (reply.places ++ mark.places) words calls replied in
    (refl, (known_value (number_of t) kind.Number 0 fit.0, (known_value (number_of u) kind.Number 0 fit.1.0, called)))

line_meant : (n : LineName) (words : List (List ℕ)) → LineMeant n words
line_meant name.Client words = λ fit. (refl, plain_meant (NumberDue ∷ []) words tt fit)
line_meant name.Called words = called_meant words
line_meant name.Ended words = ended_meant words
line_meant name.NotYet words = not_yet_line_meant words
line_meant name.Took words = λ fit. (refl, plain_meant (ActorDue ∷ NumberDue ∷ []) words tt fit)
line_meant name.Stopped words = λ fit. (refl, plain_meant (NumberDue ∷ []) words tt fit)
line_meant name.Lost words = λ fit. (refl, plain_meant (NumberDue ∷ []) words tt fit)
line_meant name.Task words = task_meant words
line_meant name.Recovered words = λ fit. (refl, plain_meant (NumberDue ∷ []) words tt fit)
line_meant name.Opened words = λ fit. (refl, plain_meant (WordDue ∷ []) words tt fit)
line_meant name.Waiting words = λ fit. (refl, plain_meant (NumberDue ∷ WordDue ∷ []) words tt fit)
line_meant name.Verb words = verb_line_meant words
line_meant name.Word words = λ fit. (refl, plain_meant (NumberDue ∷ NumberDue ∷ WordDue ∷ []) words tt fit)
line_meant name.Dumped words = λ fit. (refl, plain_meant (NumberDue ∷ []) words tt fit)
line_meant name.Blocks words = λ fit. (refl, plain_meant (Exactly (codes "unused") ∷ NumberDue ∷ Exactly (codes "owned") ∷ NumberDue ∷ Exactly (codes "awaiting") ∷ NumberDue ∷ Exactly (codes "released") ∷ NumberDue ∷ []) words tt fit)
line_meant name.Objects words = λ fit. (refl, plain_meant (Exactly (codes "stock") ∷ NumberDue ∷ Exactly (codes "present") ∷ NumberDue ∷ Exactly (codes "held") ∷ NumberDue ∷ []) words tt fit)
line_meant name.History words = λ fit. (refl, plain_meant (NumberDue ∷ []) words tt fit)
line_meant name.Entry words = entry_meant words
line_meant name.Refused words = λ fit. refused_meant words (refusal_of words) refl (refusal_stands words)
line_meant name.End words = λ fit. (refl, plain_meant ([]) words tt fit)
line_meant name.Filled words = λ fit. (refl, plain_meant (NumberDue ∷ []) words tt fit)
line_meant name.Joined words = λ fit. (refl, plain_meant (NumberDue ∷ []) words tt fit)

-- the name that a first word is
named_among : (names : List LineName) (text : List ℕ) (n : LineName) → name_among names text ≡ Some n → text ≡ name_text n
named_among [] text n = λ is. cc
named_among (first ∷ names) text n =
    split (bytes_eq text (name_text first)) (λ hit.
    let found : name_among (first ∷ names) text ≡ Some first = rw hit refl in
    λ is. let same : first ≡ n = cc in exact_word text (name_text first) true hit refl ∙ ap name_text same) (λ miss.
    let found : name_among (first ∷ names) text ≡ name_among names text = rw miss refl in
    λ is. named_among names text n (sym found ∙ is))

named_line_meant : (text : List ℕ) (words : List (List ℕ)) (o : Option LineName) (out : OutLine) → line_name text ≡ o → named_line o words ≡ Ok out → WordsMean (text ∷ words) out
named_line_meant text words None out found is = cc
named_line_meant text words (Some n) out found is =
    let due = line_form n words in
    let start : Reading = record { words = words; fault = None } in
    let done = fault_or-ok (first_fault (past_all due.places start).fault (left_fault (past_all due.places start).words)) due.means out is in
    let fits = all_fit due.places start done.none in
    let first : text ≡ name_text n = named_among line_names text n found in
    subst (λ o. WordsMean (text ∷ words) o) done.is (subst (λ t. WordsMean (t ∷ words) due.means) (sym first) (line_meant n words fits.1))

pub words_meant : (words : List (List ℕ)) (out : OutLine) → line_of_words words ≡ Ok out → WordsMean words out
words_meant [] out is = cc
words_meant (text ∷ words) out is = named_line_meant text words (line_name text) out refl is

-- and the other way round

other_read : (words : List (List ℕ)) (why : RefusalText) → refusal_of words ≡ why → RefusalStands words why → ((other : RefusalText) → IsNamed other → StandFor (codes "refused" ∷ words) (line_parts (line.Refused other)) → ⊥)
    → why ≡ refusal.Other
other_read words refusal.Other is stand none = refl
other_read words (refusal.Clients n) is stand none = absurd (none (refusal.Clients n) tt (refl, stand tt))
other_read words (refusal.Unknown n) is stand none = absurd (none (refusal.Unknown n) tt (refl, stand tt))
other_read words (refusal.Stopped n) is stand none = absurd (none (refusal.Stopped n) tt (refl, stand tt))
other_read words (refusal.Busy n) is stand none = absurd (none (refusal.Busy n) tt (refl, stand tt))
other_read words (refusal.Key n) is stand none = absurd (none (refusal.Key n) tt (refl, stand tt))
other_read words (refusal.Value n) is stand none = absurd (none (refusal.Value n) tt (refl, stand tt))
other_read words (refusal.Spent n) is stand none = absurd (none (refusal.Spent n) tt (refl, stand tt))
other_read words (refusal.Idle n) is stand none = absurd (none (refusal.Idle n) tt (refl, stand tt))
other_read words (refusal.Live n) is stand none = absurd (none (refusal.Live n) tt (refl, stand tt))
other_read words (refusal.Running n) is stand none = absurd (none (refusal.Running n) tt (refl, stand tt))
other_read words (refusal.Recovered n) is stand none = absurd (none (refusal.Recovered n) tt (refl, stand tt))
other_read words (refusal.Node n) is stand none = absurd (none (refusal.Node n) tt (refl, stand tt))
other_read words (refusal.Gone n) is stand none = absurd (none (refusal.Gone n) tt (refl, stand tt))
other_read words (refusal.LastLive n) is stand none = absurd (none (refusal.LastLive n) tt (refl, stand tt))
other_read words (refusal.Masked n) is stand none = absurd (none (refusal.Masked n) tt (refl, stand tt))
other_read words refusal.Task is stand none = absurd (none refusal.Task tt (refl, stand tt))
other_read words (refusal.Sealed epoch) is stand none = absurd (none (refusal.Sealed epoch) tt (refl, stand tt))

other_line : (words : List (List ℕ)) → WordsMean words (line.Refused refusal.Other) → line_of_words words ≡ Ok (line.Refused refusal.Other)
other_line [] means = absurd means.0
other_line (text ∷ words) means =
    let none = subst (λ t. (other : RefusalText) → IsNamed other → StandFor (t ∷ words) (line_parts (line.Refused other)) → ⊥) means.0 means.1 in
    let is = other_read words (refusal_of words) refl (refusal_stands words) none in
    ap (λ t. line_of_words (t ∷ words)) means.0 ∙ ap (λ why. Ok (line.Refused why)) is

-- words that mean a line are read as it
pub words_read : (words : List (List ℕ)) (out : OutLine) → WordsMean words out → line_of_words words ≡ Ok out
words_read words (line.Refused refusal.Other) means = other_line words means
words_read words (line.Refused refusal.Task) means = line_formed (line.Refused refusal.Task) words means
words_read words (line.Refused (refusal.Sealed epoch)) means = line_formed (line.Refused (refusal.Sealed epoch)) words means
words_read words (line.Refused (refusal.Clients n)) means = line_formed (line.Refused (refusal.Clients n)) words means
words_read words (line.Refused (refusal.Unknown n)) means = line_formed (line.Refused (refusal.Unknown n)) words means
words_read words (line.Refused (refusal.Stopped n)) means = line_formed (line.Refused (refusal.Stopped n)) words means
words_read words (line.Refused (refusal.Busy n)) means = line_formed (line.Refused (refusal.Busy n)) words means
words_read words (line.Refused (refusal.Key n)) means = line_formed (line.Refused (refusal.Key n)) words means
words_read words (line.Refused (refusal.Value n)) means = line_formed (line.Refused (refusal.Value n)) words means
words_read words (line.Refused (refusal.Spent n)) means = line_formed (line.Refused (refusal.Spent n)) words means
words_read words (line.Refused (refusal.Idle n)) means = line_formed (line.Refused (refusal.Idle n)) words means
words_read words (line.Refused (refusal.Live n)) means = line_formed (line.Refused (refusal.Live n)) words means
words_read words (line.Refused (refusal.Running n)) means = line_formed (line.Refused (refusal.Running n)) words means
words_read words (line.Refused (refusal.Recovered n)) means = line_formed (line.Refused (refusal.Recovered n)) words means
words_read words (line.Refused (refusal.Node n)) means = line_formed (line.Refused (refusal.Node n)) words means
words_read words (line.Refused (refusal.Gone n)) means = line_formed (line.Refused (refusal.Gone n)) words means
words_read words (line.Refused (refusal.LastLive n)) means = line_formed (line.Refused (refusal.LastLive n)) words means
words_read words (line.Refused (refusal.Masked n)) means = line_formed (line.Refused (refusal.Masked n)) words means
words_read words out means = line_formed out words means
