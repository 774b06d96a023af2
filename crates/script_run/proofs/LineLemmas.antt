-- A line that begins with an event, and the line of a verb.
use Rattle.std.proofs.Common.{◌≡◌, ℕ, ◌++◌, Option, true, refl, sym, ap, ◌∙◌}
use Rattle.machine_world.specs.World.{World}
use Rattle.script_meaning.specs.Lines.{Ran, followed_by}
use Rattle.script_meaning.specs.Shown.{shown_call, verb_line}
use Rattle.script_run.proofs.TakesLemmas.{text_of-append}
use Rattle.script_text.specs.OutputText.{is_verb, text_of}
use Rattle.script_text.specs.declared.scripts.CallText.{CallText}
use Rattle.script_text.specs.declared.scripts.CallText.TheVariants as call
use Rattle.trace_audit.specs.Told.{call_of}
use Rattle.verb_words.specs.declared.verbs.Answer.{Answer}
use Rattle.verb_words.specs.declared.verbs.Verb.{Verb}
use Rattle.verb_words.specs.declared.verbs.Verb.TheVariants.{Read, Write, Swap, Add}

-- a call is shown as the script has it
pub shown-named : (text : CallText) → shown_call (call_of text) ≡ text
shown-named (call.Put key value) = refl
shown-named (call.Get key) = refl
shown-named (call.Delete key) = refl

-- what follows, in the world that the code has
pub followed-text : (first : Ran) (rest : World → Ran) (now : World) → now ≡ first.world → text_of (followed_by first rest).lines ≡ text_of first.lines ++ text_of (rest now).lines
followed-text first rest now is = text_of-append first.lines (rest first.world).lines ∙ ap (λ w. text_of first.lines ++ text_of (rest w).lines) (sym is)

-- the line that shows a verb is one of a verb
pub is_verb-verb_line : (actor : Option ℕ) (verb : Verb) (answer : Answer) → is_verb (verb_line actor verb answer) ≡ true
is_verb-verb_line actor (Read place) answer = refl
is_verb-verb_line actor (Write place word) answer = refl
is_verb-verb_line actor (Swap place expect fresh) answer = refl
is_verb-verb_line actor (Add place amount) answer = refl
