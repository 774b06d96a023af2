-- A row of verbs, verb by verb.
use Rattle.std.proofs.Common.{◌≡◌, ℕ, zero, suc, ◌+◌, ◌-◌, ◌<◌, Bool, true, false, List, [], ◌∷◌, ◌++◌, Option, Some, None, refl, sym, ap, ◌∙◌, append-nil, arith}
use Rattle.std.specs.Prelude.{is_some}
use Rattle.std.proofs.lemmas.Grind.{flat_map-append}
use Rattle.machine_world.specs.Events.{comes_to, happens}
use Rattle.machine_world.specs.World.{World}
use Rattle.machine_world.specs.declared.events.Event.{Event}
use Rattle.script_meaning.specs.Lines.{taker_of, takes, told_line, verb_lines}
use Rattle.script_run.specs.Turns.{verb_told}
use Rattle.script_text.specs.OutputText.{line_text, text_of}
use Rattle.script_text.specs.declared.out_lines.OutLine.{OutLine}
use Rattle.script_text.specs.declared.out_lines.OutLine.TheVariants as out

pub text_of-append : (first second : List OutLine) → text_of (first ++ second) ≡ text_of first ++ text_of second
text_of-append first second = flat_map-append line_text first second

pub text_of-one : (line : OutLine) → text_of (line ∷ []) ≡ line_text line
text_of-one line = append-nil (line_text line)

quiet : (told : Option OutLine) → is_some told ≡ false → told ≡ None
quiet None is = refl
quiet (Some line) is = absurd cc

-- nothing is told of the verb
pub none_told : (world : World) (event : Event) → is_some (told_line world (comes_to world event)) ≡ false → told_line world (comes_to world event) ≡ None
none_told world event is = quiet (told_line world (comes_to world event)) is

some_told : (told : Option OutLine) → is_some told ≡ true → (line : OutLine) × (told ≡ Some line)
some_told None is = absurd cc
some_told (Some line) is = (line, refl)

-- no verb is left
pub takes-none-text : (shows : Bool) (event : Event) (taken left most : ℕ) (who : Option ℕ) (world : World) → left ≡ 0 → taken ≡ most → who ≡ taker_of event
    → text_of (takes shows event taken left world).lines ≡ line_text (out.Took who most)
unfolding takes
takes-none-text shows event taken left most who world none all is = rw (none, all, is) (text_of-one (out.Took (taker_of event) most))

pub takes-none-world : (shows : Bool) (event : Event) (taken left : ℕ) (world : World) → left ≡ 0 → (takes shows event taken left world).world ≡ world
unfolding takes
takes-none-world shows event taken left world none = rw none refl

-- a verb by which the line comes to its end
pub takes-ends-world : (shows : Bool) (event : Event) (taken left : ℕ) (world : World) → 0 < left → is_some (told_line world (comes_to world event)) ≡ true
    → (takes shows event taken left world).world ≡ happens world event
unfolding takes
takes-ends-world shows event taken zero world more ends = absurd (omega arith)
takes-ends-world shows event taken (suc left) world more ends = let told = some_told (told_line world (comes_to world event)) ends in rw told.1 refl

pub takes-ends-text : (shows : Bool) (event : Event) (taken left : ℕ) (world : World) → 0 < left → is_some (told_line world (comes_to world event)) ≡ true
    → text_of (takes shows event taken left world).lines ≡ text_of (verb_told shows world event)
unfolding takes
takes-ends-text shows event taken zero world more ends = absurd (omega arith)
takes-ends-text shows event taken (suc left) world more ends = let told = some_told (told_line world (comes_to world event)) ends in rw told.1 refl

-- a verb after which the line goes on
pub takes-goes-world : (shows : Bool) (event : Event) (taken left : ℕ) (world : World) → 0 < left → is_some (told_line world (comes_to world event)) ≡ false
    → (takes shows event taken left world).world ≡ (takes shows event (taken + 1) (left - 1) (happens world event)).world
unfolding takes
takes-goes-world shows event taken zero world more goes = absurd (omega arith)
takes-goes-world shows event taken (suc left) world more goes =
    let one : suc left - 1 ≡ left = omega arith in
    rw (none_told world event goes, one) refl

pub takes-goes-text : (shows : Bool) (event : Event) (taken left : ℕ) (world : World) → 0 < left → is_some (told_line world (comes_to world event)) ≡ false
    → text_of (takes shows event taken left world).lines ≡ text_of (verb_told shows world event) ++ text_of (takes shows event (taken + 1) (left - 1) (happens world event)).lines
unfolding takes
takes-goes-text shows event taken zero world more goes = absurd (omega arith)
takes-goes-text shows event taken (suc left) world more goes =
    let one : suc left - 1 ≡ left = omega arith in
    rw (none_told world event goes, one, append-nil)
    (text_of-append (verb_lines shows (comes_to world event)) (takes shows event (taken + 1) left (happens world event)).lines)

-- so the text of a verb is a front
pub takes-cut : (shows : Bool) (event : Event) (taken left : ℕ) (world : World) → 0 < left
    → (rest : List ℕ) × (text_of (takes shows event taken left world).lines ≡ text_of (verb_told shows world event) ++ rest)
takes-cut shows event taken left world more = by (is_some (told_line world (comes_to world event))) refl
  where
    by : (ends : Bool) → is_some (told_line world (comes_to world event)) ≡ ends → (rest : List ℕ) × (text_of (takes shows event taken left world).lines ≡ text_of (verb_told shows world event) ++ rest)
    by true ends = ([], takes-ends-text shows event taken left world more ends ∙ sym (append-nil (text_of (verb_told shows world event))))
    by false goes = (text_of (takes shows event (taken + 1) (left - 1) (happens world event)).lines, takes-goes-text shows event taken left world more goes)

-- the verbs after the first, from the world that the code has
pub next-text : (shows : Bool) (event : Event) (taken left rest : ℕ) (world now : World) → 0 < left → is_some (told_line world (comes_to world event)) ≡ false → rest ≡ left - 1 → now ≡ happens world event
    → text_of (takes shows event taken left world).lines ≡ text_of (verb_told shows world event) ++ text_of (takes shows event (taken + 1) rest now).lines
next-text shows event taken left rest world now more goes is_rest is_now =
    takes-goes-text shows event taken left world more goes
    ∙ ap (λ n. text_of (verb_told shows world event) ++ text_of (takes shows event (taken + 1) n (happens world event)).lines) (sym is_rest)
    ∙ ap (λ w. text_of (verb_told shows world event) ++ text_of (takes shows event (taken + 1) rest w).lines) (sym is_now)

pub next-world : (shows : Bool) (event : Event) (taken left rest : ℕ) (world now : World) → 0 < left → is_some (told_line world (comes_to world event)) ≡ false → rest ≡ left - 1 → now ≡ happens world event
    → (takes shows event taken left world).world ≡ (takes shows event (taken + 1) rest now).world
next-world shows event taken left rest world now more goes is_rest is_now =
    takes-goes-world shows event taken left world more goes
    ∙ ap (λ n. (takes shows event (taken + 1) n (happens world event)).world) (sym is_rest)
    ∙ ap (λ w. (takes shows event (taken + 1) rest w).world) (sym is_now)
