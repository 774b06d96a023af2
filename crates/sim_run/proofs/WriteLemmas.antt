-- What is written of a simulation.
use Rattle.std.proofs.Common.{◌≡◌, ℕ, List, [], sym, ap, ◌∙◌, append-nil, zero-add}
use Rattle.std.specs.Prelude.{Option, Some, None}
use Rattle.std.specs.Io.KnownBytes.{Appends}
use Rattle.outside.proofs.AppendedLemmas.{front_of_nothing}
use Rattle.outside.specs.Appended.{AppendsFront}
use Rattle.machine_world.specs.World.{first_world}
use Rattle.region_view.specs.Sizes.{Sizes}
use Rattle.sim_meaning.specs.Driver.{simulated_on, sizes_of}
use Rattle.sim_meaning.specs.Summary.{rendered, summary_text, verbs_in}
use Rattle.sim_meaning.specs.declared.numbers.Numbers.{Numbers}
use Rattle.sim_run.specs.Course.{Course, first_course, goes}

appends_none : (held : Option (List ℕ)) → Appends held held []
appends_none None = tt
appends_none (Some bytes) = sym (append-nil bytes)

-- where nothing is written, a front of any text is
pub starves : (held : Option (List ℕ)) (text : List ℕ) → AppendsFront held held text
starves held text = front_of_nothing held held text (appends_none held)

-- the summary of the course that the numbers give is the text of a simulation
pub rendered-so : (numbers own : Numbers) (sizes : Sizes) (course : Course) → own ≡ numbers → sizes ≡ sizes_of numbers → course ≡ goes (first_course sizes own) (simulated_on sizes own)
    → summary_text numbers course.driver.world course.verbs ≡ rendered numbers
rendered-so numbers own sizes course is_own is_sizes is =
    let done = simulated_on (sizes_of numbers) numbers in
    ap (λ (c : Course). summary_text numbers c.driver.world c.verbs) (is ∙ (λ i. goes (first_course (is_sizes i) (is_own i)) (simulated_on (is_sizes i) (is_own i))))
    ∙ ap (summary_text numbers done.driver.world) (zero-add (verbs_in (first_world (sizes_of numbers)) done.events))
