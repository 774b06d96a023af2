-- What the driver of a simulation goes by in the course of it, and how many verbs it took.
use Rattle.std.specs.Prelude.{ℕ, ◌+◌, ◌*◌, ◌≤◌, ◌≡◌, List, map}
use Rattle.std.specs.Global.{Vec}
use Rattle.map_model.specs.declared.calls.Call.{Call}
use Rattle.region_view.specs.Sizes.{Sizes}
use Rattle.sim_meaning.specs.Driver.{Driven, Driver, clients_of, first_driver}
use Rattle.sim_meaning.specs.Summary.{verbs_in}
use Rattle.sim_meaning.specs.declared.numbers.Numbers.{Numbers}
use Rattle.sim_plan.specs.Made.{plan}
use Rattle.sim_run.specs.declared.simulators.Simulator.{Simulator}
use Rattle.sim_run.specs.declared.works.Work.{Work}

pub record Course : Type 0 where
  pub driver : Driver
  pub verbs : ℕ

abbrev pub course_of : Simulator → Course
course_of simulator = record {
  driver = record {
    world = simulator.counted.world;
    generator = simulator.turns;
    losses = simulator.losses;
    settling = simulator.settling;
  };
  verbs = simulator.counted.verbs;
}

abbrev pub first_course : Sizes → Numbers → Course
first_course sizes numbers = record { driver = first_driver sizes numbers; verbs = 0 }

-- what the driver does, with its verbs
abbrev pub goes : Course → Driven → Course
goes before done = record { driver = done.driver; verbs = before.verbs + verbs_in before.driver.world done.events }

-- 1 to 64 clients, and at most 100,000 calls
pub record IsSmall (numbers : Numbers) : Type 0 where
  pub some : 1 ≤ numbers.clients
  pub few : numbers.clients ≤ 64
  pub calls : numbers.clients * numbers.calls ≤ 100000

-- the calls of each client, client c at place c - 1
abbrev pub plans_of : Numbers → List (List Call)
plans_of numbers = map (λ client. plan numbers.seed client numbers.calls) (clients_of numbers)

-- numbers within their limits, and the calls that they give
pub record IsPlanned (work : Work) : Type 0 where
  pub small : IsSmall work.numbers
  pub plans : map (λ (plan : Vec Call). plan.items) work.plans.items ≡ plans_of work.numbers
