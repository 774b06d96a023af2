-- The plans of the clients.
use Rattle.std.proofs.Common.{◌≡◌, ℕ, ◌+◌, ◌-◌, ◌≤◌, List, [], ◌∷◌, ◌++◌, length, map, get_or, sym, ap, ◌∙◌, arith}
use Rattle.std.specs.List.{range_with_len}
use Rattle.std.specs.Global.{Vec}
use Rattle.std.proofs.lemmas.List.{get_or-map, length-map, map-append}
use Rattle.std.proofs.lemmas.List.FromFn.{get_or-map-range_with_len, length-map-range_with_len, map-range_with_len_more}
use Rattle.map_model.specs.declared.calls.Call.{Call}
use Rattle.sim_meaning.specs.declared.numbers.Numbers.{Numbers}
use Rattle.sim_plan.specs.Made.{plan}
use Rattle.sim_run.specs.Course.{IsPlanned}
use Rattle.sim_run.specs.declared.works.Work.{Work}

-- as many plans as clients
pub plans-length : (work : Work) → IsPlanned work → length work.plans.items ≡ work.numbers.clients
plans-length work planned =
    sym (length-map work.plans.items (λ (own : Vec Call). own.items)) ∙ ap length planned.plans
    ∙ length-map-range_with_len (λ client. plan work.numbers.seed client work.numbers.calls) 1 work.numbers.clients

-- the plan of a client
pub plan-at : (work : Work) (client : ℕ) (own : Vec Call) → IsPlanned work → 1 ≤ client → client ≤ work.numbers.clients → own ≡ get_or work.plans.items (client - 1) own
    → own.items ≡ plan work.numbers.seed client work.numbers.calls
plan-at work client own planned least most is =
    let long = plans-length work planned in
    ap (λ (v : Vec Call). v.items) is
    ∙ sym (get_or-map (λ (v : Vec Call). v.items) work.plans.items (client - 1) own [] (omega (arith, long)))
    ∙ ap (λ plans. get_or plans (client - 1) []) planned.plans
    ∙ get_or-map-range_with_len (λ who. plan work.numbers.seed who work.numbers.calls) 1 work.numbers.clients (client - 1) client [] (omega arith) (omega arith)

-- one plan more
pub plans-more : (plans : List (Vec Call)) (own : Vec Call) (numbers : Numbers) (client more : ℕ) → 1 ≤ client → more ≡ (client - 1) + 1
    → map (λ (v : Vec Call). v.items) plans ≡ map (λ who. plan numbers.seed who numbers.calls) (range_with_len 1 (client - 1))
    → own.items ≡ plan numbers.seed client numbers.calls
    → map (λ (v : Vec Call). v.items) (plans ++ own ∷ []) ≡ map (λ who. plan numbers.seed who numbers.calls) (range_with_len 1 more)
plans-more plans own numbers client more least one before is =
    map-append (λ (v : Vec Call). v.items) plans (own ∷ [])
    ∙ (λ i. before i ++ is i ∷ [])
    ∙ sym (map-range_with_len_more (λ who. plan numbers.seed who numbers.calls) 1 (client - 1) client (omega arith))
    ∙ ap (λ n. map (λ who. plan numbers.seed who numbers.calls) (range_with_len 1 n)) (sym one)
