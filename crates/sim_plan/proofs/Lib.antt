mod PlanLemmas
mod ScriptLemmas
