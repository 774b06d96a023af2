mod EventLemmas
mod TakesLemmas
mod KeysLemmas
mod CourseLemmas
mod SummaryLemmas
mod PlanLemmas
mod WriteLemmas
mod CountLemmas
