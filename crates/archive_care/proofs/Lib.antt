mod ByteLemmas
mod CallLemmas
mod CopyLemmas
mod PlaceLemmas
mod PlanLemmas
mod RunLemmas
