mod ArchitectureLemmas
pub mod CallLemmas
pub mod Common
pub mod DifferenceLemmas
pub mod ExplorationLemmas
pub mod NumeralLemmas
pub mod PlanLemmas
mod RunLemmas
pub mod ScopeLemmas
pub mod SideLemmas
pub mod StackLemmas
pub mod TableLemmas
pub mod WholeInput
