pub mod EventLemmas
pub mod OpenLemmas
pub mod BalancedLemmas
mod ViableLemmas
pub mod LeastLemmas
mod ResultLemmas
pub mod BuildingLemmas
pub mod EventLeastLemmas
mod ReadingLemmas
mod NextHeadLemmas
mod StandingLemmas
mod AnyLemmas
mod EventCounts
mod MarkLemmas
mod ReasonLemmas
mod DepthLemmas
pub mod ValueLemmas
mod PartLemmas
mod ShortLemmas
pub mod HeldLemmas
mod NodeLemmas
mod HeldSteps
mod WalkLemmas
mod KeptLemmas
mod ReadingSteps
mod StandingLeast
mod LinkLemmas
mod ProgressLemmas
mod CheckingLemmas
