mod TypeLemmas
mod ReasonLemmas
mod WindowLemmas
mod EndingLemmas
mod CarryingLemmas
mod ConfirmedRequestLemmas
mod UnconfirmedRequestLemmas
mod SimpleAckLemmas
mod ComplexAckLemmas
mod SegmentAckLemmas
mod ErrorPduLemmas
mod RejectLemmas
mod AbortLemmas
mod SegmentLemmas
mod StartLemmas
mod OnceLemmas
mod LawLemmas
pub mod CaseLemmas
mod HeldLemmas
pub mod SameLemmas
pub mod AppendingLemmas
mod VisitLemmas
pub mod FormerLemmas
