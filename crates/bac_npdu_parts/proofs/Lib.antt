mod ControlLemmas
pub mod WrittenLemmas
mod MessageLemmas
mod NumberLemmas
pub mod FrameLemmas
mod PartLemmas
mod NetworksLemmas
mod TablesLemmas
mod UntypedLemmas
mod WhoIsRouterLemmas
mod CheckedLemmas
mod LawLemmas
mod CaseLemmas
mod SameLemmas
mod HeadLemmas
mod PlaceLemmas
mod HeadRefusedLemmas
mod HeadReadLemmas
pub mod BodyLemmas
pub mod FrameReadLemmas
pub mod OnceLemmas
mod FormerLemmas
mod SmallLemmas
mod HeldLemmas
