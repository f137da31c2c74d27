mod OutcomeLemmas
pub mod FrameLemmas
mod ExplainedLemmas
mod VerdictLemmas
