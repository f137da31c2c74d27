pub mod LongHeadLemmas
mod ViableLemmas
