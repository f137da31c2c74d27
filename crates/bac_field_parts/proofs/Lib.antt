pub mod FieldLemmas
pub mod WalkLemmas
mod WholeLemmas
