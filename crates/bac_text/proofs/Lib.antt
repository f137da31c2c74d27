mod TextLemmas
pub mod WalkLemmas
