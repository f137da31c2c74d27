mod WideningLemmas
pub mod SameLemmas
pub mod HeldParts
pub mod HeldValueLemmas
pub mod HeldFieldLemmas
pub mod SpellingLemmas
