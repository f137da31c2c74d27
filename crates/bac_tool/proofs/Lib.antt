mod Aliases
pub mod Named
pub mod Answering
pub mod ErrorLemmas
