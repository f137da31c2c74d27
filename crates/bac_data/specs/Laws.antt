-- What only proofs need: laws of the definitions, which no contract cites.
pub mod Events
pub mod Same
pub mod Heads
pub mod Alignment
