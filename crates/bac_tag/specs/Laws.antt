-- What only proofs need: laws of the definitions, which no contract cites.
pub mod Octets
pub mod Number
pub mod Spelling
pub mod Heads
