-- What only proofs need: laws of the definitions, which no contract cites.
pub mod Same
pub mod SameFrames
