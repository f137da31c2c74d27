-- What only proofs need: laws of the definitions, which no contract cites.
pub mod Service
pub mod Joins
pub mod PropertyValue
pub mod SubscribeCov
pub mod PropertyResult
pub mod Decoded
pub mod Checked
