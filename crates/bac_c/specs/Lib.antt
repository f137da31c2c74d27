pub mod Outcomes
pub mod Reading
pub mod InPlace
pub mod Encoding
pub mod Messages
pub mod Explaining
