pub mod Judging
pub mod Lines
pub mod Intakes
pub mod Feeds
pub mod Joining
pub mod Headline
pub mod Explaining
