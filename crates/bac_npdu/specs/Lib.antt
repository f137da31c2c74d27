pub mod Meanings
pub mod Steps
