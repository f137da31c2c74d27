pub mod Lines
pub mod LineForms
pub mod Runs
pub mod Packing
pub mod Files
