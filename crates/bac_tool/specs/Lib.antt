pub mod CommandLine
pub mod ErrorLines
pub mod Tool
