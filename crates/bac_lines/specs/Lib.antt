pub mod Lines
pub mod Scanning
pub mod Found
pub mod ShownLines
