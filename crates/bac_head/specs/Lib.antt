pub mod Saying
pub mod Reach
pub mod Known
pub mod Numbers
