pub mod Odd
pub mod Keeping
