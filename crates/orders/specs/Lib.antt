pub mod Codes
pub mod Letters
pub mod Phases
pub mod Refusals
