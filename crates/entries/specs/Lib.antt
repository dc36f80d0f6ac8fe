pub mod Cases
pub mod Form
pub mod Sessions
pub mod Taken
