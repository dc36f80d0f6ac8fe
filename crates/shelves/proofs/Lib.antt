pub mod Checks
pub mod Keeping
pub mod Membership
pub mod Searches
