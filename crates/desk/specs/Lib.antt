pub mod Arguments
pub mod Listing
