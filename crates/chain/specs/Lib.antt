pub mod Chains
pub mod Trails
