pub mod Places
pub mod Moves
pub mod Steps
pub mod Trails
