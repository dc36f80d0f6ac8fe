pub mod Laws
pub mod Lists
pub mod Puts
pub mod Ranks
pub mod RanksLemmas
