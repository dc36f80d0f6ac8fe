pub mod Sets
pub mod Laws
pub mod Text
pub mod Texts
pub mod Keeping
