pub mod Fields
pub mod Stream
pub mod Reading
