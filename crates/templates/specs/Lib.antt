pub mod Expansion
pub mod Slots
pub mod Reading
