pub mod Slots
pub mod Patterns
pub mod Engines
pub mod Errors
pub mod Groups
pub mod Layouts
