pub mod Errors
pub mod Patterns
pub mod Groups
pub mod Captures
pub mod Rows
pub mod NextMatches
pub mod Replacing
pub mod Promises
