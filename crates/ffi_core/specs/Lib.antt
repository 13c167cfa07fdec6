pub mod Options
pub mod Texts
pub mod Compiled
pub mod Failures
pub mod Groups
pub mod Replacing
pub mod Streams
