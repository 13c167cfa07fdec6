pub mod ClassNames
pub mod Ignoring
pub mod Matching
pub mod Paths
pub mod Reading
pub mod Rules
