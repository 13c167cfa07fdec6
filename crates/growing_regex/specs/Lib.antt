pub mod Earliest
pub mod Growing
