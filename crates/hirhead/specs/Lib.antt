pub mod Written
pub mod Lines
pub mod HasLines
pub mod Queries
pub mod PatternOptions
pub mod Pointed
