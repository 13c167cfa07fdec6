pub mod CommandLine
pub mod Escapes
pub mod FileOptions
pub mod Numbers
pub mod Options
pub mod Rows
pub mod Sizes
