pub mod Streams
pub mod Errors
pub mod Reading
pub mod Feeding
pub mod Overlapping
pub mod Lines
pub mod LineCalls
pub mod Capacities
