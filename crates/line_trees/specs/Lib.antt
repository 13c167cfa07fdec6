pub mod LineTrees
pub mod WordlessTrees
