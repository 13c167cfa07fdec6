pub mod TextReports
pub mod ClientReports
