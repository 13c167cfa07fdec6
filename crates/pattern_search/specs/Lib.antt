pub mod Texts
pub mod Searches
pub mod RegexAnswers
pub mod Written
