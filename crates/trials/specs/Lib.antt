pub mod Answers
pub mod Powers
pub mod PowersLemmas
