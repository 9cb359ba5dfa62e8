pub mod Systematic
