pub mod Numbers
pub mod Combining
pub mod Nearness
pub mod Called
