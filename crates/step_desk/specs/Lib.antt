pub mod Mirrors
pub mod Numbers
pub mod Rule
pub mod Steps
pub mod Passes
