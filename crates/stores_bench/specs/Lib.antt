pub mod Start
pub mod Pairs
