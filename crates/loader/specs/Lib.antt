pub mod FirstWords
pub mod Candidates
pub mod Outlooks
pub mod Loads
pub mod Maps
pub mod Inside
pub mod PartialLoads
pub mod PartialInside
