pub mod World
pub mod Moves
pub mod Handlers
pub mod Reserved
