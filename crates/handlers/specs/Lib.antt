pub mod Handlers
pub mod Stock
pub mod Repairs
