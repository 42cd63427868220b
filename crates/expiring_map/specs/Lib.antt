pub mod ValueUntil
pub mod Kept
pub mod Map
pub mod Live
pub mod Lent
