pub mod Pages
pub mod Shares
pub mod Stopped
