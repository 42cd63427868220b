pub mod Stocked
pub mod Script
pub mod Reading
pub mod Calls
pub mod Worker
pub mod Threads
