pub mod Lists
pub mod Looks
pub mod Payloads
pub mod Ends
pub mod Ranges
pub mod Runs
pub mod Fronts
