pub mod Switches
pub mod PartsInside
