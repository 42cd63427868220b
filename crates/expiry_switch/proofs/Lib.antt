pub mod AfterSwitch
