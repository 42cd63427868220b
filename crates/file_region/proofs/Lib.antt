mod Runs
mod Windows
