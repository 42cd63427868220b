pub mod Samples
pub mod ApartTest
mod LawfulSample
mod CutSamples
mod ReadSample
mod PeekOrder
pub mod SizeRepairSample
pub mod TornSample
pub mod GrowSample
pub mod Sharers
