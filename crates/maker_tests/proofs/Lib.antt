pub mod AppendSample
pub mod WriteBackSample
pub mod SwitchSample
pub mod LargePair
