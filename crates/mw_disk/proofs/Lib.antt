pub mod FileRuns
pub mod HostFiles
pub mod MemoryFiles
pub mod Moments
pub mod Ranges
pub mod Recorded
pub mod RecordedFiles
