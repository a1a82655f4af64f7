pub mod Accepted
pub mod Crowd
pub mod Files
pub mod Growing
pub mod Joints
pub mod Making
pub mod Unrefused
pub mod WorldJson
