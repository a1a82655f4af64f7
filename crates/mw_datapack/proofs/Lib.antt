pub mod OneMore
pub mod Packaged
pub mod PlayedThere
