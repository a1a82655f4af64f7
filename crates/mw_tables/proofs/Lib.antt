pub mod Accepted
pub mod Distinct
pub mod PlayersAccepted
pub mod RawKept
pub mod Read
pub mod RuleResolved
pub mod SeenNames
pub mod Shaped
