pub mod OneSeed
