pub mod Query
pub mod Bits
pub mod Intervals
pub mod Learned
pub mod WordSets
pub mod Searches
