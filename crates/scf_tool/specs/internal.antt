pub mod Bytes
pub mod Explaining
pub mod Words
pub mod Sides
pub mod Plans
pub mod ShownRuns
