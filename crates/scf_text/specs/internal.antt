pub mod Parts
pub mod Symbols
pub mod Labels
pub mod Reading
pub mod Results
pub mod Views
