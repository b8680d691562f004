pub mod Contents
pub mod Parsing
