pub mod Bundle
pub mod CommandLine
pub mod Contents
pub mod Interpretations
pub mod Options
pub mod Requests
pub mod internal
