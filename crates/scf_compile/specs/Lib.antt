pub mod SearchBound
pub mod SizeBound
pub mod internal
