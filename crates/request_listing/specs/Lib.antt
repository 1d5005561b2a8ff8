pub mod Inside
pub mod Given
pub mod Listed
