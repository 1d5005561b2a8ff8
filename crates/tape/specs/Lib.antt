pub mod Next
pub mod Program
