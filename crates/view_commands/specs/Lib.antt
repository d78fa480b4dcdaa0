pub mod Program
pub mod Paging
pub mod Doing
