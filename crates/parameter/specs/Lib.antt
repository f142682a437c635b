pub mod Courses
pub mod Parameters
