pub mod Keys
pub mod Lists
pub mod Tables
