pub mod Verb
pub mod Words
pub mod Applied
pub mod Pages
pub mod Lists
