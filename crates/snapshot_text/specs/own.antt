pub mod Lists
pub mod Pages
