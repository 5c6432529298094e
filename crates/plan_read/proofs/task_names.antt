pub mod NameBytes
pub mod NameText
