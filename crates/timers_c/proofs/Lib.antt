pub mod AsBox
pub mod Each
