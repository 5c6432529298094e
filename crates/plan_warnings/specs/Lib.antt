pub mod Places
pub mod Warnings
pub mod Units
pub mod Refusals
pub mod MadePlaces
pub mod own
