pub mod Times
pub mod Dues
pub mod Policies
