pub mod Lines
pub mod Openings
pub mod Ends
pub mod Told
pub mod Linted
pub mod Serving
