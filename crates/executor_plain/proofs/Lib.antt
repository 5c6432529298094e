pub mod Plains
