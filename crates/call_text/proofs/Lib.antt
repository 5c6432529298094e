pub mod CallTexts
pub mod CallEnds
pub mod LiveFronts
