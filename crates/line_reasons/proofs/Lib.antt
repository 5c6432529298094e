mod LineTexts
mod LineKinds
mod PlaceFaults
mod FirstLines
mod NumberFaults
mod LineFaults
