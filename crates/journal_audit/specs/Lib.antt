pub mod Position
pub mod Comparisons
pub mod Stopping
pub mod Sections
pub mod PastSections
pub mod LinesLeft
pub mod Found
pub mod Readings
