pub mod ToldLemmas
pub mod EventRanges
pub mod LineLemmas
pub mod ValueLines
pub mod ServiceLines
pub mod FrameLines
pub mod PlaceLemmas
pub mod ValuePlaces
pub mod ServicePlaces
pub mod FramePlaces
pub mod OneFrame
mod FrameMaking
mod WholeFrames
mod SaidPlaces
mod Once
mod OnceValues
mod OnceItems
mod OnceServices
mod OnceApdus
mod OnceMessages
mod OnceFrames
