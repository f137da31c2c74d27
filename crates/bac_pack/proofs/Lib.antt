pub mod LineEnds
pub mod LineLists
pub mod DigitLemmas
pub mod PackingLemmas
pub mod RunSoFar
pub mod FileRuns
pub mod TextLaws
