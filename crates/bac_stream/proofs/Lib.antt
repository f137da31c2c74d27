pub mod JudgingLemmas
pub mod RecordLemmas
pub mod KeptLemmas
pub mod LineLemmas
mod ReportingLemmas
mod NormalisingLemmas
pub mod IntakeLemmas
mod ItemLemmas
pub mod FilledLemmas
pub mod FeedLemmas
mod HeadlineLemmas
pub mod JoiningLemmas
mod ExplainingLemmas
