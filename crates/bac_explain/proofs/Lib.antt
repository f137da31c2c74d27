pub mod RoomLemmas
mod ElementLemmas
mod NestLemmas
mod TileLemmas
mod PartLemmas
mod FrontLemmas
mod ExplainLemmas
mod FieldLemmas
mod NestEndLemmas
mod LineLemmas
mod NumberLemmas
mod OwnLemmas
mod LabelLemmas
mod CompletionLemmas
