mod StepLemmas
mod MeaningLemmas
mod ValueOctets
pub mod FrameOctets
