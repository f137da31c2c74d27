pub mod Messages
pub mod CutFrames
pub mod JoinedFrames
pub mod FrameCuts
pub mod FrameRecords
pub mod Gathered
pub mod RecordJoins
