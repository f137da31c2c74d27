mod AlikeLemmas
mod NpciLemmas
mod ApduLemmas
mod MessageLemmas
mod FrameLemmas
