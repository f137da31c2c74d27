pub mod Numbers
pub mod SignedContents
pub mod Laws
