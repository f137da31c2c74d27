pub mod Leads
pub mod Collisions
pub mod Productions
pub mod ReadFaults
pub mod Reasons
pub mod Fields
pub mod Contents
pub mod Laws
