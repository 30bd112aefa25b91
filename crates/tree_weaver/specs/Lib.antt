pub mod Planned
pub mod Laws
pub mod Anew
pub mod Folding
pub mod Woven
pub mod Put
