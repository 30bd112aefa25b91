pub mod Windows
pub mod WindowInvariant
pub mod Laws
