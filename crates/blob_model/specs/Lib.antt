pub mod Limits
pub mod Content
pub mod Store
pub mod Answer
pub mod History
pub mod Laws
