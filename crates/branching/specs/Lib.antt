pub mod Line
pub mod Rising
pub mod Parents
pub mod Laws
