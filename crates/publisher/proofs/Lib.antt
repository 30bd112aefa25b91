pub mod Leading
pub mod Opens
pub mod Standing
pub mod Windows
pub mod Growing
