pub mod Origins
pub mod Parents
