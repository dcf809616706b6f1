pub mod Command
pub mod Lines
pub mod NamedText
pub mod Text
