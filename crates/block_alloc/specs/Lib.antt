pub mod BlockWord
