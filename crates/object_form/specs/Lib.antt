pub mod Class
pub mod Block
pub mod Meta
pub mod Link
pub mod Content
