-- Definitions of texts, and of what their writers say of a buffer.
pub mod Text
pub mod Output
