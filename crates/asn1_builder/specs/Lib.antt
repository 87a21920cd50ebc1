-- Values that are built by names.
pub mod Kinds
pub mod Drafts
pub mod Steps
