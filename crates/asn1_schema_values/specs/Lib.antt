-- Values, as parts and tables have them.
pub mod Extents
pub mod Names
pub mod Values
pub mod Leaves
pub mod Tables
