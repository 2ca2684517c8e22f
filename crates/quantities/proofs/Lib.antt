pub mod Wholes
pub mod Totals
pub mod NoWrap
