pub mod Forming
pub mod Inequalities
