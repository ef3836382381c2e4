pub mod ErasureLaws
