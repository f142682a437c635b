pub mod Lfos
pub mod Tweeners
