pub mod Infos
pub mod ParametersIn
