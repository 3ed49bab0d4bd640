pub mod Refusals
pub mod TermsFile
