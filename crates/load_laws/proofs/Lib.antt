pub mod LoadLaw
