pub mod PutLaws
pub mod AddLaws
pub mod AgainLaws
