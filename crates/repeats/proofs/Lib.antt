pub mod AskingLaws
pub mod KeyLaws
