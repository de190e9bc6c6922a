pub mod AbsentLaws
