pub mod ServiceLaws
