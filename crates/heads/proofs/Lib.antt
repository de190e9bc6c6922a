pub mod BeginLaws
pub mod FileLaws
pub mod DeliveryLaws
