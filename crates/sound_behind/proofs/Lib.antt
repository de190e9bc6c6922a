pub mod BehindLaws
pub mod TimetblsLaws
