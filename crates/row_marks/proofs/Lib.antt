pub mod RememberLaws
