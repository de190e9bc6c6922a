pub mod MinuteLaws
