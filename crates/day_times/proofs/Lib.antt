pub mod DayTimeLaws
