-- The closed form is the count year by year, by `counted`. Assumes nothing.
use native.Mathlib.Omega.{arith}
use Rattle.calendar.proofs.DayLaws.{counted}
use Rattle.calendar.proofs.days_of_years.Goals as goal

pub returns : goal.returns
returns c = (counted c.args.years, omega arith)
