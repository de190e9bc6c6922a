-- `day_number` meets its contract: a day's number is small. Assumes nothing.
use mathlib.Core.Path.{sym, ◌∙◌}
use native.Mathlib.Omega.{arith}
use borrow.Author.Rules.{rules}
use Rattle.calendar.proofs.DayLaws.{day_small}
use Rattle.stop_times.proofs.day_number.Goals as goal

pub returns-in-Some : goal.returns-in-Some
returns-in-Some c =
    let e = c.in-Some.is in
    (rw (← c.day_of.ensures, e), omega (arith, day_small _ _ (sym c.day_of.ensures ∙ e)))

pub returns-in-None : goal.returns-in-None
returns-in-None c = (rw (← c.day_of.ensures, c.in-None.is), search rules)
