-- `own_day` meets its contract: a time's minutes are few, so its days are. Assumes nothing.
use mathlib.Core.Path.{sym, ◌∙◌}
use native.Mathlib.Nat.{add-zero}
use Rattle.clock.proofs.MinuteLaws.{minutes_small}
use Rattle.day_times.proofs.own_day.Goals as goal

pub days_in-requires : goal.days_in-requires
days_in-requires c =
    minutes_small _ _ (sym c.minutes_of.ensures ∙ c.in-Some.is)

pub returns-in-Some : goal.returns-in-Some
returns-in-Some c =
    rw (← c.minutes_of.ensures, c.in-Some.is, c.days_in.ensures.0)

pub returns-in-None : goal.returns-in-None
returns-in-None c =
    rw (← c.minutes_of.ensures, c.in-None.is, add-zero c.args.number)
