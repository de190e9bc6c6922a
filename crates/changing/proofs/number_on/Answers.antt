-- `number_on` meets its contract: a day's number is small, so that the sum fits. Assumes nothing.
use mathlib.Core.Path.{sym, ◌∙◌}
use native.Mathlib.Omega.{arith}
use Rattle.calendar.proofs.DayLaws.{day_small}
use Rattle.changing.proofs.ZoneLaws.{number_is, no_number}
use Rattle.changing.proofs.number_on.Goals as goal

pub overflow_add-result : goal.overflow_add-result
overflow_add-result c =
    omega (arith, day_small c.first_word.result c.in-Some.first (sym c.day_of.ensures ∙ c.in-Some.is))

pub returns-in-Some : goal.returns-in-Some
returns-in-Some c =
    let a = c.args in
    let k = sym c.day_of.ensures ∙ c.in-Some.is in (
      (λ R e. number_is R a.delivery.now e c.first_word.result c.first_word.ensures a.day c.in-Some.first k),
      omega (arith, day_small _ _ k, c.requires.1),
    )

pub returns-in-None : goal.returns-in-None
returns-in-None c =
    let a = c.args in (
      (λ R e. no_number R a.delivery.now e c.first_word.result c.first_word.ensures a.day
          (sym c.day_of.ensures ∙ c.in-None.is)),
      omega (arith, c.requires.1),
    )
