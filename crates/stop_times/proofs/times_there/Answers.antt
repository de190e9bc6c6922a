-- `times_there` meets its contract: both times by themselves, and 15 for either. Assumes nothing.
use mathlib.Core.Path.{refl}
use Rattle.stop_times.proofs.TimeLaws.{no_arrival, no_departure, both_told}
use Rattle.stop_times.proofs.times_there.Goals as goal

pub arrival_on-requires : goal.arrival_on-requires
arrival_on-requires c =
    let q = c.requires in
    (q.0, q.1, q.2, q.3, c.day_number-number.ensures.1)

pub departure_on-requires : goal.departure_on-requires
departure_on-requires c = (let q = c.requires in
    (q.0, q.1, q.2, q.3, c.day_number-number.ensures.1))

pub returns-in_default : goal.returns-in_default
returns-in_default c R z s =
    no_arrival R _ _ _ _ c.word_of-station.ensures c.day_number-number.ensures.0 _ _ (c.arrival_on.ensures.is R z s) refl c.in_default.is

pub returns-in_default-departure_on : goal.returns-in_default-departure_on
returns-in_default-departure_on c R z s =
    no_departure R _ _ _ _ c.word_of-station.ensures c.day_number-number.ensures.0 _ _ (c.arrival_on.ensures.is R z s)
    (c.departure_on.ensures.is R z s) _ c.in-Some.is c.in_default-departure_on.is

pub returns : goal.returns
returns c R z s =
    both_told R _ _ _ _ c.word_of-station.ensures c.day_number-number.ensures.0 _ _ (c.arrival_on.ensures.is R z s)
    (c.departure_on.ensures.is R z s) _ _ c.in-Some.is c.in-Some-departure_on.is
