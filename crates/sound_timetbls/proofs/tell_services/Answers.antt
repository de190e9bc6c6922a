-- `tell_services` meets its contract. Assumes nothing.
use Rattle.sound_timetbls.proofs.ServiceLaws.{once, twice}
use Rattle.sound_timetbls.proofs.tell_services.Goals as goal

pub returns-then-are_distinct : goal.returns-then-are_distinct
returns-then-are_distinct c =
    let a = c.args in (
      once a.t.now a.used a.run a.places.now _ _ c.are_distinct.ensures.0 a.done c.requires.1 c.are_distinct.ensures.2
          c.if-are_distinct.true,
      c.are_distinct.ensures.1,
    )

pub returns : goal.returns
returns c =
    let a = c.args in
    (twice a.t.now a.used a.run a.places.now _ _ c.are_distinct.ensures.0 c.if-are_distinct.false, c.are_distinct.ensures.1)

pub are_distinct-requires : goal.are_distinct-requires
are_distinct-requires c = c.requires.0
