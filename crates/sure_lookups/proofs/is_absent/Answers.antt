-- `is_absent` meets its contract: a free slot before any row of the key. Where it says no, it promises nothing. Assumes nothing.
use mathlib.Core.Bool.{false≢true}
use lib.ListN.{length}
use Rattle.keys.specs.Places.{place_of}
use Rattle.slots.specs.Slots.{Probed}
use Rattle.sure_lookups.proofs.AbsentLaws.{absent}
use Rattle.sure_lookups.proofs.is_absent.Goals as goal

pub returns-in-Free : goal.returns-in-Free
returns-in-Free c told =
    let a = c.args in
    let met : Probed a.file a.t.now a.used a.key a.heads.now (place_of a.key (length a.heads.now)) c.probe.result =
    c.probe.ensures
    in
    absent a.file a.t.now a.used a.heads.now c.requires.0 c.requires.1 c.if-heads-le-PROBES.false c.if-used-gt4294967295.false _ _
    c.word_or_zero.ensures c.key_tag-tag.ensures c.if-word_or_zero-tag.false a.key _ (met.free _ c.in-Free.is)

pub returns-then-heads-le-PROBES : goal.returns-then-heads-le-PROBES
returns-then-heads-le-PROBES c told = absurd (false≢true told)

pub returns-then-used-gt4294967295 : goal.returns-then-used-gt4294967295
returns-then-used-gt4294967295 c told = absurd (false≢true told)

pub returns-then-word_or_zero-tag : goal.returns-then-word_or_zero-tag
returns-then-word_or_zero-tag c told = absurd (false≢true told)

pub returns-in-Taken : goal.returns-in-Taken
returns-in-Taken c told = absurd (false≢true told)

pub returns-in-Full : goal.returns-in-Full
returns-in-Full c told = absurd (false≢true told)
