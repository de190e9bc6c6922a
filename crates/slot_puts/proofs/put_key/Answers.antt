-- `put_key` meets its contract: a walk over the slots tells whether the key is new, or a search does. Assumes nothing.
use Prim.Native.Nat.{◌<◌}
use native.Mathlib.Omega.{arith}
use lib.ListN.{length}
use Rattle.keys.specs.Places.{probes}
use Rattle.keys.proofs.PlaceLaws.{place_inside}
use Rattle.slot_puts.proofs.PutLaws.{searched, put_free, searched_full, put_taken}
use Rattle.slot_puts.proofs.put_key.Goals as goal

pub returns-then-i-gt4294967295 : goal.returns-then-i-gt4294967295
returns-then-i-gt4294967295 c =
    let a = c.args in
    searched a.file a.t.now a.run a.i a.key a.places.now c.requires.0 c.requires.1.1 _ c.is_new_key.ensures
    (λ n l w. absurd (omega (arith, c.if-i-gt4294967295.true)))

pub returns-then-places-le-PROBES : goal.returns-then-places-le-PROBES
returns-then-places-le-PROBES c =
    let a = c.args in
    searched a.file a.t.now a.run a.i a.key a.places.now c.requires.0 c.requires.1.1 _ c.is_new_key-then-places-le-PROBES.ensures
    (λ n l w. absurd (omega (arith, c.if-places-le-PROBES.true)))

-- the slot that was met is there
pub bounds-places-at : goal.bounds-places-at
bounds-places-at c =
    let a = c.args in
    let h : probes < length a.places.now = c.if-places-le-PROBES.false in
    omega (arith, (c.probe.ensures.free _ c.in-Free.is).high, place_inside a.key (length a.places.now) h)

pub offset_bounds-places-at : goal.offset_bounds-places-at
offset_bounds-places-at c = omega (arith, bounds-places-at c)

pub returns-in-Free : goal.returns-in-Free
returns-in-Free c =
    let a = c.args in
    put_free a.file a.t.now a.run a.i a.key a.places.now c.requires.0 c.requires.1.1 c.if-places-le-PROBES.false
    c.if-i-gt4294967295.false _ (c.probe.ensures.free _ c.in-Free.is)

pub returns-in-Taken : goal.returns-in-Taken
returns-in-Taken c =
    let a = c.args in
    put_taken a.file a.t.now a.run a.i a.key a.places.now c.requires.0 c.requires.1.1 (c.probe.ensures.taken c.in-Taken.is)

pub returns-in-Full : goal.returns-in-Full
returns-in-Full c =
    let a = c.args in
    searched_full a.file a.t.now a.run a.i a.key a.places.now c.requires.0 c.requires.1.1 c.if-places-le-PROBES.false
    c.if-i-gt4294967295.false _ c.is_new_key-in-Full.ensures (c.probe.ensures.full c.in-Full.is)
