-- `put_key` meets its contract: a walk over the slots tells whether the key is new. Assumes nothing.
use native.Mathlib.Omega.{arith}
use Rattle.key_sets.proofs.SetLaws.{put_free, put_taken, put_nowhere}
use Rattle.key_sets.proofs.put_key.Goals as goal

pub returns-then-key-ge4294967295 : goal.returns-then-key-ge4294967295
returns-then-key-ge4294967295 c =
    let a = c.args in
    put_nowhere a.set.now a.key

pub returns-then-set-le-WINDOW : goal.returns-then-set-le-WINDOW
returns-then-set-le-WINDOW c =
    let a = c.args in
    put_nowhere a.set.now a.key

-- the slot that was met is there
pub bounds-set-at : goal.bounds-set-at
bounds-set-at c = (c.probe.ensures.free _ c.in-Free.is).inside

pub offset_bounds-set-at : goal.offset_bounds-set-at
offset_bounds-set-at c = omega (arith, ((c.probe.ensures.free _ c.in-Free.is).inside))

pub returns-in-Free : goal.returns-in-Free
returns-in-Free c =
    let a = c.args in
    put_free a.set.now a.key _ (c.probe.ensures.free _ c.in-Free.is)

pub returns-in-Taken : goal.returns-in-Taken
returns-in-Taken c =
    let a = c.args in
    put_taken a.set.now a.key (c.probe.ensures.taken c.in-Taken.is)

pub returns-in-Full : goal.returns-in-Full
returns-in-Full c =
    let a = c.args in
    put_nowhere a.set.now a.key

pub overflow_add-set : goal.overflow_add-set
overflow_add-set c = omega arith

pub overflow_cast-set : goal.overflow_cast-set
overflow_cast-set c = omega arith
