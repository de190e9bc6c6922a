-- `line_counts::count_lines` meets its contract: the ends counted and those from a run on are all. Assumes nothing.
use Prim.Native.Nat.{◌-◌, ◌/◌}
use mathlib.Core.Path.{◌≡◌}
use native.Mathlib.Omega.{arith}
use lib.ListN.{length}
use Rattle.line_counts.proofs.EndLaws.{counted_all, none_counted}
use Rattle.line_counts.proofs.count_lines.Goals as goal

pub returns-then-text-eq0 : goal.returns-then-text-eq0
returns-then-text-eq0 c = none_counted _ c.if-text-eq0.true

pub returns : goal.returns
returns c =
    let last = length c.args.text.now - 1 in
    let e : c.loop-run.run ≡ last / 240 = omega (arith, c.loop-run-test.false, c.loop-run.auto) in
    counted_all _ last _ _ _ (omega (arith, c.if-text-eq0.false)) _ (rw e at c.loop-run.invariant.left) c.ends_in-2.ensures.0 c.remainder_of.ensures.0
