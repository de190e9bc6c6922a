-- `better` meets its contract: ranks first, and times where they are equal. Assumes nothing.
use mathlib.Core.Path.{sym}
use native.Mathlib.Omega.{arith}
use Rattle.iff_desk.specs.Changing.{better}
use Rattle.verdicts.proofs.BestLaws.{higher_wins, lower_loses, longer_wins, shorter_loses}
use Rattle.verdicts.proofs.better.Goals as goal

pub returns-then-best-rank : goal.returns-then-best-rank
returns-then-best-rank c =
    let a = c.args in
    rw c.in-Some.is (sym (higher_wins c.in-Some.best.rank c.in-Some.best.time a.rank a.time (omega arith)))

pub returns-then-rank-best : goal.returns-then-rank-best
returns-then-rank-best c =
    let a = c.args in
    rw c.in-Some.is (sym (lower_loses c.in-Some.best.rank c.in-Some.best.time a.rank a.time (omega arith)))

pub returns-then-best-time : goal.returns-then-best-time
returns-then-best-time c =
    let a = c.args in
    rw c.in-Some.is
    (sym (longer_wins c.in-Some.best.rank c.in-Some.best.time a.rank a.time (omega arith) (omega arith)))

pub returns-in-None : goal.returns-in-None
unfolding better
returns-in-None c = rw c.in-None.is

pub returns-else-best-time : goal.returns-else-best-time
returns-else-best-time c =
    let a = c.args in
    rw c.in-Some.is
    (sym (shorter_loses c.in-Some.best.rank c.in-Some.best.time a.rank a.time (omega arith) (omega arith)))
