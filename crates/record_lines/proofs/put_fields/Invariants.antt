-- What is left to put is what the fields that are left leave. Assumes nothing.
use Prim.Native.Nat.{◌+◌, ◌-◌}
use Rattle.record_lines.proofs.ColumnLaws.{Putting}
use Rattle.record_lines.proofs.put_fields.Given as goal

abbrev pub invariant-loop-j : goal.invariant-loop-j
invariant-loop-j l = Putting l.tag l.n l.line l.first l.end l.initial.out l.out (l.j - l.first + 1) l.j
