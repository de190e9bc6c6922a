-- What the bytes that are left say is the whole. Assumes nothing.
use Prim.Native.Nat.{◌-◌}
use Rattle.codes.proofs.CodeLaws.{Coding}
use Rattle.codes.proofs.is_code.Given as goal

abbrev pub invariant-loop : goal.invariant-loop
invariant-loop l = Coding l.word l.width l.left (l.width - l.counter) l.blank
