-- `station_names::name_part` meets its contract: the row that is found lies in the file. Assumes nothing.
use Prim.Native.Nat.{◌+◌, ◌≤◌}
use mathlib.Core.Path.{◌≡◌, sym, ap, ◌∙◌}
use native.Mathlib.Omega.{arith}
use lib.ListN.{length}
use Rattle.iff.specs.Lines.{lines}
use Rattle.iff_desk.specs.Parts.{seek_after}
use Rattle.station_names.specs.Names.{name_from, name_part}
use Rattle.parts.proofs.SeekLaws.{wants_station}
use Rattle.station_names.proofs.name_part.Goals as goal

pub returns-in-Some : goal.returns-in-Some
unfolding name_part
returns-in-Some c =
    let is_part : name_from c.seek_after.result ≡ name_part c.args.stations.now c.args.short = let a = c.args in
    ap name_from (c.seek_after.ensures.is ∙ ap (λ p. seek_after p 0 (lines a.stations.now)) (wants_station a.short)) in
    let inside : c.in-Some.i + 73 ≤ length c.args.stations.now = (rw c.in-Some.is at c.seek_after.ensures.within).1 in
    (ap name_from (sym c.in-Some.is) ∙ is_part, record { low = omega arith; high = inside })

pub returns-in-None : goal.returns-in-None
unfolding name_part
returns-in-None c =
    let is_part : name_from c.seek_after.result ≡ name_part c.args.stations.now c.args.short = let a = c.args in
    ap name_from (c.seek_after.ensures.is ∙ ap (λ p. seek_after p 0 (lines a.stations.now)) (wants_station a.short)) in
    let none = c.no_part.ensures in
    (none ∙ ap name_from (sym c.in-None.is) ∙ is_part, rw none (record { low = omega arith; high = omega arith }))

pub overflow_add-from : goal.overflow_add-from
overflow_add-from c =
    let inside : c.in-Some.i + 73 ≤ length c.args.stations.now = (rw c.in-Some.is at c.seek_after.ensures.within).1 in
    omega (arith, inside)

pub overflow_add-to : goal.overflow_add-to
overflow_add-to c =
    let inside : c.in-Some.i + 73 ≤ length c.args.stations.now = (rw c.in-Some.is at c.seek_after.ensures.within).1 in
    omega (arith, inside)
