-- `service_lines::lines_part` meets its contract: where the service's first line was found, and where the next block begins. Assumes nothing.
use Rattle.std.specs.Prelude.{Ok}
use Prim.Native.Nat.{◌+◌, ◌≤◌}
use mathlib.Core.Path.{◌≡◌, sym, ap, ◌∙◌}
use native.Mathlib.Omega.{arith}
use lib.ListN.{length, drop}
use Rattle.iff.specs.Lines.{lines}
use Rattle.iff_desk.specs.Parts.{seek, seek_after}
use Rattle.service_lines.specs.Bounds.{end_at, lines_from, lines_part}
use Rattle.parts.specs.declared.Part.{Part}
use Rattle.parts.proofs.SeekLaws.{wants_head, wants_hash}
use Rattle.service_lines.proofs.lines_part.Goals as goal

pub returns-in-Some-seek_after : goal.returns-in-Some-seek_after
unfolding lines_part
returns-in-Some-seek_after c =
    let is_part : lines_from c.args.text.now c.seek.result
    ≡ lines_part c.args.text.now c.args.service = let a = c.args in
    ap (lines_from a.text.now) (c.seek.ensures.is ∙ ap (λ p. seek p 0 (lines a.text.now)) (wants_head a.service)) in
    let up_to : ◌≡◌ {A = Part}
    (record {
      test = Ok tt;
      from = c.in-Some.i;
      to = end_at c.args.text.now c.seek_after.result;
    })
    (lines_part c.args.text.now c.args.service) = let t = c.args.text.now in
    let at = c.in-Some.i in
    ap (λ o. record { test = Ok tt; from = at; to = end_at t o })
    (c.seek_after.ensures.is ∙ ap (λ p. seek_after p at (lines (drop at t))) wants_hash)
    ∙ ap (lines_from t) (sym c.in-Some.is)
    ∙ is_part in
    let stop_in : (c.in-Some.i ≤ c.in-Some-seek_after.j)
    × (c.in-Some-seek_after.j + 1 ≤ length c.args.text.now) = rw c.in-Some-seek_after.is at c.seek_after.ensures.within in
    let t = c.args.text.now in (
      ap (λ o. record { test = Ok tt; from = c.in-Some.i; to = end_at t o }) (sym c.in-Some-seek_after.is) ∙ up_to,
      record { low = (stop_in).0; high = omega (arith, stop_in) },
    )

pub returns-in-None-seek_after : goal.returns-in-None-seek_after
unfolding lines_part
returns-in-None-seek_after c =
    let is_part : lines_from c.args.text.now c.seek.result
    ≡ lines_part c.args.text.now c.args.service = let a = c.args in
    ap (lines_from a.text.now) (c.seek.ensures.is ∙ ap (λ p. seek p 0 (lines a.text.now)) (wants_head a.service)) in
    let up_to : ◌≡◌ {A = Part}
    (record {
      test = Ok tt;
      from = c.in-Some.i;
      to = end_at c.args.text.now c.seek_after.result;
    })
    (lines_part c.args.text.now c.args.service) = let t = c.args.text.now in
    let at = c.in-Some.i in
    ap (λ o. record { test = Ok tt; from = at; to = end_at t o })
    (c.seek_after.ensures.is ∙ ap (λ p. seek_after p at (lines (drop at t))) wants_hash)
    ∙ ap (lines_from t) (sym c.in-Some.is)
    ∙ is_part in
    let head_in : c.in-Some.i + 9 ≤ length c.args.text.now = (rw c.in-Some.is at c.seek.ensures.within).1 in
    let t = c.args.text.now in (
      ap (λ o. record { test = Ok tt; from = c.in-Some.i; to = end_at t o }) (sym c.in-None-seek_after.is) ∙ up_to,
      record { low = omega (arith, head_in); high = omega arith },
    )

pub returns-in-None : goal.returns-in-None
unfolding lines_part
returns-in-None c =
    let is_part : lines_from c.args.text.now c.seek.result
    ≡ lines_part c.args.text.now c.args.service = let a = c.args in
    ap (lines_from a.text.now) (c.seek.ensures.is ∙ ap (λ p. seek p 0 (lines a.text.now)) (wants_head a.service)) in
    let none = c.no_part.ensures in (
      none ∙ ap (lines_from c.args.text.now) (sym c.in-None.is) ∙ is_part,
      rw none (record { low = omega arith; high = omega arith }),
    )

pub seek_after-requires : goal.seek_after-requires
seek_after-requires c =
    let head_in : c.in-Some.i + 9 ≤ length c.args.text.now = (rw c.in-Some.is at c.seek.ensures.within).1 in
    omega (arith, head_in)
