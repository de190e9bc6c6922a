-- `block_puts::add_block` meets its contract: each way out is one of the laws of one block. Assumes nothing.
use Rattle.std.proofs.Common.{rules, ◌≡◌, Err}
use Prim.Native.Nat.{ℕ}
use mathlib.Core.Path.{refl, ap, ◌∙◌}
use mathlib.Core.Bool.{not}
use native.Mathlib.Omega.{arith}
use Rattle.iff.specs.Lists.{has}
use Rattle.iff.specs.declared.File.TheVariants.{Timetbls}
use Rattle.keys.specs.Lookup.{keys_in}
use Rattle.block_puts.proofs.AddLaws.{added_faulty, room_for, added_kept}
use Rattle.block_puts.proofs.add_block.Goals as goal

pub tell_new-new-requires : goal.tell_new-new-requires
tell_new-new-requires c =
    (c.requires.holding.services, c.requires.holding.marked)

pub try_block-requires : goal.try_block-requires
try_block-requires c =
    let a = c.args in
    record {
      one = c.requires.one;
      exact = λ t. c.tell_new-new.ensures.exact t ∙ ap (λ (x : ℕ). not (has x (keys_in Timetbls a.t.now))) (c.service_of-service.ensures a.form);
      rows = c.requires.holding.rows;
      room = c.requires.room;
    }

pub overflow_add-next : goal.overflow_add-next
overflow_add-next c =
    let a = c.args in
    let p = room_for a.form a.block.now a.t.now _ a.counts a.companies.now a.modes.now a.stations.now a.footnotes.now
    a.row c.tell_new-new.result _ c.try_block.ensures a.search a.marks.now a.run c.requires _ _ c.in_ok-size.was in
    omega (arith, p, c.well_formed)

pub after_block-requires : goal.after_block-requires
after_block-requires c = c.requires.holding.marked.wide

pub returns-in_err-size : goal.returns-in_err-size
returns-in_err-size c =
    let a = c.args in
    let handed : c.from_residual.result ≡ Err c.in_err-size.field-0.0 = search rules in
    rw handed (added_faulty a.form a.block.now a.t.now _ a.counts a.companies.now a.modes.now a.stations.now a.footnotes.now
    a.row c.tell_new-new.result _ c.try_block.ensures a.search _ _ c.in_err-size.was _)

pub returns : goal.returns
returns c =
    let a = c.args in
    added_kept a.form a.block.now a.t.now _ a.counts a.companies.now a.modes.now a.stations.now a.footnotes.now
    a.row c.tell_new-new.result _ c.try_block.ensures a.search a.marks.now a.run c.requires _ _ c.in_ok-size.was
    c.try_block.auto.t _ _ _ _ (c.after_block.ensures a.form) refl refl c.tell_new-new.ensures.asked
