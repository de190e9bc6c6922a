-- `are_blocks_sound` meets its contract: what is left of the blocks is the whole, and the services before them are in the index, while that has not
-- enough. Assumes nothing.
use Rattle.std.proofs.Common.{rules, ◌≡◌, None}
use Prim.Native.Nat.{◌≤◌, ◌<◌}
use mathlib.Core.Path.{◌≡◌, refl, ap, sym, ◌∙◌}
use mathlib.Core.Bool.{true}
use native.Mathlib.Omega.{arith}
use borrow.Author.Tests.{eq-eqb, ne_eqb}
use lib.Dec.{eqb}
use Rattle.iff.specs.Bytes.{hash}
use Rattle.iff.specs.Tables.{is_hash_row, row_at, row_width}
use Rattle.iff.specs.declared.File.TheVariants.{Timetbls}
use Rattle.tables.proofs.Rows.{row_in_table}
use Rattle.walks.proofs.TableLaws.{inside}
use Rattle.sound_row_walks.specs.Walk.{used_in}
use Rattle.sound_row_walks.proofs.UsedLaws.{room_ends, rows_end, row_used}
use Rattle.sound_blocks.proofs.BlockLaws.{rises}
use Rattle.sound_timetbls.proofs.ServiceLaws.{going_first, all_gone, going_last, row_astray, block_unsound, service_at, service_came, going_on}
use Rattle.sound_timetbls.proofs.are_blocks_sound.Goals as goal

pub loop-i-init : goal.loop-i-init
loop-i-init c =
    let a = c.args in
    going_first _ _ _ _ _ a.t.now _ c.requires.0 (inside Timetbls a.t.now _ refl) c.requires.1 a.places.now _ c.no_keys-run.ensures

pub word_at-tag-requires : goal.word_at-tag-requires
word_at-tag-requires c = (omega arith, row_in_table (row_width Timetbls) c.loop-i.i _ c.loop-i-test.true)

pub tell_services-requires : goal.tell_services-requires
tell_services-requires c =
    let ends_here : used_in c.args.t.now ≤ c.loop-i.i = rows_end c.args.t.now c.loop-i.i c.loop-i.invariant.left.high c.loop-i-test.true _ c.word_at-tag.ensures c.if-tag-eq0.true in
    let a = c.args in
    all_gone _ _ _ _ _ a.t.now _ a.places.now c.loop-i.done c.loop-i.run c.loop-i.i c.loop-i.places c.loop-i.invariant ends_here
    c.requires.1

pub returns-then-tag-eq0 : goal.returns-then-tag-eq0
returns-then-tag-eq0 c =
    let ends_here : used_in c.args.t.now ≤ c.loop-i.i = rows_end c.args.t.now c.loop-i.i c.loop-i.invariant.left.high c.loop-i-test.true _ c.word_at-tag.ensures c.if-tag-eq0.true in
    let a = c.args in (
      going_last _ _ _ _ _ a.t.now _ a.places.now c.loop-i.done c.loop-i.run c.loop-i.i c.loop-i.places c.loop-i.invariant
          ends_here _ _ c.tell_services.ensures.0,
      c.tell_services.ensures.1 ∙ c.loop-i.invariant.wide,
    )

pub returns-then-tag-ne-HASH : goal.returns-then-tag-ne-HASH
returns-then-tag-ne-HASH c =
    let in_use_lem : c.loop-i.i < used_in c.args.t.now = row_used c.args.t.now c.loop-i.i c.loop-i.invariant.left.high c.loop-i-test.true _ c.word_at-tag.ensures
    c.if-tag-eq0.false in
    let a = c.args in (
      row_astray _ _ _ _ _ a.t.now _ a.places.now c.loop-i.done c.loop-i.run c.loop-i.i c.loop-i.places c.loop-i.invariant in_use_lem
          (sym (ap (λ k. eqb k hash) c.word_at-tag.ensures) ∙ ne_eqb _ hash c.if-tag-ne-HASH.true),
      c.loop-i.invariant.wide,
    )

pub test_block-requires : goal.test_block-requires
test_block-requires c =
    let in_use_lem : c.loop-i.i < used_in c.args.t.now = row_used c.args.t.now c.loop-i.i c.loop-i.invariant.left.high c.loop-i-test.true _ c.word_at-tag.ensures
    c.if-tag-eq0.false in
    record { some = in_use_lem; inside = inside Timetbls c.args.t.now _ refl }

pub returns-in_err-end : goal.returns-in_err-end
returns-in_err-end c =
    let in_use_lem : c.loop-i.i < used_in c.args.t.now = row_used c.args.t.now c.loop-i.i c.loop-i.invariant.left.high c.loop-i-test.true _ c.word_at-tag.ensures
    c.if-tag-eq0.false in
    let is_head : is_hash_row (row_at (row_width Timetbls) c.args.t.now c.loop-i.i) ≡ true = sym (ap (λ k. eqb k hash) c.word_at-tag.ensures) ∙ eq-eqb _ hash c.if-tag-ne-HASH.false in
    let handed : c.from_residual.result ≡ None = search rules in
    rw handed (let a = c.args in (
      block_unsound _ _ _ _ _ a.t.now _ a.places.now c.loop-i.done c.loop-i.run c.loop-i.i c.loop-i.places c.loop-i.invariant in_use_lem
          is_head _ c.test_block.ensures c.in_err-end.was,
      c.loop-i.invariant.wide,
    ))

pub index_service-requires : goal.index_service-requires
index_service-requires c =
    let in_use_lem : c.loop-i.i < used_in c.args.t.now = row_used c.args.t.now c.loop-i.i c.loop-i.invariant.left.high c.loop-i-test.true _ c.word_at-tag.ensures
    c.if-tag-eq0.false in
    let a = c.args in
    service_at _ _ _ _ _ a.t.now _ a.places.now c.loop-i.done c.loop-i.run c.loop-i.i c.loop-i.places c.loop-i.invariant in_use_lem
    c.requires.1

pub returns-in_err-run : goal.returns-in_err-run
returns-in_err-run c =
    let in_use_lem : c.loop-i.i < used_in c.args.t.now = row_used c.args.t.now c.loop-i.i c.loop-i.invariant.left.high c.loop-i-test.true _ c.word_at-tag.ensures
    c.if-tag-eq0.false in
    let is_head : is_hash_row (row_at (row_width Timetbls) c.args.t.now c.loop-i.i) ≡ true = sym (ap (λ k. eqb k hash) c.word_at-tag.ensures) ∙ eq-eqb _ hash c.if-tag-ne-HASH.false in
    let a = c.args in
    let handed : c.from_residual-in_err-run.result ≡ None = search rules in
    rw handed (service_came _ _ _ _ _ a.t.now _ a.places.now c.loop-i.done c.loop-i.run c.loop-i.i c.loop-i.places c.loop-i.invariant in_use_lem
    is_head _ c.test_block.ensures _ c.in_ok-end.was _ _ c.index_service.ensures c.in_err-run.was)

pub overflow_add-done : goal.overflow_add-done
overflow_add-done c =
    omega (arith, c.loop-i.invariant.few)

pub loop-i-smaller : goal.loop-i-smaller
loop-i-smaller c =
    let in_use_lem : c.loop-i.i < used_in c.args.t.now = row_used c.args.t.now c.loop-i.i c.loop-i.invariant.left.high c.loop-i-test.true _ c.word_at-tag.ensures
    c.if-tag-eq0.false in
    let is_head : is_hash_row (row_at (row_width Timetbls) c.args.t.now c.loop-i.i) ≡ true = sym (ap (λ k. eqb k hash) c.word_at-tag.ensures) ∙ eq-eqb _ hash c.if-tag-ne-HASH.false in
    let a = c.args in
    let more = rises _ _ _ _ _ a.t.now _ c.loop-i.i c.loop-i.invariant.left in_use_lem is_head _ c.test_block.ensures _
    c.in_ok-end.was in
    omega (arith, more, c.loop-i-test.true)

pub loop-i-preserved : goal.loop-i-preserved
loop-i-preserved c =
    let in_use_lem : c.loop-i.i < used_in c.args.t.now = row_used c.args.t.now c.loop-i.i c.loop-i.invariant.left.high c.loop-i-test.true _ c.word_at-tag.ensures
    c.if-tag-eq0.false in
    let is_head : is_hash_row (row_at (row_width Timetbls) c.args.t.now c.loop-i.i) ≡ true = sym (ap (λ k. eqb k hash) c.word_at-tag.ensures) ∙ eq-eqb _ hash c.if-tag-ne-HASH.false in
    let a = c.args in
    going_on _ _ _ _ _ a.t.now _ a.places.now c.loop-i.done c.loop-i.run c.loop-i.i c.loop-i.places c.loop-i.invariant in_use_lem
    is_head _ c.test_block.ensures _ c.in_ok-end.was _ _ c.index_service.ensures _ c.in_ok-run.was

pub tell_services-requires-2 : goal.tell_services-requires-2
tell_services-requires-2 c =
    let ends_with_room : used_in c.args.t.now ≤ c.loop-i.i = room_ends c.args.t.now c.loop-i.i c.loop-i.invariant.left.high c.loop-i-test.false in
    let a = c.args in
    all_gone _ _ _ _ _ a.t.now _ a.places.now c.loop-i.done c.loop-i.run c.loop-i.i c.loop-i.places c.loop-i.invariant ends_with_room
    c.requires.1

pub returns : goal.returns
returns c =
    let ends_with_room : used_in c.args.t.now ≤ c.loop-i.i = room_ends c.args.t.now c.loop-i.i c.loop-i.invariant.left.high c.loop-i-test.false in
    let a = c.args in (
      going_last _ _ _ _ _ a.t.now _ a.places.now c.loop-i.done c.loop-i.run c.loop-i.i c.loop-i.places c.loop-i.invariant
          ends_with_room _ _ c.tell_services-2.ensures.0,
      c.tell_services-2.ensures.1 ∙ c.loop-i.invariant.wide,
    )
