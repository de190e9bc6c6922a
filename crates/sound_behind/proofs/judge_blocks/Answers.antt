-- `sound_behind::judge_blocks` meets its contract: the first line's tag, the blocks with their services, unused places, then the rest of the frame.
-- Assumes nothing.
use Rattle.std.proofs.Common.{rules, ◌≡◌, None}
use mathlib.Core.Path.{◌≡◌, refl, ap, sym, ◌∙◌}
use mathlib.Core.Bool.{◌&&◌}
use native.Mathlib.Omega.{arith}
use borrow.Author.Tests.{not-true, not-false}
use lib.ListN.{length}
use Rattle.iff.specs.Bytes.{at}
use Rattle.iff.specs.Tables.{tag, row_at, row_width, rows_in, rising}
use Rattle.iff.specs.declared.File.TheVariants.{Timetbls}
use Rattle.iff_rules.specs.Rows.{Context}
use Rattle.references.specs.Agree.{BlockKeysAmong}
use Rattle.walks.proofs.TableLaws.{inside, tag_first}
use Rattle.sound_timetbls.specs.Told.{are_sound}
use Rattle.sound_frames.specs.Frames.{framed}
use Rattle.sound_frames.proofs.FrameLaws.{no_key, not_first, not_zero}
use Rattle.sound_behind.specs.Behind.{behind}
use Rattle.sound_behind.proofs.TimetblsLaws.{by_number, some_rows_told, rows_refused, frame_refused, services_are, blocks_refused, services_distinct, by_frame, wrong, right}
use Rattle.sound_behind.proofs.judge_blocks.Goals as goal

pub returns-then-word_or_zero-ne-AT : goal.returns-then-word_or_zero-ne-AT
returns-then-word_or_zero-ne-AT c =
    let a = c.args in
    let n = length (rows_in Timetbls a.t.now) in
    wrong _ _ _ _ _ a.form a.delivery.now a.t.now _
    (λ x agree.
    rows_refused a.t.now n refl c.requires.0 a.form a.delivery.now x
    (not_first Timetbls a.t.now n refl a.form a.delivery.now c.requires.0
    (λ e. c.if-word_or_zero-ne-AT.true (c.word_or_zero.ensures ∙ tag_first Timetbls a.t.now ∙ e))))

pub are_blocks_sound-requires : goal.are_blocks_sound-requires
are_blocks_sound-requires c =
    let first_tag : tag (row_at (row_width Timetbls) c.args.t.now 0) ≡ at = let a = c.args in
    sym (tag_first Timetbls a.t.now) ∙ sym c.word_or_zero.ensures ∙ c.if-word_or_zero-ne-AT.false in
    (omega (arith, c.requires.0), no_key Timetbls _ first_tag)

pub returns-in_err-blocks : goal.returns-in_err-blocks
returns-in_err-blocks c =
    let first_tag : tag (row_at (row_width Timetbls) c.args.t.now 0) ≡ at = let a = c.args in
    sym (tag_first Timetbls a.t.now) ∙ sym c.word_or_zero.ensures ∙ c.if-word_or_zero-ne-AT.false in
    let a = c.args in
    let handed : c.from_residual.result ≡ None = search rules in
    rw handed (wrong _ _ _ _ _ a.form a.delivery.now a.t.now _
    (λ x agree.
    blocks_refused a.t.now (length (rows_in Timetbls a.t.now)) refl c.requires.0 a.form a.delivery.now x first_tag
    (sym (ap are_sound c.in_err-blocks.was) ∙ c.are_blocks_sound.ensures.0.says x agree)))

pub overflow_mul-blocks : goal.overflow_mul-blocks
overflow_mul-blocks c =
    let a = c.args in
    let n = c.are_blocks_sound.ensures.0.rows _ _ _ c.in_ok-blocks.was in
    omega (arith, inside Timetbls a.t.now _ n, c.well_formed)

pub returns-then-not-zero_from : goal.returns-then-not-zero_from
returns-then-not-zero_from c =
    let a = c.args in
    let n = c.are_blocks_sound.ensures.0.rows _ _ _ c.in_ok-blocks.was in
    wrong _ _ _ _ _ a.form a.delivery.now a.t.now _
    (λ x agree.
    frame_refused a.t.now _ n (some_rows_told _ _ n c.requires.0) a.form a.delivery.now x
    (not_zero Timetbls a.t.now _ n a.form a.delivery.now (sym c.zero_from.ensures ∙ not-true _ c.if-not-zero_from.true-raw)))

pub are_rows_framed_by-requires : goal.are_rows_framed_by-requires
are_rows_framed_by-requires c =
    let n = c.are_blocks_sound.ensures.0.rows _ _ _ c.in_ok-blocks.was in
    (some_rows_told _ _ n c.requires.0, n, c.requires.1)

pub returns-then-not-are_rows_framed_by : goal.returns-then-not-are_rows_framed_by
returns-then-not-are_rows_framed_by c =
    let first_tag : tag (row_at (row_width Timetbls) c.args.t.now 0) ≡ at = let a = c.args in
    sym (tag_first Timetbls a.t.now) ∙ sym c.word_or_zero.ensures ∙ c.if-word_or_zero-ne-AT.false in
    let frame_is : (x : Context) → BlockKeysAmong x c.args.counts c.args.companies.now
    c.args.modes.now c.args.stations.now
    c.args.footnotes.now
    → c.are_rows_framed_by.result
    ≡ (framed c.args.form c.args.delivery.now Timetbls
    c.args.t.now
    && behind x Timetbls (rows_in Timetbls c.args.t.now)) = λ x agree. let a = c.args in
    let q = first_tag in
    let is = c.in_ok-blocks.was in
    let n = c.are_blocks_sound.ensures.0.rows _ _ _ is in
    let some = some_rows_told _ _ n c.requires.0 in
    let told = by_number _ _ _ _ _ a.t.now _ _ n _ _ c.are_blocks_sound.ensures.0 in
    let y = sym (ap are_sound is) ∙ told.says x agree in
    c.are_rows_framed_by.ensures
    (services_distinct a.t.now _ n some a.form a.delivery.now x q y)
    (told.rise _ _ _ is ∙ ap rising (services_are a.t.now _ n some a.form a.delivery.now x q))
    ∙ by_frame a.t.now _ n some a.form a.delivery.now x q y (sym c.zero_from.ensures ∙ not-false _ c.if-not-zero_from.false-raw) in
    let a = c.args in
    wrong _ _ _ _ _ a.form a.delivery.now a.t.now _ (λ x agree. sym (not-true _ c.if-not-are_rows_framed_by.true-raw) ∙ frame_is x agree)

pub returns : goal.returns
returns c =
    let first_tag : tag (row_at (row_width Timetbls) c.args.t.now 0) ≡ at = let a = c.args in
    sym (tag_first Timetbls a.t.now) ∙ sym c.word_or_zero.ensures ∙ c.if-word_or_zero-ne-AT.false in
    let frame_is : (x : Context) → BlockKeysAmong x c.args.counts c.args.companies.now
    c.args.modes.now c.args.stations.now
    c.args.footnotes.now
    → c.are_rows_framed_by.result
    ≡ (framed c.args.form c.args.delivery.now Timetbls
    c.args.t.now
    && behind x Timetbls (rows_in Timetbls c.args.t.now)) = λ x agree. let a = c.args in
    let q = first_tag in
    let is = c.in_ok-blocks.was in
    let n = c.are_blocks_sound.ensures.0.rows _ _ _ is in
    let some = some_rows_told _ _ n c.requires.0 in
    let told = by_number _ _ _ _ _ a.t.now _ _ n _ _ c.are_blocks_sound.ensures.0 in
    let y = sym (ap are_sound is) ∙ told.says x agree in
    c.are_rows_framed_by.ensures
    (services_distinct a.t.now _ n some a.form a.delivery.now x q y)
    (told.rise _ _ _ is ∙ ap rising (services_are a.t.now _ n some a.form a.delivery.now x q))
    ∙ by_frame a.t.now _ n some a.form a.delivery.now x q y (sym c.zero_from.ensures ∙ not-false _ c.if-not-zero_from.false-raw) in
    let a = c.args in
    let is = c.in_ok-blocks.was in
    right _ _ _ _ _ a.form a.delivery.now a.t.now _ _ _
    (c.are_blocks_sound.ensures.0.rows _ _ _ is)
    (c.are_blocks_sound.ensures.0.index _ _ _ is)
    (λ x agree. sym (not-false _ c.if-not-are_rows_framed_by.false-raw) ∙ frame_is x agree)
