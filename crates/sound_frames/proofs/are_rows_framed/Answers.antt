-- `sound_frames::are_rows_framed` meets its contract: test by test. Assumes nothing.
use mathlib.Core.Path.{◌≡◌, ap, sym, ◌∙◌}
use borrow.Author.Tests.{not-true, not-false}
use Rattle.iff.specs.Bytes.{at}
use Rattle.iff.specs.Tables.{tag, row_at, row_width, rising, keys_of}
use Rattle.iff_desk.specs.Sound.{distinct as are_distinct}
use Rattle.keys.specs.Blocks.{rows_between}
use Rattle.walks.proofs.TableLaws.{inside, tag_first}
use Rattle.sound_frames.proofs.FrameLaws.{no_key, later_keys, not_first, not_distinct}
use Rattle.sound_frames.proofs.are_rows_framed.Goals as goal

pub returns-then-word_or_zero-ne-AT : goal.returns-then-word_or_zero-ne-AT
returns-then-word_or_zero-ne-AT c =
    let a = c.args in
    not_first a.file a.t.now a.used c.requires.1 a.form a.delivery.now c.requires.0
    (λ e. c.if-word_or_zero-ne-AT.true (c.word_or_zero.ensures ∙ tag_first a.file a.t.now ∙ e))

pub index_keys-keys-requires : goal.index_keys-keys-requires
index_keys-keys-requires c =
    let first_tag : tag (row_at (row_width c.args.file) c.args.t.now 0) ≡ at = let a = c.args in
    sym (tag_first a.file a.t.now) ∙ sym c.word_or_zero.ensures ∙ c.if-word_or_zero-ne-AT.false in
    let a = c.args in
    (inside a.file a.t.now a.used c.requires.1, no_key a.file _ first_tag)

pub returns-then-not-keys : goal.returns-then-not-keys
returns-then-not-keys c =
    let first_tag : tag (row_at (row_width c.args.file) c.args.t.now 0) ≡ at = let a = c.args in
    sym (tag_first a.file a.t.now) ∙ sym c.word_or_zero.ensures ∙ c.if-word_or_zero-ne-AT.false in
    let keys_are : c.index_keys-keys.result.distinct
    ≡ are_distinct (keys_of c.args.file (rows_between (row_width c.args.file) c.args.t.now 1 c.args.used)) = let a = c.args in
    c.index_keys-keys.ensures.0.distinct
    ∙ ap are_distinct (later_keys a.file a.t.now a.used c.requires.1 c.requires.0 first_tag) in
    let a = c.args in
    not_distinct a.file a.t.now a.used c.requires.1 a.form a.delivery.now c.requires.0
    (sym keys_are ∙ not-true _ c.if-not-keys.true)

pub are_rows_framed_by-requires : goal.are_rows_framed_by-requires
are_rows_framed_by-requires c = c.requires

pub returns : goal.returns
returns c =
    let first_tag : tag (row_at (row_width c.args.file) c.args.t.now 0) ≡ at = let a = c.args in
    sym (tag_first a.file a.t.now) ∙ sym c.word_or_zero.ensures ∙ c.if-word_or_zero-ne-AT.false in
    let keys_are : c.index_keys-keys.result.distinct
    ≡ are_distinct (keys_of c.args.file (rows_between (row_width c.args.file) c.args.t.now 1 c.args.used)) = let a = c.args in
    c.index_keys-keys.ensures.0.distinct
    ∙ ap are_distinct (later_keys a.file a.t.now a.used c.requires.1 c.requires.0 first_tag) in
    let a = c.args in
    let d = not-false _ c.if-not-keys.false in
    c.are_rows_framed_by.ensures (sym keys_are ∙ d)
    (c.index_keys-keys.ensures.0.rise d
    ∙ ap rising (later_keys a.file a.t.now a.used c.requires.1 c.requires.0 first_tag))
