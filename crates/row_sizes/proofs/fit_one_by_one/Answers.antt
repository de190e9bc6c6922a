-- What is left of the limit has room for the lines that are left exactly where all fit. Assumes nothing.
use Prim.Native.Nat.{◌+◌, ◌<◌}
use mathlib.Core.Path.{◌≡◌}
use mathlib.Core.Bool.{false}
use native.Mathlib.Omega.{arith}
use lib.Dec.{leb}
use Rattle.iff.specs.Lists.{total}
use Rattle.iff.specs.Files.{limit}
use Rattle.iff.specs.Columns.{record_of}
use Rattle.iff.specs.Tables.{tag, row_at, row_width}
use Rattle.iff_desk.specs.Sound.{row_size, first_size}
use Rattle.keys.specs.Blocks.{rows_between}
use Rattle.tables.proofs.Rows.{row_inside}
use Rattle.row_sizes.proofs.LineLaws.{line_length}
use Rattle.row_sizes.proofs.SizeLaws.{count_begin, count_on, count_fails, count_end, line_of}
use Rattle.row_sizes.proofs.fit_one_by_one.Goals as goal

pub word_at-tag-requires : goal.word_at-tag-requires
word_at-tag-requires c =
    let wide = c.row_width-w.ensures in
    (wide.some, row_inside _ _ c.args.used _ c.loop-i-test.true (rw wide.is c.requires))

pub returns-then-left-n : goal.returns-then-left-n
returns-then-left-n c =
    let line-found : (let a = c.args in
    c.record_length-n.result ≡ line_length a.form (record_of a.file (tag (row_at (row_width a.file) a.t.now c.loop-i.i)))) = let a = c.args in
    line_of a.form a.file a.t.now _ c.loop-i.i _ _ _ c.row_width-w.ensures.is c.word_at-tag.ensures
    c.record_of.ensures c.record_length-n.ensures in
    let too_long : (c.loop-i.left < c.record_length-n.result + 2 →
    let a = c.args in
    false ≡ leb (first_size + total (row_size a.form a.file) (rows_between (row_width a.file) a.t.now 1 a.used)) limit) = λ h. count_fails _ _ _ _ _ _ _ c.loop-i.invariant line-found c.loop-i-test.true h in
    too_long (omega (arith, c.if-left-n.true))

pub returns-then-left-lt2 : goal.returns-then-left-lt2
returns-then-left-lt2 c =
    let line-found : (let a = c.args in
    c.record_length-n.result ≡ line_length a.form (record_of a.file (tag (row_at (row_width a.file) a.t.now c.loop-i.i)))) = let a = c.args in
    line_of a.form a.file a.t.now _ c.loop-i.i _ _ _ c.row_width-w.ensures.is c.word_at-tag.ensures
    c.record_of.ensures c.record_length-n.ensures in
    let too_long : (c.loop-i.left < c.record_length-n.result + 2 →
    let a = c.args in
    false ≡ leb (first_size + total (row_size a.form a.file) (rows_between (row_width a.file) a.t.now 1 a.used)) limit) = λ h. count_fails _ _ _ _ _ _ _ c.loop-i.invariant line-found c.loop-i-test.true h in
    too_long (omega (arith, c.if-left-lt2.true, c.if-left-n.false))

pub loop-i-preserved : goal.loop-i-preserved
loop-i-preserved c =
    let line-found : (let a = c.args in
    c.record_length-n.result ≡ line_length a.form (record_of a.file (tag (row_at (row_width a.file) a.t.now c.loop-i.i)))) = let a = c.args in
    line_of a.form a.file a.t.now _ c.loop-i.i _ _ _ c.row_width-w.ensures.is c.word_at-tag.ensures
    c.record_of.ensures c.record_length-n.ensures in
    count_on _ _ _ _ _ _ _ c.loop-i.invariant line-found c.loop-i-test.true c.if-left-n.false c.if-left-lt2.false

pub loop-i-init : goal.loop-i-init
loop-i-init c = count_begin _ _ _ _

pub returns : goal.returns
returns c = count_end _ _ _ _ _ _ c.loop-i.invariant c.loop-i-test.false
