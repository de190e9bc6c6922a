-- `timetbls::read_timetbls` meets its contract: a first line and the blocks after it make the file. Assumes nothing.
use Prim.Native.Nat.{◌<◌}
use mathlib.Core.Path.{refl, ap}
use mathlib.Core.Bool.{false≢true}
use native.Mathlib.Omega.{arith}
use lib.ListN.{length, drop}
use Rattle.iff.specs.Lines.{lines}
use Rattle.iff.specs.Refusals.{fine}
use Rattle.iff.specs.declared.File.TheVariants.{Timetbls}
use Rattle.iff_rules.specs.Rows.{Context, flag}
use Rattle.references.specs.Agree.{BlockKeys}
use Rattle.reading.specs.Reading.{begin_test}
use Rattle.heads.proofs.FileLaws.{some_lines, absent, passed, first_refused, rows_refused, rows_accepted, flag_fits}
use Rattle.block_walks.specs.Blocks.{as_read}
use Rattle.timetbls.proofs.CountLaws.{none_counted, still_counted}
use Rattle.timetbls.proofs.read_timetbls.Goals as goal

pub returns-then-text-eq0 : goal.returns-then-text-eq0
returns-then-text-eq0 c =
    let Agreed : Context → Type 0 = λ k. let a = c.args in BlockKeys k a.companies.now a.modes.now a.stations.now a.footnotes.now in
    let a = c.args in
    let ready = c.requires (ap fine c.in-Ok.is) in
    record {
      file =
          rw c.in-Ok.is
          (absent Timetbls a.form Agreed a.header.now a.text.now a.t.now c.if-text-eq0.true ready);
      counted = λ z. none_counted a.t.now ready.cleared;
    }

pub begin_file-requires : goal.begin_file-requires
begin_file-requires c =
    let more : 0 < length c.args.text.now = omega (arith, c.if-text-eq0.false) in
    (more, c.requires (ap fine c.in-Ok.is))

pub read_blocks-requires : goal.read_blocks-requires
read_blocks-requires c =
    let split = c.begin_file.ensures.rest _ c.in-Ok-begin_file.is in
    record { inside = split.inside; first = _; begun = split.begun }

pub set_rises-requires : goal.set_rises-requires
set_rises-requires c =
    let Agreed : Context → Type 0 = λ k. let a = c.args in BlockKeys k a.companies.now a.modes.now a.stations.now a.footnotes.now in
    let a = c.args in
    let split = c.begin_file.ensures.rest _ c.in-Ok-begin_file.is in
    let ls = lines (drop c.in-Ok-begin_file.from a.text.now) in
    flag_fits Timetbls a.form Agreed a.header.now a.text.now a.t.now ls split.all _ c.begin_file.ensures.test
    (ap begin_test c.in-Ok-begin_file.is) _ _ _ _ _ (c.read_blocks.ensures.done _ split.begun) c.begin_file.ensures.kept
    _ _ (ap as_read c.in-Ok-read_blocks.is) refl refl refl

pub returns-in-Err : goal.returns-in-Err
returns-in-Err c =
    let Agreed : Context → Type 0 = λ k. let a = c.args in BlockKeys k a.companies.now a.modes.now a.stations.now a.footnotes.now in
    let a = c.args in
    record {
      file = rw c.in-Err.is (passed Timetbls a.form Agreed a.header.now a.text.now a.t.now _ _ _ refl);
      counted = λ z. absurd (false≢true z);
    }

pub returns-in-Err-begin_file : goal.returns-in-Err-begin_file
returns-in-Err-begin_file c =
    let Agreed : Context → Type 0 = λ k. let a = c.args in BlockKeys k a.companies.now a.modes.now a.stations.now a.footnotes.now in
    let a = c.args in
    let more : 0 < length a.text.now = omega (arith, c.if-text-eq0.false) in
    record {
      file =
          rw c.in-Ok.is
          (first_refused Timetbls a.form Agreed a.header.now a.text.now a.t.now (drop 1 (lines a.text.now))
          (some_lines a.text.now more) _ c.begin_file.ensures.test _ _ (ap begin_test c.in-Err-begin_file.is)
          c.begin_file.ensures.kept);
      counted = λ z. absurd (false≢true z);
    }

pub returns-in-Err-read_blocks : goal.returns-in-Err-read_blocks
returns-in-Err-read_blocks c =
    let Agreed : Context → Type 0 = λ k. let a = c.args in BlockKeys k a.companies.now a.modes.now a.stations.now a.footnotes.now in
    let a = c.args in
    let split = c.begin_file.ensures.rest _ c.in-Ok-begin_file.is in
    let ls = lines (drop c.in-Ok-begin_file.from a.text.now) in
    record {
      file =
          rw c.in-Ok.is
          (rows_refused Timetbls a.form Agreed a.header.now a.text.now a.t.now ls split.all _ c.begin_file.ensures.test
          (ap begin_test c.in-Ok-begin_file.is) _ _ _ _ _ (c.read_blocks.ensures.done _ split.begun) c.begin_file.ensures.kept
          _ _ (ap as_read c.in-Err-read_blocks.is));
      counted = λ z. absurd (false≢true z);
    }

pub returns-in-Ok-read_blocks : goal.returns-in-Ok-read_blocks
returns-in-Ok-read_blocks c =
    let Agreed : Context → Type 0 = λ k. let a = c.args in BlockKeys k a.companies.now a.modes.now a.stations.now a.footnotes.now in
    let a = c.args in
    let split = c.begin_file.ensures.rest _ c.in-Ok-begin_file.is in
    let ls = lines (drop c.in-Ok-begin_file.from a.text.now) in
    let flagged = c.set_rises.ensures in
    record {
      file =
          rw c.in-Ok.is
          (rows_accepted Timetbls a.form Agreed a.header.now a.text.now a.t.now ls split.all _ c.begin_file.ensures.test
          (ap begin_test c.in-Ok-begin_file.is) _ _ _ _ _ (c.read_blocks.ensures.done _ split.begun) c.begin_file.ensures.kept
          _ _ (ap as_read c.in-Ok-read_blocks.is) flagged refl refl);
      counted = λ z. still_counted (flag c.in-Ok-read_blocks.put.rise) _ _ _ _ (c.read_blocks.ensures.counted _ _ _ c.in-Ok-read_blocks.is) flagged;
    }
