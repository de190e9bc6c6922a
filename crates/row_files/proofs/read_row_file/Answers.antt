-- `row_files::read_row_file` meets its contract: a first line and the rows after it make a file. Assumes nothing.
use Rattle.std.proofs.Common.{rules, ◌≡◌, Err}
use Prim.Native.Nat.{ℕ, ◌<◌}
use mathlib.Core.Path.{refl, ap}
use mathlib.Core.List.{List}
use native.Mathlib.Omega.{arith}
use lib.ListN.{length, drop}
use Rattle.iff.specs.Lines.{Line, lines}
use Rattle.iff.specs.Refusals.{fine}
use Rattle.iff.specs.declared.File.{File}
use Rattle.iff.specs.declared.File.TheVariants.{Rows}
use Rattle.iff_rules.specs.Rows.{Context}
use Rattle.references.specs.Agree.{StationKeys}
use Rattle.reading.specs.Reading.{begin_test}
use Rattle.heads.proofs.FileLaws.{some_lines, absent, passed, first_refused, rows_refused, rows_accepted, flag_fits}
use Rattle.file_rows.proofs.WholeLaws.{plain_begun, begun_first}
use Rattle.row_files.proofs.read_row_file.Goals as goal

pub returns-then-text-eq0 : goal.returns-then-text-eq0
returns-then-text-eq0 c =
    let file : File = Rows c.args.file in
    let agrees : Context → Type 0 = λ k. StationKeys k c.args.countries.now c.args.zones.now in
    rw c.in_ok-v.was
    (absent file c.args.form agrees c.args.header.now c.args.text.now c.args.t.now c.if-text-eq0.true
    (c.requires (ap fine c.in_ok-v.was)))

pub begin_file-requires : goal.begin_file-requires
begin_file-requires c =
    let more : 0 < length c.args.text.now = omega (arith, c.if-text-eq0.false) in
    (more, c.requires (ap fine c.in_ok-v.was))

pub returns-in_err-v : goal.returns-in_err-v
returns-in_err-v c =
    let file : File = Rows c.args.file in
    let agrees : Context → Type 0 = λ k. StationKeys k c.args.countries.now c.args.zones.now in
    let handed : c.from_residual.result ≡ Err c.in_err-v.field-0.0 = search rules in
    rw handed (rw c.in_err-v.was
    (passed file c.args.form agrees c.args.header.now c.args.text.now c.args.t.now _ _ _ refl))

pub returns-in-Err : goal.returns-in-Err
returns-in-Err c =
    let file : File = Rows c.args.file in
    let agrees : Context → Type 0 = λ k. StationKeys k c.args.countries.now c.args.zones.now in
    let more : 0 < length c.args.text.now = omega (arith, c.if-text-eq0.false) in
    rw c.in_ok-v.was
    (first_refused file c.args.form agrees c.args.header.now c.args.text.now c.args.t.now
    (drop 1 (lines c.args.text.now)) (some_lines c.args.text.now more) _ c.begin_file.ensures.test _ _
    (ap begin_test c.in-Err.is) c.begin_file.ensures.kept)

pub read_rows-requires : goal.read_rows-requires
read_rows-requires c =
    plain_begun c.args.file c.args.text.now _ _ (c.begin_file.ensures.rest _ c.in-Ok.is)

pub set_rises-requires : goal.set_rises-requires
set_rises-requires c =
    let file : File = Rows c.args.file in
    let agrees : Context → Type 0 = λ k. StationKeys k c.args.countries.now c.args.zones.now in
    let from : ℕ = c.in-Ok.from in
    let others : List Line = lines (drop from c.args.text.now) in
    let b = c.begin_file.ensures in
    let split = b.rest _ c.in-Ok.is in
    flag_fits file c.args.form agrees c.args.header.now c.args.text.now c.args.t.now others split.all _ b.test
    (ap begin_test c.in-Ok.is) _ _ _ _ _ c.read_rows.ensures b.kept _ _ c.in_ok-rises-in-Ok.was
    refl
    (begun_first c.args.file _ _ _ split.begun) refl

pub returns-in_err-rises-in-Ok : goal.returns-in_err-rises-in-Ok
returns-in_err-rises-in-Ok c =
    let file : File = Rows c.args.file in
    let agrees : Context → Type 0 = λ k. StationKeys k c.args.countries.now c.args.zones.now in
    let from : ℕ = c.in-Ok.from in
    let others : List Line = lines (drop from c.args.text.now) in
    let b = c.begin_file.ensures in
    let split = b.rest _ c.in-Ok.is in
    let handed : c.from_residual-in_err-rises-in-Ok.result ≡ Err c.in_err-rises-in-Ok.field-0.0 = search rules in
    rw handed (rw c.in_ok-v.was
    (rows_refused file c.args.form agrees c.args.header.now c.args.text.now c.args.t.now others split.all _ b.test
    (ap begin_test c.in-Ok.is) _ _ _ _ _ c.read_rows.ensures b.kept _ _ c.in_err-rises-in-Ok.was))

pub returns-in_ok-rises-in-Ok : goal.returns-in_ok-rises-in-Ok
returns-in_ok-rises-in-Ok c =
    let file : File = Rows c.args.file in
    let agrees : Context → Type 0 = λ k. StationKeys k c.args.countries.now c.args.zones.now in
    let from : ℕ = c.in-Ok.from in
    let others : List Line = lines (drop from c.args.text.now) in
    let b = c.begin_file.ensures in
    let split = b.rest _ c.in-Ok.is in
    rw c.in_ok-v.was
    (rows_accepted file c.args.form agrees c.args.header.now c.args.text.now c.args.t.now others split.all _ b.test
    (ap begin_test c.in-Ok.is) _ _ _ _ _ c.read_rows.ensures b.kept _ _
    c.in_ok-rises-in-Ok.was c.set_rises.ensures
    (begun_first c.args.file _ _ _ split.begun) refl)

pub shape_of-t-in-Err : goal.shape_of-t-in-Err
shape_of-t-in-Err c = (returns-in-Err c).kept

pub shape_of-t-in_err-rises-in-Ok : goal.shape_of-t-in_err-rises-in-Ok
shape_of-t-in_err-rises-in-Ok c = (returns-in_err-rises-in-Ok c).kept

pub shape_of-t-in_ok-rises-in-Ok : goal.shape_of-t-in_ok-rises-in-Ok
shape_of-t-in_ok-rises-in-Ok c = (returns-in_ok-rises-in-Ok c).kept
