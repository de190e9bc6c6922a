-- `sound_frames::is_framed` meets its contract: what stood before it, unused places, then the rows. Assumes nothing.
use Prim.Native.Nat.{◌*◌}
use mathlib.Core.Path.{◌≡◌, ap, sym, ◌∙◌}
use mathlib.Core.Bool.{true, ◌&&◌}
use native.Mathlib.Omega.{arith}
use borrow.Author.Tests.{not-true, not-false}
use lib.ListN.{drop}
use Rattle.iff.specs.Tables.{row_width, all_zero}
use Rattle.sound_frames.specs.Frames.{framed}
use Rattle.walks.proofs.TableLaws.{inside}
use Rattle.sound_frames.proofs.FrameLaws.{not_zero, no_rows, some_rows}
use Rattle.sound_frames.proofs.is_framed.Goals as goal

pub returns-then-not-so_far : goal.returns-then-not-so_far
returns-then-not-so_far c =
    let a = c.args in
    rw (not-true a.so_far c.if-not-so_far.true-raw)

pub overflow_mul-used : goal.overflow_mul-used
overflow_mul-used c =
    let a = c.args in
    let h = inside a.file a.t.now a.used c.requires.0 in
    let e = c.row_width-w.ensures.is in
    rw e (omega (arith, h, c.well_formed))

pub returns-then-not-zero_from : goal.returns-then-not-zero_from
returns-then-not-zero_from c =
    let zero_is : c.zero_from.result ≡ all_zero (drop (c.args.used * row_width c.args.file) c.args.t.now) = let a = c.args in
    c.zero_from.ensures ∙ ap (λ w. all_zero (drop (a.used * w) a.t.now)) c.row_width-w.ensures.is in
    let going : c.args.so_far ≡ true = not-false _ c.if-not-so_far.false-raw in
    let a = c.args in
    not_zero a.file a.t.now a.used c.requires.0 a.form a.delivery.now (sym zero_is ∙ not-true _ c.if-not-zero_from.true-raw)
    ∙ ap (λ b. b && framed a.form a.delivery.now a.file a.t.now) (sym going)

pub returns-then-used-eq0 : goal.returns-then-used-eq0
returns-then-used-eq0 c =
    let zero_is : c.zero_from.result ≡ all_zero (drop (c.args.used * row_width c.args.file) c.args.t.now) = let a = c.args in
    c.zero_from.ensures ∙ ap (λ w. all_zero (drop (a.used * w) a.t.now)) c.row_width-w.ensures.is in
    let going : c.args.so_far ≡ true = not-false _ c.if-not-so_far.false-raw in
    let a = c.args in
    no_rows a.file a.t.now a.used c.requires.0 a.form a.delivery.now (sym zero_is ∙ not-false _ c.if-not-zero_from.false-raw) c.if-used-eq0.true
    ∙ ap (λ b. b && framed a.form a.delivery.now a.file a.t.now) (sym going)

pub returns : goal.returns
returns c =
    let zero_is : c.zero_from.result ≡ all_zero (drop (c.args.used * row_width c.args.file) c.args.t.now) = let a = c.args in
    c.zero_from.ensures ∙ ap (λ w. all_zero (drop (a.used * w) a.t.now)) c.row_width-w.ensures.is in
    let going : c.args.so_far ≡ true = not-false _ c.if-not-so_far.false-raw in
    let a = c.args in
    c.are_rows_framed.ensures
    ∙ some_rows a.file a.t.now a.used c.requires.0 a.form a.delivery.now (sym zero_is ∙ not-false _ c.if-not-zero_from.false-raw)
    ∙ ap (λ b. b && framed a.form a.delivery.now a.file a.t.now) (sym going)
