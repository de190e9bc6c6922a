-- `run_hurdle` meets its contract: the one on the leg before its stop, then the other. Assumes nothing.
use Prim.Native.Nat.{ℕ, ◌-◌}
use mathlib.Core.Path.{◌≡◌, ap, sym, ◌∙◌}
use mathlib.Core.List.{List, [], ◌∷◌}
use mathlib.Core.Bool.{not}
use borrow.Author.Tests.{not-true, not-false}
use Rattle.iff.specs.Files.{PerFile}
use Rattle.iff.specs.Tables.{Row, rows_in}
use Rattle.iff.specs.declared.GroupFile.TheVariants.{Footnote}
use Rattle.iff.specs.declared.File.TheVariants.{Groups}
use Rattle.iff_desk.specs.Running.{runs_on}
use Rattle.iff_desk.specs.Changing.{stop_if}
use Rattle.iff_desk.specs.declared.Early.TheVariants.{FromRests, ToRests}
use Rattle.needed_times.specs.Needed.{rows_found}
use Rattle.changing.proofs.HurdleLaws.{stops_here, goes_on, all_clear}
use Rattle.changing.proofs.run_hurdle.Goals as goal

pub returns-then-not-runs_on : goal.returns-then-not-runs_on
returns-then-not-runs_on c R e =
    let from_runs : (R : PerFile (List Row)) → R.footnote ≡ rows_in (Groups Footnote) c.args.footnotes.now
    → runs_on R (rows_found c.args.timetbls.now c.args.a) (c.args.from.stop - 1) c.args.from.day
    ≡ c.runs_on.result = λ R e. let a = c.args in
    ap (λ (k : ℕ). runs_on R (rows_found a.timetbls.now a.a) k a.from.day) (sym c.leg_before-leg.ensures) ∙ sym (c.runs_on.ensures R e) in
    let a = c.args in
    stops_here _ FromRests (stop_if (not (runs_on R (rows_found a.timetbls.now a.b) a.to.stop a.to.day)) ToRests ∷ [])
    (from_runs R e ∙ not-true _ c.if-not-runs_on.true-raw)

pub returns-then-not-runs_on-2 : goal.returns-then-not-runs_on-2
returns-then-not-runs_on-2 c R e =
    let from_runs : (R : PerFile (List Row)) → R.footnote ≡ rows_in (Groups Footnote) c.args.footnotes.now
    → runs_on R (rows_found c.args.timetbls.now c.args.a) (c.args.from.stop - 1) c.args.from.day
    ≡ c.runs_on.result = λ R e. let a = c.args in
    ap (λ (k : ℕ). runs_on R (rows_found a.timetbls.now a.a) k a.from.day) (sym c.leg_before-leg.ensures) ∙ sym (c.runs_on.ensures R e) in
    stops_here _ ToRests [] (sym (c.runs_on-2.ensures R e) ∙ not-true _ c.if-not-runs_on-2.true-raw)
    ∙ goes_on _ FromRests _ (from_runs R e ∙ not-false _ c.if-not-runs_on.false-raw)

pub returns : goal.returns
returns c R e =
    let from_runs : (R : PerFile (List Row)) → R.footnote ≡ rows_in (Groups Footnote) c.args.footnotes.now
    → runs_on R (rows_found c.args.timetbls.now c.args.a) (c.args.from.stop - 1) c.args.from.day
    ≡ c.runs_on.result = λ R e. let a = c.args in
    ap (λ (k : ℕ). runs_on R (rows_found a.timetbls.now a.a) k a.from.day) (sym c.leg_before-leg.ensures) ∙ sym (c.runs_on.ensures R e) in
    all_clear
    ∙ goes_on _ ToRests [] (sym (c.runs_on-2.ensures R e) ∙ not-false _ c.if-not-runs_on-2.false-raw)
    ∙ goes_on _ FromRests _ (from_runs R e ∙ not-false _ c.if-not-runs_on.false-raw)
