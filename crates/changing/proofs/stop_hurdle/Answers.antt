-- `stop_hurdle` meets its contract: the stations, then who alights, then who boards. Assumes nothing.
use Prim.Native.Nat.{ℕ}
use mathlib.Core.Path.{◌≡◌, sym, ◌∙◌}
use mathlib.Core.List.{List, []}
use borrow.Author.Tests.{not-true, not-false, eq-eqb, ne_eqb}
use lib.Dec.{eqb}
use Rattle.iff.specs.Files.{PerFile}
use Rattle.iff.specs.Tables.{Row}
use Rattle.iff.specs.Words.{named}
use Rattle.iff_desk.specs.Store.{stop_at}
use Rattle.iff_desk.specs.Stops.{may_alight, may_board}
use Rattle.iff_desk.specs.declared.Early.TheVariants.{StationsDiffer, NobodyAlights, NobodyBoards}
use Rattle.needed_times.specs.Needed.{rows_found}
use Rattle.changing.proofs.HurdleLaws.{stops_here, goes_on, all_clear}
use Rattle.changing.proofs.stop_hurdle.Goals as goal

-- the stations of the stops are those that were found
stations : (x y m n : ℕ) → x ≡ m → y ≡ n → eqb m n ≡ eqb x y
stations x y m n p q = rw (p, q)

pub returns-then-a-b : goal.returns-then-a-b
returns-then-a-b c R =
    let met : eqb (named (stop_at (rows_found c.args.timetbls.now c.args.a) c.args.from.stop))
    (named (stop_at (rows_found c.args.timetbls.now c.args.b) c.args.to.stop))
    ≡ eqb c.args.a.station c.args.b.station = stations _ _ _ _ c.requires.0.station c.requires.1.station in
    stops_here _ StationsDiffer _ (met ∙ ne_eqb _ _ c.if-a-b.true)

pub returns-then-not-may_alight : goal.returns-then-not-may_alight
returns-then-not-may_alight c R =
    let alights : (R : PerFile (List Row)) → may_alight R (rows_found c.args.timetbls.now c.args.a) c.args.from.stop c.args.from.day
    ≡ c.may_alight.result = λ R. sym (c.may_alight.ensures R _ _ _ c.requires.0.row.is) in
    let met : eqb (named (stop_at (rows_found c.args.timetbls.now c.args.a) c.args.from.stop))
    (named (stop_at (rows_found c.args.timetbls.now c.args.b) c.args.to.stop))
    ≡ eqb c.args.a.station c.args.b.station = stations _ _ _ _ c.requires.0.station c.requires.1.station in
    stops_here _ NobodyAlights _ (alights R ∙ not-true _ c.if-not-may_alight.true-raw)
    ∙ goes_on _ StationsDiffer _ (met ∙ eq-eqb _ _ c.if-a-b.false)

pub returns-then-not-may_board : goal.returns-then-not-may_board
returns-then-not-may_board c R =
    let boards : (R : PerFile (List Row)) → may_board R (rows_found c.args.timetbls.now c.args.b)
    c.args.to.stop c.args.to.day
    ≡ c.may_board.result = λ R. sym (c.may_board.ensures R _ _ _ c.requires.1.row.is) in
    let alights : (R : PerFile (List Row)) → may_alight R (rows_found c.args.timetbls.now c.args.a) c.args.from.stop c.args.from.day
    ≡ c.may_alight.result = λ R. sym (c.may_alight.ensures R _ _ _ c.requires.0.row.is) in
    let met : eqb (named (stop_at (rows_found c.args.timetbls.now c.args.a) c.args.from.stop))
    (named (stop_at (rows_found c.args.timetbls.now c.args.b) c.args.to.stop))
    ≡ eqb c.args.a.station c.args.b.station = stations _ _ _ _ c.requires.0.station c.requires.1.station in
    stops_here _ NobodyBoards [] (boards R ∙ not-true _ c.if-not-may_board.true-raw)
    ∙ goes_on _ NobodyAlights _ (alights R ∙ not-false _ c.if-not-may_alight.false-raw)
    ∙ goes_on _ StationsDiffer _ (met ∙ eq-eqb _ _ c.if-a-b.false)

pub returns : goal.returns
returns c R =
    let boards : (R : PerFile (List Row)) → may_board R (rows_found c.args.timetbls.now c.args.b)
    c.args.to.stop c.args.to.day
    ≡ c.may_board.result = λ R. sym (c.may_board.ensures R _ _ _ c.requires.1.row.is) in
    let alights : (R : PerFile (List Row)) → may_alight R (rows_found c.args.timetbls.now c.args.a) c.args.from.stop c.args.from.day
    ≡ c.may_alight.result = λ R. sym (c.may_alight.ensures R _ _ _ c.requires.0.row.is) in
    let met : eqb (named (stop_at (rows_found c.args.timetbls.now c.args.a) c.args.from.stop))
    (named (stop_at (rows_found c.args.timetbls.now c.args.b) c.args.to.stop))
    ≡ eqb c.args.a.station c.args.b.station = stations _ _ _ _ c.requires.0.station c.requires.1.station in
    all_clear
    ∙ goes_on _ NobodyBoards [] (boards R ∙ not-false _ c.if-not-may_board.false-raw)
    ∙ goes_on _ NobodyAlights _ (alights R ∙ not-false _ c.if-not-may_alight.false-raw)
    ∙ goes_on _ StationsDiffer _ (met ∙ eq-eqb _ _ c.if-a-b.false)

pub may_alight-requires : goal.may_alight-requires
may_alight-requires c = c.requires.0.row.stands

pub may_board-requires : goal.may_board-requires
may_board-requires c = c.requires.1.row.stands
