-- `load` meets its contract: what each call tells is handed to the law of the whole. Assumes nothing.
use Prim.Native.Nat.{ℕ}
use mathlib.Core.Path.{◌≡◌, ◌∙◌}
use mathlib.Core.Bool.{true}
use mathlib.Core.List.{List}
use lib.ListN.{length}
use Rattle.iff.specs.Files.{PerFile, of, per_file, eleven}
use Rattle.iff.specs.Refusals.{fine}
use Rattle.load_laws.proofs.LoadLaw.{Fit, roomy, firsts_ready, lasts_ready, firsts_back, loaded}
use Rattle.load.proofs.load.Goals as goal

pub read_first_files-first-requires : goal.read_first_files-first-requires
read_first_files-first-requires c =
    let files : PerFile (List ℕ) = eleven c.args.delivery.now c.args.company.now c.args.country.now c.args.trnsmode.now c.args.timezone.now
    c.args.stations.now
    c.args.footnote.now c.args.timetbls.now c.args.changes.now c.args.xfootnote.now c.args.xchanges.now in
    let lent : PerFile (List ℕ) = eleven c.args.t_delivery.now c.args.t_company.now c.args.t_country.now c.args.t_trnsmode.now c.args.t_timezone.now
    c.args.t_stations.now
    c.args.t_footnote.now c.args.t_timetbls.now c.args.t_changes.now c.args.t_xfootnote.now c.args.t_xchanges.now in
    let rooms : PerFile ℕ = per_file (λ f. length (of lent f)) in
    let Fits : Type 0 = Fit files rooms in
    let fit : fine c.sizes-v0.result ≡ true → Fits = λ g. roomy files rooms _ c.sizes-v0.ensures g in
    λ g. firsts_ready files lent (eleven _ _ _ _ _ _ _ _ _ _ _) (fit g) c.clear_all.ensures

pub read_last_files-last-requires : goal.read_last_files-last-requires
read_last_files-last-requires c =
    let files : PerFile (List ℕ) = eleven c.args.delivery.now c.args.company.now c.args.country.now c.args.trnsmode.now c.args.timezone.now
    c.args.stations.now
    c.args.footnote.now c.args.timetbls.now c.args.changes.now c.args.xfootnote.now c.args.xchanges.now in
    let lent : PerFile (List ℕ) = eleven c.args.t_delivery.now c.args.t_company.now c.args.t_country.now c.args.t_trnsmode.now c.args.t_timezone.now
    c.args.t_stations.now
    c.args.t_footnote.now c.args.t_timetbls.now c.args.t_changes.now c.args.t_xfootnote.now c.args.t_xchanges.now in
    let rooms : PerFile ℕ = per_file (λ f. length (of lent f)) in
    let Fits : Type 0 = Fit files rooms in
    let fit : fine c.sizes-v0.result ≡ true → Fits = λ g. roomy files rooms _ c.sizes-v0.ensures g in
    λ g.
    lasts_ready files lent (eleven _ _ _ _ _ _ _ _ _ _ _)
    (fit (firsts_back c.read_first_files-first.ensures g))
    c.clear_all.ensures

-- THE TABLES KEEP THEIR LENGTHS
pub shape_of-t_delivery : goal.shape_of-t_delivery
shape_of-t_delivery c = c.settle.auto.t1 ∙ c.read_first_files-first.ensures.delivered.kept ∙ c.clear_all.auto.t1

pub shape_of-t_company : goal.shape_of-t_company
shape_of-t_company c = c.settle.auto.t2 ∙ c.read_first_files-first.ensures.companies.kept ∙ c.clear_all.auto.t2

pub shape_of-t_country : goal.shape_of-t_country
shape_of-t_country c = c.settle.auto.t3 ∙ c.read_first_files-first.ensures.countries.kept ∙ c.clear_all.auto.t3

pub shape_of-t_trnsmode : goal.shape_of-t_trnsmode
shape_of-t_trnsmode c = c.settle.auto.t4 ∙ c.read_first_files-first.ensures.modes.kept ∙ c.clear_all.auto.t4

pub shape_of-t_timezone : goal.shape_of-t_timezone
shape_of-t_timezone c =
    c.settle.auto.t5 ∙ c.read_first_files-first.ensures.zones.kept
    ∙ c.clear_all.auto.t5

pub shape_of-t_stations : goal.shape_of-t_stations
shape_of-t_stations c =
    c.settle.auto.t6 ∙ c.read_first_files-first.ensures.places.kept
    ∙ c.clear_all.auto.t6

pub shape_of-t_footnote : goal.shape_of-t_footnote
shape_of-t_footnote c =
    c.settle.auto.t7 ∙ c.read_first_files-first.ensures.footnotes.kept
    ∙ c.clear_all.auto.t7

pub shape_of-t_timetbls : goal.shape_of-t_timetbls
shape_of-t_timetbls c =
    c.settle.auto.t8 ∙ c.read_last_files-last.ensures.blocks.kept
    ∙ c.clear_all.auto.t8

pub shape_of-t_changes : goal.shape_of-t_changes
shape_of-t_changes c =
    c.settle.auto.t9 ∙ c.read_last_files-last.ensures.changed.kept
    ∙ c.clear_all.auto.t9

pub shape_of-t_xfootnote : goal.shape_of-t_xfootnote
shape_of-t_xfootnote c =
    c.settle.auto.t10 ∙ c.read_last_files-last.ensures.marked.kept
    ∙ c.clear_all.auto.t10

pub shape_of-t_xchanges : goal.shape_of-t_xchanges
shape_of-t_xchanges c =
    c.settle.auto.t11 ∙ c.read_last_files-last.ensures.excepted.kept
    ∙ c.clear_all.auto.t11

pub returns : goal.returns
returns c =
    let files : PerFile (List ℕ) = eleven c.args.delivery.now c.args.company.now c.args.country.now c.args.trnsmode.now c.args.timezone.now
    c.args.stations.now
    c.args.footnote.now c.args.timetbls.now c.args.changes.now c.args.xfootnote.now c.args.xchanges.now in
    let lent : PerFile (List ℕ) = eleven c.args.t_delivery.now c.args.t_company.now c.args.t_country.now c.args.t_trnsmode.now c.args.t_timezone.now
    c.args.t_stations.now
    c.args.t_footnote.now c.args.t_timetbls.now c.args.t_changes.now c.args.t_xfootnote.now c.args.t_xchanges.now in
    loaded files lent (eleven _ _ _ _ _ _ _ _ _ _ _) (eleven _ _ _ _ _ _ _ _ _ _ _) (eleven _ _ _ _ _ _ _ _ _ _ _)
    _ _ _ _ _
    (record {
      sizes = c.sizes-v0.ensures;
      cleared = c.clear_all.ensures;
      head = c.first_body-header.ensures;
      first = c.read_first_files-first.ensures;
      last = c.read_last_files-last.ensures;
      settles = c.settle.ensures;
      answers = c.answer_of.ensures;
    })
