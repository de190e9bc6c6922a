-- `sound::are_all_sound` meets its contract: frames, TIMETBLS, rows, DELIVERY's company. Assumes nothing.
use Rattle.std.proofs.Common.{rules, ◌≡◌, None}
use Prim.Native.Nat.{ℕ}
use mathlib.Core.Path.{◌≡◌, ap, sym, ◌∙◌}
use mathlib.Core.List.{List}
use native.Mathlib.Omega.{arith}
use borrow.Author.Tests.{not-true, not-false}
use lib.ListN.{length}
use Rattle.iff.specs.Lists.{has}
use Rattle.iff.specs.Files.{PerFile, eleven}
use Rattle.iff.specs.Words.{own_company}
use Rattle.iff.specs.declared.RowFile.TheVariants.{Company}
use Rattle.iff.specs.declared.File.TheVariants.{Rows}
use Rattle.iff_rules.specs.Rows.{context_of}
use Rattle.iff_desk.specs.Sound.{sound, rows_of_tables}
use Rattle.keys.proofs.Among.{keys_counted}
use Rattle.sound_behind.specs.Behind.{is_right}
use Rattle.sound.specs.Whole.{timetbls_sound}
use Rattle.sound.proofs.WholeLaws.{form_is, block_keys_lem, timetbls_held, not_framed, not_timetbls, not_behind, by_company, unsound, hinted, indexed}
use Rattle.sound.proofs.are_all_sound.Goals as goal

pub are_framed-requires : goal.are_framed-requires
are_framed-requires c =
    (c.requires.0, c.requires.2)

pub returns-then-not-are_framed : goal.returns-then-not-are_framed
returns-then-not-are_framed c =
    let tables : PerFile (List ℕ) = let a = c.args in
    eleven a.delivery.now a.company.now a.country.now a.trnsmode.now a.timezone.now a.stations.now a.footnote.now a.timetbls.now a.changes.now a.xfootnote.now a.xchanges.now in
    unsound tables _
    (not_framed tables c.args.first.now c.requires.1 _ c.form_of-form.ensures c.requires.3
    (sym c.are_framed.ensures ∙ not-true _ c.if-not-are_framed.true-raw))

pub judge_blocks-requires : goal.judge_blocks-requires
judge_blocks-requires c =
    let tables : PerFile (List ℕ) = let a = c.args in
    eleven a.delivery.now a.company.now a.country.now a.trnsmode.now a.timezone.now a.stations.now a.footnote.now a.timetbls.now a.changes.now a.xfootnote.now a.xchanges.now in
    (timetbls_held tables c.requires.3, c.requires.2)

pub returns-in_err-services : goal.returns-in_err-services
returns-in_err-services c =
    let tables : PerFile (List ℕ) = let a = c.args in
    eleven a.delivery.now a.company.now a.country.now a.trnsmode.now a.timezone.now a.stations.now a.footnote.now a.timetbls.now a.changes.now a.xfootnote.now a.xchanges.now in
    let timetbls_is : is_right c.judge_blocks.result
    ≡ timetbls_sound (context_of (rows_of_tables tables)) c.form_of-form.result c.args.first.now
    c.args.timetbls.now = c.judge_blocks.ensures.says (context_of (rows_of_tables tables)) (block_keys_lem tables c.args.used c.requires.0) in
    let handed : c.from_residual.result ≡ None = search rules in
    rw handed (unsound tables _
    (not_timetbls tables c.args.first.now c.requires.1 _ c.form_of-form.ensures c.requires.3
    (sym timetbls_is ∙ ap is_right c.in_err-services.was)))

pub are_right_behind-requires : goal.are_right_behind-requires
are_right_behind-requires c =
    (c.requires.0, c.judge_blocks.ensures.rows _ _ c.in_ok-services.was)

pub returns-then-not-are_right_behind : goal.returns-then-not-are_right_behind
returns-then-not-are_right_behind c =
    let tables : PerFile (List ℕ) = let a = c.args in
    eleven a.delivery.now a.company.now a.country.now a.trnsmode.now a.timezone.now a.stations.now a.footnote.now a.timetbls.now a.changes.now a.xfootnote.now a.xchanges.now in
    let a = c.args in
    unsound tables _
    (not_behind tables a.first.now c.requires.1 _ c.form_of-form.ensures c.requires.3
    (sym (c.are_right_behind.ensures (form_is tables a.first.now c.requires.1 _ c.form_of-form.ensures c.requires.3))
    ∙ not-true _ c.if-not-are_right_behind.true-raw))

pub returns-then-not-names_at : goal.returns-then-not-names_at
returns-then-not-names_at c =
    let tables : PerFile (List ℕ) = let a = c.args in
    eleven a.delivery.now a.company.now a.country.now a.trnsmode.now a.timezone.now a.stations.now a.footnote.now a.timetbls.now a.changes.now a.xfootnote.now a.xchanges.now in
    let timetbls_is : is_right c.judge_blocks.result
    ≡ timetbls_sound (context_of (rows_of_tables tables)) c.form_of-form.result c.args.first.now
    c.args.timetbls.now = c.judge_blocks.ensures.says (context_of (rows_of_tables tables)) (block_keys_lem tables c.args.used c.requires.0) in
    let company_is : c.names_at.result ≡ sound tables = let a = c.args in
    c.names_at.ensures
    ∙ ap (has (own_company a.first.now)) (keys_counted (Rows Company) a.company.now a.used.company c.requires.0.company)
    ∙ by_company tables a.first.now c.requires.1 _ c.form_of-form.ensures c.requires.3
    (sym c.are_framed.ensures ∙ not-false _ c.if-not-are_framed.false-raw)
    (sym timetbls_is ∙ ap is_right c.in_ok-services.was)
    (sym (c.are_right_behind.ensures (form_is tables a.first.now c.requires.1 _ c.form_of-form.ensures c.requires.3))
    ∙ not-false _ c.if-not-are_right_behind.false-raw) in
    unsound tables _ (sym (not-true _ c.if-not-names_at.true-raw) ∙ company_is)

pub returns-then-asked : goal.returns-then-asked
returns-then-asked c =
    let tables : PerFile (List ℕ) = let a = c.args in
    eleven a.delivery.now a.company.now a.country.now a.trnsmode.now a.timezone.now a.stations.now a.footnote.now a.timetbls.now a.changes.now a.xfootnote.now a.xchanges.now in
    let timetbls_is : is_right c.judge_blocks.result
    ≡ timetbls_sound (context_of (rows_of_tables tables)) c.form_of-form.result c.args.first.now
    c.args.timetbls.now = c.judge_blocks.ensures.says (context_of (rows_of_tables tables)) (block_keys_lem tables c.args.used c.requires.0) in
    let company_is : c.names_at.result ≡ sound tables = let a = c.args in
    c.names_at.ensures
    ∙ ap (has (own_company a.first.now)) (keys_counted (Rows Company) a.company.now a.used.company c.requires.0.company)
    ∙ by_company tables a.first.now c.requires.1 _ c.form_of-form.ensures c.requires.3
    (sym c.are_framed.ensures ∙ not-false _ c.if-not-are_framed.false-raw)
    (sym timetbls_is ∙ ap is_right c.in_ok-services.was)
    (sym (c.are_right_behind.ensures (form_is tables a.first.now c.requires.1 _ c.form_of-form.ensures c.requires.3))
    ∙ not-false _ c.if-not-are_right_behind.false-raw) in
    hinted tables _ (sym (not-false _ c.if-not-names_at.false-raw) ∙ company_is)

pub returns : goal.returns
returns c =
    let tables : PerFile (List ℕ) = let a = c.args in
    eleven a.delivery.now a.company.now a.country.now a.trnsmode.now a.timezone.now a.stations.now a.footnote.now a.timetbls.now a.changes.now a.xfootnote.now a.xchanges.now in
    let timetbls_is : is_right c.judge_blocks.result
    ≡ timetbls_sound (context_of (rows_of_tables tables)) c.form_of-form.result c.args.first.now
    c.args.timetbls.now = c.judge_blocks.ensures.says (context_of (rows_of_tables tables)) (block_keys_lem tables c.args.used c.requires.0) in
    let company_is : c.names_at.result ≡ sound tables = let a = c.args in
    c.names_at.ensures
    ∙ ap (has (own_company a.first.now)) (keys_counted (Rows Company) a.company.now a.used.company c.requires.0.company)
    ∙ by_company tables a.first.now c.requires.1 _ c.form_of-form.ensures c.requires.3
    (sym c.are_framed.ensures ∙ not-false _ c.if-not-are_framed.false-raw)
    (sym timetbls_is ∙ ap is_right c.in_ok-services.was)
    (sym (c.are_right_behind.ensures (form_is tables a.first.now c.requires.1 _ c.form_of-form.ensures c.requires.3))
    ∙ not-false _ c.if-not-are_right_behind.false-raw) in
    indexed tables _ (sym (not-false _ c.if-not-names_at.false-raw) ∙ company_is) _ _ (c.index_in_rows-asked.ensures.1 c.if-asked.false)
    (c.judge_blocks.ensures.index _ _ c.in_ok-services.was)

pub bounds-first-1 : goal.bounds-first-1
bounds-first-1 c = omega (arith, c.requires.2)

pub shape_of-places-then-asked : goal.shape_of-places-then-asked
shape_of-places-then-asked c =
    let slots_kept : length c.index_in_rows-asked.new.places ≡ length c.args.places.now = c.index_in_rows-asked.auto.places
    ∙ c.judge_blocks.auto.places
    ∙ c.are_framed.auto.places in
    slots_kept

pub shape_of-places : goal.shape_of-places
shape_of-places c =
    let slots_kept : length c.index_in_rows-asked.new.places ≡ length c.args.places.now = c.index_in_rows-asked.auto.places
    ∙ c.judge_blocks.auto.places
    ∙ c.are_framed.auto.places in
    slots_kept
