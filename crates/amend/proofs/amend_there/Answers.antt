-- `amend::amend_there` meets its contract: what was judged is done. Assumes nothing.
use mathlib.Core.Path.{◌≡◌}
use Rattle.iff.specs.Tables.{rows_in}
use Rattle.iff.specs.declared.File.TheVariants.{Delivery}
use Rattle.iff_rules.specs.Rows.{form_of, first_of}
use Rattle.amend.proofs.AmendLaws.{first_wide, form_found, judgeable_there, doable, done_there}
use Rattle.amend.proofs.amend_there.Goals as goal

pub slice_bounds-first-end : goal.slice_bounds-first-end
slice_bounds-first-end c =
    first_wide c.args.delivery.now c.args.timetbls.now c.requires

pub judge-judged-requires : goal.judge-judged-requires
judge-judged-requires c =
    let own_form : c.form_of-form.result ≡ form_of (first_of (rows_in Delivery c.args.delivery.now)) = form_found c.args.delivery.now c.args.timetbls.now c.requires c.form_of-form.result c.form_of-form.ensures in
    judgeable_there c.args.delivery.now c.args.timetbls.now c.requires _ own_form

pub carry_out-requires : goal.carry_out-requires
carry_out-requires c =
    let own_form : c.form_of-form.result ≡ form_of (first_of (rows_in Delivery c.args.delivery.now)) = form_found c.args.delivery.now c.args.timetbls.now c.requires c.form_of-form.result c.form_of-form.ensures in
    let a = c.args in
    doable a.delivery.now a.timetbls.now c.requires _ own_form a.company.now a.trnsmode.now a.stations.now a.footnote.now
    a.service a.block.now _ c.judge-judged.ensures

pub returns : goal.returns
returns c =
    let own_form : c.form_of-form.result ≡ form_of (first_of (rows_in Delivery c.args.delivery.now)) = form_found c.args.delivery.now c.args.timetbls.now c.requires c.form_of-form.result c.form_of-form.ensures in
    let a = c.args in
    done_there a.delivery.now a.timetbls.now c.requires _ own_form a.company.now a.trnsmode.now a.stations.now a.footnote.now
    a.service a.block.now _ c.judge-judged.ensures _ c.count_services-services.ensures _ _ c.carry_out.ensures
