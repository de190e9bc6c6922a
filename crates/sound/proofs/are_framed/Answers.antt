-- `sound::are_framed` meets its contract: ten frames, one after the other. Assumes nothing.
use mathlib.Core.Path.{◌≡◌, ◌∙◌}
use Rattle.iff.specs.Files.{of, eleven}
use Rattle.sound_frames.specs.Frames.{framed}
use Rattle.sound.specs.Whole.{all_framed}
use Rattle.sound.proofs.WholeLaws.{in_order_lem}
use Rattle.sound.proofs.are_framed.Goals as goal

pub is_framed-with_delivery-requires : goal.is_framed-with_delivery-requires
is_framed-with_delivery-requires c = (c.requires.0.delivery, c.requires.1)

pub is_framed-with_company-requires : goal.is_framed-with_company-requires
is_framed-with_company-requires c = (c.requires.0.company, c.requires.1)

pub is_framed-with_country-requires : goal.is_framed-with_country-requires
is_framed-with_country-requires c = (c.requires.0.country, c.requires.1)

pub is_framed-with_trnsmode-requires : goal.is_framed-with_trnsmode-requires
is_framed-with_trnsmode-requires c = (c.requires.0.trnsmode, c.requires.1)

pub is_framed-with_timezone-requires : goal.is_framed-with_timezone-requires
is_framed-with_timezone-requires c = (c.requires.0.timezone, c.requires.1)

pub is_framed-with_stations-requires : goal.is_framed-with_stations-requires
is_framed-with_stations-requires c = (c.requires.0.stations, c.requires.1)

pub is_framed-with_footnote-requires : goal.is_framed-with_footnote-requires
is_framed-with_footnote-requires c = (c.requires.0.footnote, c.requires.1)

pub is_framed-with_changes-requires : goal.is_framed-with_changes-requires
is_framed-with_changes-requires c = (c.requires.0.changes, c.requires.1)

pub is_framed-with_xfootnote-requires : goal.is_framed-with_xfootnote-requires
is_framed-with_xfootnote-requires c = (c.requires.0.xfootnote, c.requires.1)

pub is_framed-with_xchanges-requires : goal.is_framed-with_xchanges-requires
is_framed-with_xchanges-requires c = (c.requires.0.xchanges, c.requires.1)

pub shape_of-places : goal.shape_of-places
shape_of-places c =
    c.is_framed-with_xchanges.auto.places
    ∙ c.is_framed-with_xfootnote.auto.places
    ∙ c.is_framed-with_changes.auto.places
    ∙ c.is_framed-with_footnote.auto.places
    ∙ c.is_framed-with_stations.auto.places
    ∙ c.is_framed-with_timezone.auto.places
    ∙ c.is_framed-with_trnsmode.auto.places
    ∙ c.is_framed-with_country.auto.places
    ∙ c.is_framed-with_company.auto.places
    ∙ c.is_framed-with_delivery.auto.places

pub returns : goal.returns
unfolding all_framed
returns c =
    let a = c.args in
    let T = eleven a.delivery.now a.company.now a.country.now a.trnsmode.now a.timezone.now a.stations.now a.footnote.now a.timetbls.now a.changes.now a.xfootnote.now a.xchanges.now in
    in_order_lem (λ f. framed a.form a.first.now f (of T f)) _ _ _ _ _ _ _ _ _ _
    c.is_framed-with_delivery.ensures
    c.is_framed-with_company.ensures
    c.is_framed-with_country.ensures
    c.is_framed-with_trnsmode.ensures
    c.is_framed-with_timezone.ensures
    c.is_framed-with_stations.ensures
    c.is_framed-with_footnote.ensures
    c.is_framed-with_changes.ensures
    c.is_framed-with_xfootnote.ensures
    c.is_framed-with_xchanges.ensures
