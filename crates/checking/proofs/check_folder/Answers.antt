-- Each buffer's bytes were read under its own file's name.
use Rattle.checking.proofs.CheckLaws.{all_named}
use Rattle.checking.proofs.check_folder.Goals as goal

pub returns-clause-folder_checked : goal.returns-clause-folder_checked
returns-clause-folder_checked g c =
    let named =
    all_named
    c.read_named-n_delivery.ensures.read_as
    c.read_named-n_company.ensures.read_as
    c.read_named-n_country.ensures.read_as
    c.read_named-n_trnsmode.ensures.read_as
    c.read_named-n_timezone.ensures.read_as
    c.read_named-n_stations.ensures.read_as
    c.read_named-n_footnote.ensures.read_as
    c.read_named-n_timetbls.ensures.read_as
    c.read_named-n_changes.ensures.read_as
    c.read_named-n_xfootnote.ensures.read_as
    c.read_named-n_xchanges.ensures.read_as
    in
    record { files = _; named = named; line = c.check_files.ensures.appended }
