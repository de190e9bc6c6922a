-- The table is the pictures of the definitions, one after the other. Assumes nothing.
use borrow.Author.Rules.{rules}
use Rattle.iff.specs.Columns.{record_fields, picture_from}
use Rattle.records.specs.Layouts.{each, pictures}
use Rattle.records.proofs.looks_in.Goals as goal

pub looks_by-requires : goal.looks_by-requires
unfolding pictures each record_fields picture_from
looks_by-requires c = search rules

pub returns : goal.returns
unfolding pictures each record_fields picture_from
returns c = c.looks_by.ensures
