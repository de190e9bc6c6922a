-- `names` meets its contract: the lookup is the file's own. Assumes nothing.
use Rattle.keys.proofs.Lookup.{key_column, named}
use Rattle.keys.proofs.names.Goals as goal

pub has_key-requires : goal.has_key-requires
has_key-requires c =
    let a = c.args in
    key_column a.file _ _ _ c.row_width-w.ensures.is c.key_tag-tag.ensures c.key_word-col.ensures

pub returns : goal.returns
returns c =
    let a = c.args in
    named a.file _ _ _ c.row_width-w.ensures.is c.key_tag-tag.ensures c.key_word-col.ensures a.t.now a.key _
    c.has_key.ensures
