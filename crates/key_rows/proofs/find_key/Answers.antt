-- `find_key` meets its contract: it searches all the rows. Assumes nothing.
use native.Mathlib.Nat.{div-mul-le_self}
use borrow.Author.Rules.{rules}
use Rattle.tables.proofs.Search.{search_all}
use Rattle.key_rows.proofs.find_key.Goals as goal

pub returns : goal.returns
returns c = search_all _ _ _ _ _ c.find_key_in.ensures

pub find_key_in-requires : goal.find_key_in-requires
find_key_in-requires c = (search rules, div-mul-le_self _ _)
