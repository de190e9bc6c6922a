-- `index_heads` meets its contract: what is put for XCHANGES keeps what was put for CHANGES. Assumes nothing.
use Rattle.iff.specs.declared.GroupFile.TheVariants.{Changes, Xchanges}
use Rattle.iff.specs.declared.File.TheVariants.{Groups}
use Rattle.slots.proofs.SlotLaws.{kept_then}
use Rattle.store.proofs.FirstLaws.{used_fits}
use Rattle.head_index.proofs.HeadLaws.{stand, stand_still}
use Rattle.head_index.proofs.index_heads.Goals as goal

pub index_keys-requires : goal.index_keys-requires
index_keys-requires c =
    (used_fits _ _ _ c.requires.0, c.requires.2)

pub index_keys-requires-2 : goal.index_keys-requires-2
index_keys-requires-2 c =
    (used_fits _ _ _ c.requires.1, c.requires.3)

pub returns : goal.returns
returns c =
    let put = stand (Groups Changes) _ _ c.requires.0 _ _ _ c.index_keys.ensures in (
      stand_still (Groups Changes) _ _ _ put (Groups Xchanges) _ _ _ _ c.index_keys-2.ensures,
      stand (Groups Xchanges) _ _ c.requires.1 _ _ _ c.index_keys-2.ensures,
      kept_then c.index_keys.ensures.3 c.index_keys-2.ensures.3,
    )
