-- The keys of a table found sound, put into slots: none comes again, so each key's row stands there. Assumes nothing.
use Prim.Native.Nat.{ℕ}
use mathlib.Core.Path.{◌≡◌, ap, ◌∙◌}
use mathlib.Core.List.{List}
use mathlib.Core.Bool.{true}
use lib.ListN.{length}
use Rattle.iff.specs.declared.File.{File}
use Rattle.iff_desk.specs.Sound.{distinct}
use Rattle.keys.proofs.Among.{keys_counted}
use Rattle.slots.specs.Slots.{Index}
use Rattle.index.specs.Keying.{KeysPut}
use Rattle.index.specs.declared.KeysAre.{KeysAre}
use Rattle.store.specs.Found.{Stored}

module _ (f : File) (used : ℕ) (t : List ℕ) (s : Stored f used t) (ps qs : List ℕ) (r : KeysAre) (p : KeysPut f used t ps qs r) where
  pub stand : Index f t used (length qs) qs
  stand =
      let once : distinct _ ≡ true = ap distinct (keys_counted f t used s.counted) ∙ s.once in
      rw p.1 (p.2 (p.0.distinct ∙ once))

-- and still does after what is put for another table
module _ (f : File) (used : ℕ) (t : List ℕ) (ps : List ℕ) (x : Index f t used (length ps) ps) where
  pub stand_still : (g : File) (n : ℕ) (u qs : List ℕ) (r : KeysAre) → KeysPut g n u ps qs r → Index f t used (length qs) qs
  stand_still g n u qs r p = rw p.1 (p.3.keeps f t used (length ps) x)
