-- A key that is not there. Assumes nothing.
use Rattle.std.specs.Prelude.{None}
use Prim.Native.Nat.{ℕ, ◌*◌, ◌≤◌, ◌<◌}
use mathlib.Core.Path.{◌≡◌, ap, sym, ◌∙◌}
use mathlib.Core.List.{List}
use mathlib.Core.Bool.{false}
use borrow.Author.Tests.{ne_eqb}
use lib.ListN.{length, get_or}
use Rattle.iff.specs.declared.File.{File}
use Rattle.iff.specs.Lists.{has}
use Rattle.iff.specs.Tables.{tag, row_width, row_at, key_tag}
use Rattle.keys.specs.Lookup.{keys_among, FoundRow}
use Rattle.keys.specs.Places.{probes, place_of}
use Rattle.keys.proofs.Among.{keys_there, hit_none}
use Rattle.walks.proofs.TableLaws.{tag_first}
use Rattle.slots.specs.Slots.{last_row, names_at, FirstFree, Index}
use Rattle.slots.proofs.SlotLaws.{new_by_free}

module _ (f : File) (t : List ℕ) (used : ℕ) where
  -- row 0 names nothing, where the first word is no tag of a name
  first_names_none : (word tagged : ℕ) → word ≡ get_or t 0 0 → tagged ≡ key_tag f → (word ≡ tagged → ⊥) → names_at f t 0 ≡ false
  first_names_none word tagged e g n = ne_eqb (tag (row_at (row_width f) t 0)) (key_tag f) (λ q. n (e ∙ (tag_first f t ∙ (q ∙ sym g))))

  -- a free slot before any row of the key
  pub absent : (ps : List ℕ) → Index f t used (length ps) ps → used * row_width f ≤ length t → probes < length ps → used ≤ last_row
      → (word tagged : ℕ) → word ≡ get_or t 0 0 → tagged ≡ key_tag f → (word ≡ tagged → ⊥)
      → (key s : ℕ) → FirstFree f t used key ps (place_of key (length ps)) s → has key (keys_among f used t) ≡ false
  absent ps x room wide few word tagged e g n key s free =
      ap (has key) (keys_there f t used room)
      ∙ new_by_free f t used (length ps) ps x wide few key (first_names_none word tagged e g n) s free

  pub found_nowhere : (key : ℕ) → has key (keys_among f used t) ≡ false → FoundRow f used t key None
  found_nowhere key e = record { found = (hit_none f used t key).found; none = λ z. e }
