-- The tests of a table's frame, one by one. Assumes nothing.
use Prim.Native.Nat.{ℕ, ◌+◌, ◌*◌, ◌<◌}
use mathlib.Core.Path.{◌≡◌, ap, sym, ◌∙◌}
use mathlib.Core.List.{List, [], ◌∷◌}
use mathlib.Core.Bool.{Bool, true, false, ◌&&◌, and-false, and-true}
use borrow.Author.Tests.{ne_eqb}
use lib.Dec.{eqb, leb}
use lib.ListN.{length, drop}
use Rattle.iff.specs.Bytes.{at}
use Rattle.iff.specs.Lists.{kept, total, all_of}
use Rattle.iff.specs.Files.{limit}
use Rattle.iff.specs.Tables.{Row, tag, row_width, row_at, rows_in, all_zero, key_tag, keys_of}
use Rattle.iff.specs.declared.File.{File}
use Rattle.iff.specs.declared.File.TheVariants.{Delivery, Rows, Groups, Timetbls}
use Rattle.iff.specs.declared.Form.{Form}
use Rattle.iff_desk.specs.Sound.{sound_first, distinct, row_size, first_size}
use Rattle.keys.specs.Blocks.{rows_between}
use Rattle.keys.specs.Lookup.{keys_among}
use Rattle.keys.proofs.Among.{keys_counted}
use Rattle.walks.proofs.TableLaws.{parted, no_rows as none-used}
use Rattle.sound_frames.specs.Frames.{framed_rows, framed}

-- a first line's tag names nothing
pub no_key : (f : File) (t : ℕ) → t ≡ at → eqb t (key_tag f) ≡ false
no_key Delivery t e = rw e
no_key (Rows f) t e = rw e
no_key (Groups f) t e = rw e
no_key Timetbls t e = rw e

-- so the keys of a file are those of the rows behind it
keys_behind : (f : File) (r : Row) (rs : List Row) → eqb (tag r) (key_tag f) ≡ false → keys_of f (r ∷ rs) ≡ keys_of f rs
unfolding kept
keys_behind f r rs e = rw e

module _ (f : File) (t : List ℕ) (used : ℕ) (e : used ≡ length (rows_in f t)) where
  pub later_keys : 0 < used → tag (row_at (row_width f) t 0) ≡ at → keys_among f used t ≡ keys_of f (rows_between (row_width f) t 1 used)
  later_keys h q =
      keys_counted f t used e ∙ ap (keys_of f) (parted f t used e h)
      ∙ keys_behind f (row_at (row_width f) t 0) (rows_between (row_width f) t 1 used) (no_key f (tag (row_at (row_width f) t 0)) q)

  -- the tests of a frame
  module _ (form : Form) (delivery : Row) (h : 0 < used) where
    abbrev Whole : Bool
    Whole = framed_rows form delivery f (rows_in f t)

    abbrev pub first : Row
    first = row_at (row_width f) t 0

    abbrev pub later : List Row
    later = rows_between (row_width f) t 1 used

    whole : Whole ≡ (sound_first f delivery first later && (distinct (keys_of f later) && leb (first_size + total (row_size form f) later) limit))
    unfolding framed_rows
    whole = rw (parted f t used e h)

    pub not_first : (tag first ≡ at → ⊥) → false ≡ framed_rows form delivery f (rows_in f t)
    unfolding sound_first all_of
    not_first n = sym (whole ∙ rw (ne_eqb _ _ n))

    pub not_distinct : distinct (keys_of f later) ≡ false → false ≡ framed_rows form delivery f (rows_in f t)
    not_distinct n = sym (whole ∙ rw (n, and-false))

    pub not_sound : sound_first f delivery first later ≡ false → false ≡ framed_rows form delivery f (rows_in f t)
    not_sound n = sym (whole ∙ rw n)

    pub by_size : distinct (keys_of f later) ≡ true → sound_first f delivery first later ≡ true
        → leb (first_size + total (row_size form f) later) limit ≡ framed_rows form delivery f (rows_in f t)
    by_size d s = sym (whole ∙ rw (s, d))

  -- and of the whole table
  module _ (form : Form) (delivery : Row) where
    all_of_lem : framed form delivery f t ≡ (framed_rows form delivery f (rows_in f t) && all_zero (drop (used * row_width f) t))
    unfolding framed
    all_of_lem = rw e

    pub not_zero : all_zero (drop (used * row_width f) t) ≡ false → false ≡ framed form delivery f t
    not_zero z = sym (all_of_lem ∙ rw (z, and-false))

    pub no_rows : all_zero (drop (used * row_width f) t) ≡ true → used ≡ 0 → true ≡ framed form delivery f t
    unfolding framed_rows
    no_rows z n =
        let m : rows_in f t ≡ [] = none-used f t used e n in
        sym (all_of_lem ∙ rw (z, m))

    pub some_rows : all_zero (drop (used * row_width f) t) ≡ true → framed_rows form delivery f (rows_in f t) ≡ framed form delivery f t
    some_rows z = sym (all_of_lem ∙ rw (z, and-true))
