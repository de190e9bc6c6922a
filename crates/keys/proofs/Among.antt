-- The first rows of a table: a row of them that is keyed is a row of its key, and as many as are in use name what the table names. Assumes nothing.
use Rattle.std.specs.Prelude.{None, Option, Some}
use Prim.Native.Nat.{ℕ, zero, suc, ◌+◌, ◌-◌, ◌*◌, ◌/◌, ◌≤◌, ◌<◌}
use mathlib.Core.Path.{◌≡◌, refl, ap, sym, ◌∙◌}
use mathlib.Core.List.{List}
use mathlib.Core.Bool.{Bool, true, false, ◌||◌, cond, true≢false}
use native.Mathlib.Nat.{sub-zero, le-div_iff_mul-le}
use native.Mathlib.Omega.{arith}
use borrow.Author.Tests.{ltb-true, ltb-false}
use lib.Dec.{ltb}
use lib.ListN.{length}
use lib.Seq.{take-length}
use Rattle.iff.specs.declared.File.{File}
use Rattle.iff.specs.Lists.{has, any}
use Rattle.iff.specs.Tables.{Row, row_width, row_at, rows_in, key_tag, key_word, keys_of, keyed}
use Rattle.tables.proofs.Rows.{row_in_table, rows_most}
use Rattle.tables.proofs.Widths.{widths}
use Rattle.tables.proofs.Keys.{has_keys}
use Rattle.std.specs.Option.{is_some}
use Rattle.keys.specs.Blocks.{block_of_rows, rows_between}
use Rattle.keys.specs.Lookup.{keys_in, at_most, rows_among, keys_among, KeyRow, HitRow, FoundRow}
use Rattle.keys.proofs.Blocks.{between_in_table}

-- no more than there is room for, and no fewer where there is room
at_most_lem : (n most : ℕ) → at_most n most ≤ most
at_most_lem n most = go (ltb n most) refl
  where
    go : (b : Bool) → ltb n most ≡ b → cond b n most ≤ most
    go true q = omega (arith, ltb-true n most q)
    go false q = omega arith

pub at_most_all : (n most : ℕ) → n ≤ most → at_most n most ≡ n
at_most_all n most h = go (ltb n most) refl
  where
    go : (b : Bool) → ltb n most ≡ b → cond b n most ≡ n
    go true q = refl
    go false q = omega (arith, ltb-false n most q)

-- a row that passes is one of the rows around it
or_later : (a b : Bool) → b ≡ true → (a || b) ≡ true
or_later true b e = refl
or_later false b e = e

pub any_row : (p : Row → Bool) (w : ℕ) (t : List ℕ) (i k j : ℕ) → i ≤ j → j < i + k → p (row_at w t j) ≡ true → any p (block_of_rows w t i k) ≡ true
unfolding any block_of_rows
any_row p w t i zero j l h e = absurd (omega arith)
any_row p w t i (suc k) j l h e = go (ltb i j) refl (λ m n. any_row p w t (suc i) k j m n e)
  where
    go : (b : Bool) → ltb i j ≡ b → (suc i ≤ j → j < suc i + k → any p (block_of_rows w t (suc i) k) ≡ true)
        → (p (row_at w t i) || any p (block_of_rows w t (suc i) k)) ≡ true
    go true q ih = or_later (p (row_at w t i)) _ (ih (omega (arith, ltb-true i j q)) (omega arith))
    go false q ih =
        let z : i ≡ j = omega (arith, ltb-false i j q) in
        rw (z, e)

-- n rows are looked through
module _ (w used m n : ℕ) (q : n ≡ at_most used (m / w)) where
  pub row_among : (i : ℕ) → i < n → i * w + w ≤ m
  row_among i h = row_in_table w i m (omega (arith, at_most_lem used (m / w)))

-- a row of a key, and what is answered of it
module _ (f : File) (used : ℕ) (t : List ℕ) (k : ℕ) where
  pub key_named : (i : ℕ) → KeyRow f used t k i → has k (keys_among f used t) ≡ true
  unfolding keys_among
  key_named i h =
      has_keys f k (rows_among (row_width f) used t)
      ∙ any_row (keyed (key_tag f) (key_word f) k) (row_width f) t 0 (at_most used (length t / row_width f) - 0) i (omega arith) (omega arith) h.names

  pub hit_none : HitRow f used t k None
  hit_none = record { found = λ i e. absurd (true≢false (sym (ap is_some e))) }

  pub as_found : (i : ℕ) → KeyRow f used t k i → FoundRow f used t k (Some i)
  as_found i h =
      record {
        found = λ j e. let z : i ≡ j = cc in rw (← z) h;
        none = λ e. absurd (true≢false (ap is_some e));
      }

  -- a search that hit has found
  pub hit_found : (r : Option ℕ) → HitRow f used t k r → (i : ℕ) → r ≡ Some i → FoundRow f used t k (Some i)
  hit_found r h i e = as_found i (h.found i e)

  -- whether a key is named is whether its row is found
  pub found_named : (r : Option ℕ) → FoundRow f used t k r → is_some r ≡ has k (keys_among f used t)
  found_named (Some i) h = sym (key_named i (h.found i refl))
  found_named None h = sym (h.none refl)

-- the lookup asks for the file's own tag and word, in rows of its width
module _ (f : File) (w tag col : ℕ) (v : w ≡ row_width f) (g : tag ≡ key_tag f) (m : col ≡ key_word f)
    (t : List ℕ) (used k n : ℕ) (q : n ≡ at_most used (length t / w)) where
  key_row_lem : (i : ℕ) → i < n → (b : Bool) → b ≡ keyed tag col k (row_at w t i) → b ≡ true → KeyRow f used t k i
  key_row_lem i h b e y =
      record {
        inside = omega (arith, q ∙ ap (λ (x : ℕ). at_most used (length t / x)) v);
        names = rw (← v, ← g, ← m) (sym e ∙ y);
      }

  pub row_hit : (i : ℕ) → i < n → (b : Bool) → b ≡ keyed tag col k (row_at w t i) → b ≡ true → HitRow f used t k (Some i)
  row_hit i h b e y = record { found = (as_found f used t k i (key_row_lem i h b e y)).found }

  pub row_found : (i : ℕ) → i < n → (b : Bool) → b ≡ keyed tag col k (row_at w t i) → b ≡ true → FoundRow f used t k (Some i)
  row_found i h b e y = as_found f used t k i (key_row_lem i h b e y)

  -- no row of them all
  pub none_found : any (keyed tag col k) (rows_between w t 0 n) ≡ false → FoundRow f used t k None
  unfolding keys_among
  none_found e =
      record {
        found = (hit_none f used t k).found;
        none = λ z. has_keys f k (rows_among (row_width f) used t) ∙ rw (q, v, g, m) at e;
      }

-- as many rows as are in use
pub keys_counted : (f : File) (t : List ℕ) (n : ℕ) → n ≡ length (rows_in f t) → keys_among f n t ≡ keys_in f t
unfolding keys_among
keys_counted f t n e =
    let w = row_width f in
    let a : at_most n (length t / w) ≡ length (rows_in f t) = at_most_all n (length t / w) (omega (arith, rows_most w (length t / w) t)) ∙ e in
    ap (keys_of f) (ap (rows_between w t 0) a ∙ between_in_table w t 0 (length (rows_in f t)) (omega arith) (omega arith) ∙ rw (sub-zero, take-length))

-- as many as there is room for
pub keys_there : (f : File) (t : List ℕ) (n : ℕ) → n * row_width f ≤ length t → keys_among f n t ≡ keys_of f (rows_between (row_width f) t 0 n)
unfolding keys_among
keys_there f t n h =
    ap (λ (m : ℕ). keys_of f (rows_between (row_width f) t 0 m))
    (at_most_all n (length t / row_width f) ((le-div_iff_mul-le (widths f).some).1 h))
