-- A FILE OF ROWS: lines without fault leave rows that are sound, keys that are distinct, and their length. Assumes nothing.
use Rattle.std.specs.Prelude.{Ok}
use Prim.Native.Nat.{ℕ, suc}
use mathlib.Core.Path.{◌≡◌, refl, ap, ◌∙◌}
use mathlib.Core.List.{List, [], ◌∷◌, ◌++◌, map}
use mathlib.Core.Bool.{true, not}
use native.Mathlib.Numerals.{add-one}
use lib.ListN.{length, length-append}
use Rattle.iff.specs.Lists.{has, kept, total}
use Rattle.iff.specs.Refusals.{verdict_at, at_place}
use Rattle.iff.specs.Lines.{Line, size}
use Rattle.iff.specs.Columns.{laid}
use Rattle.iff.specs.Tables.{Row, word, padded, row_key_word, keys_of}
use Rattle.iff.specs.declared.RowFile.{RowFile}
use Rattle.iff.specs.declared.File.{File}
use Rattle.iff.specs.declared.File.TheVariants.{Rows}
use Rattle.iff.specs.declared.Form.{Form}
use Rattle.iff_rules.specs.Rows.{row_of, Context}
use Rattle.iff_rules.specs.Unique.{fresh_key, fresh_texts}
use Rattle.iff_rules.specs.Load.{plain_test, plain_verdict}
use Rattle.iff_laws.specs.TruthLaws.{both}
use Rattle.iff_desk.specs.Sound.{followed_by, distinct, sound_plain_row, sound_plain, row_size}
use Rattle.text.proofs.PackLaws.{Each as EachByte}
use Rattle.tables.proofs.Each.{Each}
use Rattle.keys.proofs.Fills.{keys_next}
use Rattle.sound_laws.proofs.PassLaws.{scan_passes, scan_each}
use Rattle.sound_laws.proofs.RowLaws.{its_fields, row_size_lem, plain_seven, plain_row}

-- a line's bytes are bytes
abbrev pub InBytes : Line → Type 0
InBytes l = EachByte 256 l.body

-- a line has the columns of its letter
abbrev pub Laid : Form → File → Line → Type 0
Laid form f l = laid l (its_fields form f l) ≡ true

-- so its row tells its length
pub sizes_same : (form : Form) (f : File) (ls : List Line) → Each (Laid form f) ls → total (row_size form f) (map (row_of form f) ls) ≡ total size ls
unfolding total
sizes_same form f [] u = refl
sizes_same form f (l ∷ ls) u = rw (row_size_lem form f l u.0, sizes_same form f ls u.1)

map_more : {A B : Type 0} (to : A → B) (xs : List A) (x : A) → map to (xs ++ (x ∷ [])) ≡ map to xs ++ (to x ∷ [])
map_more to [] x = refl
map_more {B = B} to (y ∷ xs) x = ap (λ (l : List B). to y ∷ l) (map_more to xs x)

module _ (c : Context) (f : RowFile) (ls : List Line) (bytes : Each InBytes ls) (e : plain_verdict c f ls ≡ Ok tt) where
  abbrev row : Line → Row
  row l = row_of c.form (Rows f) l

  pub plain_sound : sound_plain c f (map row ls) ≡ true
  unfolding plain_verdict sound_plain
  plain_sound =
      scan_passes (λ earlier i l. verdict_at (at_place (Rows f) 0 i) (plain_test c f earlier l)) followed_by InBytes (sound_plain_row c f) (λ count r. suc count)
      (λ earlier i. length earlier) (λ i l. row l) (λ i ks. map row ks)
      (record {
        none = λ i. refl;
        one_more = λ i x xs. refl;
        is_ok = λ earlier i l u q. plain_row c f earlier (at_place (Rows f) 0 i) l u q;
        moves = λ earlier i l. length-append earlier (l ∷ []) ∙ add-one (length earlier);
      })
      [] 2 ls bytes e

  key_fresh : (earlier : List Line) (i : ℕ) (l : Line) → InBytes l → verdict_at (at_place (Rows f) 0 i) (plain_test c f earlier l) ≡ Ok tt
      → not (has (word (row l) (row_key_word f)) (keys_of (Rows f) (map row earlier))) ≡ true
  unfolding fresh_key row_of padded
  key_fresh earlier i l u q =
      (both (fresh_key (Rows f) (keys_of (Rows f) (map row earlier)) (row l)) (fresh_texts f earlier l)
      (plain_seven c f earlier (at_place (Rows f) 0 i) l u q).is_fresh).0

  pub plain_distinct : distinct (keys_of (Rows f) (map row ls)) ≡ true
  unfolding plain_verdict distinct kept row_of padded
  plain_distinct =
      scan_passes (λ earlier i l. verdict_at (at_place (Rows f) 0 i) (plain_test c f earlier l)) followed_by InBytes (λ seen k. not (has k seen)) followed_by
      (λ earlier i. keys_of (Rows f) (map row earlier)) (λ i l. word (row l) (row_key_word f)) (λ i ks. keys_of (Rows f) (map row ks))
      (record {
        none = λ i. refl;
        one_more = λ i x xs. refl;
        is_ok = key_fresh;
        moves = λ earlier i l. ap (keys_of (Rows f)) (map_more row earlier l) ∙ keys_next (Rows f) (map row earlier) (row l) refl;
      })
      [] 2 ls bytes e

  pub plain_sizes : total (row_size c.form (Rows f)) (map row ls) ≡ total size ls
  unfolding plain_verdict
  plain_sizes =
      sizes_same c.form (Rows f) ls
      (scan_each _ _ InBytes (Laid c.form (Rows f)) (λ earlier i l u q. (plain_seven c f earlier (at_place (Rows f) 0 i) l u q).is_laid_out)
      [] 2 ls bytes e)
