-- A line of a block that passes its tests leaves a row that is sound. The row has its own words, which the number of stops settles, its number
-- in the block, and at the `#` the block's counts; the rules read what the line's own row has. Assumes nothing.
use Rattle.std.specs.Prelude.{Ok, Option}
use Prim.Native.Nat.{ℕ, suc}
use mathlib.Core.Path.{◌≡◌, refl, ap, ◌∙◌}
use mathlib.Core.List.{List, [], ◌∷◌, ◌++◌, append-nil}
use mathlib.Core.Bool.{Bool, true, false, ◌||◌, cond, false≢true}
use native.Mathlib.Omega.{arith}
use lib.Dec.{eqb}
use lib.ListN.{length, take, drop, length-append}
use lib.Seq.{take_at, get_or_at}
use borrow.Author.Tests.{eqb-true, eq-eqb}
use Rattle.iff.specs.Bytes.{hash, percent, ampersand, asterisk, plus, dash, dot, semicolon, less, greater, question, at}
use Rattle.iff.specs.Lists.{any, has}
use Rattle.iff.specs.Refusals.{verdict_at, after}
use Rattle.iff.specs.Lines.{Line, letter, is_hash, size}
use Rattle.iff.specs.Columns.{record_fields, block_record, record_of, fields_of, picture, fits, laid, column}
use Rattle.iff.specs.Values.{readable, words, field_words}
use Rattle.iff.specs.Tables.{Row, tag, padded}
use Rattle.iff.specs.Words.{line_number, line_count, stop_count}
use Rattle.iff.specs.declared.File.TheVariants.{Timetbls}
use Rattle.iff.specs.declared.Form.{Form}
use Rattle.iff.specs.declared.InBlock.{InBlock}
use Rattle.iff_rules.specs.Order.{known_in_block, goes, is_goes}
use Rattle.iff_rules.specs.Rows.{counts, line_words, row_of, block_row, block_rows_from, Context}
use Rattle.iff_rules.specs.Meaning.{block_meaning}
use Rattle.iff_rules.specs.References.{met_in_block}
use Rattle.iff_rules.specs.Load.{block_test, block_next, block_moves}
use Rattle.iff_laws.specs.ScanLaws.{verdict_fine}
use Rattle.iff_laws.specs.TruthLaws.{both}
use Rattle.iff_laws.proofs.LineLaws.{Seven, line_passes}
use Rattle.iff_laws.specs.Tests.{asked_in_block}
use Rattle.iff_desk.specs.Sound.{shaped, own_words, sound_block_row, row_size, stand_after_rows}
use Rattle.text.proofs.PictureLaws.{and_left, and_right, same_length}
use Rattle.text.proofs.PackLaws.{Each}
use Rattle.legs.proofs.RowLaws.{tag_is}
use Rattle.block_rows.proofs.RowLaws.{block_row_length}
use Rattle.sound_laws.proofs.WordLaws.{line_shaped}
use Rattle.sound_laws.proofs.PassLaws.{all_hold}
use Rattle.sound_laws.proofs.RowLaws.{fields_turn, Read, its_fields}
use Rattle.iff.specs.declared.Place.{Place}

-- what holds of every letter of a block holds of a letter that is known
has_one : (P : ℕ → Type 0) (x k : ℕ) (ks : List ℕ) → has x (k ∷ ks) ≡ true → P k → (has x ks ≡ true → P x) → P x
unfolding any
has_one P x k ks e p q = go (eqb x k) refl e
  where
    go : (b : Bool) → eqb x k ≡ b → (b || any (eqb x) ks) ≡ true → P x
    go true z e = rw (eqb-true x k z) p
    go false z e = q e

pub record EveryLetter (P : ℕ → Type 0) : Type 0 where
  pub of_at : P at
  pub of_hash : P hash
  pub of_percent : P percent
  pub of_dash : P dash
  pub of_ampersand : P ampersand
  pub of_asterisk : P asterisk
  pub of_greater : P greater
  pub of_dot : P dot
  pub of_plus : P plus
  pub of_semicolon : P semicolon
  pub of_less : P less
  pub of_question : P question

none_has : (P : ℕ → Type 0) (x : ℕ) → has x [] ≡ true → P x
unfolding any
none_has P x e = absurd (false≢true e)

by_letter : (P : ℕ → Type 0) → EveryLetter P → (x : ℕ) → known_in_block x ≡ true → P x
by_letter P m x e =
    has_one P x at _ e m.of_at
    (λ e. has_one P x hash _ e m.of_hash
    (λ e. has_one P x percent _ e m.of_percent
    (λ e. has_one P x dash _ e m.of_dash
    (λ e. has_one P x ampersand _ e m.of_ampersand
    (λ e. has_one P x asterisk _ e m.of_asterisk
    (λ e. has_one P x greater _ e m.of_greater
    (λ e. has_one P x dot _ e m.of_dot
    (λ e. has_one P x plus _ e m.of_plus
    (λ e. has_one P x semicolon _ e m.of_semicolon
    (λ e. has_one P x less _ e m.of_less
    (λ e. has_one P x question _ e m.of_question
    (λ e. none_has P x e))))))))))))

module _ (c : Context) (form : Form) (body : List ℕ) (n k j stops : ℕ) where
  -- the row of a line whose letter is x, in a block and by itself
  abbrev in_block_by : ℕ → Row
  in_block_by x = padded 6 ((x ∷ words n body (fields_of form Timetbls x)) ++ counts n k (eqb x hash)) ++ (j ∷ [])

  abbrev alone_by : ℕ → Row
  alone_by x = padded 7 (x ∷ words 0 body (fields_of form Timetbls x))

  abbrev Alike : ℕ → Type 0
  Alike x = (block_meaning stops (in_block_by x) ≡ block_meaning stops (alone_by x)) × (met_in_block c (in_block_by x) ≡ met_in_block c (alone_by x))

  alike : EveryLetter Alike
  unfolding padded fields_of record_of block_record record_fields words field_words block_meaning met_in_block any
  alike =
      record {
        of_at = (refl, refl);
        of_hash = (refl, refl);
        of_percent = (refl, refl);
        of_dash = (refl, refl);
        of_ampersand = (refl, refl);
        of_asterisk = (refl, refl);
        of_greater = (refl, refl);
        of_dot = (refl, refl);
        of_plus = (refl, refl);
        of_semicolon = (refl, refl);
        of_less = (refl, refl);
        of_question = (refl, refl);
      }

-- A ROW of a block, of line j
module _ (form : Form) (n k j : ℕ) (l : Line) where
  abbrev in_block : Row
  in_block = block_row form n k j l

  abbrev own_part : Row
  own_part = padded 6 (line_words n form Timetbls l ++ counts n k (is_hash l))

  own_length : length own_part ≡ 6
  unfolding block_row
  own_length = omega (arith, block_row_length form n k j l, length-append own_part (j ∷ []))

  own_part_lem : take 6 in_block ≡ own_part
  unfolding block_row
  own_part_lem = take_at own_part (j ∷ []) 6 own_length

  pub number_is : line_number in_block ≡ j
  unfolding block_row
  number_is = get_or_at own_part j [] 0 6 own_length

  -- the words that the line left: all but the number, and at the `#` all but the counts too
  hash_words : letter l ≡ hash → take 2 in_block ++ drop 4 (take 6 in_block) ≡ padded 4 (line_words n form Timetbls l)
  unfolding block_row padded fields_of record_of block_record record_fields words field_words
  hash_words e = rw e

  own_words_lem : (b : Bool) → is_hash l ≡ b
      → cond b (take 2 in_block ++ drop 4 (take 6 in_block)) (take 6 in_block) ≡ padded (cond b 4 6) (line_words n form Timetbls l)
  own_words_lem true e = hash_words (eqb-true _ _ e)
  own_words_lem false e = own_part_lem ∙ rw (e, append-nil (line_words n form Timetbls l))

  pub block_shaped : Read (its_fields form Timetbls l) l → shaped (fields_of form Timetbls (tag in_block)) (own_words in_block) ≡ true
  unfolding fields_of
  block_shaped p =
      rw (tag_is form n k j l, own_words_lem (is_hash l) refl)
      (line_shaped l.body p.bytes (its_fields form Timetbls l) (fields_turn form (record_of Timetbls (letter l)))
      (and_right l.ended _ p.lays) p.reads n (cond (is_hash l) 4 6) (letter l))

  -- a row tells its line's length
  pub block_size : laid l (its_fields form Timetbls l) ≡ true → row_size form Timetbls in_block ≡ size l
  block_size e =
      let m : length l.body ≡ length (picture (its_fields form Timetbls l))
      = same_length column l.body (picture (its_fields form Timetbls l)) (and_right l.ended _ e) in
      rw (tag_is form n k j l, ← m, and_left l.ended (fits l.body (picture (its_fields form Timetbls l))) e)

module _ (c : Context) (seen : List ℕ) (st : InBlock) (p : Option Place) (l : Line) (bytes : Each 256 l.body)
    (e : verdict_at p (block_test c seen st l) ≡ Ok tt) where
  pub block_seven : Seven (asked_in_block c seen st l)
  unfolding block_test
  block_seven = (line_passes _).0 (verdict_fine p (block_test c seen st l) e)

  pub block_read : Read (its_fields c.form Timetbls l) l
  block_read = let s = block_seven in record { bytes = bytes; lays = s.is_laid_out; reads = (both _ _ s.is_valued).0 }

  module _ (n k j : ℕ) where
    block_alike : Alike c c.form l.body n k j st.stops (letter l)
    block_alike = by_letter _ (alike c c.form l.body n k j st.stops) (letter l) block_seven.is_known

    block_means : block_meaning st.stops (block_row c.form n k j l) ≡ true
    unfolding block_row row_of
    block_means =
        let v = both (readable l.body (its_fields c.form Timetbls l)) _ block_seven.is_valued in
        block_alike.0 ∙ v.1

    block_met : met_in_block c (block_row c.form n k j l) ≡ true
    unfolding block_row row_of
    block_met = block_alike.1 ∙ block_seven.is_met

    pub block_row_lem : sound_block_row c (record { block = st; line = j }) (block_row c.form n k j l) ≡ true
    unfolding sound_block_row
    block_row_lem =
        all_hold _ (
          ap (λ (x : ℕ). is_goes (goes st.stand x)) (tag_is c.form n k j l) ∙ block_seven.is_here,
          (
            block_shaped c.form n k j l block_read,
            (
              eq-eqb _ _ (number_is c.form n k j l),
              (
                block_means,
                (block_met, tt),
              ),
            ),
          ),
        )

-- THE ROWS OF A BLOCK
-- where they stand is where its lines stand
pub rows_stand : (form : Form) (n k j : ℕ) (st : InBlock) (ls : List Line)
    → stand_after_rows st (block_rows_from form n k j ls) ≡ (after block_next st ls).stand
unfolding stand_after_rows block_rows_from after
rows_stand form n k j st [] = refl
rows_stand form n k j st (l ∷ ls) =
    ap (λ (x : ℕ). stand_after_rows (block_moves st x) (block_rows_from form n k (suc j) ls)) (tag_is form n k j l)
    ∙ rows_stand form n k (suc j) (block_next st l) ls

-- its `#` has the counts
module _ (form : Form) (n k j : ℕ) (l : Line) (e : is_hash l ≡ true) where
  pub counts_are : (line_count (block_row form n k j l) ≡ k) × (stop_count (block_row form n k j l) ≡ n)
  unfolding block_row padded fields_of record_of block_record record_fields words field_words
  counts_are = let z : letter l ≡ hash = eqb-true _ _ e in (rw z, rw z)
