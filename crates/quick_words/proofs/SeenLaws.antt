-- A record that is told by its fields is seen by its letter. Assumes nothing.
use Prim.Native.Nat.{ℕ, zero, suc, ◌-◌, ◌≤◌, ◌<◌}
use mathlib.Core.Path.{◌≡◌, refl, ap, sym, ◌∙◌}
use mathlib.Core.List.{List, [], ◌∷◌, ◌++◌}
use mathlib.Core.Bool.{true}
use native.Mathlib.Nat.{add-zero}
use native.Mathlib.Omega.{arith}
use lib.Dec.{eqb}
use lib.ListN.{length, get_or, take, drop, replicate, length-append}
use lib.Seq.{get_or-drop}
use Rattle.iff.specs.Bytes.{hash, percent, dash, ampersand, asterisk, plus, dot, semicolon, less, greater, question}
use Rattle.iff.specs.Lists.{any}
use Rattle.iff.specs.Lines.{Line, letter}
use Rattle.iff.specs.Columns.{Field, record_fields, block_record, record_of, fields_of, service_fields, number_fields, validity_fields}
use Rattle.iff.specs.Columns.{transport_fields, attribute_fields, stop_fields, interval_fields, passed_fields, platform_fields}
use Rattle.iff.specs.Values.{field_words, words, readable}
use Rattle.iff.specs.Tables.{Row, padded}
use Rattle.iff.specs.declared.Form.{Form}
use Rattle.iff.specs.declared.Edition.{Edition}
use Rattle.iff.specs.declared.Edition.TheVariants.{Iff424}
use Rattle.iff.specs.declared.File.TheVariants.{Timetbls}
use Rattle.iff_rules.specs.Order.{known_in_block}
use Rattle.iff_rules.specs.Rows.{counts, row_of, block_row, Context}
use Rattle.iff_rules.specs.Meaning.{block_meaning}
use Rattle.iff_rules.specs.References.{met_in_block}
use Rattle.records.specs.Layouts.{legible}
use Rattle.quick_lines.specs.Pictures.{columns_at, line_here}
use Rattle.quick_words.specs.Told.{Told, Alike, Seen}
use Rattle.quick_words.specs.declared.Words.{Words}

-- a line of some columns begins with the byte that stands there
first_of_lem : (w : ℕ) (s : List ℕ) → 0 < w → get_or (take w s) 0 0 ≡ get_or s 0 0
first_of_lem zero s h = absurd (omega arith)
first_of_lem (suc w) [] h = refl
first_of_lem (suc w) (b ∷ s) h = refl

begins_with : (t : List ℕ) (at w : ℕ) → 0 < w → get_or (columns_at t at w) 0 0 ≡ get_or t at 0
begins_with t at w h = first_of_lem w (drop at t) h ∙ rw (get_or-drop, add-zero)

-- six words: the tag, four words and a zero
six : (x : ℕ) (us : List ℕ) → length us ≤ 4 → padded 6 (x ∷ us) ≡ x ∷ (padded 4 us ++ (0 ∷ []))
unfolding padded
six x [] h = refl
six x (a ∷ []) h = refl
six x (a ∷ b ∷ []) h = refl
six x (a ∷ b ∷ c ∷ []) h = refl
six x (a ∷ b ∷ c ∷ d ∷ []) h = refl
six x (a ∷ b ∷ c ∷ d ∷ e ∷ us) h = absurd (omega arith)

four_kept : (us : List ℕ) (a b c d : ℕ) → padded 4 us ≡ a ∷ b ∷ c ∷ d ∷ [] → length us ≤ 4
unfolding padded
four_kept us a b c d e = omega (arith, ap length e, length-append us (replicate (4 - length us) 0))

-- the row of a line whose letter is x, in a block and by itself
module _ (form : Form) (body : List ℕ) (n k j : ℕ) where
  abbrev in_block_by : ℕ → Row
  in_block_by x = padded 6 ((x ∷ words n body (fields_of form Timetbls x)) ++ counts n k (eqb x hash)) ++ (j ∷ [])

  abbrev alone_by : ℕ → Row
  alone_by x = padded 7 (x ∷ words 0 body (fields_of form Timetbls x))

-- the rules read what both rows have
abbrev AlikeBy : ℕ → Type 0
AlikeBy x = (form : Form) (body : List ℕ) (n k j : ℕ) (c : Context) (stops : ℕ) → Alike c stops (in_block_by form body n k j x) (alone_by form body n k j x)

module _ (t : List ℕ) (at n k : ℕ) (r : Words) (some : 0 < r.width) (x : ℕ) (head : x ≡ get_or t at 0) (form : Form) where
  abbrev line : Line
  line = line_here t at r.width

  its_letter : letter line ≡ x
  its_letter = begins_with t at r.width some ∙ sym head

  seen_by : (fs : List Field) → fields_of form Timetbls x ≡ fs → known_in_block x ≡ true → (more : List ℕ) → counts n k (eqb x hash) ≡ more → AlikeBy x
      → Told t at fs n more r → Seen form t at x n k r
  unfolding legible readable block_row row_of
  seen_by fs f g more m a d =
      let us : List ℕ = words n (columns_at t at r.width) fs ++ more in
      let few : length us ≤ 4 = four_kept us _ _ _ _ d.kept in
      record {
        room = rw d.wide d.seen.room;
        head = rw d.wide d.seen.head;
        known = g;
        begins = its_letter;
        laid =
            rw (its_letter, f, d.right, ap (λ w. columns_at t at w) d.wide, d.seen.fitting, d.seen.figured);
        row = λ j. rw (its_letter, f, m, six x us few, d.kept);
        alike = λ c stops j. rw its_letter (a form (columns_at t at r.width) n k j c stops);
      }

  pub seen_service : x ≡ hash → Told t at service_fields n (k ∷ n ∷ []) r → Seen form t at x n k r
  unfolding fields_of record_of block_record record_fields words field_words padded block_meaning met_in_block any
  seen_service e d =
      seen_by service_fields (rw e) (rw e) (k ∷ n ∷ []) (rw e) (rw e (λ form body n k j c stops. record { means = refl; met = refl })) d

  by_edition : (z : Edition) → z ≡ Iff424
  by_edition Iff424 = refl

  pub seen_train : x ≡ percent → Told t at (number_fields 7) n [] r → Seen form t at x n k r
  unfolding fields_of record_of block_record record_fields words field_words padded block_meaning met_in_block any
  seen_train e d =
      seen_by (number_fields 7) (rw (e, by_edition form.edition)) (rw e) [] (rw e)
      (rw e (λ form body n k j c stops. record { means = refl; met = refl })) d

  pub seen_validity : x ≡ dash → Told t at validity_fields n [] r → Seen form t at x n k r
  unfolding fields_of record_of block_record record_fields words field_words padded block_meaning met_in_block any
  seen_validity e d = seen_by validity_fields (rw e) (rw e) [] (rw e) (rw e (λ form body n k j c stops. record { means = refl; met = refl })) d

  pub seen_transport : x ≡ ampersand → Told t at transport_fields n [] r → Seen form t at x n k r
  unfolding fields_of record_of block_record record_fields words field_words padded block_meaning met_in_block any
  seen_transport e d = seen_by transport_fields (rw e) (rw e) [] (rw e) (rw e (λ form body n k j c stops. record { means = refl; met = refl })) d

  pub seen_attribute : x ≡ asterisk → Told t at attribute_fields n [] r → Seen form t at x n k r
  unfolding fields_of record_of block_record record_fields words field_words padded block_meaning met_in_block any
  seen_attribute e d = seen_by attribute_fields (rw e) (rw e) [] (rw e) (rw e (λ form body n k j c stops. record { means = refl; met = refl })) d

  pub seen_greater : x ≡ greater → Told t at stop_fields n [] r → Seen form t at x n k r
  unfolding fields_of record_of block_record record_fields words field_words padded block_meaning met_in_block any
  seen_greater e d = seen_by stop_fields (rw e) (rw e) [] (rw e) (rw e (λ form body n k j c stops. record { means = refl; met = refl })) d

  pub seen_dot : x ≡ dot → Told t at stop_fields n [] r → Seen form t at x n k r
  unfolding fields_of record_of block_record record_fields words field_words padded block_meaning met_in_block any
  seen_dot e d = seen_by stop_fields (rw e) (rw e) [] (rw e) (rw e (λ form body n k j c stops. record { means = refl; met = refl })) d

  pub seen_less : x ≡ less → Told t at stop_fields n [] r → Seen form t at x n k r
  unfolding fields_of record_of block_record record_fields words field_words padded block_meaning met_in_block any
  seen_less e d = seen_by stop_fields (rw e) (rw e) [] (rw e) (rw e (λ form body n k j c stops. record { means = refl; met = refl })) d

  pub seen_plus : x ≡ plus → Told t at interval_fields n [] r → Seen form t at x n k r
  unfolding fields_of record_of block_record record_fields words field_words padded block_meaning met_in_block any
  seen_plus e d = seen_by interval_fields (rw e) (rw e) [] (rw e) (rw e (λ form body n k j c stops. record { means = refl; met = refl })) d

  pub seen_passed : x ≡ semicolon → Told t at passed_fields n [] r → Seen form t at x n k r
  unfolding fields_of record_of block_record record_fields words field_words padded block_meaning met_in_block any
  seen_passed e d = seen_by passed_fields (rw e) (rw e) [] (rw e) (rw e (λ form body n k j c stops. record { means = refl; met = refl })) d

  pub seen_platform : x ≡ question → Told t at platform_fields n [] r → Seen form t at x n k r
  unfolding fields_of record_of block_record record_fields words field_words padded block_meaning met_in_block any
  seen_platform e d = seen_by platform_fields (rw e) (rw e) [] (rw e) (rw e (λ form body n k j c stops. record { means = refl; met = refl })) d
