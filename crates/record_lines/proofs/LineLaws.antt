-- Laws of one line of one record, by whether the record is the vector or has fixed columns. Assumes nothing.
use Rattle.std.specs.Prelude.{Err, Ok}
use Prim.Native.Nat.{ℕ, suc, ◌-◌, ◌≤◌, ◌<◌}
use mathlib.Core.Path.{◌≡◌, refl, ap, sym, ◌∙◌}
use mathlib.Core.List.{List, ◌∷◌}
use mathlib.Core.Bool.{Bool, true, false}
use native.Mathlib.Omega.{arith}
use lib.ListN.{take, drop, replicate}
use lib.Seq.{slice}
use Rattle.text.proofs.PictureLaws.{and_right}
use Rattle.iff.specs.Bytes.{zero_or_one}
use Rattle.iff.specs.Lists.{all}
use Rattle.iff.specs.Refusals.{unless, Test}
use Rattle.iff.specs.Columns.{Field, fits, picture, laid, record_fields}
use Rattle.iff.specs.Values.{readable, words, word_count, vector_words, vector_width}
use Rattle.iff.specs.Tables.{padded}
use Rattle.iff.specs.declared.Form.{Form}
use Rattle.iff.specs.declared.Record.{Record}
use Rattle.iff.specs.declared.Record.TheVariants.{FootnoteVector}
use Rattle.iff.specs.declared.Reason.{Reason}
use Rattle.iff.specs.declared.Reason.TheVariants.{Layout, Value}
use Rattle.records.specs.declared.Spans.{Spans}
use Rattle.records.specs.declared.Looks.{Looks}
use Rattle.records.specs.Layouts.{line_of, pictures, fields, spans_of, right_in, picture_in, readable_in, in_order, layout_test}
use Rattle.records.specs.Facts.{Legible, LooksBy, Entries, SpansFit}
use Rattle.records.proofs.FieldLaws.{fixed_place, is_vector_lem, entries_in, spans_fit, readable_in_lem, words_in}
use Rattle.records.proofs.VectorLaws.{vector_picture, vector_readable, vector_words_in}

module _ (form : Form) (r : Record) (s : Spans) (e : s ≡ spans_of r) (body : List ℕ) where
  -- LAYOUT
  pub laid_vector : (ended : Bool) → ended ≡ true → s.1 ≡ 0 → fits body (replicate form.days 109) ≡ laid (line_of body ended) (record_fields form r)
  laid_vector ended t z = rw (t, is_vector_lem form r s e z, vector_picture)

  pub laid_fixed : (ended : Bool) → ended ≡ true → (s.1 ≡ 0 → ⊥)
      → fits body (take (s.1 - s.0) (drop s.0 pictures)) ≡ laid (line_of body ended) (record_fields form r)
  laid_fixed ended t z = rw (t, (fixed_place form r s e z).pictured)

  -- MARKS
  module _ (f : fits body (picture (record_fields form r)) ≡ true) where
    -- so it fits the vector's, if it is one
    as_vector : s.1 ≡ 0 → fits body (picture (record_fields form FootnoteVector)) ≡ true
    as_vector z = rw (is_vector_lem form r s e z) at f

    read_vector : s.1 ≡ 0 → all zero_or_one body ≡ readable body (record_fields form r)
    read_vector z = vector_readable form body (as_vector z) ∙ ap (readable body) (sym (is_vector_lem form r s e z))

  -- LAYOUT BEFORE VALUE
  pub fixed_fit : (s.1 ≡ 0 → ⊥) → SpansFit s body
  fixed_fit z = spans_fit form r s (fixed_place form r s e z) body

  pub order_fixed : (ended : Bool) → ended ≡ true → (s.1 ≡ 0 → ⊥)
      → in_order (fits body (picture_in s)) (readable_in s body)
      ≡ in_order (laid (line_of body ended) (record_fields form r)) (readable body (record_fields form r))
  order_fixed ended t z =
      ap (λ b. in_order b (readable_in s body)) (laid_fixed ended t z)
      ∙ ap (in_order (laid (line_of body ended) (record_fields form r))) (readable_in_lem form r s (fixed_place form r s e z) body)

  -- the marks of a vector say nothing where it does not fit, and need not
  pub order_vector : (ended : Bool) → ended ≡ true → s.1 ≡ 0
      → in_order (fits body (replicate form.days 109)) (all zero_or_one body)
      ≡ in_order (laid (line_of body ended) (record_fields form r)) (readable body (record_fields form r))
  order_vector ended t z = ap (λ b. in_order b (all zero_or_one body)) (laid_vector ended t z) ∙ go (laid (line_of body ended) (record_fields form r)) refl
    where
      go : (b : Bool) → laid (line_of body ended) (record_fields form r) ≡ b
          → in_order b (all zero_or_one body) ≡ in_order b (readable body (record_fields form r))
      go true q = ap (in_order true) (read_vector (and_right ended _ q) z)
      go false q = refl

  -- ROWS
  module _ (room : ℕ) (p : Legible form r body room) where
    pub marks_legible : s.1 ≡ 0 → (all zero_or_one body ≡ true) × (vector_width < room)
    unfolding record_fields
    marks_legible z = (
      read_vector p.fitting z ∙ p.reading,
      omega (arith, p.roomy, ap word_count (is_vector_lem form r s e z)),
    )

    pub marks_row : s.1 ≡ 0 → (n tag : ℕ) → padded room (tag ∷ vector_words vector_width body) ≡ padded room (tag ∷ words n body (record_fields form r))
    marks_row z n tag =
        ap (λ (ws : List ℕ). padded room (tag ∷ ws))
        (sym (ap (words n body) (is_vector_lem form r s e z) ∙ vector_words_in form body (as_vector p.fitting z) n))

    pub fields_legible : (s.1 ≡ 0 → ⊥) → Entries s.2 s.3 body × (s.3 - s.2 < room)
    fields_legible z =
        let q = fixed_place form r s e z in
        (entries_in form r s q body p.fitting, omega (arith, q.counted, p.roomy))

    pub fields_row : (s.1 ≡ 0 → ⊥) → (n tag : ℕ)
        → padded room (tag ∷ words n body (slice s.2 s.3 fields)) ≡ padded room (tag ∷ words n body (record_fields form r))
    fields_row z n tag = ap (λ (ws : List ℕ). padded room (tag ∷ ws)) (words_in form r s (fixed_place form r s e z) body n)

-- THE TESTS OF FIXED COLUMNS, in order
module _ (s : Spans) (body : List ℕ) (l : Looks) (k : LooksBy body (picture_in s) l) where
  pub unfit : l.0 ≡ false → Err Layout ≡ in_order (fits body (picture_in s)) (readable_in s body)
  unfit f = rw (← k.fitting, f)

  module _ (f : l.0 ≡ true) where
    pub unfigured : l.1 ≡ false → Err Value ≡ in_order (fits body (picture_in s)) (readable_in s body)
    unfolding readable_in
    unfigured g = rw (← k.fitting, f, ← k.figured, g)

    pub in_fields : l.1 ≡ true → {b : Bool} → right_in body (slice s.2 s.3 fields) ≡ b
        → unless b Value ≡ in_order (fits body (picture_in s)) (readable_in s body)
    unfolding readable_in
    in_fields g h = rw (← k.fitting, f, ← k.figured, g, h)

-- A LINE THAT HAS ITS LAYOUT fails by its values alone
module _ (body : List ℕ) (fs : List Field) (f : fits body (picture fs) ≡ true) (t : Test)
    (e : t ≡ in_order (laid (line_of body true) fs) (readable body fs)) where
  by_value : t ≡ unless (readable body fs) Value
  by_value = e ∙ rw f

  pub read_passes : t ≡ Ok tt → true ≡ readable body fs
  read_passes p = go (readable body fs) (sym p ∙ by_value)
    where
      go : (b : Bool) → Ok tt ≡ unless b Value → true ≡ b
      go true q = refl
      go false q = absurd (let z : ◌≡◌ {A = ℕ} 0 1 = cc in omega arith)

  pub read_fails : (why : Reason) → t ≡ Err why → false ≡ readable body fs
  read_fails why p = go (readable body fs) (sym p ∙ by_value)
    where
      go : (b : Bool) → Err why ≡ unless b Value → false ≡ b
      go true q = absurd (let z : ◌≡◌ {A = ℕ} 0 1 = cc in omega arith)
      go false q = refl

-- FOR CALLERS: a line that passes layout and value can be put
pub layout_passes : (form : Form) (r : Record) (body : List ℕ) (ended : Bool)
    → Ok tt ≡ layout_test (line_of body ended) (record_fields form r)
    → (room : ℕ) → suc (word_count (record_fields form r)) ≤ room → Legible form r body room
layout_passes form r body ended q room h = go (laid (line_of body ended) (record_fields form r)) (readable body (record_fields form r)) refl refl q
  where
    go : (a b : Bool) → laid (line_of body ended) (record_fields form r) ≡ a → readable body (record_fields form r) ≡ b
        → Ok tt ≡ in_order a b → Legible form r body room
    go true true x y q' = record { fitting = and_right ended _ x; reading = y; roomy = h }
    go true false x y q' = absurd (let z : ◌≡◌ {A = ℕ} 0 1 = cc in omega arith)
    go false b x y q' = absurd (let z : ◌≡◌ {A = ℕ} 0 1 = cc in omega arith)
