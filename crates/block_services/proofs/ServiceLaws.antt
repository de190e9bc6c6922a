-- Laws of the service that a block names: the columns of a line as far as it has them, and the first word of its row. Assumes nothing.
use Rattle.std.specs.Prelude.{None, Some}
use Prim.Native.Nat.{ℕ, ◌-◌, ◌≤◌, ◌<◌}
use mathlib.Core.Path.{◌≡◌, refl, ap, sym, ◌∙◌}
use mathlib.Core.List.{List, [], ◌∷◌}
use mathlib.Core.Bool.{Bool, true, false, cond}
use native.Mathlib.Omega.{arith}
use lib.Dec.{eqb}
use lib.ListN.{length, get_or, take, drop, length-take}
use borrow.Author.Tests.{ne_eqb}
use Rattle.iff.specs.Bytes.{hash, percent, dash, ampersand, asterisk, plus, semicolon, question}
use Rattle.iff.specs.Lines.{Line, lines, width, eol_at, no_line}
use Rattle.iff.specs.Columns.{record_fields, block_record, record_of, fields_of}
use Rattle.iff.specs.Values.{number_of, code_of, field_words, words}
use Rattle.iff.specs.Tables.{padded}
use Rattle.iff.specs.Words.{named}
use Rattle.iff.specs.declared.Form.{Form}
use Rattle.iff.specs.declared.Record.TheVariants.{Passed, Interval, PlainStop}
use Rattle.iff.specs.declared.File.TheVariants.{Timetbls}
use Rattle.iff_rules.specs.Rows.{row_of, as_block}
use Rattle.iff_rules.specs.Load.{service_of}
use Rattle.text.proofs.LineLaws.{after_ended, after_unended}
use Rattle.block_services.specs.Heads.{head_word}

-- some columns are no wider than they are wide
pub part_small : (r s : List ℕ) (k from : ℕ) → k ≤ 8 → r ≡ take k (drop from s) → length r ≤ 8
part_small r s k from h e = omega (arith, ap length e, length-take k (drop from s))

-- THE FIRST WORD, by the line's letter
module _ (form : Form) (s : List ℕ) (x : ℕ) (head : x ≡ get_or s 0 0) where
  pub head_service : x ≡ hash → number_of (take 8 (drop 1 s)) ≡ head_word form s
  unfolding head_word row_of padded fields_of record_of block_record record_fields words field_words
  head_service e = rw (sym head ∙ e)

  pub head_company : x ≡ percent → number_of (take 3 (drop 1 s)) ≡ head_word form s
  unfolding head_word row_of padded fields_of record_of block_record record_fields words field_words
  head_company e = rw (sym head ∙ e)

  pub head_footnote : x ≡ dash → number_of (take 5 (drop 1 s)) ≡ head_word form s
  unfolding head_word row_of padded fields_of record_of block_record record_fields words field_words
  head_footnote e = rw (sym head ∙ e)

  pub head_mode : x ≡ ampersand → code_of (take 4 (drop 1 s)) ≡ head_word form s
  unfolding head_word row_of padded fields_of record_of block_record record_fields words field_words
  head_mode e = rw (sym head ∙ e)

  pub head_attribute : x ≡ asterisk → code_of (take 4 (drop 1 s)) ≡ head_word form s
  unfolding head_word row_of padded fields_of record_of block_record record_fields words field_words
  head_attribute e = rw (sym head ∙ e)

  pub head_platform : x ≡ question → number_of (take 5 (drop 13 s)) ≡ head_word form s
  unfolding head_word row_of padded fields_of record_of block_record record_fields words field_words
  head_platform e = rw (sym head ∙ e)

  -- every other record names a station
  pub head_station : (x ≡ hash → ⊥) → (x ≡ percent → ⊥) → (x ≡ dash → ⊥) → (x ≡ ampersand → ⊥) → (x ≡ asterisk → ⊥) → (x ≡ question → ⊥)
      → code_of (take 7 (drop 1 s)) ≡ head_word form s
  unfolding head_word row_of padded fields_of record_of block_record record_fields words field_words
  head_station a b c d e f =
      simp (← head, ne_eqb _ _ a, ne_eqb _ _ b, ne_eqb _ _ c, ne_eqb _ _ d, ne_eqb _ _ e, ne_eqb _ _ f) (go (eqb x plus) (eqb x semicolon))
    where
      go : (p q : Bool)
          → code_of (take 7 (drop 1 s)) ≡ named (padded 7 (x ∷ words 0 s (record_fields form (cond p Interval (cond q Passed PlainStop)))))
      go true q = refl
      go false true = refl
      go false false = refl

-- THE FIRST LINE of a text
same_head : (form : Form) (l : Line) → named (row_of form Timetbls l) ≡ head_word form l.body
unfolding head_word row_of
same_head form l = refl

not_empty : (t : List ℕ) (e : ℕ) → eol_at t 0 ≡ Some e → 0 < length t
unfolding width
not_empty [] e q = absurd (let z : ◌≡◌ {A = ℕ} 0 1 = cc in omega arith)
not_empty (b ∷ t) e q = omega arith

pub first_ends : (t : List ℕ) (e : ℕ) → eol_at t 0 ≡ Some e → e ≤ length t
first_ends t e q = omega (arith, after_ended t 0 (not_empty t e q) e q)

-- a line as the first of some, so that its row names the block's service
first_named : (form : Form) (t : List ℕ) (l : Line) (ls : List Line) → lines t ≡ l ∷ ls → head_word form l.body ≡ service_of form (as_block t)
first_named form t l ls e = sym (ap (λ (s : List Line). named (row_of form Timetbls (get_or s 0 no_line))) e ∙ same_head form l)

pub service_ended : (form : Form) (t : List ℕ) (e : ℕ) → eol_at t 0 ≡ Some e
    → (v : ℕ) → v ≡ head_word form (take (e - 0) (drop 0 t)) → v ≡ service_of form (as_block t)
service_ended form t e q v k = k ∙ first_named form t _ _ (after_ended t 0 (not_empty t e q) e q).head

pub service_unended : (form : Form) (t : List ℕ) → eol_at t 0 ≡ None → (v : ℕ) → v ≡ head_word form t → v ≡ service_of form (as_block t)
unfolding lines
service_unended form [] q v k = k ∙ sym (same_head form no_line)
service_unended form (b ∷ t) q v k = k ∙ first_named form (b ∷ t) _ _ (after_unended (b ∷ t) 0 (omega arith) q)
