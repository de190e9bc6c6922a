-- A file's first line in its text, and its row in an empty table. Assumes nothing.
use Rattle.std.specs.Prelude.{Err, Ok}
use Prim.Native.Nat.{ℕ, suc, ◌-◌, ◌*◌, ◌≤◌}
use mathlib.Core.Path.{◌≡◌, refl, ap, sym, ◌∙◌}
use mathlib.Core.List.{List, [], ◌∷◌, ◌++◌, append-nil}
use mathlib.Core.Bool.{Bool, true, false}
use native.Mathlib.Nat.{suc-mul, one-mul, sub-zero}
use native.Mathlib.Omega.{arith}
use lib.Dec.{eqb}
use lib.ListN.{length, get_or, take, drop, replicate, length-append, length-replicate}
use Rattle.iff.specs.Lists.{same}
use Rattle.iff.specs.Refusals.{first_test, Test}
use Rattle.iff.specs.Lines.{Line, lines, no_line}
use Rattle.iff.specs.Columns.{first_fields, record_fields, form424, laid}
use Rattle.iff.specs.Values.{words, field_words}
use Rattle.iff.specs.Tables.{tag, row_width, padded, joined, fill, key_tag}
use Rattle.iff.specs.declared.File.{File}
use Rattle.iff.specs.declared.File.TheVariants.{Delivery, Rows, Groups, Timetbls}
use Rattle.iff.specs.declared.GroupFile.TheVariants.{Timezone, Footnote, Changes, Xfootnote, Xchanges}
use Rattle.iff.specs.declared.Reason.{Reason}
use Rattle.iff_rules.specs.Rows.{first_row_of}
use Rattle.iff_rules.specs.Load.{first_line_test}
use Rattle.text.specs.declared.LineSpan.{LineSpan}
use Rattle.text.specs.Spans.{LineAt, span_line}
use Rattle.tables.proofs.Rows.{row_in_table}
use Rattle.tables.proofs.Filled.{drop_replicate}
use Rattle.records.specs.Layouts.{line_of}
use Rattle.reading.specs.Reading.{FirstLegible, head_line, Ready, Split, FirstRead}
use Rattle.first_lines.proofs.HeadLaws.{head_tests, first_is, laid_fits}

-- a first line that passes is legible
passing : (h a q v m : Bool) → Ok tt ≡ head_tests h a q v m → (a ≡ true) × (v ≡ true)
unfolding head_tests first_test
passing true true true true true e = (refl, refl)
passing false a q v m e = absurd (let z : ◌≡◌ {A = ℕ} 0 1 = cc in omega arith)
passing true false q v m e = absurd (let z : ◌≡◌ {A = ℕ} 0 1 = cc in omega arith)
passing true true false v m e = absurd (let z : ◌≡◌ {A = ℕ} 0 1 = cc in omega arith)
passing true true true false m e = absurd (let z : ◌≡◌ {A = ℕ} 0 1 = cc in omega arith)
passing true true true true false e = absurd (let z : ◌≡◌ {A = ℕ} 0 1 = cc in omega arith)

pub passing_legible : (s : Bool) (l : Line) → Ok tt ≡ first_line_test s l → FirstLegible l.body
unfolding record_fields
passing_legible s l e =
    let p = passing _ _ _ _ _ (e ∙ first_is s l) in
    record { fitting = laid_fits (form424 0) l.body l.ended (laid l first_fields) refl p.0; reading = p.1 }

-- the row of a first line: as wide as its table's rows, used, and the key of nothing
pub first_width : (f : File) (l : Line) → length (first_row_of f true l) ≡ row_width f
unfolding first_row_of padded words field_words
first_width Delivery l = refl
first_width (Rows f) l = refl
first_width (Groups Timezone) l = refl
first_width (Groups Footnote) l = refl
first_width (Groups Changes) l = refl
first_width (Groups Xfootnote) l = refl
first_width (Groups Xchanges) l = refl
first_width Timetbls l = refl

first_used : (f : File) (l : Line) → eqb (tag (first_row_of f true l)) 0 ≡ false
unfolding first_row_of padded
first_used f l = refl

first_other : (f : File) (l : Line) → eqb (tag (first_row_of f true l)) (key_tag f) ≡ false
unfolding first_row_of padded
first_other Delivery l = refl
first_other (Rows f) l = refl
first_other (Groups f) l = refl
first_other Timetbls l = refl

-- the first line of a text, by where it ends
module _ (text : List ℕ) (s : LineSpan) (a : LineAt text 0 s) where
  pub head_is : head_line text ≡ span_line text 0 s
  head_is = ap (λ (ls : List Line). get_or ls 0 no_line) a.head

  pub all_lines : lines text ≡ head_line text ∷ lines (drop s.next text)
  all_lines = a.head ∙ rw (← head_is)

  module _ (f : File) (t : List ℕ) (r : Ready f text t) where
    pub first_fits : row_width f ≤ length t
    first_fits = omega (arith, row_in_table (row_width f) 0 (length t) (omega (arith, r.room, ap length all_lines)))

    more_fits : suc (length (lines (drop s.next text))) * row_width f ≤ length t
    more_fits = rw suc-mul (row_in_table (row_width f) (length (lines (drop s.next text))) (length t) (omega (arith, r.room, ap length all_lines)))

    -- the table after its row was put at its front
    module _ (row is : List ℕ) (p : row ≡ first_row_of f true (head_line text)) (q : is ≡ row ++ drop (row_width f) t) where
      behind : drop (row_width f) t ≡ replicate (length t - row_width f) 0
      behind = ap (drop (row_width f)) r.cleared ∙ drop_replicate (row_width f) (length t) 0

      row_width_lem : length row ≡ row_width f
      row_width_lem = rw p (first_width f (head_line text))

      pub kept_length : length is ≡ length t
      kept_length = rw (q, length-append, behind, length-replicate) (omega (arith, row_width_lem, first_fits))

      is_filled : is ≡ fill (row_width f) (length is) (first_row_of f true (head_line text) ∷ [])
      unfolding fill joined
      is_filled = rw (kept_length, append-nil, one-mul, ← behind, ← p) q

      pub split : Split f text is (head_line text) s.next
      split =
          record {
            inside = a.high;
            all = all_lines;
            begun =
                record {
                  holds = is_filled;
                  width = first_width f (head_line text);
                  used = first_used f (head_line text);
                  other = first_other f (head_line text);
                  room = rw kept_length more_fits;
                };
          }

-- its body, where there is a first line
pub no_body : (text : List ℕ) → length text ≡ 0 → [] ≡ (head_line text).body
unfolding lines
no_body [] e = refl
no_body (x ∷ xs) e = absurd (omega arith)

pub some_body : (text : List ℕ) (s : LineSpan) → LineAt text 0 s → take (s.end - 0) text ≡ (head_line text).body
some_body text s a = sym (ap (λ (l : Line). l.body) (head_is text s a))

-- what is said of a first line
module _ (f : File) (header text was : List ℕ) (s : LineSpan) (a : LineAt text 0 s) (x : Test)
    (e : x ≡ first_line_test (same (span_line text 0 s).body header) (span_line text 0 s)) where
  pub refused : (k : Reason) → x ≡ Err k → FirstRead f header text was was (head_line text) (Err k)
  refused k p =
      record {
        test = rw (head_is text s a) (sym p ∙ e);
        rest = λ from q. absurd (let z : ◌≡◌ {A = ℕ} 0 1 = cc in omega arith);
        kept = refl;
      }

  pub legible : x ≡ Ok tt → FirstLegible (span_line text 0 s).body
  legible p = passing_legible _ (span_line text 0 s) (sym p ∙ e)

  module _ (r : Ready f text was) (row : List ℕ) (p : x ≡ Ok tt) (q : row ≡ first_row_of f true (line_of (span_line text 0 s).body true)) (w : ℕ)
      (h : w ≡ row_width f) where
    as_row : row ≡ first_row_of f true (head_line text)
    unfolding first_row_of
    as_row = rw (head_is text s a) q

    in_front : row ++ drop (w - 0) was ≡ row ++ drop (row_width f) was
    in_front = rw (sub-zero, h)

    pub accepted : FirstRead f header text was (row ++ drop (w - 0) was) (head_line text) (Ok s.next)
    accepted =
        record {
          test = rw (head_is text s a) (sym p ∙ e);
          rest = λ from z. let n : from ≡ s.next = cc in rw n (split text s a f was r row _ as_row in_front);
          kept = kept_length text s a f was r row _ as_row in_front;
        }
