-- A line that is put to its group: its row in the table, and where the groups stand after it. Assumes nothing.
use Rattle.std.specs.Prelude.{Err, Ok}
use Prim.Native.Nat.{ℕ, suc, ◌-◌}
use mathlib.Core.Path.{◌≡◌, refl, ap, sym, ◌∙◌}
use mathlib.Core.List.{List, []}
use mathlib.Core.Bool.{true, false}
use native.Mathlib.Omega.{arith}
use lib.ListN.{length, drop}
use Rattle.iff.specs.Refusals.{verdict_at, after, Test, at_place}
use Rattle.iff.specs.Lines.{Line, is_hash}
use Rattle.iff.specs.Tables.{Row, tag, row_width, put_row}
use Rattle.iff.specs.Words.{named}
use Rattle.iff.specs.declared.GroupFile.{GroupFile}
use Rattle.iff.specs.declared.File.TheVariants.{Groups}
use Rattle.iff.specs.declared.Form.{Form}
use Rattle.iff.specs.declared.Reason.{Reason}
use Rattle.iff_rules.specs.Order.{group_stand, may_end}
use Rattle.iff_rules.specs.Rows.{row_of, Context}
use Rattle.keys.specs.Lookup.{keys_in}
use Rattle.keys.specs.Blocks.{block_of_rows}
use Rattle.group_marks.specs.Numbers.{with_row}
use Rattle.group_marks.proofs.NumberLaws.{opens}
use Rattle.group_lines.specs.Tests.{line_verdict}
use Rattle.open_groups.specs.Open.{open_rows, open_from, Beside, opening, group_for, open_after}
use Rattle.group_tests.specs.Facts.{RowTested}
use Rattle.group_lines.specs.Facts.{add_due, line_due, LineDone}
use Rattle.open_groups.specs.declared.Open.{Open}
use Rattle.group_lines.specs.declared.LinePut.{LinePut}
use Rattle.group_lines.specs.declared.LinePut.TheVariants.{Put, Early, Refused}

-- what was not put is nowhere
early_not : (g : Open) → Early ≡ Put g → ⊥
early_not g e = let z : ◌≡◌ {A = ℕ} 0 1 = cc in omega arith

refused_not : (r : Reason) (g : Open) → Refused r ≡ Put g → ⊥
refused_not r g e = let z : ◌≡◌ {A = ℕ} 0 1 = cc in omega arith

module _ (f : GroupFile) (form : Form) (rows : ℕ) (g : Open) (Agree : Context → Type 0) (l : Line) (t marks : List ℕ) (b : Beside f rows g t marks) where
  -- the table after it
  module _ (was is : List ℕ) (p : Test) (m : RowTested f form rows g Agree l t was is p) where
    pub put_not : (r : Reason) → p ≡ Err r → LineDone f form rows g Agree (add_due f rows g l t) l t t marks marks (Refused r)
    put_not r q =
        record {
          verdict = λ c d a. ap (verdict_at (at_place (Groups f) 0 (suc rows))) (sym q ∙ m.test c d a);
          put = λ a n. absurd (refused_not r a n);
          kept = refl;
        }

    pub put_there : length was ≡ row_width (Groups f) → p ≡ Ok tt → (t' : List ℕ) → t' ≡ put_row (length is) t rows is → length t' ≡ length t
        → (with : List ℕ) → with ≡ with_row f (open_from rows g.size) is marks
        → (next : Open) → next ≡ open_after g (tag is) (named is) → LineDone f form rows g Agree (add_due f rows g l t) l t t' marks with (Put next)
    put_there w q t' e k with x next z =
        let s : is ≡ row_of form (Groups f) l = m.row q in
        let n : length is ≡ row_width (Groups f) = m.kept ∙ w in
        record {
          verdict = λ c d a. ap (verdict_at (at_place (Groups f) 0 (suc rows))) (sym q ∙ m.test c d a);
          put = λ a p.
              (let i : a ≡ next = cc in
              record {
                group = i ∙ (z ∙ rw s);
                table = e ∙ rw (n, s);
                wide = rw (← s) n;
                used = m.used q;
                marked = x ∙ ap (λ (r : Row). with_row f (open_from rows g.size) r marks) s;
              });
          kept = k;
        }

-- no rows are open where a group begins
open_none : (f : GroupFile) (t : List ℕ) (rows : ℕ) → open_rows f t rows 0 ≡ []
unfolding block_of_rows
open_none f t rows =
    let z : rows - (rows - 0) ≡ 0 = omega arith in
    rw z

pub begin_group : (f : GroupFile) (rows : ℕ) (g : Open) (t marks : List ℕ) → Beside f rows g t marks → (next : Open)
    → next ≡ opening g.run → Beside f rows next t marks
unfolding group_stand after
begin_group f rows g t marks b next e =
    rw e
    (record {
      part = omega arith;
      few = b.few;
      room = b.room;
      stands = rw (open_none f t rows);
      runs = b.runs;
      marked =
          rw (open_none f t rows)
          (opens f (keys_in (Groups f) t) (open_from rows g.size) (drop 1 (open_rows f t rows g.size)) marks b.marked (open_from rows 0));
    })

-- a line after a group
module _ (f : GroupFile) (form : Form) (rows : ℕ) (g : Open) (Agree : Context → Type 0) (l : Line) (t marks : List ℕ) (b : Beside f rows g t marks) where
  -- it opens the next too early
  pub line_early : is_hash l ≡ true → may_end f g.stand ≡ false
      → LineDone f form rows (group_for g l) Agree (line_due f rows g l t) l t t marks marks Early
  unfolding line_verdict
  line_early x q =
      record {
        verdict = λ c d a. rw (x, ← b.stands, q);
        put = λ a n. absurd (early_not a n);
        kept = refl;
      }

  -- it opens the next
  pub line_opens : is_hash l ≡ true → may_end f g.stand ≡ true → (next : Open) → next ≡ opening g.run → (is with : List ℕ)
      (r : LinePut) → LineDone f form rows next Agree (add_due f rows next l t) l t is marks with r
      → LineDone f form rows (group_for g l) Agree (line_due f rows g l t) l t is marks with r
  unfolding line_verdict
  line_opens x q next e is with r s =
      record {
        verdict = λ c d a. s.verdict c d a ∙ rw (x, ← b.stands, q, e, open_none f t rows);
        put = λ a n. rw (x, ← e) (s.put a n);
        kept = s.kept;
      }

  -- or stands in it
  pub line_joins : is_hash l ≡ false → (is with : List ℕ) (r : LinePut)
      → LineDone f form rows g Agree (add_due f rows g l t) l t is marks with r
      → LineDone f form rows (group_for g l) Agree (line_due f rows g l t) l t is marks with r
  unfolding line_verdict
  line_joins x is with r s =
      record {
        verdict = λ c d a. s.verdict c d a ∙ rw x;
        put = λ a n. rw x (s.put a n);
        kept = s.kept;
      }
