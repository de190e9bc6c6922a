-- Laws of a loop over the lines of a block. Assumes nothing.
use Prim.Native.Nat.{ℕ, ◌+◌}
use mathlib.Core.Path.{◌≡◌, refl, ap, sym, ◌∙◌}
use mathlib.Core.List.{List, [], ◌∷◌}
use mathlib.Core.Bool.{Bool, true, false, ◌&&◌}
use native.Mathlib.Omega.{arith}
use lib.ListN.{length, get_or}
use Rattle.iff.specs.Lists.{all, total}
use Rattle.iff.specs.Lines.{Line, lines}
use Rattle.iff.specs.declared.Form.{Form}
use Rattle.iff_rules.specs.Legs.{reach_of, in_range}
use Rattle.text.proofs.PictureLaws.{and_left, and_right}
use Rattle.records.specs.Layouts.{legible}
use Rattle.records.proofs.FileLaws.{can_be_put}
use Rattle.legs.specs.Rows.{times, Markable}
use Rattle.block_legs.specs.Sight.{record_width, CanBePut, line_row, line_in_range, line_times, lines_times, LineMarkable, AllMarkable}
use Rattle.leg_marks.specs.Tally.{Tally}
use Rattle.block_legs.proofs.RowLaws.{line_wide}

-- the next line, and what it says of all that are left
module _ (left rest : List Line) (l : Line) (e : left ≡ l ∷ rest) where
  pub all_head : (q : Line → Bool) → all q left ≡ (q l && all q rest)
  unfolding all
  all_head q = rw e

  pub all_here : (q : Line → Bool) → all q left ≡ true → q l ≡ true
  all_here q h = and_left (q l) _ (sym (all_head q) ∙ h)

  pub all_next : (q : Line → Bool) → all q left ≡ true → all q rest ≡ true
  all_next q h = and_right (q l) _ (sym (all_head q) ∙ h)

  pub total_head : (f : Line → ℕ) → total f left ≡ f l + total f rest
  unfolding total
  total_head f = rw e

  pub legible_here : (form : Form) → all (legible form) left ≡ true → CanBePut form l.body
  legible_here form h = can_be_put form l (all_here (legible form) h) record_width (omega arith)

-- A LOOP THAT ASKS WHETHER ALL LINES ARE IN RANGE, with these left
pub record Ranging (form : Form) (ls : List Line) (n : ℕ) (left : List Line) : Type 0 where
  pub legibly : all (legible form) left ≡ true
  pub whole : all (line_in_range form n) ls ≡ all (line_in_range form n) left

pub ranging_first : (form : Form) (ls : List Line) (n : ℕ) (left : List Line) → left ≡ ls → all (legible form) ls ≡ true → Ranging form ls n left
ranging_first form ls n left q e = rw q (record { legibly = e; whole = refl })

module _ (form : Form) (ls : List Line) (n : ℕ) (left rest : List Line) (l : Line) (e : left ≡ l ∷ rest) (i : Ranging form ls n left) where
  pub ranging_not : in_range reach_of n (line_row form n l.body) ≡ false → false ≡ all (line_in_range form n) ls
  unfolding line_in_range
  ranging_not h = sym (i.whole ∙ all_head left rest l e (line_in_range form n) ∙ rw h)

  pub ranging_next : in_range reach_of n (line_row form n l.body) ≡ true → Ranging form ls n rest
  unfolding line_in_range
  ranging_next h =
      record {
        legibly = all_next left rest l e (legible form) i.legibly;
        whole = i.whole ∙ all_head left rest l e (line_in_range form n) ∙ rw h;
      }

pub ranging_all : (form : Form) (ls : List Line) (n : ℕ) (left : List Line) → left ≡ [] → Ranging form ls n left → true ≡ all (line_in_range form n) ls
unfolding all
ranging_all form ls n left q i = sym (i.whole ∙ rw q)

-- A LINE MARKS as its row does
module _ (form : Form) (body : List ℕ) (n x : ℕ) where
  pub row_markable : (room : ℕ) → LineMarkable form body n x room → (row : List ℕ) → row ≡ line_row form n body → Markable row n x room
  row_markable room m row e =
      record { kind = m.kind; fit = m.fit; wide = rw e (line_wide form n body); within = rw e m.within }

  pub row_marked : (row : List ℕ) → row ≡ line_row form n body → (was is : List ℕ) (r : Bool) → Tally 1 n (λ k. times x k row) was is r
      → Tally 1 n (λ k. times x k (line_row form n body)) was is r
  row_marked row e was is r t = rw (← e) t

-- A LOOP THAT MARKS, with these lines left
pub record MarkingAll (form : Form) (ls : List Line) (was is : List ℕ) (n x : ℕ) (left : List Line) : Type 0 where
  pub kept : length is ≡ length was
  pub legibly : all (legible form) left ≡ true
  pub ranged : all (line_in_range form n) left ≡ true
  pub whole : (k : ℕ) → get_or is k 0 + lines_times form n x left k ≡ get_or was k 0 + lines_times form n x ls k

module _ (form : Form) (t was is : List ℕ) (n x : ℕ) (left : List Line) where
  pub markable : (rest : List Line) (l : Line) → left ≡ l ∷ rest → AllMarkable form t n x (length was)
      → MarkingAll form (lines t) was is n x left → LineMarkable form l.body n x (length is)
  unfolding line_in_range
  markable rest l e a m =
      record {
        kind = a.kind;
        fit = omega (arith, a.fit, m.kept);
        legibly = legible_here left rest l e form m.legibly;
        within = all_here left rest l e (line_in_range form n) m.ranged;
      }

  pub marked_lines : left ≡ [] → MarkingAll form (lines t) was is n x left → Tally 1 n (lines_times form n x (lines t)) was is true
  unfolding total
  marked_lines q m =
      record {
        yes = λ _ k. omega (arith, m.whole k, ap (λ (ls : List Line). lines_times form n x ls k) q);
        no = λ q. absurd (let z : ◌≡◌ {A = ℕ} 0 1 = cc in omega arith);
      }

module _ (form : Form) (ls : List Line) (was mid is : List ℕ) (n x : ℕ) (left rest : List Line) (l : Line) (r : Bool) (e : left ≡ l ∷ rest)
    (m : MarkingAll form ls was mid n x left) (y : Tally 1 n (λ k. times x k (line_row form n l.body)) mid is r) where
  pub marked_here : r ≡ false → Tally 1 n (lines_times form n x ls) was is false
  marked_here h =
      let d = y.no h in
      record {
        yes = λ q. absurd (let z : ◌≡◌ {A = ℕ} 0 1 = cc in omega arith);
        no = λ _. record {
          leg = d.leg;
          from = d.from;
          to = d.to;
          twice = omega (arith, d.twice, m.whole d.leg, total_head left rest l e (line_times form n x d.leg));
        };
      }

  pub marked_next : r ≡ true → length is ≡ length mid → MarkingAll form ls was is n x rest
  marked_next h s =
      record {
        kept = s ∙ m.kept;
        legibly = all_next left rest l e (legible form) m.legibly;
        ranged = all_next left rest l e (line_in_range form n) m.ranged;
        whole = λ k. omega (arith, y.yes h k, m.whole k, total_head left rest l e (line_times form n x k));
      }
