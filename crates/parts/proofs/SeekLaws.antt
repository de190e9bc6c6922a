-- Laws of looking for a line. Assumes nothing.
use Rattle.std.specs.Prelude.{None, Option, Some}
use Prim.Native.Nat.{ℕ, ◌+◌, ◌-◌, ◌≤◌}
use mathlib.Core.Path.{◌≡◌, refl, ap, sym, ◌∙◌}
use mathlib.Core.List.{List, [], ◌∷◌, ◌++◌}
use mathlib.Core.Bool.{Bool, true, false, ◌&&◌, cond, false≢true}
use native.Mathlib.Omega.{arith}
use borrow.Author.Tests.{eqb-true}
use lib.Dec.{eqb}
use lib.ListN.{length, get_or, take, drop, length-append, length-drop, length-take}
use lib.Seq.{length-take-le}
use Rattle.iff.specs.Bytes.{hash}
use Rattle.iff.specs.Lines.{Line, lines, text, size, is_hash}
use Rattle.iff_desk.specs.Parts.{seek, seek_after, is_station, is_head}
use Rattle.text.specs.declared.LineSpan.{LineSpan}
use Rattle.text.specs.Spans.{span_line, LineAt}
use Rattle.text.proofs.LineLaws.{lines_end}
use Rattle.text.proofs.CutLaws.{text_lines, part_ended}
use Rattle.parts.specs.declared.Want.{Want}
use Rattle.parts.specs.declared.Want.TheVariants.{Station, Head, Hash}
use Rattle.parts.specs.Wants.{wants, least, Within, Sought}

-- a line reaches to where the next one begins
module _ (t : List ℕ) (at : ℕ) (s : LineSpan) (l : LineAt t at s) where
  pub line_size : at + size (span_line t at s) ≡ s.next
  unfolding text
  line_size = go s.ended refl
    where
      body : ℕ
      body = length (take (s.end - at) (drop at t))

      go : (b : Bool) → s.ended ≡ b → at + (body + cond s.ended 2 0) ≡ s.next
      go true e =
          let p : length (take (s.next - at) (drop at t)) ≡ body + 2 = ap length (part_ended t at s l e) ∙ rw length-append in
          let q : length (take (s.next - at) (drop at t)) ≡ s.next - at = length-take-le (s.next - at) (drop at t) (rw length-drop (omega (arith, l))) in
          rw e (omega (arith, l))
      go false e =
          let p : drop at t ≡ take (s.end - at) (drop at t) ++ drop s.next t = sym (text_lines (drop at t)) ∙ (ap text l.head ∙ rw (e, text_lines (drop s.next t))) in
          let q : length (drop at t) ≡ body + length (drop s.next t) = ap length p ∙ rw length-append in
          rw e (omega (arith, length-drop at t, length-drop s.next t, l))

-- a test that passes tells how long the line is
and_first : (a b : Bool) → (a && b) ≡ true → a ≡ true
and_first true b e = refl
and_first false b e = absurd (false≢true e)

begun : (body : List ℕ) → eqb (get_or body 0 0) hash ≡ true → 1 ≤ length body
begun [] p = absurd (false≢true p)
begun (x ∷ body) p = omega arith

pub long : (w : Want) (l : Line) → wants w l ≡ true → least w ≤ length l.body
unfolding wants is_station is_head
long (Station short) l p = omega (arith, eqb-true (length l.body) 73 (and_first (eqb (length l.body) 73) _ p))
long (Head service) l p = omega (arith, eqb-true (length l.body) 9 (and_first (eqb (length l.body) 9) _ p))
long Hash l p = begun l.body p

pub within_more : (w : Want) (a b n : ℕ) (r : Option ℕ) → a ≤ b → Within w b n r → Within w a n r
within_more w a b n (Some i) h p = (omega arith, p.1)
within_more w a b n None h p = tt

seek_none : (p : Line → Bool) (i : ℕ) → seek p i [] ≡ None
unfolding seek
seek_none p i = refl

seek_one : (p : Line → Bool) (i : ℕ) (l : Line) (ls : List Line) → seek p i (l ∷ ls) ≡ cond (p l) (Some i) (seek p (i + size l) ls)
unfolding seek
seek_one p i l ls = refl

-- A LOOP THAT LOOKS, at `at`
pub record Seeking (w : Want) (t : List ℕ) (from at : ℕ) : Type 0 where
  pub low : from ≤ at
  pub high : at ≤ length t
  pub whole : seek (wants w) from (lines (drop from t)) ≡ seek (wants w) at (lines (drop at t))

pub seeking_first : (w : Want) (t : List ℕ) (from : ℕ) → from ≤ length t → Seeking w t from from
seeking_first w t from h = record { low = omega arith; high = h; whole = refl }

module _ (w : Want) (t : List ℕ) (from at : ℕ) (i : Seeking w t from at) where
  pub seeking_end : length t ≤ at → Sought (seek (wants w) from (lines (drop from t))) w from (length t) None
  seeking_end h = record { is = sym (i.whole ∙ rw (lines_end t at h, seek_none)); within = tt }

  module _ (s : LineSpan) (l : LineAt t at s) where
    pub seeking_here : wants w (span_line t at s) ≡ true → Sought (seek (wants w) from (lines (drop from t))) w from (length t) (Some at)
    seeking_here p =
        let n : length (take (s.end - at) (drop at t)) ≤ s.end - at = rw length-take (omega arith) in
        record {
          is = sym (i.whole ∙ rw (l.head, seek_one, p));
          within = (i.low, omega (arith, long w (span_line t at s) p, l));
        }

    pub seeking_next : wants w (span_line t at s) ≡ false → Seeking w t from s.next
    seeking_next p =
        record {
          low = omega (arith, i.low, l);
          high = l.high;
          whole = i.whole ∙ rw (l.head, seek_one, p, line_size t at s l);
        }

-- after a line
after_none : (p : Line → Bool) (i : ℕ) → seek_after p i [] ≡ None
unfolding seek_after
after_none p i = refl

after_one : (p : Line → Bool) (i : ℕ) (l : Line) (ls : List Line) → seek_after p i (l ∷ ls) ≡ seek p (i + size l) ls
unfolding seek_after
after_one p i l ls = refl

module _ (w : Want) (t : List ℕ) (from : ℕ) where
  pub after_end : length t ≤ from → Sought (seek_after (wants w) from (lines (drop from t))) w from (length t) None
  after_end h = record { is = sym (rw (lines_end t from h, after_none)); within = tt }

  pub after_line : (s : LineSpan) → LineAt t from s → (r : Option ℕ)
      → Sought (seek (wants w) s.next (lines (drop s.next t))) w s.next (length t) r
      → Sought (seek_after (wants w) from (lines (drop from t))) w from (length t) r
  after_line s l r q =
      record {
        is = q.is ∙ sym (rw (l.head, after_one, line_size t from s l));
        within = within_more w from s.next (length t) r (omega (arith, l)) q.within;
      }

-- what each search asks of a line
pub wants_station : (short : ℕ) → wants (Station short) ≡ is_station short
unfolding wants
wants_station short = refl

pub wants_head : (service : ℕ) → wants (Head service) ≡ is_head service
unfolding wants
wants_head service = refl

pub wants_hash : wants Hash ≡ is_hash
unfolding wants
wants_hash = refl
