-- Laws of a text's blocks, where they stand: lines before a cut and lines behind it. Assumes nothing.
use Prim.Native.Nat.{ℕ, ◌+◌, ◌-◌, ◌≤◌, ◌<◌}
use mathlib.Core.Path.{◌≡◌, refl, ap, sym, ◌∙◌}
use mathlib.Core.List.{List, [], ◌∷◌, ◌++◌, append_assoc}
use mathlib.Core.Bool.{Bool, true, false}
use native.Mathlib.Omega.{arith}
use lib.Dec.{ltb}
use lib.ListN.{length, take, drop, length-append, length-take, length-drop, drop_of_length-le}
use lib.Seq.{take-add, drop-drop}
use borrow.Author.Tests.{ltb-true, ltb-false}
use Rattle.iff.specs.Lists.{Group, front, any}
use Rattle.iff.specs.Lines.{Line, lines, is_hash, width, first_line}
use Rattle.iff_rules.specs.Rows.{as_block, blocks_of}
use Rattle.text.specs.declared.LineSpan.{LineSpan}
use Rattle.text.specs.Spans.{span_line, LineAt}
use Rattle.text.proofs.LineLaws.{lines_step, lines_nil, lines_end, rest_part}
use Rattle.text.proofs.CutLaws.{Closed, closed_end, part_ended, part_line}
use Rattle.legs.proofs.RowLaws.{block_lines_lem}
use Rattle.block_ends.specs.Blocks.{part, Clean, NextBlock}
use Rattle.block_ends.proofs.GroupLaws.{any_append, groups_first, front_open, front_head, front_nil, behind_first}

-- ONE LINE
module _ (t : List ℕ) (at : ℕ) (s : LineSpan) (l : LineAt t at s) where
  lines_some : 0 < length (drop at t)
  lines_some = omega (arith, l.more, l.high, length-drop at t)

  -- a line that nothing ends is the last
  unended_last : s.ended ≡ false → s.next ≡ length t
  unended_last e = go (ltb s.next (length t)) refl
    where
      both : span_line t at s ∷ lines (drop s.next t) ≡ first_line (drop at t) ∷ lines (drop (width (drop at t) + 2) (drop at t))
      both = sym l.head ∙ lines_step (drop at t) lines_some

      wide : length (drop at t) ≤ width (drop at t)
      wide =
          let f : span_line t at s ≡ first_line (drop at t) = let b = both in cc in
          ltb-false (width (drop at t)) (length (drop at t)) (sym (ap (λ (x : Line). x.ended) f) ∙ e)

      none : lines (drop s.next t) ≡ []
      none =
          let f : lines (drop s.next t) ≡ lines (drop (width (drop at t) + 2) (drop at t)) = let b = both in cc in
          f ∙ ap lines (drop_of_length-le (drop at t) {i = width (drop at t) + 2} (omega (arith, wide))) ∙ lines_nil

      go : (b : Bool) → ltb s.next (length t) ≡ b → s.next ≡ length t
      go false q = omega (arith, ltb-false s.next (length t) q, l.high)
      go true q =
          let n = lines_step (drop s.next t) (omega (arith, length-drop s.next t, ltb-true s.next (length t) q)) in
          absurd (omega (arith, ap length none, ap length n))

  -- it is the only line of its part
  pub line_part : lines (part t at s.next) ≡ span_line t at s ∷ []
  line_part = go s.ended refl
    where
      go : (b : Bool) → s.ended ≡ b → lines (part t at s.next) ≡ span_line t at s ∷ []
      go true e = part_line t at s l e
      go false e =
          let n = unended_last e in
          rw (n, rest_part t at) (l.head ∙ ap (λ (ls : List Line). span_line t at s ∷ ls) (rw n (lines_end t (length t) (omega arith))))

  -- and ends there, unless the text does
  pub line_closed : s.next < length t → Closed (part t at s.next)
  line_closed h = go s.ended refl
    where
      go : (b : Bool) → s.ended ≡ b → Closed (part t at s.next)
      go true e = rw (part_ended t at s l e) (closed_end (take (s.end - at) (drop at t)))
      go false e = absurd (omega (arith, unended_last e))

-- two parts that end with their lines
closed_both : (a b : List ℕ) → Closed a → Closed b → Closed (a ++ b)
closed_both a b p q c = rw (append_assoc, p (b ++ c), q c, p b, append_assoc)

-- A LOOP THAT LOOKS FOR THE NEXT `#`, at `at`: no line after the first begins with it so far
pub record Seeking (t : List ℕ) (from at : ℕ) : Type 0 where
  pub low : from < at
  pub high : at ≤ length t
  pub closed : at < length t → Closed (part t from at)
  pub whole : lines (drop from t) ≡ lines (part t from at) ++ lines (drop at t)
  pub single : any is_hash (drop 1 (lines (part t from at))) ≡ false

pub seek_start : (t : List ℕ) (from : ℕ) (s : LineSpan) → LineAt t from s → Seeking t from s.next
unfolding any
seek_start t from s l =
    record {
      low = l.more;
      high = l.high;
      closed = line_closed t from s l;
      whole = rw (line_part t from s l) l.head;
      single = rw (line_part t from s l);
    }

module _ (t : List ℕ) (from at : ℕ) (k : Seeking t from at) where
  part_some : 0 < length (part t from at)
  part_some = omega (arith, k.low, k.high, length-take (at - from) (drop from t), length-drop from t)

  lines_of_part : 0 < length (lines (part t from at))
  lines_of_part = omega (arith, ap length (lines_step (part t from at) part_some))

  -- one line more
  module _ (s : LineSpan) (l : LineAt t at s) where
    grown : part t from s.next ≡ part t from at ++ part t at s.next
    grown =
        let n : s.next - from ≡ (at - from) + (s.next - at) = omega (arith, k.low, l) in
        let d : from + (at - from) ≡ at = omega (arith, k.low) in
        rw (n, take-add (at - from) (s.next - at) (drop from t), drop-drop, d)

    lines_grown : lines (part t from s.next) ≡ lines (part t from at) ++ (span_line t at s ∷ [])
    lines_grown = rw (grown, k.closed (omega (arith, l.more, l.high)) (part t at s.next), line_part t at s l)

    pub seek_next : is_hash (span_line t at s) ≡ false → Seeking t from s.next
    unfolding any
    seek_next e =
        record {
          low = omega (arith, k.low, l.more);
          high = l.high;
          closed =
              λ h. rw grown
              (closed_both (part t from at) (part t at s.next) (k.closed (omega (arith, l.more, h))) (line_closed t at s l h));
          whole = k.whole ∙ rw (l.head, lines_grown, append_assoc);
          single = rw (lines_grown, behind_first is_hash (lines (part t from at)) (span_line t at s) lines_of_part, any_append is_hash, k.single, e);
        }

  -- a block ends here
  module _ (c : Clean (lines (drop from t))) (d : Clean (lines (drop at t))) where
    abbrev first : Group Line
    first = as_block (part t from at)

    all_lines : lines (drop from t) ≡ first.top ∷ (first.rest ++ lines (drop at t))
    all_lines = k.whole ∙ ap (λ (ls : List Line). ls ++ lines (drop at t)) (sym (block_lines_lem (part t from at) part_some))

    opens : is_hash first.top ≡ true
    opens = front_head is_hash first.top (first.rest ++ lines (drop at t)) (sym (ap (front is_hash) all_lines) ∙ c)

    pub seek_end : NextBlock t from at
    seek_end =
        record {
          low = k.low;
          high = k.high;
          one = record { some = part_some; opens = opens; single = k.single };
          blocks = ap blocks_of all_lines ∙ groups_first is_hash first.top first.rest (lines (drop at t)) opens k.single d;
          clean = d;
          sized = omega (arith, ap length all_lines, length-append first.rest (lines (drop at t)));
        }

  -- at a `#`, and at the text's end
  pub seek_found : (s : LineSpan) → LineAt t at s → Clean (lines (drop from t)) → is_hash (span_line t at s) ≡ true → NextBlock t from at
  seek_found s l c e = seek_end c (ap (front is_hash) l.head ∙ front_open is_hash (span_line t at s) (lines (drop s.next t)) e)

  pub seek_none : length t ≤ at → Clean (lines (drop from t)) → NextBlock t from at
  seek_none h c = seek_end c (ap (front is_hash) (lines_end t at h) ∙ front_nil is_hash)
