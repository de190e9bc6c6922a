-- Laws of a service's lines now, and of one whole block. Assumes nothing.
use Rattle.std.specs.Prelude.{Err, None, Ok, Option, Some}
use Prim.Native.Nat.{ℕ, ◌-◌}
use mathlib.Core.Path.{◌≡◌, refl, ap, sym, ◌∙◌}
use mathlib.Core.List.{List, [], ◌∷◌}
use mathlib.Core.Bool.{Bool, true, false, ◌&&◌}
use native.Mathlib.Omega.{arith}
use borrow.Author.Tests.{eq-eqb, ne_eqb}
use lib.ListN.{length, get_or, drop, length-drop}
use lib.Seq.{take_all}
use Rattle.iff.specs.Bytes.{hash, at}
use Rattle.iff.specs.Lists.{all}
use Rattle.iff.specs.Lines.{Line, lines, is_hash}
use Rattle.iff_desk.specs.Parts.{seek_after, is_head, inner, is_one_block, found}
use Rattle.iff_desk.specs.Parts.{head_at, up_to, service_lines, lines_now, lines_now_test}
use Rattle.iff.specs.declared.Reason.TheVariants.{NoService}
use Rattle.text.specs.declared.LineSpan.{LineSpan}
use Rattle.text.specs.Spans.{span_line, LineAt}
use Rattle.text.proofs.LineLaws.{lines_end}
use Rattle.parts.specs.Bounds.{part_of}
use Rattle.service_lines.specs.Bounds.{follows, end_at, lines_from, lines_part, text_now, part_now}

-- all lines pass two tests where they pass both at once
and_four : (a b c d : Bool) → ((a && b) && (c && d)) ≡ ((a && c) && (b && d))
and_four true true c d = refl
and_four true false true d = refl
and_four true false false d = refl
and_four false b c d = refl

both : (p q : Line → Bool) (ls : List Line) → (all p ls && all q ls) ≡ all (λ l. p l && q l) ls
unfolding all
both p q [] = refl
both p q (l ∷ ls) = and_four (p l) (all p ls) (q l) (all q ls) ∙ ap (λ b. (p l && q l) && b) (both p q ls)

-- A LOOP OVER LINES: those that are left say of all that no line is wrong
abbrev pub Following : List Line → List Line → Type 0
Following ls left = all follows ls ≡ all follows left

pub following_all : (ls left : List Line) → left ≡ [] → Following ls left → true ≡ all follows ls
unfolding all
following_all ls left q i = sym (i ∙ rw q)

module _ (ls left rest : List Line) (l : Line) (q : left ≡ l ∷ rest) (i : Following ls left) where
  pub following_not : follows l ≡ false → false ≡ all follows ls
  unfolding all
  following_not e = sym (i ∙ rw (q, e))

  pub following_next : follows l ≡ true → Following ls rest
  unfolding all
  following_next e = i ∙ rw (q, e)

-- one line, by what the code asks of it
module _ (l : Line) where
  pub not_ended : l.ended ≡ false → follows l ≡ false
  unfolding follows
  not_ended e = rw e

  module _ (e : l.ended ≡ true) (letter : ℕ) (q : letter ≡ get_or l.body 0 0) where
    pub is_hash_lem : letter ≡ hash → follows l ≡ false
    unfolding follows
    is_hash_lem h = rw (e, eq-eqb _ _ (sym q ∙ h))

    pub is_at : letter ≡ at → follows l ≡ false
    unfolding follows
    is_at h = rw (e, sym q ∙ h)

    pub is_inner : (letter ≡ hash → ⊥) → (letter ≡ at → ⊥) → follows l ≡ true
    unfolding follows
    is_inner h k = rw (e, ← q, ne_eqb _ _ h, ne_eqb _ _ k)

-- ONE BLOCK, by its first line and those that follow
block_of : (service : ℕ) (l : Line) (ls : List Line) → is_one_block service (l ∷ ls) ≡ (l.ended && (is_head service l && all follows ls))
unfolding is_one_block all follows
block_of service l ls = go l.ended (is_head service l)
  where
    go : (e h : Bool) → ((e && all (λ x. x.ended) ls) && (h && all inner ls)) ≡ (e && (h && all (λ x. x.ended && inner x) ls))
    go true true = both (λ x. x.ended) inner ls
    go true false = go_false (all (λ x. x.ended) ls)
      where
        go_false : (b : Bool) → (b && false) ≡ false
        go_false true = refl
        go_false false = refl
    go false h = refl

pub block_none : (service : ℕ) (t : List ℕ) → length t ≡ 0 → false ≡ is_one_block service (lines t)
unfolding is_one_block
block_none service t e = sym (rw (lines_end t 0 (omega arith)))

module _ (service : ℕ) (t : List ℕ) (s : LineSpan) (l : LineAt t 0 s) where
  pub block_unended : s.ended ≡ false → false ≡ is_one_block service (lines t)
  block_unended e = sym (rw (l.head, block_of, e))

  pub block_other : s.ended ≡ true → is_head service (span_line t 0 s) ≡ false → false ≡ is_one_block service (lines t)
  unfolding is_head
  block_other e h = sym (rw (l.head, block_of, e, h))

  pub block_rest : s.ended ≡ true → is_head service (span_line t 0 s) ≡ true → all follows (lines (drop s.next t)) ≡ is_one_block service (lines t)
  unfolding is_head all
  block_rest e h = sym (rw (l.head, block_of, e, h))

-- LINES NOW by their bounds
module _ (t : List ℕ) (s : ℕ) where
  lines_hold : part_of t (lines_part t s).from (lines_part t s).to ≡ service_lines t (head_at t s)
  unfolding lines_part
  lines_hold = go (head_at t s)
    where
      upto : (i : ℕ) (o : Option ℕ) → part_of t i (end_at t o) ≡ up_to t i o
      upto i (Some j) = refl
      upto i None = take_all (length t - i) (drop i t) (rw length-drop (omega arith))

      go : (o : Option ℕ) → part_of t (lines_from t o).from (lines_from t o).to ≡ service_lines t o
      go (Some i) = upto i (seek_after is_hash i (lines (drop i t)))
      go None = refl

  lines_tested : (lines_part t s).test ≡ found (head_at t s) (Err NoService)
  unfolding lines_part
  lines_tested = go (head_at t s)
    where
      go : (o : Option ℕ) → (lines_from t o).test ≡ found o (Err NoService)
      go (Some i) = refl
      go None = refl

module _ (t block : List ℕ) (s : ℕ) where
  module _ (p : is_one_block s (lines block) ≡ true) where
    pub now_block : block ≡ lines_now t block s
    unfolding lines_now
    now_block = rw p

    pub test_block : Ok tt ≡ lines_now_test t block s
    unfolding lines_now_test
    test_block = rw p

  module _ (p : is_one_block s (lines block) ≡ false) where
    pub now_text : part_of t (lines_part t s).from (lines_part t s).to ≡ lines_now t block s
    unfolding lines_now
    now_text = rw p (lines_hold t s)

    pub test_text : (lines_part t s).test ≡ lines_now_test t block s
    unfolding lines_now_test
    test_text = rw p (lines_tested t s)

  -- in one
  pub now_holds : part_of (text_now t block s) (part_now t block s).from (part_now t block s).to ≡ lines_now t block s
  now_holds = go (is_one_block s (lines block)) refl
    where
      go : (b : Bool) → is_one_block s (lines block) ≡ b
          → part_of (text_now t block s) (part_now t block s).from (part_now t block s).to ≡ lines_now t block s
      go true p = rw p (take_all (length block - 0) block (omega arith) ∙ now_block p)
      go false p = rw p (now_text p)

  pub now_tested : (part_now t block s).test ≡ lines_now_test t block s
  now_tested = go (is_one_block s (lines block)) refl
    where
      go : (b : Bool) → is_one_block s (lines block) ≡ b → (part_now t block s).test ≡ lines_now_test t block s
      go true p = rw p (test_block p)
      go false p = rw p (test_text p)
