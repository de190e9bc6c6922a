-- Laws of a line before the first block. Assumes nothing.
use Rattle.std.specs.Prelude.{Err, Ok}
use Prim.Native.Nat.{ℕ, ◌-◌, ◌≤◌}
use mathlib.Core.Path.{◌≡◌, ap, sym, ◌∙◌}
use mathlib.Core.List.{List, [], ◌∷◌}
use mathlib.Core.Bool.{Bool, true, false}
use native.Mathlib.Omega.{arith}
use lib.ListN.{length, get_or, take, drop}
use borrow.Author.Tests.{eq-eqb, ne_eqb}
use Rattle.iff.specs.Bytes.{hash}
use Rattle.iff.specs.Lists.{front}
use Rattle.iff.specs.Refusals.{first_test}
use Rattle.iff.specs.Lines.{lines, is_hash}
use Rattle.iff.specs.declared.Reason.TheVariants.{Layout, Order}
use Rattle.iff_rules.specs.Order.{line_test, known_in_block}
use Rattle.text.specs.declared.LineSpan.{LineSpan}
use Rattle.text.specs.Spans.{span_line, LineAt}
use Rattle.text.proofs.LineLaws.{lines_end}
use Rattle.block_walks.specs.Blocks.{StrayTold}
use Rattle.block_ends.proofs.GroupLaws.{front_open, front_closed, front_nil}

-- A LINE BEFORE THE FIRST BLOCK
module _ (t : List ℕ) (from : ℕ) where
  pub stray_none : length t ≤ from → StrayTold (lines (drop from t)) (Ok tt)
  stray_none h =
      let e : front is_hash (lines (drop from t)) ≡ [] = ap (front is_hash) (lines_end t from h) ∙ front_nil is_hash in
      record { says = rw e; clean = λ _. e }

  -- the line that stands there, whose letter is x
  module _ (s : LineSpan) (l : LineAt t from s) (x : ℕ) (p : x ≡ get_or (take (s.end - from) (drop from t)) 0 0) where
    pub stray_open : x ≡ hash → StrayTold (lines (drop from t)) (Ok tt)
    stray_open h =
        let e : front is_hash (lines (drop from t)) ≡ [] =
        ap (front is_hash) l.head ∙ front_open is_hash (span_line t from s) (lines (drop s.next t)) (eq-eqb _ _ (sym p ∙ h)) in
        record { says = rw e; clean = λ _. e }

    module _ (h : x ≡ hash → ⊥) (b : Bool) (k : b ≡ known_in_block x) where
      strays : front is_hash (lines (drop from t)) ≡ span_line t from s ∷ front is_hash (lines (drop s.next t))
      strays = ap (front is_hash) l.head ∙ front_closed is_hash (span_line t from s) (lines (drop s.next t)) (ne_eqb _ _ (λ z. h (p ∙ z)))

      pub stray_known : b ≡ true → StrayTold (lines (drop from t)) (Err Order)
      unfolding line_test first_test
      stray_known e =
          let q : known_in_block (get_or (take (s.end - from) (drop from t)) 0 0) ≡ true = sym (ap known_in_block p) ∙ sym k ∙ e in
          record { says = rw (strays, q); clean = λ z. absurd (let y : ◌≡◌ {A = ℕ} 0 1 = cc in omega arith) }

      pub stray_unknown : b ≡ false → StrayTold (lines (drop from t)) (Err Layout)
      unfolding line_test first_test
      stray_unknown e =
          let q : known_in_block (get_or (take (s.end - from) (drop from t)) 0 0) ≡ false = sym (ap known_in_block p) ∙ sym k ∙ e in
          record { says = rw (strays, q); clean = λ z. absurd (let y : ◌≡◌ {A = ℕ} 0 1 = cc in omega arith) }
