-- The test of a block, of its rows and of its lines. Assumes nothing.
use Prim.Native.Nat.{ℕ, ◌-◌}
use mathlib.Core.Path.{◌≡◌, refl, ap, sym, ◌∙◌}
use mathlib.Core.List.{List}
use mathlib.Core.Bool.{Bool, true, false, ◌&&◌}
use lib.ListN.{length}
use Rattle.iff.specs.Bytes.{percent, dash, ampersand}
use Rattle.iff.specs.Lists.{all, any, kept, members}
use Rattle.iff.specs.Lines.{Line, lines, letter}
use Rattle.iff.specs.declared.Form.{Form}
use Rattle.iff_rules.specs.Meaning.{most_stops}
use Rattle.iff_rules.specs.Order.{is_stop}
use Rattle.iff_rules.specs.Legs.{covered, of_kind, stops_of, reach_of, legs}
use Rattle.iff_rules.specs.Rows.{block_rows_from, block_rows, as_block, stops_in, lines_in}
use Rattle.legs.specs.Rows.{covers}
use Rattle.leg_marks.specs.Once.{once_to}
use Rattle.block_legs.specs.Sight.{LegibleBlock, AllMarkable, line_in_range, lines_times}
use Rattle.leg_marks.proofs.MarkLaws.{once_covered}
use Rattle.legs.proofs.RowLaws.{stops_same, block_lines_lem}
use Rattle.block_legs.proofs.RowLaws.{ranges, counted}

-- the four tests, of lines
abbrev kind_right : Form → ℕ → List Line → ℕ → Bool
kind_right form n ls x = once_to (n - 1) (lines_times form n x ls)

unfoldable lines_right : Form → ℕ → List Line → Bool
lines_right form n ls =
    all (line_in_range form n) ls && (kind_right form n ls percent && (kind_right form n ls dash && kind_right form n ls ampersand))

kind_covered : (form : Form) (n c : ℕ) (ls : List Line) (x : ℕ) → covers x ≡ true
    → covered (n - 1) (of_kind x (block_rows_from form n c 1 ls)) ≡ kind_right form n ls x
kind_covered form n c ls x e =
    sym (once_covered (of_kind x (block_rows_from form n c 1 ls)) (lines_times form n x ls) (λ k. counted form x k n c 1 ls e) (n - 1))

rows_right : (form : Form) (n c : ℕ) (ls : List Line) → n ≡ length (kept (λ l. is_stop (letter l)) ls)
    → legs reach_of (block_rows_from form n c 1 ls) ≡ lines_right form n ls
unfolding legs lines_right covers any
rows_right form n c ls e =
    let s : stops_of (block_rows_from form n c 1 ls) ≡ n = stops_same form n c 1 ls ∙ sym e in
    rw (
      s,
      ranges form n c 1 ls,
      kind_covered form n c ls percent refl,
      kind_covered form n c ls dash refl,
      kind_covered form n c ls ampersand refl,
    )

-- what the tests say of the block
module _ (form : Form) (b : List ℕ) (n : ℕ) (p : LegibleBlock form b n) where
  block_right : legs reach_of (block_rows form (as_block b)) ≡ lines_right form n (lines b)
  block_right =
      let g = as_block b in
      rows_right form (stops_in g) (lines_in g) (members g) refl
      ∙ ap (λ (m : ℕ). lines_right form m (members g)) (sym p.stops)
      ∙ ap (lines_right form n) (block_lines_lem b p.some)

  pub out_of_range : all (line_in_range form n) (lines b) ≡ false → false ≡ legs reach_of (block_rows form (as_block b))
  unfolding lines_right
  out_of_range e = sym (block_right ∙ rw e)

  module _ (a : all (line_in_range form n) (lines b) ≡ true) where
    pub asks : (x : ℕ) → covers x ≡ true → AllMarkable form b n x most_stops
    asks x e = record { kind = e; fit = p.few; legibly = p.each; within = a }

    pub three_kinds : (kind_right form n (lines b) percent && (kind_right form n (lines b) dash && kind_right form n (lines b) ampersand))
        ≡ legs reach_of (block_rows form (as_block b))
    unfolding lines_right
    three_kinds = sym (block_right ∙ rw a)
