-- The rows behind the first line's, each told sound in its turn: so are they all. Assumes nothing.
use Prim.Native.Nat.{ℕ, zero, suc, ◌+◌, ◌-◌, ◌≤◌}
use mathlib.Core.Path.{◌≡◌, refl, ap, ◌∙◌}
use mathlib.Core.List.{List}
use mathlib.Core.Bool.{Bool, ◌&&◌}
use native.Mathlib.Omega.{arith}
use Rattle.std.specs.List.{list_all, range_with_len}
use Rattle.iff.specs.Tables.{row_at, row_width}
use Rattle.iff.specs.declared.RowFile.{RowFile}
use Rattle.iff.specs.declared.File.TheVariants.{Rows}
use Rattle.iff_rules.specs.Rows.{Context}
use Rattle.iff_desk.specs.Sound.{passes, sound_plain_row, sound_plain}
use Rattle.keys.specs.Blocks.{block_of_rows, rows_between}

module _ (c : Context) (f : RowFile) (w : ℕ) (t : List ℕ) where
  -- row i, after the i - 1 before it
  abbrev pub is_row_sound : ℕ → Bool
  is_row_sound i = sound_plain_row c f (i - 1) (row_at w t i)

  rows_pass : (n i : ℕ) → 1 ≤ i
      → list_all is_row_sound (range_with_len i n) ≡ passes (sound_plain_row c f) (λ count r. suc count) (i - 1) (block_of_rows w t i n)
  unfolding passes block_of_rows
  rows_pass zero i h = refl
  rows_pass (suc n) i h =
      let z : i + 1 ≡ suc i = omega arith in
      let y : suc i - 1 ≡ suc (i - 1) = omega arith in
      rw z
      (ap (λ (b : Bool). is_row_sound i && b)
      (rows_pass n (suc i) (omega arith)
      ∙ ap (λ (m : ℕ). passes (sound_plain_row c f) (λ count r. suc count) m (block_of_rows w t (suc i) n)) y))

  pub all_sound : (used : ℕ) → w ≡ row_width (Rows f)
      → list_all is_row_sound (range_with_len 1 (used - 1)) ≡ sound_plain c f (rows_between (row_width (Rows f)) t 1 used)
  unfolding sound_plain
  all_sound used e = rows_pass (used - 1) 1 (omega arith) ∙ rw e
