-- What is told of the lines of a block that is read in one pass.
use Rattle.std.specs.Prelude.{ℕ, suc, ◌+◌, ◌*◌, ◌≤◌, ◌≡◌, List, true, length, take, drop, Ok, Option, Some}
use Rattle.iff.specs.Lines.{lines}
use Rattle.iff.specs.declared.Form.{Form}
use Rattle.iff.specs.declared.InBlock.{InBlock}
use Rattle.iff_rules.specs.Rows.{block_rows_from, Context}
use Rattle.blocks.specs.Drive.{drive_at, Standing}
use Rattle.tables.proofs.Puts.{put_rows}
use Rattle.quick_steps.specs.Steps.{w}

-- SOME LINES, from `from` on, after `before` others whose rows stand behind the first `row`
abbrev pub beyond : List ℕ → ℕ → ℕ → ℕ → ℕ
beyond b from before row = row + (before + length (lines (drop from b)))

pub record Drivable (b : List ℕ) (from before : ℕ) (start : InBlock) (row : ℕ) (t : List ℕ) : Type 0 where
  pub standing : Standing b from before start
  pub room : beyond b from before row * w ≤ length t

-- all lead on, and their rows are put
pub record LinesThrough (form : Form) (c : Context) (b : List ℕ) (n k row : ℕ) (was : List ℕ) (from : ℕ) (start : InBlock) (before : ℕ) (is : List ℕ)
    (m : ℕ) (end : InBlock) : Type 0 where
  pub driven : drive_at c true b from start before ≡ Ok (end, m)
  pub put : is ≡ put_rows w was (row + before) (block_rows_from form n k (suc before) (lines (drop from b)))

-- in any case what stands before and behind is kept
pub record Drove (form : Form) (c : Context) (b : List ℕ) (n k row : ℕ) (was : List ℕ) (from : ℕ) (start : InBlock) (before : ℕ) (is : List ℕ)
    (r : Option (ℕ × InBlock)) : Type 0 where
  pub front : take ((row + before) * w) is ≡ take ((row + before) * w) was
  pub behind : drop (beyond b from before row * w) is ≡ drop (beyond b from before row * w) was
  pub through : (m : ℕ) (end : InBlock) → r ≡ Some (m, end) → LinesThrough form c b n k row was from start before is m end
