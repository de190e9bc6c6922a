-- What is told of one line of a block that is read in one pass.
use Rattle.std.specs.Prelude.{ℕ, ◌+◌, ◌<◌, ◌≡◌, List, [], ◌∷◌, true, None, Ok, Option, Some}
use Rattle.iff.specs.Tables.{row_width, put_row}
use Rattle.iff.specs.declared.Form.{Form}
use Rattle.iff.specs.declared.File.TheVariants.{Timetbls}
use Rattle.iff.specs.declared.Stand.{Stand}
use Rattle.iff.specs.declared.InBlock.{InBlock}
use Rattle.iff_rules.specs.Order.{is_stop}
use Rattle.iff_rules.specs.Legs.{one}
use Rattle.iff_rules.specs.Rows.{block_row, Context}
use Rattle.text.specs.declared.LineSpan.{LineSpan}
use Rattle.text.specs.Spans.{span_line, LineAt}
use Rattle.references.specs.declared.BlockCounts.{BlockCounts}
use Rattle.block_lines.specs.Lines.{keys_from, record_test, block_step}
use Rattle.quick_lines.specs.Pictures.{line_here}
use Rattle.quick_words.specs.declared.Words.{Words}
use Rattle.quick_words.specs.Told.{Seen}

-- how many words a row has
abbrev pub w : ℕ
w = row_width Timetbls

-- ONE LINE: it can be read, and its record passes the tests of a block whose service is new
pub record Passing (form : Form) (counts : BlockCounts) (co mo st fo b : List ℕ) (at x n k stops : ℕ) (r : Words) : Type 0 where
  pub seen : Seen form b at x n k r
  pub passes : record_test (keys_from form counts co mo st fo) true stops (line_here b at r.width) ≡ Ok tt

-- words that were told are put as a row, and their line leads on; or nothing is done
pub record WordsPut (x : ℕ) (r : Words) (at : ℕ) (to : Stand) (stops j : ℕ) (was is : List ℕ) (i : ℕ) (p : Option (ℕ × InBlock)) : Type 0 where
  pub put : 0 < r.width → is ≡ put_row w was i (x ∷ r.one ∷ r.two ∷ r.three ∷ r.four ∷ 0 ∷ j ∷ [])
  pub next : 0 < r.width → p ≡ Some ((at + r.width + 2), (record { stand = to; stops = stops + one (is_stop x) }))
  pub kept : r.width ≡ 0 → is ≡ was
  pub unsure : r.width ≡ 0 → p ≡ None

-- a line leads on to the next, and its row is put
pub record Stepped (form : Form) (c : Context) (b : List ℕ) (at : ℕ) (st : InBlock) (n k j : ℕ) (was is : List ℕ) (i next : ℕ) (to : InBlock) : Type 0 where
  pub span : LineSpan
  pub line : LineAt b at span
  pub nexts : next ≡ span.next
  pub leads : Ok to ≡ block_step c true st (span_line b at span)
  pub row : is ≡ put_row w was i (block_row form n k j (span_line b at span))

-- or nothing is done
pub record LineTurn (form : Form) (c : Context) (b : List ℕ) (at : ℕ) (st : InBlock) (n k j : ℕ) (was is : List ℕ) (i : ℕ) (r : Option (ℕ × InBlock)) : Type 0 where
  pub stepped : (next : ℕ) (to : InBlock) → r ≡ Some (next, to) → Stepped form c b at st n k j was is i next to
  pub kept : r ≡ None → is ≡ was
