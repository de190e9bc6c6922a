-- WHAT IS SAID OF A BLOCK.
use Rattle.std.specs.Prelude.{ℕ, ◌≤◌, ◌<◌, ◌≡◌, List, Bool, true, cond, length, Err, Ok, Result}
use Rattle.iff.specs.Lists.{all}
use Rattle.iff.specs.Refusals.{after, Verdict, at_place, fault_at}
use Rattle.iff.specs.Lines.{lines}
use Rattle.iff.specs.declared.File.TheVariants.{Timetbls}
use Rattle.iff.specs.declared.Reason.TheVariants.{Order, Legs}
use Rattle.iff.specs.declared.InBlock.{InBlock}
use Rattle.iff.specs.declared.Form.{Form}
use Rattle.iff_rules.specs.Order.{finished}
use Rattle.iff_rules.specs.Rows.{row_of, block_rows, stops_in, lines_in, as_block, Context}
use Rattle.iff_rules.specs.Meaning.{most_stops}
use Rattle.iff_rules.specs.Unique.{fresh_key}
use Rattle.iff_rules.specs.Legs.{reach_of, legs}
use Rattle.iff_rules.specs.Load.{block_start, block_next, block_verdict}
use Rattle.references.specs.declared.BlockCounts.{BlockCounts}
use Rattle.references.specs.Agree.{BlockKeysAmong}
use Rattle.records.specs.Layouts.{legible}
use Rattle.blocks.specs.Drive.{held_at, size_of}
use Rattle.blocks.specs.declared.BlockSize.{BlockSize}
use Rattle.blocks.specs.declared.LineFault.{LineFault}

-- a text whose lines have all been read, and lead to `st`
pub record LinesRead (form : Form) (t : List ℕ) (st : InBlock) (m : ℕ) : Type 0 where
  pub some : 0 < length t
  pub ended : after block_next block_start (lines t) ≡ st
  pub counted : m ≡ lines_in (as_block t)
  pub stops : st.stops ≡ stops_in (as_block t)
  pub few : st.stops ≤ most_stops
  pub each : all (legible form) (lines t) ≡ true

-- then the group's end, and the legs
unfoldable pub last_tests : Form → List ℕ → InBlock → ℕ → Result BlockSize LineFault
last_tests form t st m =
    cond (finished st.stand) (cond (legs reach_of (block_rows form (as_block t))) (size_of m st.stops) (held_at Legs 1)) (held_at Order m)

-- the answer as a verdict, in block o
abbrev pub checked_at : ℕ → Result BlockSize LineFault → Verdict
checked_at o (Ok size) = Ok tt
checked_at o (Err fault) = fault_at fault.reason (at_place Timetbls o fault.line)

-- a block of k lines and n stops that may be kept: its rows can be read from its lines
pub record WholeBlock (form : Form) (t : List ℕ) (k n : ℕ) : Type 0 where
  pub some : 0 < length t
  pub counted : k ≡ lines_in (as_block t)
  pub stops : n ≡ stops_in (as_block t)
  pub few : n ≤ most_stops
  pub each : all (legible form) (lines t) ≡ true

-- THE CONTRACT. The answer is the paper's verdict on the block, whatever context of that form agrees with the lent tables' first rows, whatever
-- services came before it, if `fresh` says whether its own is new to them, and whichever its ordinal.
pub record BlockChecked (form : Form) (t : List ℕ) (fresh : Bool) (counts : BlockCounts) (co mo st fo : List ℕ) (r : Result BlockSize LineFault) : Type 0 where
  pub says :
      (c : Context) → c.form ≡ form → BlockKeysAmong c counts co mo st fo → (seen : List ℕ)
      → fresh ≡ fresh_key Timetbls seen (row_of form Timetbls (as_block t).top) → (o : ℕ)
      → checked_at o r ≡ block_verdict c seen o (as_block t)
  pub whole : (k n : ℕ) → r ≡ size_of k n → WholeBlock form t k n
