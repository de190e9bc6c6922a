-- The lines of a block one after the other, and what is said of the block when they are through.
use Rattle.std.specs.Prelude.{ℕ, suc, ◌≤◌, ◌<◌, ◌≡◌, List, [], ◌∷◌, Bool, length, drop, Err, Ok, Result}
use Rattle.iff.specs.Lines.{Line, lines}
use Rattle.iff.specs.declared.File.TheVariants.{Timetbls}
use Rattle.iff.specs.declared.InBlock.{InBlock}
use Rattle.iff_rules.specs.Rows.{Context}
use Rattle.iff_rules.specs.Meaning.{most_stops}
use Rattle.block_lines.specs.Lines.{block_step}
use Rattle.blocks.specs.declared.LineFault.{LineFault}
use Rattle.iff.specs.Refusals.{Verdict, at_place, fault_at}
use Rattle.iff.specs.declared.Reason.{Reason}
use Rattle.blocks.specs.declared.BlockSize.{BlockSize}

-- a reason with its line; the lines and stops of a block
abbrev pub held_at : {A : Type 0} → Reason → ℕ → Result A LineFault
held_at r k = Err (record { reason = r; line = k })

abbrev pub size_of : ℕ → ℕ → Result BlockSize LineFault
size_of k n = Ok (record { lines = k; stops = n })

abbrev pub onward : Result InBlock Reason → ℕ → (InBlock → Result (InBlock × ℕ) LineFault) → Result (InBlock × ℕ) LineFault
onward (Ok st) j k = k st
onward (Err w) j k = held_at w j

-- some lines, after `done` others: where they lead and how many lines there are then, or the first fault and its line's number
unfoldable pub drive : Context → Bool → InBlock → ℕ → List Line → Result (InBlock × ℕ) LineFault
drive c fresh st done [] = Ok (st, done)
drive c fresh st done (l ∷ ls) = onward (block_step c fresh st l) (suc done) (λ next. drive c fresh next (suc done) ls)

-- the lines of a text from `at` on
abbrev pub drive_at : Context → Bool → List ℕ → ℕ → InBlock → ℕ → Result (InBlock × ℕ) LineFault
drive_at c fresh t at st done = drive c fresh st done (lines (drop at t))

-- ONE LINE OF A TEXT: where it ends the next begins, or the fault
abbrev pub turn_to : Result InBlock Reason → ℕ → Result (ℕ × InBlock) Reason
turn_to (Ok st) n = Ok (n, st)
turn_to (Err w) n = Err w

abbrev pub turned : Result (ℕ × InBlock) Reason → ℕ → (ℕ → InBlock → Result (InBlock × ℕ) LineFault) → Result (InBlock × ℕ) LineFault
turned (Ok (n, st)) j k = k n st
turned (Err w) j k = held_at w j

-- where a reader of lines may stand: `done` lines lie before `at`
pub record Standing (t : List ℕ) (at done : ℕ) (st : InBlock) : Type 0 where
  pub inside : at ≤ length t
  pub counted : done ≤ at
  pub few : st.stops ≤ most_stops

-- the next line begins beyond this one's start
pub record Past (t : List ℕ) (at n : ℕ) (to : InBlock) : Type 0 where
  pub beyond : at < n
  pub inside : n ≤ length t
  pub few : to.stops ≤ most_stops

pub record TurnsTo (c : Context) (fresh : Bool) (t : List ℕ) (at : ℕ) (st : InBlock) (r : Result (ℕ × InBlock) Reason) : Type 0 where
  pub turn : (done : ℕ) → drive_at c fresh t at st done ≡ turned r (suc done) (λ n to. drive_at c fresh t n to (suc done))
  pub past : (n : ℕ) (to : InBlock) → r ≡ Ok (n, to) → Past t at n to

-- what lines that are driven say as a verdict, in block o
abbrev pub driven_at : ℕ → Result (InBlock × ℕ) LineFault → Verdict
driven_at o (Ok (st, done)) = Ok tt
driven_at o (Err fault) = fault_at fault.reason (at_place Timetbls o fault.line)
