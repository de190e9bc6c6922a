-- The tests of a group's row by itself, by what the code found. Assumes nothing.
use Prim.Native.Nat.{ℕ, suc, ◌≤◌}
use mathlib.Core.Path.{◌≡◌}
use mathlib.Core.Bool.{Bool, true, false, ◌&&◌, cond}
use native.Mathlib.Omega.{arith}
use lib.Dec.{eqb}
use Rattle.iff.specs.Bytes.{hash}
use Rattle.iff.specs.Columns.{record_fields, record_of, fields_of}
use Rattle.iff.specs.Values.{word_count}
use Rattle.iff.specs.Tables.{Row, tag, row_width}
use Rattle.iff.specs.declared.GroupFile.{GroupFile}
use Rattle.iff.specs.declared.GroupFile.TheVariants.{Timezone, Footnote, Changes, Xfootnote, Xchanges}
use Rattle.iff.specs.declared.File.TheVariants.{Groups}
use Rattle.iff.specs.declared.GroupStand.{GroupStand}
use Rattle.iff.specs.declared.Form.{Form}
use Rattle.iff.specs.declared.Record.{Record}
use Rattle.iff.specs.declared.Record.TheVariants.{ZoneHead, ZonePeriod, FootnoteHead, FootnoteVector, ChangeHead, ChangePair, ChangeException}
use Rattle.iff_rules.specs.Order.{may_follow}
use Rattle.iff_rules.specs.Meaning.{group_meaning}
use Rattle.iff_desk.specs.Sound.{shaped}
use Rattle.fresh_keys.proofs.Runs.{and_left}
use Rattle.group_row_tests.specs.Alone.{right_alone}

-- a row has a word for every field that leaves one, and for its tag: of a `#` and of the records behind it
module _ (form : Form) where
  abbrev words_of : Record → ℕ
  words_of r = suc (word_count (record_fields form r))

  either : (b : Bool) (r s : Record) (n : ℕ) → words_of r ≤ n → words_of s ≤ n → words_of (cond b r s) ≤ n
  either true r s n p q = p
  either false r s n p q = q

  pub roomy : (f : GroupFile) (x : ℕ) → words_of (record_of (Groups f) x) ≤ row_width (Groups f)
  unfolding record_of record_fields
  roomy Timezone x = either (eqb x hash) ZoneHead ZonePeriod 6 (omega arith) (omega arith)
  roomy Footnote x = either (eqb x hash) FootnoteHead FootnoteVector 14 (omega arith) (omega arith)
  roomy Changes x = either (eqb x hash) ChangeHead ChangePair 6 (omega arith) (omega arith)
  roomy Xfootnote x = either (eqb x hash) FootnoteHead FootnoteVector 14 (omega arith) (omega arith)
  roomy Xchanges x = either (eqb x hash) ChangeHead ChangeException 7 (omega arith) (omega arith)

  pub fits_row : (f : GroupFile) (x : ℕ) (rec : Record) (n : ℕ) → rec ≡ record_of (Groups f) x → n ≡ row_width (Groups f) → words_of rec ≤ n
  fits_row f x rec n e h = rw (e, h) (roomy f x)

-- the tests of a row alone, in turn: its verdict by what each of them says, as far as they are made
module _ (form : Form) (f : GroupFile) (stand : GroupStand) (r : Row) (rec : Record) (e : rec ≡ record_of (Groups f) (tag r)) where
  pub alone_by_lem : (o s m q : Bool) → may_follow f stand (tag r) ≡ o → shaped (record_fields form rec) r ≡ s → group_meaning f r ≡ m → q ≡ (o && (s && m))
      → q ≡ right_alone form f stand r
  unfolding right_alone fields_of
  alone_by_lem o s m q g h i j = rw (← e, g, h, i) j

-- a row that is right alone may come where the group stands
pub may_come : (form : Form) (f : GroupFile) (stand : GroupStand) (r : Row) → right_alone form f stand r ≡ true → may_follow f stand (tag r) ≡ true
unfolding right_alone
may_come form f stand r e = and_left (may_follow f stand (tag r)) _ e
