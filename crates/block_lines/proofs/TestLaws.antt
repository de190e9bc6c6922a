-- Laws of one line's tests: in the order of the work; equal to the paper's `blockTest`; what a line that passes leaves. Assumes nothing.
use Rattle.std.specs.Prelude.{Err, None, Ok, Option, Some}
use Prim.Native.Nat.{ℕ, ◌+◌, ◌≤◌}
use mathlib.Core.Path.{◌≡◌, refl, ap, sym, ◌∙◌}
use mathlib.Core.List.{List, [], ◌∷◌}
use mathlib.Core.Bool.{Bool, true, false, ◌&&◌, cond, not, false≢true}
use native.Mathlib.Omega.{arith}
use lib.Dec.{eqb, ltb}
use borrow.Author.Tests.{ltb-true, eqb-true}
use Rattle.iff.specs.Bytes.{hash, percent, dash, ampersand, asterisk, plus, dot, semicolon, less, greater, question}
use Rattle.iff.specs.Lists.{has}
use Rattle.iff.specs.Refusals.{first_test, or_test, unless, Test}
use Rattle.iff.specs.Lines.{Line, letter, is_hash}
use Rattle.iff.specs.Columns.{fields_of, laid}
use Rattle.iff.specs.Values.{readable}
use Rattle.iff.specs.Times.{is_time, interval}
use Rattle.iff.specs.Tables.{Row, tag, padded}
use Rattle.iff.specs.Words.{named, arrival, departure, stop_time_of}
use Rattle.iff.specs.declared.Form.{Form}
use Rattle.iff.specs.declared.RowFile.TheVariants.{Company, Trnsmode, Stations}
use Rattle.iff.specs.declared.GroupFile.TheVariants.{Footnote}
use Rattle.iff.specs.declared.File.TheVariants.{Rows, Groups, Timetbls}
use Rattle.iff.specs.declared.Reason.{Reason}
use Rattle.iff.specs.declared.Reason.TheVariants.{Layout, Value, Order, Duplicate, Reference}
use Rattle.iff.specs.declared.Stand.{Stand}
use Rattle.iff.specs.declared.Stand.TheVariants.{Start, Hash, Percent, Dash, Ampersand, Asterisk, Stop, Between, Last, LastPlatform}
use Rattle.iff.specs.declared.InBlock.{InBlock}
use Rattle.iff_rules.specs.Order.{LineTests, line_test, known_in_block, goes, is_goes, stand_after, is_stop}
use Rattle.iff_rules.specs.Rows.{row_of, Context}
use Rattle.iff_rules.specs.Meaning.{most_stops, block_meaning}
use Rattle.iff_rules.specs.Unique.{fresh_key}
use Rattle.iff_rules.specs.References.{met_in_block}
use Rattle.iff_rules.specs.Legs.{one}
use Rattle.iff_rules.specs.Load.{block_test, block_moves, block_next}
use Rattle.records.specs.Layouts.{layout_test, legible}
use Rattle.records.proofs.FileLaws.{row_tag, legible_line}
use Rattle.block_lines.specs.Lines.{block_test_with, record_test}

-- IN THE ORDER OF THE WORK
both : (l r m f x : Bool)
    → first_test (unless l Layout ∷ unless true Order ∷ unless (r && m) Value ∷ unless f Duplicate ∷ unless x Reference ∷ [])
    ≡ or_test (or_test (unless l Layout) (unless r Value)) (or_test (unless m Value) (or_test (unless f Duplicate) (unless x Reference)))
unfolding first_test
both false r m f x = refl
both true false m f x = refl
both true true false f x = refl
both true true true false x = refl
both true true true true false = refl
both true true true true true = refl

pub test_in_order : (c : Context) (fresh : Bool) (st : InBlock) (l : Line)
    → block_test_with c fresh st l
    ≡ or_test (unless (known_in_block (letter l)) Layout)
    (or_test (unless (is_goes (goes st.stand (letter l))) Order) (record_test c fresh st.stops l))
unfolding block_test_with line_test first_test row_of padded
test_in_order c fresh st l =
    let fields = fields_of c.form Timetbls (letter l) in
    let row = row_of c.form Timetbls l in
    ap (λ t. or_test (unless (known_in_block (letter l)) Layout) (or_test (unless (is_goes (goes st.stand (letter l))) Order) t))
    (both (laid l fields) (readable l.body fields) (block_meaning st.stops row) (cond (is_hash l) fresh true) (met_in_block c row))

-- EQUAL TO THE PAPER'S
-- two contexts of one form, with the keys that a block's lines name
pub record SameKeys (c k : Context) : Type 0 where
  pub form : c.form ≡ k.form
  pub companies : c.keys (Rows Company) ≡ k.keys (Rows Company)
  pub modes : c.keys (Rows Trnsmode) ≡ k.keys (Rows Trnsmode)
  pub stations : c.keys (Rows Stations) ≡ k.keys (Rows Stations)
  pub footnotes : c.keys (Groups Footnote) ≡ k.keys (Groups Footnote)

met_same : (c k : Context) → SameKeys c k → (r : Row) → met_in_block c r ≡ met_in_block k r
unfolding met_in_block
met_same c k e r = rw (e.companies, e.modes, e.stations, e.footnotes)

module _ (c k : Context) (same : SameKeys c k) (seen : List ℕ) (fresh : Bool) where
  -- where `fresh` says what the keys seen say
  pub test_same : (st : InBlock) (l : Line) → cond (is_hash l) fresh true ≡ fresh_key Timetbls seen (row_of c.form Timetbls l)
      → block_test_with k fresh st l ≡ block_test c seen st l
  unfolding block_test block_test_with
  test_same st l e = rw (← e, met_same c k same, same.form)

-- THE ORDER: no line leads back to the start, so that only a block's first line can be a `#`
abbrev pub is_start : Stand → Bool
is_start Start = true
is_start Hash = false
is_start Percent = false
is_start Dash = false
is_start Ampersand = false
is_start Asterisk = false
is_start Stop = false
is_start Between = false
is_start Last = false
is_start LastPlatform = false

abbrev Leaves : Stand → Option Stand → Type 0
Leaves s n = is_goes n ≡ true → is_start (stand_after s n) ≡ false

not_here : (s : Stand) → Leaves s None
not_here s e = absurd (false≢true e)

or_to : (s : Stand) (b : Bool) (q : Stand) (n : Option Stand) → is_start q ≡ false → Leaves s n → Leaves s (cond b (Some q) n)
or_to s true q n h k e = h
or_to s false q n h k e = k e

pub leaves : (s : Stand) (x : ℕ) → Leaves s (goes s x)
unfolding goes
leaves Start x = or_to Start (eqb x hash) Hash _ refl (not_here Start)
leaves Hash x = or_to Hash (eqb x percent) Percent _ refl (not_here Hash)
leaves Percent x = or_to Percent (eqb x percent) Percent _ refl (or_to Percent (eqb x dash) Dash _ refl (not_here Percent))
leaves Dash x = or_to Dash (eqb x dash) Dash _ refl (or_to Dash (eqb x ampersand) Ampersand _ refl (not_here Dash))
leaves Ampersand x =
    or_to Ampersand (eqb x ampersand) Ampersand _ refl
    (or_to Ampersand (eqb x asterisk) Asterisk _ refl (or_to Ampersand (eqb x greater) Stop _ refl (not_here Ampersand)))
leaves Asterisk x = or_to Asterisk (eqb x asterisk) Asterisk _ refl (or_to Asterisk (eqb x greater) Stop _ refl (not_here Asterisk))
leaves Stop x =
    or_to Stop (eqb x dot) Stop _ refl
    (or_to Stop (eqb x plus) Stop _ refl
    (or_to Stop (eqb x semicolon) Between _ refl
    (or_to Stop (eqb x question) Between _ refl
    (or_to Stop (eqb x less) Last _ refl (not_here Stop)))))
leaves Between x =
    or_to Between (eqb x dot) Stop _ refl
    (or_to Between (eqb x plus) Stop _ refl
    (or_to Between (eqb x semicolon) Between _ refl
    (or_to Between (eqb x less) Last _ refl (not_here Between))))
leaves Last x = or_to Last (eqb x question) LastPlatform _ refl (not_here Last)
leaves LastPlatform x = not_here LastPlatform

one_hash : (s : Stand) → is_start s ≡ false → is_goes (goes s hash) ≡ false
unfolding goes
one_hash Start e = absurd (false≢true (sym e))
one_hash Hash e = refl
one_hash Percent e = refl
one_hash Dash e = refl
one_hash Ampersand e = refl
one_hash Asterisk e = refl
one_hash Stop e = refl
one_hash Between e = refl
one_hash Last e = refl
one_hash LastPlatform e = refl

-- a line that may not stand here is refused whatever else it says
not_here_test : (s t : LineTests) → s.known ≡ t.known → s.here ≡ false → t.here ≡ false → line_test s ≡ line_test t
unfolding line_test first_test
not_here_test s t k e f = rw (k, e, f)

module _ (c k : Context) (same : SameKeys c k) (seen : List ℕ) (fresh : Bool) where
  -- a block's first line: `fresh` is what the keys seen say of it
  pub test_first : (st : InBlock) (l : Line) → fresh ≡ fresh_key Timetbls seen (row_of c.form Timetbls l)
      → block_test_with k fresh st l ≡ block_test c seen st l
  unfolding fresh_key row_of padded
  test_first st l e = test_same c k same seen fresh st l (go (is_hash l) e)
    where
      is_new : Bool
      is_new = not (has (named (row_of c.form Timetbls l)) seen)

      go : (b : Bool) → fresh ≡ cond b is_new true → cond b fresh true ≡ cond b is_new true
      go true q = q
      go false q = refl

  -- a later line: if it is a `#` it may not stand there
  pub test_later : (st : InBlock) (l : Line) → is_start st.stand ≡ false → block_test_with k fresh st l ≡ block_test c seen st l
  unfolding fresh_key row_of padded block_test block_test_with
  test_later st l h = go (is_hash l) refl
    where
      go : (b : Bool) → is_hash l ≡ b → block_test_with k fresh st l ≡ block_test c seen st l
      go false e = test_same c k same seen fresh st l (rw e)
      go true e =
          let n : is_goes (goes st.stand (letter l)) ≡ false = ap (λ x. is_goes (goes st.stand x)) (eqb-true _ _ e) ∙ one_hash st.stand h in
          not_here_test _ _ refl n n

-- A LINE THAT PASSES
or_passes : (b : Bool) (w : Reason) (t : Test) → or_test (unless b w) t ≡ Ok tt → (b ≡ true) × (t ≡ Ok tt)
or_passes true w t e = (refl, e)
or_passes false w t e = absurd (let z : ◌≡◌ {A = ℕ} 0 1 = cc in omega arith)

pair_passes : (s t : Test) → or_test s t ≡ Ok tt → (s ≡ Ok tt) × (t ≡ Ok tt)
pair_passes (Ok _) t e = (refl, e)
pair_passes (Err w) t e = absurd (let z : ◌≡◌ {A = ℕ} 0 1 = cc in omega arith)

unless_passes : (b : Bool) (w : Reason) → unless b w ≡ Ok tt → b ≡ true
unless_passes true w e = refl
unless_passes false w e = absurd (let z : ◌≡◌ {A = ℕ} 0 1 = cc in omega arith)

-- one stop more is still few
few_more : (stops : ℕ) (r : Row) → block_meaning stops r ≡ true → stops ≤ most_stops → stops + one (is_stop (tag r)) ≤ most_stops
unfolding block_meaning
few_more stops r e h = go (is_stop (tag r)) e
  where
    and_first : (a b : Bool) → a && b ≡ true → a ≡ true
    and_first true b q = refl
    and_first false b q = q

    times : Bool
    times = cond (eqb (tag r) plus) (interval (arrival r) (departure r)) (is_time (stop_time_of r))

    go : (b : Bool) → cond b (ltb stops most_stops && times) true ≡ true → stops + one b ≤ most_stops
    go false q = omega arith
    go true q = omega (arith, ltb-true stops most_stops (and_first _ _ q))

-- what is known of a line that leads on
pub record LedOn (form : Form) (st : InBlock) (l : Line) (to : InBlock) : Type 0 where
  pub is : to ≡ block_next st l
  pub left : is_start to.stand ≡ false
  pub few : st.stops ≤ most_stops → to.stops ≤ most_stops
  pub read : legible form l ≡ true

pub passed : (c : Context) (fresh : Bool) (st : InBlock) (l : Line) → block_test_with c fresh st l ≡ Ok tt → LedOn c.form st l (block_next st l)
unfolding block_moves
passed c fresh st l e =
    let fields = fields_of c.form Timetbls (letter l) in
    let row = row_of c.form Timetbls l in
    let a = or_passes (known_in_block (letter l)) Layout _ (sym (test_in_order c fresh st l) ∙ e) in
    let b = or_passes (is_goes (goes st.stand (letter l))) Order _ a.1 in
    let d = pair_passes (layout_test l fields) _ b.1 in
    let f = or_passes (laid l fields) Layout _ d.0 in
    let g = or_passes (block_meaning st.stops row) Value _ d.1 in
    record {
      is = refl;
      left = leaves st.stand (letter l) b.0;
      few = λ h. (rw (row_tag c.form Timetbls l) at (few_more st.stops row g.0 h));
      read = legible_line c.form l f.0 (unless_passes (readable l.body fields) Value f.1);
    }
