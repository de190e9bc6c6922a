-- Laws of a whole block: what its lines, its end and its legs say is the paper's verdict. Assumes nothing.
use Rattle.std.specs.Prelude.{Ok, Result}
use Prim.Native.Nat.{ℕ, ◌<◌}
use mathlib.Core.Path.{◌≡◌, refl, ap, sym, ◌∙◌}
use mathlib.Core.List.{List, [], ◌∷◌}
use mathlib.Core.Bool.{Bool, true, false, cond, not}
use native.Mathlib.Omega.{arith}
use lib.ListN.{length}
use Rattle.iff.specs.Lists.{Group, any, members, kept, has}
use Rattle.iff.specs.Refusals.{first_test, verdict_at, first_fault, scan, after, Verdict, at_place}
use Rattle.iff.specs.Lines.{Line, lines, letter, is_hash}
use Rattle.iff.specs.declared.Form.{Form}
use Rattle.iff.specs.declared.File.TheVariants.{Timetbls}
use Rattle.iff.specs.declared.Reason.{Reason}
use Rattle.iff.specs.declared.Reason.TheVariants.{Layout, Order, Legs}
use Rattle.iff.specs.declared.InBlock.{InBlock}
use Rattle.iff_rules.specs.Order.{line_test, finished, is_stop}
use Rattle.iff_rules.specs.Rows.{row_of, block_rows, as_block, Context}
use Rattle.iff_rules.specs.Unique.{fresh_key}
use Rattle.iff_rules.specs.Legs.{reach_of, legs}
use Rattle.iff_rules.specs.Load.{block_test, block_start, block_next, block_verdict, service_of}
use Rattle.references.specs.declared.BlockCounts.{BlockCounts}
use Rattle.references.specs.Agree.{BlockKeysAmong}
use Rattle.records.proofs.FileLaws.{row_tag}
use Rattle.block_legs.specs.Sight.{LegibleBlock}
use Rattle.legs.proofs.RowLaws.{block_lines_lem}
use Rattle.block_lines.specs.Lines.{keys_from}
use Rattle.blocks.specs.Drive.{drive, drive_at, driven_at, held_at, size_of}
use Rattle.blocks.specs.Whole.{LinesRead, last_tests, BlockChecked}
use Rattle.block_lines.proofs.TestLaws.{SameKeys}
use Rattle.blocks.proofs.DriveLaws.{drive_says, came_through}
use Rattle.blocks.specs.declared.BlockSize.{BlockSize}
use Rattle.blocks.specs.declared.LineFault.{LineFault}

-- the lent tables' own context agrees with every other of its form
same_keys : (form : Form) (c : Context) (counts : BlockCounts) (co mo st fo : List ℕ) → c.form ≡ form → BlockKeysAmong c counts co mo st fo
    → SameKeys c (keys_from form counts co mo st fo)
unfolding keys_from
same_keys form c counts co mo st fo e k =
    record { form = e; companies = k.companies; modes = k.modes; stations = k.stations; footnotes = k.footnotes }

keys_form : (form : Form) (counts : BlockCounts) (co mo st fo : List ℕ) → (keys_from form counts co mo st fo).form ≡ form
unfolding keys_from
keys_form form counts co mo st fo = refl

pub legs_read : (form : Form) (t : List ℕ) (st : InBlock) (m : ℕ) → LinesRead form t st m → LegibleBlock form t st.stops
legs_read form t st m r = record { some = r.some; stops = r.stops; few = r.few; each = r.each }

-- FOR CALLERS
-- what `fresh` has to be for a block that begins with a `#`
pub fresh_service : (form : Form) (seen : List ℕ) (g : Group Line) → is_hash g.top ≡ true
    → fresh_key Timetbls seen (row_of form Timetbls g.top) ≡ not (has (service_of form g) seen)
unfolding fresh_key
fresh_service form seen g e = rw (row_tag form Timetbls, e)

-- AN EMPTY TEXT has one line, and that has no letter
pub empty_checked : (form : Form) (fresh : Bool) (counts : BlockCounts) (t co mo st fo : List ℕ) → length t ≡ 0
    → BlockChecked form t fresh counts co mo st fo (held_at Layout 1)
unfolding block_verdict first_fault scan block_test line_test first_test any lines
empty_checked form fresh counts (b ∷ t) co mo st fo e = absurd (omega arith)
empty_checked form fresh counts [] co mo st fo e =
    record { says = λ c e k seen f o. refl; whole = λ k n p. absurd (let z : ◌≡◌ {A = ℕ} 0 1 = cc in omega arith) }

module _ (form : Form) (fresh : Bool) (counts : BlockCounts) (t co mo st fo : List ℕ) (some : 0 < length t) where
  -- the lines of the block, as they are driven
  abbrev driven : Result (InBlock × ℕ) LineFault
  driven = drive_at (keys_from form counts co mo st fo) fresh t 0 block_start 0

  abbrev Scanned : Context → List ℕ → ℕ → Verdict
  Scanned c seen o = scan (λ s j l. verdict_at (at_place Timetbls o j) (block_test c seen s l)) block_next block_start 1 (members (as_block t))

  scanned : (c : Context) → c.form ≡ form → BlockKeysAmong c counts co mo st fo → (seen : List ℕ)
      → fresh ≡ fresh_key Timetbls seen (row_of form Timetbls (as_block t).top) → (o : ℕ) → Scanned c seen o ≡ driven_at o driven
  scanned c e k seen f o =
      let own = keys_from form counts co mo st fo in
      drive_says c own (same_keys form c counts co mo st fo e k) seen fresh o block_start (as_block t).top (as_block t).rest (rw e f)
      ∙ ap (λ ls. driven_at o (drive own fresh block_start 0 ls)) (block_lines_lem t some)

  -- a line is at fault
  pub held_checked : (w : Reason) (j : ℕ) → driven ≡ held_at w j → BlockChecked form t fresh counts co mo st fo (held_at w j)
  unfolding block_verdict first_fault
  held_checked w j e =
      record {
        says = λ c x k seen f o. rw (scanned c x k seen f o, e);
        whole = λ k n p. absurd (let z : ◌≡◌ {A = ℕ} 0 1 = cc in omega arith);
      }

  -- the lines are through
  pub lines_read : (end : InBlock) (m : ℕ) → driven ≡ Ok (end, m) → LinesRead form t end m
  lines_read end m e =
      let d = came_through (keys_from form counts co mo st fo) fresh (lines t) block_start 0 end m e in
      record {
        some = some;
        ended = d.ended;
        counted = omega (arith, ap length (block_lines_lem t some));
        stops = omega (arith, ap (λ ls. length (kept (λ l. is_stop (letter l)) ls)) (block_lines_lem t some));
        few = d.few (omega arith);
        each = rw (keys_form form counts co mo st fo) at d.read;
      }

  pub last_checked : (end : InBlock) (m : ℕ) → driven ≡ Ok (end, m) → (r : Result BlockSize LineFault) → r ≡ last_tests form t end m
      → BlockChecked form t fresh counts co mo st fo r
  unfolding block_verdict first_fault last_tests
  last_checked end m e r q = rw q (go (finished end.stand) refl (legs reach_of (block_rows form (as_block t))) refl)
    where
      read : LinesRead form t end m
      read = lines_read end m e

      at_end : after block_next block_start (members (as_block t)) ≡ end
      at_end = ap (after block_next block_start) (block_lines_lem t some) ∙ read.ended

      go : (b : Bool) → finished end.stand ≡ b → (d : Bool) → legs reach_of (block_rows form (as_block t)) ≡ d
          → BlockChecked form t fresh counts co mo st fo (cond b (cond d (size_of m end.stops) (held_at Legs 1)) (held_at Order m))
      go false p d s =
          record {
            says = λ c x k seen f o. rw (scanned c x k seen f o, e, at_end, p, ← read.counted);
            whole = λ k n x. absurd (let z : ◌≡◌ {A = ℕ} 0 1 = cc in omega arith);
          }
      go true p false s =
          record {
            says = λ c x k seen f o. rw (scanned c x k seen f o, e, at_end, p, x, s);
            whole = λ k n x. absurd (let z : ◌≡◌ {A = ℕ} 0 1 = cc in omega arith);
          }
      go true p true s =
          record {
            says = λ c x k seen f o. rw (scanned c x k seen f o, e, at_end, p, x, s);
            whole =
                λ k n x. let z : ◌≡◌ {A = BlockSize} (record { lines = m; stops = end.stops }) (record { lines = k; stops = n }) = cc in
                let i : m ≡ k = ap (λ z. z.lines) z in
                let j : end.stops ≡ n = ap (λ z. z.stops) z in
                record {
                  some = some;
                  counted = sym i ∙ read.counted;
                  stops = sym j ∙ read.stops;
                  few = omega (arith, read.few);
                  each = read.each;
                };
          }
