-- Laws of one block: its test after those before it, and its rows behind theirs. Assumes nothing.
use Rattle.std.specs.Prelude.{Err, Ok, Option, Result}
use Prim.Native.Nat.{ℕ, ◌+◌, ◌-◌, ◌*◌, ◌≤◌}
use mathlib.Core.Path.{◌≡◌, refl, ap, sym, ◌∙◌}
use mathlib.Core.List.{List, [], ◌∷◌, ◌++◌, append_assoc}
use mathlib.Core.Bool.{Bool, true, false, not, true≢false}
use native.Mathlib.Omega.{arith}
use lib.ListN.{length, take, drop, length-append}
use lib.Seq.{drop-drop, length-take-le, take_at}
use Rattle.iff.specs.Lists.{has, members}
use Rattle.iff.specs.Lines.{is_hash}
use Rattle.iff.specs.Tables.{Row, row_width, joined, fill, rows_in, keys_of}
use Rattle.iff.specs.declared.Form.{Form}
use Rattle.iff.specs.declared.File.TheVariants.{Timetbls}
use Rattle.iff.specs.declared.Reason.{Reason}
use Rattle.iff_rules.specs.Rows.{block_rows, lines_in, stops_in, as_block}
use Rattle.iff_rules.specs.Load.{service_of}
use Rattle.tables.proofs.Each.{Each, each_append}
use Rattle.tables.proofs.Rows.{Used, table_rows_used}
use Rattle.tables.proofs.Filled.{joined_append, rows_in_fill, fill_front, fill_behind, drop_replicate}
use Rattle.fresh_keys.specs.declared.KeyRun.{KeyRun}
use Rattle.keys.specs.Lookup.{keys_in, keys_among}
use Rattle.fresh_keys.proofs.Runs.{run_next}
use Rattle.marks.proofs.MarkLaws.{marked_next}
use Rattle.keys.proofs.Fills.{keys_append}
use Rattle.keys.proofs.Among.{keys_counted}
use Rattle.legs.proofs.RowLaws.{block_lines_lem}
use Rattle.references.specs.declared.BlockCounts.{BlockCounts}
use Rattle.blocks.specs.Whole.{WholeBlock, BlockChecked}
use Rattle.blocks.proofs.WholeLaws.{fresh_service}
use Rattle.block_rows.specs.Written.{Placeable}
use Rattle.quick_blocks.specs.Whole.{QuickPut, put_size}
use Rattle.block_rows.proofs.RowLaws.{rows_used, rows_count, block_keys_lem}
use Rattle.new_services.specs.declared.Newness.{Newness}
use Rattle.new_services.specs.News.{Remembered}
use Rattle.block_puts.specs.Puts.{BlockTested, BlockPlaced, BlockJudged, Triable, BlockTried, Addable, BlockAdded, put_of}
use Rattle.block_puts.proofs.AgainLaws.{whole_says, whole_fresh, same_services}
use Rattle.blocks.specs.Drive.{held_at, size_of}
use Rattle.blocks.proofs.SizeLaws.{same_lines}
use Rattle.block_puts.proofs.PutLaws.{same_run, same_row, same_told}
use Rattle.blocks.specs.declared.BlockSize.{BlockSize}
use Rattle.blocks.specs.declared.LineFault.{LineFault}

abbrev width : ℕ
width = row_width Timetbls

-- A BLOCK WHOSE ROWS ARE PUT
module _ (form : Form) (b : List ℕ) (fresh : Bool) (counts : BlockCounts) (co mo st fo was is : List ℕ) (row : ℕ) where
  -- it was checked first
  module _ (x : Result BlockSize LineFault) (y : BlockChecked form b fresh counts co mo st fo x) where
    pub placed_broken : is ≡ was → (w : Reason) (j : ℕ) → x ≡ held_at w j → BlockPlaced form b fresh counts co mo st fo was is row (held_at w j)
    placed_broken m w j e =
        record {
          checked = rw e at y;
          rows = λ k n q. absurd (let z : ◌≡◌ {A = ℕ} 0 1 = cc in omega arith);
          kept = λ w' j' q. record { front = ap (take (row * width)) m; behind = ap (drop ((row + lines_in (as_block b)) * width)) m };
        }

    pub can_be_placed : (row + lines_in (as_block b)) * row_width Timetbls ≤ length was → (k n : ℕ) → x ≡ size_of k n → Placeable form b was k n row
    can_be_placed h k n e = let z = y.whole k n e in record { whole = z; room = rw z.counted h }

    pub placed_whole : (k n : ℕ) → x ≡ size_of k n
        → is ≡ take (row * row_width Timetbls) was ++ (joined (block_rows form (as_block b)) ++ drop ((row + k) * row_width Timetbls) was)
        → BlockPlaced form b fresh counts co mo st fo was is row (size_of k n)
    placed_whole k n e r =
        record {
          checked = rw e at y;
          rows = λ k' n' q. rw (same_lines q) at r;
          kept = λ w j q. absurd (let z : ◌≡◌ {A = ℕ} 0 1 = cc in omega arith);
        }

  -- it was read in one pass
  pub placed_quickly : (x : Option BlockSize) → QuickPut form b fresh counts co mo st fo was is row x → (k n : ℕ) → x ≡ put_size k n
      → BlockPlaced form b fresh counts co mo st fo was is row (size_of k n)
  placed_quickly x y k n e =
      let z = y.done k n e in
      record {
        checked = z.checked;
        rows = λ k' n' q. rw (same_lines q) at z.rows;
        kept = λ w j q. absurd (let z : ◌≡◌ {A = ℕ} 0 1 = cc in omega arith);
      }

-- or that was begun, and it was checked then: what rows of it had been put are overwritten
pub placed_after : (form : Form) (b : List ℕ) (fresh : Bool) (counts : BlockCounts) (co mo st fo was mid is : List ℕ) (row : ℕ)
    (x : Option BlockSize) → QuickPut form b fresh counts co mo st fo was mid row x
    → (r : Result BlockSize LineFault) → BlockPlaced form b fresh counts co mo st fo mid is row r → BlockPlaced form b fresh counts co mo st fo was is row r
placed_after form b fresh counts co mo st fo was mid is row x y r z =
    record {
      checked = z.checked;
      rows =
          λ k n e. let q : k ≡ lines_in (as_block b) = (z.checked.whole k n e).counted in
          z.rows k n e ∙ rw (q, y.front, y.behind);
      kept = λ w j e. let k = z.kept w j e in record { front = k.front ∙ y.front; behind = k.behind ∙ y.behind };
    }

-- A BLOCK THAT IS TRIED after those of the table: where it is at fault, whether its service is new has to be known
tested : (form : Form) (b t : List ℕ) (counts : BlockCounts) (co mo st fo : List ℕ) (fresh : Bool) (r : Result BlockSize LineFault) → is_hash (as_block b).top ≡ true
    → ((w : Reason) (j : ℕ) → r ≡ held_at w j → fresh ≡ not (has (service_of form (as_block b)) (keys_in Timetbls t)))
    → BlockChecked form b fresh counts co mo st fo r → BlockTested form b t counts co mo st fo r
tested form b t counts co mo st fo fresh (Ok size) h f y =
    record { says = λ c d a o. whole_says form b fresh counts co mo st fo size.lines size.stops h y c d a (keys_in Timetbls t) o; whole = y.whole }
tested form b t counts co mo st fo fresh (Err fault) h f y =
    record {
      says =
          λ c d a o. y.says c d a (keys_in Timetbls t) (f fault.reason fault.line refl ∙ sym (fresh_service form (keys_in Timetbls t) (as_block b) h)) o;
      whole = y.whole;
    }

pub judged : (form : Form) (b : List ℕ) (counts : BlockCounts) (co mo st fo was is : List ℕ) (row : ℕ) (r : Result BlockSize LineFault) (service : ℕ) (came : Bool)
    → service ≡ service_of form (as_block b) → came ≡ has service (keys_among Timetbls row was)
    → BlockPlaced form b (not came) counts co mo st fo was is row r → BlockJudged form b counts co mo st fo was is row r
judged form b counts co mo st fo was is row r service came s e y =
    record { fresh = not came; exact = ap not (e ∙ ap (λ (x : ℕ). has x (keys_among Timetbls row was)) s); placed = y }

not_came : (x : Bool) → true ≡ not x → x ≡ false
not_came false e = refl
not_came true e = e

module _ (form : Form) (b was : List ℕ) (counts : BlockCounts) (co mo st fo : List ℕ) (row : ℕ) (new : Newness) (p : Triable form b was new row)
    (is : List ℕ) (x : Result BlockSize LineFault) (y : BlockPlaced form b new.fresh counts co mo st fo was is row x) where
  abbrev service : ℕ
  service = service_of form (as_block b)

  tried : ((w : Reason) (j : ℕ) → x ≡ held_at w j → new.told ≡ true) → BlockTried form b was is counts co mo st fo row new x
  tried f =
      record {
        tested = tested form b was counts co mo st fo new.fresh x p.one.opens (λ w j e. p.exact (f w j e)) y.checked;
        rows = y.rows;
        kept = y.kept;
        fresh =
            λ k n e t. not_came (has service (keys_in Timetbls was))
            (sym (whole_fresh form b new.fresh counts co mo st fo k n p.one.opens (rw e at y.checked)) ∙ p.exact t);
      }

  pub tried_whole : (k n : ℕ) → x ≡ size_of k n → BlockTried form b was is counts co mo st fo row new (size_of k n)
  tried_whole k n e = rw e at (tried (λ w j q. absurd (let z : ◌≡◌ {A = ℕ} 0 1 = cc in omega arith)))

  pub tried_broken : (w : Reason) (j : ℕ) → x ≡ held_at w j → new.told ≡ true → BlockTried form b was is counts co mo st fo row new (held_at w j)
  tried_broken w j e t = rw e at (tried (λ w' j' q. t))

  -- at fault, and tried again with its service looked for
  pub tried_again : (w : Reason) (j : ℕ) → x ≡ held_at w j → new.told ≡ false → length is ≡ length was
      → (last : List ℕ) (r : Result BlockSize LineFault) → BlockJudged form b counts co mo st fo is last row r
      → BlockTried form b was last counts co mo st fo row new r
  tried_again w j e t m last r z =
      let s = y.kept w j e in
      let h : row * width ≤ length was = omega (arith, p.room) in
      let g : keys_among Timetbls row is ≡ keys_in Timetbls was =
      same_services row was is h (omega arith) s.front ∙ keys_counted Timetbls was row p.rows in
      let exact : z.fresh ≡ not (has service (keys_in Timetbls was)) = z.exact ∙ ap (λ (ks : List ℕ). not (has service ks)) g in
      record {
        tested = tested form b was counts co mo st fo z.fresh r p.one.opens (λ w j q. exact) z.placed.checked;
        rows =
            λ k n q. let i : k ≡ lines_in (as_block b) = (z.placed.checked.whole k n q).counted in
            z.placed.rows k n q ∙ rw (i, s.front, s.behind);
        kept = λ w j q. let u = z.placed.kept w j q in record { front = u.front ∙ s.front; behind = u.behind ∙ s.behind };
        fresh = λ k n q u. absurd (true≢false (sym u ∙ t));
      }

-- ROWS BEHIND ROWS
-- what `write_block` leaves in a table of some rows
pub fill_more : (n : ℕ) (rs qs : List Row) → Each (Used width) rs
    → take (length rs * width) (fill width n rs) ++ (joined qs ++ drop ((length rs + length qs) * width) (fill width n rs)) ≡ fill width n (rs ++ qs)
unfolding fill
fill_more n rs qs u =
    let d : (length rs + length qs) * width ≡ length rs * width + length qs * width = omega arith in
    let e : n - length rs * width - length qs * width ≡ n - (length rs + length qs) * width = omega arith in
    rw (
      fill_front width n rs u,
      d,
      ← (drop-drop (length qs * width) (length rs * width) (fill width n rs)),
      fill_behind width n rs u,
      drop_replicate,
      e,
    )
    (rw (joined_append, length-append, append_assoc))

-- THE BLOCK IS REFUSED, or kept
module _ (form : Form) (b was is : List ℕ) (counts : BlockCounts) (co mo st fo : List ℕ) (row : ℕ) (new : Newness) (x : Result BlockSize LineFault)
    (y : BlockTried form b was is counts co mo st fo row new x) (search : Bool) where
  pub added_faulty : (w : Reason) (j : ℕ) → x ≡ held_at w j → (marks : List ℕ)
      → BlockAdded form b was is marks counts co mo st fo row search (held_at w j)
  added_faulty w j e marks =
      record {
        says = λ c d a o. rw e at (y.tested.says c d a o);
        grown = λ run row told q. absurd (let z : ◌≡◌ {A = ℕ} 0 1 = cc in omega arith);
        asked = λ run row told q. absurd (let z : ◌≡◌ {A = ℕ} 0 1 = cc in omega arith);
        kept = λ w' j' q. y.kept w j e;
      }

  module _ (marks : List ℕ) (run : KeyRun) (a : Addable b was marks run row) (k n : ℕ) (e : x ≡ size_of k n) where
    whole : WholeBlock form b k n
    whole = y.tested.whole k n e

    -- there is room for its rows
    pub room_for : (row + k) * width ≤ length was
    room_for = rw whole.counted a.room

    abbrev rows : List Row
    rows = block_rows form (as_block b)

    abbrev its_service : ℕ
    its_service = service_of form (as_block b)

    used : Each (Used width) rows
    used = rows_used form (stops_in (as_block b)) (lines_in (as_block b)) 1 (members (as_block b)) (rw (block_lines_lem b whole.some) whole.each)

    count : length rows ≡ k
    count = rows_count form (stops_in (as_block b)) (lines_in (as_block b)) 1 (members (as_block b)) ∙ sym whole.counted

    both_used : Each (Used width) (rows_in Timetbls was ++ rows)
    both_used = each_append (Used width) (rows_in Timetbls was) rows (table_rows_used width (omega arith) was) used

    fits_both : length (rows_in Timetbls was ++ rows) * width ≤ length was
    fits_both = omega (arith, length-append (rows_in Timetbls was) rows, count, a.holding.rows, room_for)

    put : is ≡ take (row * width) was ++ (joined rows ++ drop ((row + k) * width) was)
    put = y.rows k n e

    front_kept : take (row * width) is ≡ take (row * width) was
    front_kept =
        ap (take (row * width)) put
        ∙ take_at (take (row * width) was) (joined rows ++ drop ((row + k) * width) was) (row * width)
        (length-take-le (row * width) was (omega (arith, room_for)))

    filled : is ≡ fill width (length was) (rows_in Timetbls was ++ rows)
    filled =
        put
        ∙ ap (λ (t : List ℕ). take (row * width) t ++ (joined rows ++ drop ((row + k) * width) t)) a.holding.filled
        ∙ rw (a.holding.rows, ← count) (fill_more (length was) (rows_in Timetbls was) rows (table_rows_used width (omega arith) was))

    now_rows : rows_in Timetbls is ≡ rows_in Timetbls was ++ rows
    now_rows = ap (rows_in Timetbls) filled ∙ rows_in_fill width (omega arith) (length was) (rows_in Timetbls was ++ rows) both_used fits_both

    now_keys : keys_in Timetbls is ≡ keys_in Timetbls was ++ (its_service ∷ [])
    now_keys =
        ap (keys_of Timetbls) now_rows ∙ keys_append Timetbls (rows_in Timetbls was) rows
        ∙ rw (block_keys_lem form (as_block b) a.one.opens a.one.single)

    pub added_kept : length is ≡ length was → (next : KeyRun) (to : ℕ) (told : Bool) (more : List ℕ) → Remembered run marks its_service more next
        → to ≡ row + k → told ≡ new.told → (search ≡ true → new.told ≡ true)
        → BlockAdded form b was is more counts co mo st fo row search (put_of next to told)
    added_kept m next to told more p q u v =
        record {
          says = λ c d g o. rw e at (y.tested.says c d g o);
          grown =
              λ run' row' told' z. let f : next ≡ run' = same_run z in
              let h : to ≡ row' = same_row z in
              let i : told ≡ told' = same_told z in
              record {
                holding =
                    record {
                      marked = rw (now_keys, p.marks) (marked_next marks (keys_in Timetbls was) its_service a.holding.marked);
                      filled =
                          filled ∙ ap (λ (i : ℕ). fill width i (rows_in Timetbls was ++ rows)) (sym m)
                          ∙ ap (fill width (length is)) (sym now_rows);
                      services = sym f ∙ p.next ∙ rw (now_keys, a.holding.services) (sym (run_next (keys_in Timetbls was) its_service));
                      rows = omega (arith, ap length now_rows, length-append (rows_in Timetbls was) rows, count, a.holding.rows);
                    };
                front = front_kept;
                rows = now_rows;
                seen = now_keys;
                fresh = λ t. y.fresh k n e (sym u ∙ i ∙ t);
              };
          asked = λ run' row' told' z t. sym (same_told z) ∙ u ∙ v t;
          kept = λ w j z. absurd (let i : ◌≡◌ {A = ℕ} 0 1 = cc in omega arith);
        }
