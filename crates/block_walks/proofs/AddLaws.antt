-- Laws of blocks one after the other. Assumes nothing.
use Rattle.std.specs.Prelude.{Ok, Option, Result}
use Prim.Native.Nat.{ℕ, suc, ◌+◌, ◌*◌, ◌≤◌}
use mathlib.Core.Path.{◌≡◌, refl, ap, sym, ◌∙◌}
use mathlib.Core.List.{List, [], ◌∷◌, ◌++◌, append_assoc, append-nil}
use mathlib.Core.Bool.{Bool, true, ◌&&◌}
use native.Mathlib.Numerals.{add-one}
use native.Mathlib.Omega.{arith}
use lib.ListN.{length, take, drop, length-append}
use lib.Seq.{take-take}
use Rattle.iff.specs.Lists.{groups, members}
use Rattle.iff.specs.Refusals.{or_else, scan, Verdict, at_place, fault_at}
use Rattle.iff.specs.Lines.{lines}
use Rattle.iff.specs.Tables.{Row, row_width, rows_in}
use Rattle.iff.specs.declared.Form.{Form}
use Rattle.iff.specs.declared.File.TheVariants.{Timetbls}
use Rattle.iff.specs.declared.Reason.{Reason}
use Rattle.iff_rules.specs.Rows.{block_rows, blocks_rows, blocks_of, lines_in, stops_in, as_block, Context}
use Rattle.iff_rules.specs.Load.{block_verdict, service_of}
use Rattle.iff_laws.specs.TruthLaws.{both, and_both}
use Rattle.text.proofs.LineLaws.{lines_end}
use Rattle.fresh_keys.specs.declared.KeyRun.{KeyRun}
use Rattle.keys.specs.Lookup.{keys_in, keys_among}
use Rattle.keys.proofs.Among.{keys_counted}
use Rattle.fresh_keys.specs.Runs.{no_keys}
use Rattle.references.specs.declared.BlockCounts.{BlockCounts}
use Rattle.references.specs.Agree.{BlockKeysAmong}
use Rattle.fresh_keys.proofs.Runs.{run_rises}
use Rattle.block_rows.proofs.RowLaws.{rows_count}
use Rattle.block_ends.specs.Blocks.{part, Clean, NextBlock}
use Rattle.block_puts.specs.Puts.{Holding, new_verdict, Addable, BlockAdded, put_of}
use Rattle.block_puts.proofs.AgainLaws.{same_services}
use Rattle.block_walks.specs.declared.BlocksPut.{BlocksPut}
use Rattle.block_walks.specs.Blocks.{services_verdict, blocks_verdict, BlocksReady, BlocksHeld, BlocksWalked, all_put}
use Rattle.block_walks.proofs.RepeatLaws.{or_assoc, services_none, services_next}
use Rattle.block_puts.specs.declared.BlockPut.{BlockPut}
use Rattle.blocks.specs.Drive.{held_at}
use Rattle.blocks.specs.declared.LineFault.{LineFault}
use Rattle.iff.specs.declared.Place.{Place}

abbrev pub width : ℕ
width = row_width Timetbls

-- A LOOP OVER BLOCKS, at `at` and after `done` blocks: what is left says what all were to say, unless a service of those put came before, and leaves
-- the rows that all were to leave
pub record Adding (form : Form) (text : List ℕ) (from : ℕ) (counts : BlockCounts) (co mo st fo was is marks : List ℕ) (at row done : ℕ)
    (run : KeyRun) (search sure : Bool) : Type 0 where
  pub inside : at ≤ length text
  pub few : done ≤ at
  pub kept : length is ≡ length was
  pub clean : Clean (lines (drop at text))
  pub holding : Holding is marks run row
  pub counted : done ≡ length (keys_in Timetbls is)
  pub room : (row + length (lines (drop at text))) * row_width Timetbls ≤ length is
  pub some : 1 ≤ row
  pub first : take (row_width Timetbls) is ≡ take (row_width Timetbls) was
  pub rows :
      rows_in Timetbls was ++ blocks_rows form (blocks_of (lines (drop from text)))
      ≡ rows_in Timetbls is ++ blocks_rows form (blocks_of (lines (drop at text)))
  pub certain : sure ≡ true → services_verdict (keys_in Timetbls is) ≡ Ok tt
  pub asked : search ≡ true → sure ≡ true
  pub says :
      (c : Context) → c.form ≡ form → BlockKeysAmong c counts co mo st fo
      → blocks_verdict c (keys_in Timetbls was) 1 (lines (drop from text))
      ≡ or_else (services_verdict (keys_in Timetbls is)) (blocks_verdict c (keys_in Timetbls is) (suc done) (lines (drop at text)))

-- the first row is kept with all rows before a block's
first_kept : (row : ℕ) (was is : List ℕ) → 1 ≤ row → take (row * width) is ≡ take (row * width) was → take width is ≡ take width was
first_kept row was is h e =
    let w : width ≤ row * width = omega arith in
    sym (take-take width (row * width) is w) ∙ ap (take width) e ∙ take-take width (row * width) was w

-- nothing is told of rows where there is a fault
pub none_held : (form : Form) (text : List ℕ) (from : ℕ) (was is : List ℕ) (w : Reason) (p : Option Place) → BlocksHeld form text from was is (fault_at w p)
none_held form text from was is w p =
    record {
      filled = λ z. absurd (let q : ◌≡◌ {A = ℕ} 0 1 = cc in omega arith);
      rows = λ z. absurd (let q : ◌≡◌ {A = ℕ} 0 1 = cc in omega arith);
      rises = λ z. absurd (let q : ◌≡◌ {A = ℕ} 0 1 = cc in omega arith);
      counted = λ b n m z. absurd (let q : ◌≡◌ {A = ℕ} 0 1 = cc in omega arith);
    }

module _ (form : Form) (text : List ℕ) (from : ℕ) (counts : BlockCounts) (co mo st fo was : List ℕ) (search : Bool) where
  pub adding_start : (marks : List ℕ) → BlocksReady text from was marks → (run : KeyRun) → run ≡ no_keys
      → Adding form text from counts co mo st fo was was marks from 1 0 run search true
  adding_start marks p run e =
      let n : services_verdict (keys_in Timetbls was) ≡ Ok tt = ap services_verdict p.none ∙ services_none in
      record {
        inside = p.inside;
        few = omega arith;
        kept = refl;
        clean = p.clean;
        holding = rw e p.holding;
        counted = ap length (sym p.none);
        room = p.room;
        some = omega arith;
        first = refl;
        rows = refl;
        certain = λ z. n;
        asked = λ z. refl;
        says = λ c d a. ap (λ (v : Verdict). or_else v (blocks_verdict c (keys_in Timetbls was) 1 (lines (drop from text)))) (sym n);
      }

  module _ (is marks : List ℕ) (at row done : ℕ) (run : KeyRun) (sure : Bool)
      (k : Adding form text from counts co mo st fo was is marks at row done run search sure) where
    -- its rows are in the table
    fits : row * width ≤ length is
    fits = omega (arith, k.room)

    -- the next block
    module _ (next : ℕ) (n : NextBlock text at next) where
      abbrev b : List ℕ
      b = part text at next

      pub addable : Addable b is marks run row
      addable = record { one = n.one; holding = k.holding; room = omega (arith, k.room, n.sized) }

      -- one block and the blocks behind it, after a service named by some form
      abbrev Behind : Context → Form → Verdict
      Behind c x = blocks_verdict c (keys_in Timetbls is ++ (service_of x (as_block b) ∷ [])) (suc (suc done)) (lines (drop next text))

      abbrev Then : Context → Form → Verdict
      Then c x = or_else (block_verdict c (keys_in Timetbls is) (suc done) (as_block b)) (Behind c x)

      steps : (c : Context) → blocks_verdict c (keys_in Timetbls is) (suc done) (lines (drop at text)) ≡ Then c c.form
      unfolding scan
      steps c = rw n.blocks

      step : (c : Context) → c.form ≡ form → blocks_verdict c (keys_in Timetbls is) (suc done) (lines (drop at text)) ≡ Then c form
      step c d = steps c ∙ ap (Then c) d

      module _ (to more : List ℕ) (r : Result BlockPut LineFault) (y : BlockAdded form b is to more counts co mo st fo row search r) (m : length to ≡ length is) where
        pub adding_faulty : (w : Reason) (j : ℕ) → r ≡ held_at w j
            → BlocksWalked form text from counts co mo st fo was to search
            (record { put = fault_at w (at_place Timetbls (done + 1) j); row = row; done = done; sure = sure })
        adding_faulty w j e =
            let front = (y.kept w j e).front in
            let ks : keys_among Timetbls row to ≡ keys_in Timetbls is =
            same_services row is to fits (omega (arith, fits)) front ∙ keys_counted Timetbls is row k.holding.rows in
            record {
              says =
                  λ c d a. let z : Then c form ≡ fault_at w (at_place Timetbls (suc done) j) = rw (← (y.says c d a (suc done)), e) in
                  ap (λ (l : List ℕ). or_else (services_verdict l) (fault_at w (at_place Timetbls (done + 1) j))) ks
                  ∙ ap (λ (o : ℕ). or_else (services_verdict (keys_in Timetbls is)) (fault_at w (at_place Timetbls o j))) (add-one done)
                  ∙ sym (k.says c d a ∙ ap (or_else (services_verdict (keys_in Timetbls is))) (step c d ∙ z));
              certain = λ s. ap services_verdict ks ∙ k.certain s;
              asked = k.asked;
              services = k.counted ∙ ap length (sym ks);
              few = omega (arith, k.few, k.inside);
              room = omega (arith, fits);
              first = first_kept row is to k.some front ∙ k.first;
              held = none_held form text from was to w (at_place Timetbls (done + 1) j);
            }

        pub adding_next : (with : KeyRun) (behind : ℕ) (told : Bool) → r ≡ put_of with behind told → (still : Bool) → still ≡ (sure && told)
            → Adding form text from counts co mo st fo was to more next behind (done + 1) with search still
        unfolding blocks_rows
        adding_next with behind told e still u =
            let g = y.grown with behind told e in
            let z = rows_count form (stops_in (as_block b)) (lines_in (as_block b)) 1 (members (as_block b)) in
            let v : behind ≡ row + lines_in (as_block b) =
            omega (arith, g.holding.rows, ap length g.rows, length-append (rows_in Timetbls is) (block_rows form (as_block b)), k.holding.rows) in
            let service = service_of form (as_block b) in
            let more_services : services_verdict (keys_in Timetbls is ++ (service ∷ []))
            ≡ or_else (services_verdict (keys_in Timetbls is)) (new_verdict (keys_in Timetbls is) (suc done) service) =
            services_next (keys_in Timetbls is) service (suc done) (ap suc k.counted) in
            record {
              inside = n.high;
              few = omega (arith, k.few, n.low);
              kept = m ∙ k.kept;
              clean = n.clean;
              holding = g.holding;
              counted = omega (arith, k.counted, ap length g.seen, length-append (keys_in Timetbls is) (service_of form (as_block b) ∷ []));
              room = omega (arith, k.room, n.sized);
              some = omega (arith, k.some);
              first = first_kept row is to k.some g.front ∙ k.first;
              rows =
                  k.rows ∙ ap (λ gs. rows_in Timetbls is ++ blocks_rows form gs) n.blocks
                  ∙ sym (append_assoc (rows_in Timetbls is) (block_rows form (as_block b)) (blocks_rows form (blocks_of (lines (drop next text)))))
                  ∙ ap (λ (rs : List Row). rs ++ blocks_rows form (blocks_of (lines (drop next text)))) (sym g.rows);
              certain =
                  λ s. let both-are = both sure told (sym u ∙ s) in
                  ap services_verdict g.seen ∙ more_services ∙ rw (k.certain both-are.0, g.fresh both-are.1);
              asked = λ t. u ∙ and_both (k.asked t) (y.asked with behind told e t);
              says =
                  λ c d a.
                  let z : Then c form ≡ or_else (new_verdict (keys_in Timetbls is) (suc done) service) (Behind c form) =
                  rw (← (y.says c d a (suc done)), e) in
                  rw (add-one, g.seen)
                  (k.says c d a
                  ∙ ap (or_else (services_verdict (keys_in Timetbls is))) (step c d ∙ z)
                  ∙ or_assoc (services_verdict (keys_in Timetbls is)) (new_verdict (keys_in Timetbls is) (suc done) service) (Behind c form)
                  ∙ ap (λ (x : Verdict). or_else x (Behind c form)) (sym more_services));
            }

    -- no block is left
    module _ (h : length text ≤ at) where
      none : blocks_of (lines (drop at text)) ≡ []
      unfolding groups
      none = ap blocks_of (lines_end text at h)

      no_fault : (c : Context) → blocks_verdict c (keys_in Timetbls is) (suc done) (lines (drop at text)) ≡ Ok tt
      unfolding scan
      no_fault c = rw none

      pub adding_end : BlocksWalked form text from counts co mo st fo was is search
          (record { put = all_put run.rises row done; row = row; done = done; sure = sure })
      unfolding blocks_rows
      adding_end =
          let ks : keys_among Timetbls row is ≡ keys_in Timetbls is = keys_counted Timetbls is row k.holding.rows in
          record {
            says =
                λ c d a. ap (λ (l : List ℕ). or_else (services_verdict l) (Ok tt)) ks
                ∙ sym (k.says c d a ∙ ap (or_else (services_verdict (keys_in Timetbls is))) (no_fault c));
            certain = λ s. ap services_verdict ks ∙ k.certain s;
            asked = k.asked;
            services = k.counted ∙ ap length (sym ks);
            few = omega (arith, k.few, k.inside);
            room = fits;
            first = k.first;
            held =
                record {
                  filled = λ z. k.holding.filled;
                  rows = λ z. sym (k.rows ∙ ap (λ gs. rows_in Timetbls is ++ blocks_rows form gs) none ∙ append-nil (rows_in Timetbls is));
                  rises = λ z. ap (λ (s : KeyRun). s.rises) k.holding.services ∙ run_rises (keys_in Timetbls is);
                  counted =
                      λ b n m z. let same : ◌≡◌ {A = BlocksPut} (record { rise = run.rises; rows = row; services = done }) (record { rise = b; rows = n; services = m }) = cc in
                      let p : row ≡ n = ap (λ x. x.rows) same in
                      let q : done ≡ m = ap (λ x. x.services) same in
                      record { rows = sym p ∙ k.holding.rows; services = sym q ∙ k.counted };
                };
          }
