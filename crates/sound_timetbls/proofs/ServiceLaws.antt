-- The services of blocks from block to block: a block's first row names one, and no other row of it does. The first ones are tested and put into the
-- index, and of more of them the whole table is asked at the end; whether they rise is told by their run in both cases. Assumes nothing.
use Rattle.std.specs.Prelude.{None, Option, Some}
use Prim.Native.Nat.{ℕ, suc, ◌+◌, ◌-◌, ◌*◌, ◌≤◌, ◌<◌}
use mathlib.Core.Path.{◌≡◌, refl, ap, sym, ◌∙◌}
use mathlib.Core.List.{List, [], ◌∷◌}
use mathlib.Core.Bool.{Bool, true, false, cond, and-false, true≢false}
use native.Mathlib.Omega.{arith}
use borrow.Author.Tests.{ltb-true, ltb-false, leb-true}
use lib.Dec.{ltb, leb}
use lib.ListN.{length}
use Rattle.iff.specs.Lists.{front, any}
use Rattle.iff.specs.Refusals.{after}
use Rattle.iff.specs.Tables.{Row, is_hash_row, row_at, row_width, rising}
use Rattle.iff.specs.declared.File.TheVariants.{Timetbls}
use Rattle.iff_desk.specs.Sound.{distinct}
use Rattle.tables.proofs.Rows.{row_inside}
use Rattle.fresh_keys.specs.declared.KeyRun.{KeyRun}
use Rattle.fresh_keys.specs.Runs.{no_keys, step_run, run_of}
use Rattle.fresh_keys.proofs.Runs.{run_rises}
use Rattle.keys.specs.Blocks.{rows_between}
use Rattle.keys.specs.Lookup.{keys_among}
use Rattle.keys.proofs.Among.{any_row}
use Rattle.key_classes.specs.Classes.{services_from}
use Rattle.key_classes.proofs.RowLaws.{next_service, same_services, none_left}
use Rattle.slots.specs.Slots.{key_at, Index}
use Rattle.index.specs.Keying.{Indexed}
use Rattle.index.proofs.KeyLaws.{none_indexed, at_row, one_indexed, again_told, all_told, none_between}
use Rattle.references.specs.declared.BlockCounts.{BlockCounts}
use Rattle.walks.specs.Heads.{NextHead}
use Rattle.sound_services.specs.Services.{most_indexed, ServiceAt, ServicePut, AllGone}
use Rattle.sound_blocks.specs.Blocks.{BlockTold}
use Rattle.sound_timetbls.specs.Told.{are_sound, BlocksTold, EndTold, blocks_are}
use Rattle.sound_blocks.proofs.BlockLaws.{Left, AllSays, stray, starts, ends, unsound_block, goes_on}
use Rattle.sound_timetbls.specs.declared.SoundBlocks.{SoundBlocks}

-- no row before the next `#` is one
none_in_front : (rs : List Row) → any is_hash_row (front is_hash_row rs) ≡ false
unfolding any front
none_in_front [] = refl
none_in_front (r ∷ rs) = go (is_hash_row r) refl (none_in_front rs)
  where
    go : (b : Bool) → is_hash_row r ≡ b → any is_hash_row (front is_hash_row rs) ≡ false → any is_hash_row (cond b [] (r ∷ front is_hash_row rs)) ≡ false
    go true e n = refl
    go false e n = rw e n

no_head_before : (w : ℕ) (t : List ℕ) (from to r : ℕ) → NextHead w t from to r
    → (j : ℕ) → from ≤ j → j < r → is_hash_row (row_at w t j) ≡ false
no_head_before w t from to r n j low high = go (is_hash_row (row_at w t j)) refl
  where
    none : any is_hash_row (rows_between w t from r) ≡ false
    none = ap (any is_hash_row) (sym n.until) ∙ none_in_front (rows_between w t from to)

    go : (b : Bool) → is_hash_row (row_at w t j) ≡ b → is_hash_row (row_at w t j) ≡ false
    go true e = absurd (true≢false (sym (any_row is_hash_row w t from (r - from) j low (omega arith) e) ∙ none))
    go false e = e

-- two that are told alike
module _ {n m : ℕ} {rise up indexed told : Bool} (q : blocks_are n rise indexed ≡ blocks_are m up told) where
  same : ◌≡◌ {A = SoundBlocks} (record { rows = n; rise = rise; indexed = indexed }) (record { rows = m; rise = up; indexed = told })
  same = cc

  same_rows : n ≡ m
  same_rows = ap (λ z. z.rows) same

  same_rise : rise ≡ up
  same_rise = ap (λ z. z.rise) same

  same_indexed : indexed ≡ told
  same_indexed = ap (λ z. z.indexed) same

-- THE END: whether no service comes twice decides; the slots were `ps` before, and stayed so where all services are in them
module _ (t : List ℕ) (used : ℕ) (run : KeyRun) (ps qs : List ℕ) (b : Bool) (e : b ≡ distinct (keys_among Timetbls used t)) where
  pub once : (done : ℕ) → (done ≤ most_indexed → Index Timetbls t used (length ps) ps) → (done ≤ most_indexed → qs ≡ ps) → b ≡ true
      → EndTold t used run qs (blocks_are used run.rises (leb done most_indexed))
  once done i same k =
      record {
        says = sym k ∙ e;
        rows = λ n x w q. sym (same_rows q);
        rise = λ n x w q. sym (same_rise q);
        index = λ n x w q y.
            let z : leb done most_indexed ≡ true = same_indexed q ∙ y in
            let few : done ≤ most_indexed = leb-true done most_indexed z in
            rw (same few) (i few);
      }

  pub twice : b ≡ false → EndTold t used run qs None
  twice y =
      record {
        says = sym y ∙ e;
        rows = λ n x w q. absurd (let z : ◌≡◌ {A = ℕ} 0 1 = cc in omega arith);
        rise = λ n x w q. absurd (let z : ◌≡◌ {A = ℕ} 0 1 = cc in omega arith);
        index = λ n x w q y. absurd (let z : ◌≡◌ {A = ℕ} 0 1 = cc in omega arith);
      }

-- FROM BLOCK TO BLOCK: before the block that begins in row i, after `done` services, with slots that were `ps` at first
pub record Going (counts : BlockCounts) (co mo st fo t : List ℕ) (used : ℕ) (ps : List ℕ) (done : ℕ) (run : KeyRun) (i : ℕ) (qs : List ℕ) : Type 0 where
  pub room : used * row_width Timetbls ≤ length t
  pub left : Left counts co mo st fo t used i
  pub few : done < i
  pub wide : length qs ≡ length ps
  pub rises : run_of (keys_among Timetbls used t) ≡ after step_run run (services_from t used i)
  pub sure : done ≤ most_indexed → Indexed Timetbls used t ps run i qs

module _ (counts : BlockCounts) (co mo st fo t : List ℕ) (used : ℕ) where
  -- blocks that are not all sound, and services of which one comes twice
  abbrev Told : List ℕ → Type 0
  Told qs = BlocksTold counts co mo st fo t used qs None

  not_sound : (qs : List ℕ) → AllSays counts co mo st fo t used false → Told qs
  not_sound qs e =
      record {
        says = λ c g. rw (sym (e c g));
        rows = λ n b x q. absurd (let z : ◌≡◌ {A = ℕ} 0 1 = cc in omega arith);
        rise = λ n b x q. absurd (let z : ◌≡◌ {A = ℕ} 0 1 = cc in omega arith);
        index = λ n b x q y. absurd (let z : ◌≡◌ {A = ℕ} 0 1 = cc in omega arith);
      }

  not_distinct : (qs : List ℕ) → distinct (keys_among Timetbls used t) ≡ false → Told qs
  not_distinct qs e =
      record {
        says = λ c g. rw (e, and-false);
        rows = λ n b x q. absurd (let z : ◌≡◌ {A = ℕ} 0 1 = cc in omega arith);
        rise = λ n b x q. absurd (let z : ◌≡◌ {A = ℕ} 0 1 = cc in omega arith);
        index = λ n b x q y. absurd (let z : ◌≡◌ {A = ℕ} 0 1 = cc in omega arith);
      }

  pub going_first : 1 ≤ used → used * row_width Timetbls ≤ length t → is_hash_row (row_at (row_width Timetbls) t 0) ≡ false
      → (ps : List ℕ) (run : KeyRun) → run ≡ no_keys → Going counts co mo st fo t used ps 0 run 1 ps
  going_first s r h ps run k =
      let x = none_indexed Timetbls used t ps r h run k in
      record {
        room = r;
        left = starts counts co mo st fo t used s;
        few = omega arith;
        wide = refl;
        rises = x.told.rises;
        sure = λ f. x;
      }

  module _ (ps : List ℕ) (done : ℕ) (run : KeyRun) (i : ℕ) (qs : List ℕ) (p : Going counts co mo st fo t used ps done run i qs) where
    -- after the last block
    module _ (h : used ≤ i) where
      is_used : i ≡ used
      is_used = omega (arith, p.left.high)

      last_run : run.rises ≡ rising (keys_among Timetbls used t)
      unfolding after
      last_run =
          ap (λ (s : KeyRun). s.rises) (sym (p.rises ∙ ap (after step_run run) (none_left used t p.room i h)))
          ∙ run_rises (keys_among Timetbls used t)

      pub all_gone : is_hash_row (row_at (row_width Timetbls) t 0) ≡ false
          → AllGone t i done × (done ≤ most_indexed → Index Timetbls t i (length qs) qs)
      all_gone e = (
        record {
          inside = rw is_used p.room;
          first = e;
          new = λ f.
              ap (λ (n : ℕ). distinct (keys_among Timetbls n t)) is_used ∙ sym (all_told Timetbls used t ps run i qs (p.sure f) h).0.distinct;
        },
        (λ f. rw p.wide (p.sure f).index),
      )

      pub going_last : (ms : List ℕ) (r : Option SoundBlocks) → EndTold t i run ms r → BlocksTold counts co mo st fo t used ms r
      going_last ms r x =
          let d : are_sound r ≡ distinct (keys_among Timetbls used t) = x.says ∙ ap (λ (n : ℕ). distinct (keys_among Timetbls n t)) is_used in
          record {
            says = λ c g. d ∙ rw (sym (ends counts co mo st fo t used i p.left h c g));
            rows = λ n b y q. x.rows n b y q ∙ is_used;
            rise = λ n b y q. x.rise n b y q ∙ last_run;
            index = λ n b y q z. rw is_used at (x.index n b y q z);
          }

    module _ (l : i < used) where
      pub row_astray : is_hash_row (row_at (row_width Timetbls) t i) ≡ false → Told qs
      row_astray e = not_sound qs (stray counts co mo st fo t used i p.left l e)

      pub service_at : is_hash_row (row_at (row_width Timetbls) t 0) ≡ false → ServiceAt t done run i qs
      service_at e =
          record {
            room = row_inside (row_width Timetbls) i used (length t) l p.room;
            index = λ f. at_row Timetbls used t ps run i qs (p.sure (omega arith)) p.room e l;
          }

      -- the block that begins in row i, and its service
      module _ (head : is_hash_row (row_at (row_width Timetbls) t i) ≡ true) (b : Option ℕ) (told : BlockTold counts co mo st fo t i used b) where
        pub block_unsound : b ≡ None → Told qs
        block_unsound e = not_sound qs (unsound_block counts co mo st fo t used i p.left l head b told e)

        module _ (to : ℕ) (e : b ≡ Some to) (ms : List ℕ) (r : Option KeyRun) (put : ServicePut t done run i qs ms r) where
          pub service_came : r ≡ None → Told ms × (length ms ≡ length ps)
          service_came q = (go (ltb done most_indexed) refl, put.wide ∙ p.wide)
            where
              go : (x : Bool) → ltb done most_indexed ≡ x → Told ms
              go true f =
                  let k : done < most_indexed = ltb-true done most_indexed f in
                  not_distinct ms (sym (again_told Timetbls used t ps run i qs (p.sure (omega arith)) l ms r (put.put k) q).0.distinct)
              go false f =
                  let k : None ≡ Some (step_run run (key_at Timetbls t i)) = sym q ∙ put.gone (ltb-false done most_indexed f) in
                  absurd (let z : ◌≡◌ {A = ℕ} 0 1 = cc in omega arith)

          module _ (next : KeyRun) (q : r ≡ Some next) where
            indexed_on : done < most_indexed → Indexed Timetbls used t ps next to ms
            indexed_on f =
                none_between Timetbls used t ps next ms (i + 1) to (omega (arith, told.ended to e, told.next.low))
                (omega (arith, told.ended to e, told.next.high))
                (λ j low high. no_head_before (row_width Timetbls) t (suc i) used told.end told.next j (omega arith)
                (omega (arith, told.ended to e)))
                (one_indexed Timetbls used t ps run i qs (p.sure (omega arith)) l ms r (put.put f) next q)

            -- the services behind this one are those from the next block on
            run_on : next ≡ step_run run (key_at Timetbls t i) → run_of (keys_among Timetbls used t) ≡ after step_run next (services_from t used to)
            unfolding after
            run_on n =
                p.rises
                ∙ ap (after step_run run) (next_service used t p.room i l head)
                ∙ ap (λ (s : KeyRun). after step_run s (services_from t used (suc i))) (sym n)
                ∙ ap (after step_run next)
                (same_services used t p.room (suc i) told.end told.next ∙ ap (services_from t used) (sym (told.ended to e)))

            rises_on : run_of (keys_among Timetbls used t) ≡ after step_run next (services_from t used to)
            rises_on = go (ltb done most_indexed) refl
              where
                go : (x : Bool) → ltb done most_indexed ≡ x → run_of (keys_among Timetbls used t) ≡ after step_run next (services_from t used to)
                go true f = (indexed_on (ltb-true done most_indexed f)).told.rises
                go false f =
                    let k : Some next ≡ Some (step_run run (key_at Timetbls t i)) = sym q ∙ put.gone (ltb-false done most_indexed f) in
                    let z : next ≡ step_run run (key_at Timetbls t i) = cc in
                    run_on z

            pub going_on : Going counts co mo st fo t used ps (done + 1) next to ms
            going_on =
                record {
                  room = p.room;
                  left = goes_on counts co mo st fo t used i p.left l head b told to e;
                  few = omega (arith, p.few, told.ended to e, told.next.low);
                  wide = put.wide ∙ p.wide;
                  rises = rises_on;
                  sure = λ f. indexed_on (omega arith);
                }
