-- The keys of a table told row by row. Assumes nothing.
use Rattle.std.specs.Prelude.{None, Option, Some}
use Prim.Native.Nat.{ℕ, zero, suc, ◌+◌, ◌-◌, ◌*◌, ◌≤◌, ◌<◌}
use mathlib.Core.Path.{◌≡◌, refl, ap, sym, ◌∙◌}
use mathlib.Core.List.{List, [], ◌∷◌, ◌++◌}
use mathlib.Core.Bool.{Bool, true, false, true≢false, false≢true}
use native.Mathlib.Omega.{arith}
use native.Mathlib.Numerals.{add-one}
use borrow.Author.Tests.{eq-eqb, ne_eqb, not-true, not-false}
use lib.Dec.{eqb}
use lib.ListN.{length}
use Rattle.iff.specs.declared.File.{File}
use Rattle.iff.specs.Lists.{has, kept}
use Rattle.iff.specs.Refusals.{after}
use Rattle.iff.specs.Tables.{Row, word, row_width, row_at, key_tag, key_word, keys_of}
use Rattle.iff_desk.specs.Sound.{distinct, passes}
use Rattle.tables.proofs.Rows.{row_inside}
use Rattle.fresh_keys.specs.declared.KeyRun.{KeyRun}
use Rattle.keys.specs.Blocks.{block_of_rows, rows_between}
use Rattle.keys.specs.Lookup.{is_key_row, keys_among}
use Rattle.fresh_keys.specs.Runs.{no_keys, step_run, run_of}
use Rattle.keys.proofs.Among.{keys_there}
use Rattle.keys.proofs.Blocks.{between_first, between_next}
use Rattle.keys.proofs.Fills.{keys_next, keys_same}
use Rattle.fresh_keys.proofs.Runs.{run_next, run_rises}
use Rattle.index.specs.Told.{KeysTold}
use Rattle.slots.specs.Slots.{names_at, key_at, keys_between}
use Rattle.slot_puts.specs.Puts.{AtRow, KeyPut}
use Rattle.index.specs.Keying.{all_new, Told, RowPut, Indexed, KeysPut}
use Rattle.slots.proofs.SlotLaws.{starts, one_more, fewer_rows, kept_same, kept_then}

-- ROW BY ROW
keys_key : (f : File) (r : Row) (rs : List Row) → is_key_row f r ≡ true → keys_of f (r ∷ rs) ≡ word r (key_word f) ∷ keys_of f rs
unfolding kept
keys_key f r rs e = rw e

keys_none : (f : File) (r : Row) (rs : List Row) → is_key_row f r ≡ false → keys_of f (r ∷ rs) ≡ keys_of f rs
unfolding kept
keys_none f r rs e = rw e

-- a key that came, and one that is new
came_before : (seen : List ℕ) (k : ℕ) (ks : List ℕ) → has k seen ≡ true → all_new seen (k ∷ ks) ≡ false
unfolding passes
came_before seen k ks e = rw e

came_new : (seen : List ℕ) (k : ℕ) (ks : List ℕ) → has k seen ≡ false → all_new seen (k ∷ ks) ≡ all_new (seen ++ (k ∷ [])) ks
unfolding passes
came_new seen k ks e = rw e

module _ (f : File) (t : List ℕ) (used : ℕ) where
  -- row i is the next of those that are left, and the last of those before the next
  module _ (i : ℕ) (h : i < used) where
    left_key : names_at f t i ≡ true → keys_between f t i used ≡ key_at f t i ∷ keys_between f t (suc i) used
    left_key e = ap (keys_of f) (between_first (row_width f) t i used h) ∙ keys_key f (row_at (row_width f) t i) _ e

    left_none : names_at f t i ≡ false → keys_between f t i used ≡ keys_between f t (suc i) used
    left_none e = ap (keys_of f) (between_first (row_width f) t i used h) ∙ keys_none f (row_at (row_width f) t i) _ e

  seen_key : (i : ℕ) → names_at f t i ≡ true → keys_between f t 0 (suc i) ≡ keys_between f t 0 i ++ (key_at f t i ∷ [])
  seen_key i e =
      ap (keys_of f) (between_next (row_width f) t 0 i (omega arith))
      ∙ keys_next f (rows_between (row_width f) t 0 i) (row_at (row_width f) t i) e

  seen_none : (i : ℕ) → names_at f t i ≡ false → keys_between f t 0 (suc i) ≡ keys_between f t 0 i
  seen_none i e =
      ap (keys_of f) (between_next (row_width f) t 0 i (omega arith))
      ∙ keys_same f (rows_between (row_width f) t 0 i) (row_at (row_width f) t i) e

  module _ (run : KeyRun) (i : ℕ) (h : i < used) (x : Told f used t run i) where
    -- a row that names nothing
    pub told_none : names_at f t i ≡ false → Told f used t run (suc i)
    told_none e =
        record {
          new =
              x.new
              ∙ (ap (all_new (keys_between f t 0 i)) (left_none i h e)
              ∙ ap (λ (s : List ℕ). all_new s (keys_between f t (suc i) used)) (sym (seen_none i e)));
          rises = x.rises ∙ ap (after step_run run) (left_none i h e);
        }

    module _ (e : names_at f t i ≡ true) where
      pub told_came : has (key_at f t i) (keys_between f t 0 i) ≡ true → distinct (keys_among f used t) ≡ false
      told_came c = x.new ∙ (ap (all_new (keys_between f t 0 i)) (left_key i h e) ∙ came_before _ _ _ c)

      pub told_key : has (key_at f t i) (keys_between f t 0 i) ≡ false → Told f used t (step_run run (key_at f t i)) (suc i)
      unfolding after
      told_key n =
          record {
            new =
                x.new
                ∙ (ap (all_new (keys_between f t 0 i)) (left_key i h e)
                ∙ (came_new (keys_between f t 0 i) (key_at f t i) (keys_between f t (suc i) used) n
                ∙ ap (λ (s : List ℕ). all_new s (keys_between f t (suc i) used)) (sym (seen_key i e))));
            rises = x.rises ∙ ap (after step_run run) (left_key i h e);
          }

  -- before row 1
  all_but_first : names_at f t 0 ≡ false → (n : ℕ) → keys_between f t 0 n ≡ keys_between f t 1 n
  unfolding block_of_rows
  all_but_first e zero = refl
  all_but_first e (suc n) = ap (keys_of f) (between_first (row_width f) t 0 (suc n) (omega arith)) ∙ keys_none f (row_at (row_width f) t 0) _ e

  none_seen : names_at f t 0 ≡ false → keys_between f t 0 1 ≡ []
  unfolding block_of_rows kept
  none_seen e = all_but_first e 1

  pub told_first : used * row_width f ≤ length t → names_at f t 0 ≡ false → Told f used t no_keys 1
  unfolding distinct
  told_first r e =
      let q : keys_among f used t ≡ keys_between f t 1 used = keys_there f t used r ∙ all_but_first e used in
      record {
        new = ap distinct q ∙ ap (λ (s : List ℕ). all_new s (keys_between f t 1 used)) (sym (none_seen e));
        rises = ap run_of q;
      }

  -- after the last row, and at a key that came before
  none_left : (i : ℕ) → used ≤ i → keys_between f t i used ≡ []
  unfolding block_of_rows kept
  none_left i h =
      let z : used - i ≡ 0 = omega arith in
      rw z

  pub told_all : (run : KeyRun) (i : ℕ) → used ≤ i → Told f used t run i
      → KeysTold (keys_among f used t) (record { distinct = true; rise = run.rises })
  unfolding passes after
  told_all run i h x =
      record {
        distinct = sym (x.new ∙ ap (all_new (keys_between f t 0 i)) (none_left i h));
        rise = λ d. ap (λ (s : KeyRun). s.rises) (sym (x.rises ∙ ap (after step_run run) (none_left i h))) ∙ run_rises (keys_among f used t);
      }

  pub told_again : (b : Bool) → distinct (keys_among f used t) ≡ false
      → KeysTold (keys_among f used t) (record { distinct = false; rise = b })
  told_again b e = record { distinct = sym e; rise = λ d. absurd (false≢true d) }

-- ONE ROW
module _ (f : File) (w tag : ℕ) (v : w ≡ row_width f) (g : tag ≡ key_tag f) (t : List ℕ) (i x : ℕ) (e : x ≡ word (row_at w t i) 0) where
  same_tag : names_at f t i ≡ eqb x tag
  same_tag = rw (e, v, g)

  pub names_here : x ≡ tag → names_at f t i ≡ true
  names_here q = same_tag ∙ eq-eqb x tag q

  pub names_nothing : (x ≡ tag → ⊥) → names_at f t i ≡ false
  names_nothing q = same_tag ∙ ne_eqb x tag q

pub key_here : (f : File) (w col : ℕ) → w ≡ row_width f → col ≡ key_word f → (t : List ℕ) (i x : ℕ)
    → x ≡ word (row_at w t i) col → x ≡ key_at f t i
key_here f w col v m t i x e = rw (v, m) at e

module _ (f : File) (t : List ℕ) (run : KeyRun) (i : ℕ) (ps : List ℕ) where
  pub row_none : AtRow f t run i ps → names_at f t i ≡ false → RowPut f t run i ps ps (Some run)
  row_none a e =
      record {
        wide = refl;
        came = λ q. absurd (let z : ◌≡◌ {A = ℕ} 0 1 = cc in omega arith);
        told = λ next q used h x. let z : run ≡ next = cc in rw (← z) (told_none f t used run i h x e);
        runs = λ next q g. let z : run ≡ next = cc in rw (← z) (g ∙ sym (ap run_of (seen_none f t i i e)));
        index = λ next q. one_more f t i (length ps) ps a.index (λ n. absurd (true≢false (sym n ∙ e)));
        kept = kept_same ps;
      }

  module _ (key : ℕ) (qs : List ℕ) (b : Bool) (p : KeyPut f t i key ps qs b) (e : names_at f t i ≡ true) (is : key ≡ key_at f t i) where
    pub row_new : b ≡ true → (next : KeyRun) → next ≡ step_run run key → RowPut f t run i ps qs (Some next)
    row_new y next n =
        record {
          wide = p.wide;
          came = λ q. absurd (let z : ◌≡◌ {A = ℕ} 0 1 = cc in omega arith);
          told = λ m q used h x.
              let z : m ≡ step_run run (key_at f t i) = cc in
              rw z (told_key f t used run i h x e (rw is at (not-true (has key (keys_between f t 0 i)) (sym p.new ∙ y))));
          runs = λ m q g.
              (let z : m ≡ step_run run (key_at f t i) = cc in
              z ∙ (ap (λ (s : KeyRun). step_run s (key_at f t i)) g
              ∙ sym (ap run_of (seen_key f t i i e) ∙ run_next (keys_between f t 0 i) (key_at f t i))));
          index = λ m q. p.index y;
          kept = p.kept;
        }

    pub row_came : b ≡ false → RowPut f t run i ps qs None
    row_came y =
        record {
          wide = p.wide;
          came = λ q used h x. told_came f t used run i h x e (rw is at (not-false (has key (keys_between f t 0 i)) (sym p.new ∙ y)));
          told = λ m q. absurd (let z : ◌≡◌ {A = ℕ} 0 1 = cc in omega arith);
          runs = λ m q. absurd (let z : ◌≡◌ {A = ℕ} 0 1 = cc in omega arith);
          index = λ m q. absurd (let z : ◌≡◌ {A = ℕ} 0 1 = cc in omega arith);
          kept = p.kept;
        }

-- ALL ROWS
module _ (f : File) (used : ℕ) (t ps : List ℕ) where
  pub none_indexed : used * row_width f ≤ length t → names_at f t 0 ≡ false → (run : KeyRun) → run ≡ no_keys → Indexed f used t ps run 1 ps
  unfolding after
  none_indexed r e run n =
      record {
        some = omega arith;
        told = rw n (told_first f t used r e);
        runs = n ∙ sym (ap run_of (none_seen f t used e));
        index = starts f t (length ps) ps refl;
        kept = kept_same ps;
      }

  module _ (run : KeyRun) (i : ℕ) (qs : List ℕ) (x : Indexed f used t ps run i qs) where
    pub at_row : used * row_width f ≤ length t → names_at f t 0 ≡ false → i < used → AtRow f t run i qs
    at_row r e h =
        record {
          some = x.some;
          room = row_inside (row_width f) i used (length t) h r;
          first = e;
          runs = x.runs;
          index = rw x.index.wide x.index;
        }

    module _ (h : i < used) (ms : List ℕ) (r : Option KeyRun) (p : RowPut f t run i qs ms r) where
      pub one_indexed : (next : KeyRun) → r ≡ Some next → Indexed f used t ps next (i + 1) ms
      one_indexed next q =
          rw add-one
          (record {
            some = omega arith;
            told = p.told next q used h x.told;
            runs = p.runs next q x.runs;
            index = rw x.index.wide at (p.index next q);
            kept = kept_then x.kept p.kept;
          })

      pub again_told : r ≡ None → KeysPut f used t ps ms (record { distinct = false; rise = false })
      again_told q = (
        told_again f t used false (p.came q used h x.told),
        p.wide ∙ x.index.wide,
        (λ d. absurd (false≢true d)),
        kept_then x.kept p.kept,
      )

    -- rows that name nothing are gone over
    none_named : i < used → names_at f t i ≡ false → Indexed f used t ps run (suc i) qs
    none_named h e =
        record {
          some = omega arith;
          told = told_none f t used run i h x.told e;
          runs = x.runs ∙ sym (ap run_of (seen_none f t used i e));
          index = one_more f t i (length ps) qs x.index (λ n. absurd (true≢false (sym n ∙ e)));
          kept = x.kept;
        }

    pub all_told : used ≤ i → KeysPut f used t ps qs (record { distinct = true; rise = run.rises })
    all_told h = (told_all f t used run i h x.told, x.index.wide, (λ d. fewer_rows f t i used (length ps) qs h x.index), x.kept)

  -- so are some of them at once
  pub none_between : (run : KeyRun) (qs : List ℕ) (i to : ℕ) → i ≤ to → to ≤ used → ((j : ℕ) → i ≤ j → j < to → names_at f t j ≡ false)
      → Indexed f used t ps run i qs → Indexed f used t ps run to qs
  none_between run qs i to low high none x =
      let z : i + (to - i) ≡ to = omega arith in
      rw z at (go (to - i) i (omega arith) (λ j l h. none j l (omega arith)) x)
    where
      go : (k from : ℕ) → from + k ≤ used → ((j : ℕ) → from ≤ j → j < from + k → names_at f t j ≡ false)
          → Indexed f used t ps run from qs → Indexed f used t ps run (from + k) qs
      go zero from h n y =
          let z : from + 0 ≡ from = omega arith in
          rw z y
      go (suc k) from h n y =
          let z : from + suc k ≡ suc from + k = omega arith in
          rw z
          (go k (suc from) (omega arith) (λ j l g. n j (omega arith) (omega arith))
          (none_named run from qs y (omega arith) (n from (omega arith) (omega arith))))
