-- LAW: EVERY OTHER SERVICE KEEPS ITS ROWS AND ITS TURN. The blocks of an amended table are those of before with the one replaced, what stands before
-- the first is as it was, and so are the services in their order. Over the definitions alone. Assumes nothing.
use Rattle.std.specs.Prelude.{Ok}
use Prim.Native.Nat.{ℕ, suc, ◌<◌}
use mathlib.Core.Path.{◌≡◌, refl, ap, sym, ◌∙◌}
use mathlib.Core.List.{List, [], ◌∷◌, ◌++◌}
use mathlib.Core.Bool.{Bool, true, false, cond}
use lib.Dec.{eqb}
use lib.ListN.{length, get_or, take, drop}
use lib.Seq.{split_at}
use borrow.Author.Tests.{eq-eqb, ne_eqb}
use Rattle.iff.specs.Lists.{Group, front, kept, position}
use Rattle.iff.specs.Files.{PerFile}
use Rattle.iff.specs.Refusals.{fine}
use Rattle.iff.specs.Tables.{Row, is_hash_row, rows_in, keys_of}
use Rattle.iff.specs.declared.File.TheVariants.{Timetbls}
use Rattle.iff_rules.specs.Rows.{block_rows, as_block, context_of}
use Rattle.iff_desk.specs.Sound.{rows_of_tables}
use Rattle.iff_desk.specs.Store.{rows_of_groups, group_of, service_rows}
use Rattle.iff_desk.specs.Amend.{table_blocks, amend_verdict, amend_timetbls}
use Rattle.amend_laws.proofs.GroupLists.{replaced}
use Rattle.amend_laws.proofs.NewBlock.{new_block, rows_are as block_rows_lem}
use Rattle.amend_laws.proofs.AmendedRows.{service_in, place_inside, place_names, amended_blocks, amended_front}
use Rattle.amend_laws.proofs.OtherTables.{with_timetbls, same_context}
use Rattle.amend_laws.proofs.Accepted.{fine_is, context_in, rows_were, place_in, rows_after, Accepted, accepted, same_service}
use Rattle.amend_laws.proofs.Accepted.{rows_are, keys_are, same_length}

-- ENTRIES KEPT: those of two lists, and where one that is not kept replaces another
module _ {A : Type 0} (p : A → Bool) where
  kept_append : (xs ys : List A) → kept p (xs ++ ys) ≡ kept p xs ++ kept p ys
  unfolding kept
  kept_append [] ys = refl
  kept_append (x ∷ xs) ys = go (p x) (kept_append xs ys)
    where
      go : (b : Bool) → kept p (xs ++ ys) ≡ kept p xs ++ kept p ys
          → cond b (x ∷ kept p (xs ++ ys)) (kept p (xs ++ ys)) ≡ cond b (x ∷ kept p xs) (kept p xs) ++ kept p ys
      go true e = ap (λ (l : List A). x ∷ l) e
      go false e = e

  -- none before the first
  none_before : (xs : List A) → kept p (take (position p xs) xs) ≡ []
  unfolding kept position
  none_before [] = refl
  none_before (x ∷ xs) = go (p x) refl (none_before xs)
    where
      go : (b : Bool) → p x ≡ b → kept p (take (position p xs) xs) ≡ [] → kept p (take (cond b 0 (suc (position p xs))) (x ∷ xs)) ≡ []
      go true q e = refl
      go false q e = rw q e

  kept_first : (x : A) (xs ys : List A) → kept p xs ≡ [] → p x ≡ true → kept p (xs ++ (x ∷ ys)) ≡ x ∷ kept p ys
  unfolding kept
  kept_first x xs ys e q = kept_append xs (x ∷ ys) ∙ rw (e, q)

  kept_skips : (x : A) (xs ys : List A) → p x ≡ false → kept p (xs ++ (x ∷ ys)) ≡ kept p xs ++ kept p ys
  unfolding kept
  kept_skips x xs ys e = kept_append xs (x ∷ ys) ∙ rw e

abbrev naming : ℕ → Group Row → Bool
naming s g = eqb (service_in g) s

-- what an amended table is, beside what it was
module _ (T : PerFile (List ℕ)) (s : ℕ) (b : List ℕ) where
  abbrev pub blocks_were : List (Group Row)
  blocks_were = table_blocks (rows_were T)

  abbrev pub rows_now : List Row
  rows_now = rows_in Timetbls (amend_timetbls T s b)

  abbrev pub tables_now : PerFile (List Row)
  tables_now = rows_of_tables (with_timetbls T (amend_timetbls T s b))

  abbrev new : Group Row
  new = new_block (context_in T).form b

  pub record OthersKept : Type 0 where
    -- the table is as long, and its rows are those of the definition
    pub long : length (amend_timetbls T s b) ≡ length T.timetbls
    pub rows : rows_now ≡ rows_after T s b
    -- the service's place is there, and the new block names it too
    pub inside : place_in T s < length blocks_were
    pub was_its_own : service_in (get_or blocks_were (place_in T s) new) ≡ s
    pub is_its_own : service_in new ≡ s
    -- the blocks, and what stands before the first
    pub blocks : table_blocks rows_now ≡ take (place_in T s) blocks_were ++ (new ∷ drop (suc (place_in T s)) blocks_were)
    pub head : front is_hash_row rows_now ≡ front is_hash_row (rows_were T)
    -- the services, in their order, and so all that the rules ask of the other files
    pub services : keys_of Timetbls rows_now ≡ keys_of Timetbls (rows_were T)
    pub context : context_of tables_now ≡ context_in T
    -- the rows of the service are the block's, and those of every other service are as they were
    pub own : service_rows tables_now s ≡ block_rows (context_in T).form (as_block b)
    pub others : (x : ℕ) → (s ≡ x → ⊥) → service_rows tables_now x ≡ service_rows (rows_of_tables T) x

  module _ (e : amend_verdict T s b ≡ Ok tt) where
    a : Accepted T s b
    a = accepted T s b e

    place_is_inside : place_in T s < length blocks_were
    place_is_inside = place_inside s (rows_were T) a.is_named_lem

    old_names : service_in (get_or blocks_were (place_in T s) new) ≡ s
    old_names = place_names s (rows_were T) a.is_named_lem new

    new_names : service_in new ≡ s
    new_names = same_service T s b e ∙ old_names

    blocks_now : table_blocks rows_now ≡ replaced (place_in T s) new blocks_were
    blocks_now = ap table_blocks (rows_are T s b e) ∙ amended_blocks (context_in T).form (place_in T s) (rows_were T) b a.is_one.opens

    services_now : keys_of Timetbls rows_now ≡ keys_of Timetbls (rows_were T)
    services_now = ap (keys_of Timetbls) (rows_are T s b e) ∙ keys_are T s b e

    own_now : service_rows tables_now s ≡ block_rows (context_in T).form (as_block b)
    unfolding group_of
    own_now =
        let k = place_in T s in
        ap (λ (gs : List (Group Row)). rows_of_groups (kept (naming s) gs)) blocks_now
        ∙ ap rows_of_groups (kept_first (naming s) new (take k blocks_were) (drop (suc k) blocks_were) (none_before (naming s) blocks_were) (eq-eqb _ _ new_names))
        ∙ sym (block_rows_lem (context_in T).form (as_block b))

    others_now : (x : ℕ) → (s ≡ x → ⊥) → service_rows tables_now x ≡ service_rows (rows_of_tables T) x
    unfolding group_of
    others_now x n =
        let k = place_in T s in
        let old = get_or blocks_were k new in
        ap (λ (gs : List (Group Row)). rows_of_groups (kept (naming x) gs)) blocks_now
        ∙ ap rows_of_groups
        (kept_skips (naming x) new (take k blocks_were) (drop (suc k) blocks_were) (ne_eqb _ _ (λ q. n (sym new_names ∙ q)))
        ∙ sym (kept_skips (naming x) old (take k blocks_were) (drop (suc k) blocks_were) (ne_eqb _ _ (λ q. n (sym old_names ∙ q))))
        ∙ ap (kept (naming x)) (sym (split_at blocks_were k new place_is_inside)))

-- THE LAW
pub others_kept : (T : PerFile (List ℕ)) (s : ℕ) (b : List ℕ) → fine (amend_verdict T s b) ≡ true → OthersKept T s b
others_kept T s b e =
    let x : amend_verdict T s b ≡ Ok tt = fine_is (amend_verdict T s b) e in
    record {
      long = same_length T s b x;
      rows = rows_are T s b x;
      inside = place_is_inside T s b x;
      was_its_own = old_names T s b x;
      is_its_own = new_names T s b x;
      blocks = blocks_now T s b x;
      head = ap (front is_hash_row) (rows_are T s b x) ∙ amended_front (context_in T).form (place_in T s) (rows_were T) b (accepted T s b x).is_one.opens;
      services = services_now T s b x;
      context = same_context (rows_of_tables T) (rows_now T s b) (services_now T s b x);
      own = own_now T s b x;
      others = others_now T s b x;
    }
