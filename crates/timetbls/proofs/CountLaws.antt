-- How many rows and services the table has: none while it is zero, and as many after the first line's row was told whether they rise. Assumes nothing.
use Prim.Native.Nat.{ℕ, zero, suc, ◌/◌}
use mathlib.Core.Path.{◌≡◌, refl, ap, sym, ◌∙◌}
use mathlib.Core.List.{List, [], ◌∷◌, map}
use mathlib.Core.Bool.{Bool, true, false, cond}
use native.Mathlib.Omega.{arith}
use lib.Dec.{eqb}
use lib.ListN.{length, get_or, set, take, drop, replicate, length-set}
use lib.Seq.{get_or-set_other, drop-set-lt, get_or-take}
use Rattle.iff.specs.Lists.{kept}
use Rattle.iff.specs.Tables.{Row, word, tag, row_width, rows_up_to, rows_in, key_tag, key_word, keys_of}
use Rattle.iff.specs.declared.File.TheVariants.{Timetbls}
use Rattle.tables.proofs.Filled.{fill_none, rows_in_fill}
use Rattle.keys.specs.Lookup.{keys_in}
use Rattle.block_rows.proofs.RowLaws.{keys_nil}
use Rattle.block_walks.specs.Blocks.{Counted}

-- A TABLE OF ZEROS
pub none_counted : (t : List ℕ) → t ≡ replicate (length t) 0 → Counted t 0 0
none_counted t e =
    let none : rows_in Timetbls t ≡ [] =
    ap (rows_in Timetbls) (e ∙ sym (fill_none (row_width Timetbls) (length t)))
    ∙ rows_in_fill (row_width Timetbls) (omega arith) (length t) [] tt (omega arith) in
    record { rows = ap length (sym none); services = ap length (sym (ap (keys_of Timetbls) none ∙ keys_nil)) }

-- A WORD OF THE FIRST ROW, which is not its tag, is another
abbrev width : ℕ
width = row_width Timetbls

-- as many keys of rows the first of which has the same tag
same_keys : (r q : Row) (rs : List Row) → tag r ≡ tag q → length (keys_of Timetbls (r ∷ rs)) ≡ length (keys_of Timetbls (q ∷ rs))
unfolding kept
same_keys r q rs e = rw e (go (eqb (tag q) (key_tag Timetbls)))
  where
    behind : List Row
    behind = kept (λ p. eqb (tag p) (key_tag Timetbls)) rs

    go : (b : Bool)
        → length (map (λ p. word p (key_word Timetbls)) (cond b (r ∷ behind) behind))
        ≡ length (map (λ p. word p (key_word Timetbls)) (cond b (q ∷ behind) behind))
    go true = refl
    go false = refl

module _ (x : ℕ) where
  same_tag : (t : List ℕ) → get_or (set t 5 x) 0 0 ≡ get_or t 0 0
  same_tag t = get_or-set_other t 5 0 x 0 (λ e. absurd (omega (arith, e)))

  row_tag : (t : List ℕ) → tag (take width (set t 5 x)) ≡ tag (take width t)
  row_tag t = get_or-take width (set t 5 x) 0 0 (omega arith) ∙ same_tag t ∙ sym (get_or-take width t 0 0 (omega arith))

  rows_same : (n : ℕ) (t : List ℕ) → length (rows_up_to width n (set t 5 x)) ≡ length (rows_up_to width n t)
  unfolding rows_up_to
  rows_same zero t = refl
  rows_same (suc n) t = rw (same_tag, drop-set-lt width t 5 x (omega arith)) (go (eqb (get_or t 0 0) 0))
    where
      go : (b : Bool)
          → length (cond b [] (take width (set t 5 x) ∷ rows_up_to width n (drop width t)))
          ≡ length (cond b [] (take width t ∷ rows_up_to width n (drop width t)))
      go true = refl
      go false = refl

  keys_same : (n : ℕ) (t : List ℕ) → length (keys_of Timetbls (rows_up_to width n (set t 5 x))) ≡ length (keys_of Timetbls (rows_up_to width n t))
  unfolding rows_up_to
  keys_same zero t = refl
  keys_same (suc n) t = rw (same_tag, drop-set-lt width t 5 x (omega arith)) (go (eqb (get_or t 0 0) 0))
    where
      go : (b : Bool)
          → length (keys_of Timetbls (cond b [] (take width (set t 5 x) ∷ rows_up_to width n (drop width t))))
          ≡ length (keys_of Timetbls (cond b [] (take width t ∷ rows_up_to width n (drop width t))))
      go true = refl
      go false = same_keys (take width (set t 5 x)) (take width t) (rows_up_to width n (drop width t)) (row_tag t)

  pub still_counted : (t done : List ℕ) (n m : ℕ) → Counted t n m → done ≡ set t 5 x → Counted done n m
  still_counted t done n m k e =
      let as_long = length-set t 5 x in
      record {
        rows =
            k.rows ∙ sym (rows_same (length t / width) t)
            ∙ sym (ap (λ (d : List ℕ). length (rows_in Timetbls d)) e ∙ ap (λ (i : ℕ). length (rows_up_to width (i / width) (set t 5 x))) as_long);
        services =
            k.services ∙ sym (keys_same (length t / width) t)
            ∙ sym
            (ap (λ (d : List ℕ). length (keys_in Timetbls d)) e
            ∙ ap (λ (i : ℕ). length (keys_of Timetbls (rows_up_to width (i / width) (set t 5 x)))) as_long);
      }
