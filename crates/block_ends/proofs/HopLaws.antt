-- Laws of hops: a part that ends in CR LF has lines of its own, and where there are as many lines as hops, each hop is a line. Assumes nothing.
use Prim.Native.Nat.{ℕ, zero, suc, ◌+◌, ◌-◌, ◌≤◌, ◌<◌}
use mathlib.Core.Path.{◌≡◌, refl, ap, sym, ◌∙◌}
use mathlib.Core.List.{List, [], ◌∷◌, ◌++◌, append_assoc}
use mathlib.Core.Bool.{false}
use native.Mathlib.Nat.{add-zero}
use native.Mathlib.Omega.{arith}
use lib.Dec.{eqb}
use lib.ListN.{length, get_or, take, drop, length-append, length-take, length-drop, take-append-drop}
use lib.Seq.{take-add, take-suc, take-nil, drop-cons, drop-drop, get_or-take, get_or-drop}
use borrow.Author.Tests.{ne_eqb}
use Rattle.iff.specs.Bytes.{hash}
use Rattle.iff.specs.Lists.{front, any}
use Rattle.iff.specs.Lines.{Line, lines, is_hash, width, first_line}
use Rattle.text.proofs.LineLaws.{lines_step, lines_end}
use Rattle.text.proofs.CutLaws.{Closed, closed_end}
use Rattle.block_ends.specs.Blocks.{part, Clean, NextBlock}
use Rattle.block_ends.specs.Hops.{Ending, Hops, Hopped}
use Rattle.block_ends.proofs.GroupLaws.{any_append, front_open, front_nil, behind_first}
use Rattle.block_ends.proofs.PartLaws.{seek_end}

-- A PART THAT ENDS IN CR LF
module _ (t : List ℕ) (at to : ℕ) (e : Ending t at to) where
  part_long : length (part t at to) ≡ to - at
  part_long = omega (arith, e, length-take (to - at) (drop at t), length-drop at t)

  byte_in : (i : ℕ) → get_or (drop at t) (i - at) 0 ≡ get_or t (at + (i - at)) 0
  byte_in i = get_or-drop at t (i - at) 0

  part_ends : part t at to ≡ take (to - at - 2) (drop at t) ++ (13 ∷ 10 ∷ [])
  part_ends =
      let n : to - at ≡ suc (suc (to - at - 2)) = omega (arith, e) in
      let a : at + (to - at - 2) ≡ to - 2 = omega (arith, e) in
      let b : at + suc (to - at - 2) ≡ to - 1 = omega (arith, e) in
      let l = length-drop at t in
      let x : get_or (drop at t) (to - at - 2) 0 ≡ 13 = get_or-drop at t (to - at - 2) 0 ∙ ap (λ (i : ℕ). get_or t i 0) a ∙ e.returns in
      let y : get_or (drop at t) (suc (to - at - 2)) 0 ≡ 10 = get_or-drop at t (suc (to - at - 2)) 0 ∙ ap (λ (i : ℕ). get_or t i 0) b ∙ e.feeds in
      ap (λ (i : ℕ). take i (drop at t)) n ∙ take-suc (drop at t) (suc (to - at - 2)) 0 (omega (arith, e))
      ∙ rw (take-suc (drop at t) (to - at - 2) 0 (omega (arith, e)), x, y, append_assoc)

  pub part_closed : Closed (part t at to)
  part_closed = rw part_ends (closed_end (take (to - at - 2) (drop at t)))

  part_step : lines (part t at to) ≡ first_line (part t at to) ∷ lines (drop (width (part t at to) + 2) (part t at to))
  part_step = lines_step (part t at to) (omega (arith, part_long, e))

  pub part_some : 0 < length (lines (part t at to))
  part_some = omega (arith, ap length part_step)

-- no line behind the first of one
lone : (ls : List Line) → length ls ≤ 1 → any is_hash (drop 1 ls) ≡ false
unfolding any
lone [] h = refl
lone (l ∷ []) h = refl
lone (l ∷ m ∷ ls) h = absurd (omega arith)

-- a list of one
lone_is : (l : Line) (ls ms : List Line) → ls ≡ l ∷ ms → length ls ≤ 1 → ls ≡ l ∷ []
lone_is l ls [] e h = e
lone_is l ls (m ∷ ms) e h = absurd (omega (arith, ap length e))

-- the letter of a first line is the text's first byte, if it has one
not_open : (w : ℕ) (s : List ℕ) → (get_or s 0 0 ≡ hash → ⊥) → eqb (get_or (take w s) 0 0) hash ≡ false
not_open w [] h = rw take-nil
not_open zero (b ∷ s) h = refl
not_open (suc w) (b ∷ s) h = ne_eqb _ _ h

-- HOPS
pub hops_start : (t : List ℕ) (from to : ℕ) → Ending t from to → Hops t from to 1
hops_start t from to e =
    record {
      ending = e;
      least = omega (arith, part_some t from to e);
      single = lone (lines (part t from to));
    }

module _ (t : List ℕ) (from at n to : ℕ) (k : Hops t from at n) (e : Ending t at to) where
  grown : part t from to ≡ part t from at ++ part t at to
  grown =
      let n : to - from ≡ (at - from) + (to - at) = omega (arith, k.ending, e) in
      let d : from + (at - from) ≡ at = omega (arith, k.ending) in
      rw (n, take-add (at - from) (to - at) (drop from t), drop-drop, d)

  lines_grown : lines (part t from to) ≡ lines (part t from at) ++ lines (part t at to)
  lines_grown = rw grown (part_closed t from at k.ending (part t at to))

  sizes : length (lines (part t from to)) ≡ length (lines (part t from at)) + length (lines (part t at to))
  sizes = ap length lines_grown ∙ length-append (lines (part t from at)) (lines (part t at to))

  module _ (x : get_or t at 0 ≡ hash → ⊥) where
    first_plain : is_hash (first_line (part t at to)) ≡ false
    first_plain =
        let b : get_or (part t at to) 0 0 ≡ get_or t at 0 =
        get_or-take (to - at) (drop at t) 0 0 (omega (arith, e)) ∙ get_or-drop at t 0 0 ∙ ap (λ (i : ℕ). get_or t i 0) (add-zero at) in
        not_open (width (part t at to)) (part t at to) (λ z. x (sym b ∙ z))

    single_grown : length (lines (part t from to)) ≤ n + 1 → any is_hash (drop 1 (lines (part t from to))) ≡ false
    unfolding any
    single_grown h =
        let s = part_some t at to e in
        let one : lines (part t at to) ≡ first_line (part t at to) ∷ [] =
        lone_is _ _ _ (part_step t at to e) (omega (arith, sizes, k.least)) in
        let was : any is_hash (drop 1 (lines (part t from at))) ≡ false = k.single (omega (arith, sizes)) in
        let all : lines (part t from to) ≡ lines (part t from at) ++ (first_line (part t at to) ∷ []) = lines_grown ∙ ap (λ (ls : List Line). lines (part t from at) ++ ls) one in
        rw (
          all,
          behind_first is_hash (lines (part t from at)) (first_line (part t at to)) (part_some t from at k.ending),
          any_append is_hash,
          was,
          first_plain,
        )

    pub hops_next : Hops t from to (n + 1)
    hops_next =
        record {
          ending = record { low = omega (arith, k.ending, e); high = e.high; returns = e.returns; feeds = e.feeds };
          least = omega (arith, sizes, k.least, part_some t at to e);
          single = single_grown;
        }

-- A LOOP THAT HOPS, at `at`: so many lines and stops as bytes at most
pub record Hopping (t : List ℕ) (from at n stops : ℕ) : Type 0 where
  pub hops : Hops t from at n
  pub few : n ≤ at
  pub fewer : stops ≤ n

pub hopping_start : (t : List ℕ) (from to : ℕ) → Ending t from to → Hopping t from to 1 0
hopping_start t from to e = record { hops = hops_start t from to e; few = omega (arith, e); fewer = omega arith }

pub hopping_next : (t : List ℕ) (from at n stops : ℕ) → Hopping t from at n stops → (to : ℕ) → Ending t at to → (get_or t at 0 ≡ hash → ⊥)
    → (m : ℕ) → m ≤ 1 → Hopping t from to (n + 1) (stops + m)
hopping_next t from at n stops k to e x m h =
    record { hops = hops_next t from at n to k.hops e x; few = omega (arith, k.few, e); fewer = omega (arith, k.fewer) }

-- WHERE THEY END, at a `#` or at the text's end
open_clean : (s r : List ℕ) → s ≡ hash ∷ r → Clean (lines s)
unfolding width
open_clean s r e =
    rw e (ap (front is_hash) (lines_step (hash ∷ r) (omega arith)) ∙ front_open is_hash (first_line (hash ∷ r)) (lines (drop (width (hash ∷ r) + 2) (hash ∷ r))) refl)

module _ (t : List ℕ) (from to n : ℕ) (k : Hops t from to n) where
  pub hopped_head : to < length t → get_or t to 0 ≡ hash → Hopped t from to n
  hopped_head h x =
      record { hops = k; clean = open_clean (drop to t) (drop (suc to) t) (drop-cons t to 0 h ∙ ap (λ (b : ℕ). b ∷ drop (suc to) t) x) }

  pub hopped_end : length t ≤ to → Hopped t from to n
  hopped_end h = record { hops = k; clean = ap (front is_hash) (lines_end t to h) ∙ front_nil is_hash }

-- AS MANY LINES AS HOPS
pub hops_are_lines : (t : List ℕ) (from to n : ℕ) → Hopped t from to n → length (lines (part t from to)) ≡ n → Clean (lines (drop from t)) → NextBlock t from to
hops_are_lines t from to n k c f =
    let e = k.hops.ending in
    let d : from + (to - from) ≡ to = omega (arith, e) in
    let whole : drop from t ≡ part t from to ++ drop to t = sym (take-append-drop (to - from) (drop from t)) ∙ rw (drop-drop, d) in
    seek_end t from to
    (record {
      low = omega (arith, e);
      high = e.high;
      closed = λ h. part_closed t from to e;
      whole = ap lines whole ∙ part_closed t from to e (drop to t);
      single = k.hops.single (omega arith);
    })
    f
    k.clean
