-- Laws of loops over one field: the wildcard, its value in a base, its marks as bits. Assumes nothing.
use Prim.Native.Nat.{ℕ, suc, ◌+◌, ◌-◌, ◌*◌, ◌^◌, ◌≤◌, ◌<◌}
use mathlib.Core.Path.{◌≡◌, refl, sym, ◌∙◌}
use mathlib.Core.List.{List, [], ◌∷◌}
use mathlib.Core.Bool.{Bool, true, false}
use native.Mathlib.Nat.{add-zero, pow-suc, pow-le-pow_right, mul-le-mul_left}
use native.Mathlib.Omega.{arith}
use native.Mathlib.Numerals.{add-one}
use lib.Dec.{eqb, lit<}
use lib.ListN.{length, get_or, take, drop, replicate, drop_of_length-le}
use lib.Seq.{drop-cons, get_or-drop, drop-drop, take-length}
use borrow.Author.Tests.{eq-eqb, ne_eqb, eqb-true, eqb-false}
use Rattle.iff.specs.Bytes.{blank, asterisk, zero_or_one}
use Rattle.iff.specs.Lists.{all, all2, same}
use Rattle.iff.specs.Values.{value, wildcard, is_wildcard, bits}
use Rattle.text.proofs.PackLaws.{mark_at, bits_at}

-- THE WILDCARD: its first byte, and blanks
eqb_comm : (a b : ℕ) → eqb a b ≡ eqb b a
eqb_comm a b = go (eqb b a) refl
  where
    go : (t : Bool) → eqb b a ≡ t → eqb a b ≡ t
    go true e = eq-eqb a b (sym (eqb-true b a e))
    go false e = ne_eqb a b (λ q. eqb-false b a e (sym q))

blanks_same : (s : List ℕ) → all (eqb blank) s ≡ same s (replicate (length s) blank)
unfolding all all2
blanks_same [] = refl
blanks_same (b ∷ s) = rw (eqb_comm blank b, blanks_same s)

pub wild_none : (s : List ℕ) → length s ≡ 0 → false ≡ is_wildcard s
unfolding wildcard all2
wild_none [] e = refl
wild_none (b ∷ s) e = absurd (omega arith)

pub wild_other : (s : List ℕ) → (get_or s 0 0 ≡ asterisk → ⊥) → false ≡ is_wildcard s
unfolding wildcard all2
wild_other [] q = refl
wild_other (b ∷ s) q = rw (ne_eqb b asterisk q)

pub wild_rest : (s : List ℕ) → (length s ≡ 0 → ⊥) → get_or s 0 0 ≡ asterisk → all (eqb blank) (take (length s - 1) (drop 1 s)) ≡ is_wildcard s
unfolding wildcard all2
wild_rest [] h q = absurd (h refl)
wild_rest (b ∷ s) h q =
    let k : suc (length s) - 1 ≡ length s = omega arith in
    rw (eq-eqb b asterisk q, k, take-length) (blanks_same s)

-- A VALUE IN A BASE, at i
abbrev pub Valued : ℕ → ℕ → List ℕ → ℕ → ℕ → Type 0
Valued base off s i acc = (i ≤ length s) × (acc < 256 ^ i) × (value base off 0 s ≡ value base off acc (drop i s))

pub valued_end : (base off : ℕ) (s : List ℕ) (i acc : ℕ) → length s ≤ i → Valued base off s i acc → acc ≡ value base off 0 s
unfolding value
valued_end base off s i acc h v = sym (v.2 ∙ rw (drop_of_length-le s h))

-- the next number stays below the next power
next_below : (k base acc d : ℕ) → base ≤ 256 → d < 256 → acc < 256 ^ k → acc * base + d < 256 ^ (k + 1)
next_below k base acc d hb hd ha = rw (add-one, pow-suc) (omega (arith, mul-le-mul_left acc hb))

-- and fits eight bytes
pub next_fits : (k base acc d : ℕ) → base ≤ 256 → d < 256 → acc < 256 ^ k → k < 8 → acc * base + d < 2 ^ 64
next_fits k base acc d hb hd ha hk =
    let p : 256 ^ (k + 1) ≤ 256 ^ 8 = pow-le-pow_right (lit< tt) {i = k + 1} {j = 8} (omega arith) in
    omega (arith, next_below k base acc d hb hd ha)

pub valued_next : (base off : ℕ) (s : List ℕ) (i acc d : ℕ) → base ≤ 256 → d < 256 → d ≡ get_or s i 0 - off → i < length s → Valued base off s i acc
    → Valued base off s (i + 1) (acc * base + d)
unfolding value
valued_next base off s i acc d hb hd e h v = (omega arith, next_below i base acc d hb hd v.1, v.2 ∙ there)
  where
    there : value base off acc (drop i s) ≡ value base off (acc * base + d) (drop (i + 1) s)
    there = rw (add-one, drop-cons s i 0 h, e)

-- MARKS AS BITS, the last read first, at i
abbrev pub Marked : List ℕ → ℕ → ℕ → Type 0
Marked s i word = (i ≤ 64) × (word < 2 ^ (64 - i)) × (word ≡ bits (64 - i) (drop i s))

pub marked_none : (s : List ℕ) → Marked s 64 0
unfolding bits
marked_none s = (omega arith, lit< tt, refl)

-- before the mark at i is read there is room for it
pub marked_room : (s : List ℕ) (i word : ℕ) → 0 < i → Marked s i word → word * 2 < 2 ^ 64
marked_room s i word h l =
    let p : 2 ^ suc (64 - i) ≤ 2 ^ 64 = pow-le-pow_right (lit< tt) {i = suc (64 - i)} {j = 64} (omega arith) in
    omega (arith, rw pow-suc at p)

-- a mark is one bit
module _ (s : List ℕ) (i word d : ℕ) (m : all zero_or_one (take 64 s) ≡ true) (h : 0 < i) (e : d ≡ get_or s (i - 1) 0 - 48) (l : Marked s i word) where
  one_bit : word * 2 + d < 2 ^ suc (64 - i)
  one_bit = rw pow-suc (omega (arith, mark_at 64 s m (i - 1) (omega arith)))

  next : bits (suc (64 - i)) (drop (i - 1) s) ≡ (get_or s (i - 1) 0 - 48) + 2 * bits (64 - i) (drop i s)
  next =
      let n : i - 1 + 1 ≡ i = omega arith in
      bits_at (64 - i) (drop (i - 1) s) ∙ rw (get_or-drop, add-zero, drop-drop, n)

  pub marked_fits : word * 2 + d < 2 ^ 64
  marked_fits =
      let p : 2 ^ suc (64 - i) ≤ 2 ^ 64 = pow-le-pow_right (lit< tt) {i = suc (64 - i)} {j = 64} (omega arith) in
      omega (arith, one_bit)

  pub marked_next : Marked s (i - 1) (word * 2 + d)
  marked_next =
      let k : 64 - (i - 1) ≡ suc (64 - i) = omega arith in
      (omega arith, rw k one_bit, rw k (omega (arith, next)))

pub marked_all : (s : List ℕ) (i word : ℕ) → i ≤ 0 → Marked s i word → word ≡ bits 64 s
marked_all s i word h l = let z : i ≡ 0 = omega arith in rw z at l.2
