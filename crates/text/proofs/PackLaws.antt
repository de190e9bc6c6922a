-- Laws of the words that a row keeps: numbers, codes and vectors, at any width. They speak of the definitions alone. Assumes nothing.
use Prim.Native.Nat.{ℕ, zero, suc, ◌+◌, ◌-◌, ◌*◌, ◌/◌, ◌%◌, ◌^◌, ◌≤◌, ◌<◌}
use mathlib.Core.Path.{◌≡◌, refl, ap, sym, ◌∙◌}
use mathlib.Core.List.{List, [], ◌∷◌, ◌++◌, reverse, reverse_aux, reverse-cons}
use mathlib.Core.Bool.{Bool, true, false, ◌||◌, cond}
use native.Mathlib.Nat.{add-zero, add-mul, one-mul, mul_assoc, mul-le-mul_right, pow-zero, pow-suc, pow-succ', one-le-pow, div-one, zero-div, div-eq_of_lt, mod-eq_of_lt, mul-add-div_right, mul-add-mod_self_right, div-div-eq-div-mul}
use native.Mathlib.Omega.{arith}
use lib.Dec.{eqb, leb, ltb, lit<}
use lib.ListN.{length, get_or, take, drop, length-take, length-drop, get_or-eq_default}
use lib.Seq.{ext_get_or, get_or-take, drop-drop}
use borrow.Author.Tests.{eqb-true, leb-true, ltb-true, ltb-false, lt-ltb}
use Rattle.iff.specs.Bytes.{allowed, digit, zero_or_one}
use Rattle.iff.specs.Lists.{all}
use Rattle.iff.specs.Values.{value, number_of, code_of, all_blank, bits, vector_words, code_bytes, code_right, vector_right}
use Rattle.text.proofs.PictureLaws.{and_left, and_right, all_at, all_rest, all_reverse}

-- every byte below n: what a slice's type says of its bytes
abbrev pub Each : ℕ → List ℕ → Type 0
Each n s = (i : ℕ) → get_or s i 0 < n

-- every byte above `off` is a figure of the base
abbrev pub Figures : ℕ → ℕ → List ℕ → Type 0
Figures base off s = (i : ℕ) → get_or s i 0 - off < base

pub digit_is : (b : ℕ) → digit b ≡ true → (48 ≤ b) × (b ≤ 57)
unfolding digit
digit_is b e = (leb-true 48 b (and_left (leb 48 b) _ e), leb-true b 57 (and_right (leb 48 b) _ e))

digits_in : (s : List ℕ) → all digit s ≡ true → Figures 10 48 s
digits_in s e i = go (ltb i (length s)) refl
  where
    go : (t : Bool) → ltb i (length s) ≡ t → get_or s i 0 - 48 < 10
    go true q = omega (arith, digit_is (get_or s i 0) (all_at digit s e i (ltb-true _ _ q)))
    go false q = rw (get_or-eq_default s 0 {n = i} (ltb-false _ _ q)) (lit< tt)

-- BOUNDED: a value is below the base's power
below : (base off acc : ℕ) (s : List ℕ) → Figures base off s → value base off acc s < (acc + 1) * base ^ length s
unfolding value
below base off acc [] p = rw pow-zero (omega arith)
below base off acc (b ∷ s) p =
    let m : acc * base + (b - off) + 1 ≤ (acc + 1) * base = rw (add-mul, one-mul) (omega (arith, p 0)) in
    let r = mul-le-mul_right (base ^ length s) m in
    rw (pow-succ', ← mul_assoc) (omega (arith, below base off (acc * base + (b - off)) s (λ i. p (suc i))))

pub code_below : (s : List ℕ) → Each 256 s → code_of s < 256 ^ length s
code_below s p = omega (arith, below 256 0 0 s (λ i. omega (arith, p i)))

pub number_below : (s : List ℕ) → all digit s ≡ true → number_of s < 10 ^ length s
number_below s e = omega (arith, below 10 48 0 s (digits_in s e))

-- INJECTIVE: fields of one width with one value are one field
parted : (base a b x y : ℕ) → x < base → y < base → a * base + x ≡ b * base + y → (a ≡ b) × (x ≡ y)
parted base a b x y hx hy e =
    let z : 0 < base = omega arith in
    let qx : (a * base + x) / base ≡ a = mul-add-div_right z a x ∙ rw (div-eq_of_lt hx, add-zero) in
    let qy : (b * base + y) / base ≡ b = mul-add-div_right z b y ∙ rw (div-eq_of_lt hy, add-zero) in
    let rx : (a * base + x) % base ≡ x = mul-add-mod_self_right a base x ∙ mod-eq_of_lt hx in
    let ry : (b * base + y) % base ≡ y = mul-add-mod_self_right b base y ∙ mod-eq_of_lt hy in
    (sym qx ∙ ap (λ (k : ℕ). k / base) e ∙ qy, sym rx ∙ ap (λ (k : ℕ). k % base) e ∙ ry)

same_figures : (base off a b : ℕ) (s t : List ℕ) → length s ≡ length t → Figures base off s → Figures base off t
    → value base off a s ≡ value base off b t → (a ≡ b) × ((i : ℕ) → get_or s i 0 - off ≡ get_or t i 0 - off)
unfolding value
same_figures base off a b [] [] n p q e = (e, λ i. refl)
same_figures base off a b [] (y ∷ t) n p q e = absurd (omega arith)
same_figures base off a b (x ∷ s) [] n p q e = absurd (omega arith)
same_figures base off a b (x ∷ s) (y ∷ t) n p q e =
    go (same_figures base off (a * base + (x - off)) (b * base + (y - off)) s t (omega arith) (λ i. p (suc i)) (λ i. q (suc i)) e)
  where
    each : x - off ≡ y - off → ((i : ℕ) → get_or s i 0 - off ≡ get_or t i 0 - off) → (i : ℕ) → get_or (x ∷ s) i 0 - off ≡ get_or (y ∷ t) i 0 - off
    each k r zero = k
    each k r (suc i) = r i

    go : (a * base + (x - off) ≡ b * base + (y - off)) × ((i : ℕ) → get_or s i 0 - off ≡ get_or t i 0 - off)
        → (a ≡ b) × ((i : ℕ) → get_or (x ∷ s) i 0 - off ≡ get_or (y ∷ t) i 0 - off)
    go r =
        let k = parted base a b (x - off) (y - off) (p 0) (q 0) r.0 in
        (k.0, each k.1 r.1)

pub code_same : (s t : List ℕ) → length s ≡ length t → Each 256 s → Each 256 t → code_of s ≡ code_of t → s ≡ t
code_same s t n p q e =
    let f = same_figures 256 0 0 0 s t n (λ i. omega (arith, p i)) (λ i. omega (arith, q i)) e in
    ext_get_or 0 s t n (λ i h. omega (arith, f.1 i))

pub number_same : (s t : List ℕ) → length s ≡ length t → all digit s ≡ true → all digit t ≡ true → number_of s ≡ number_of t → s ≡ t
number_same s t n p q e =
    let f = same_figures 10 48 0 0 s t n (digits_in s p) (digits_in t q) e in
    ext_get_or 0 s t n
    (λ i h. omega (arith, f.1 i, digit_is (get_or s i 0) (all_at digit s p i h), digit_is (get_or t i 0) (all_at digit t q i (omega arith))))

-- UNPACKED: the bytes of a field's code are the field's, the last first
last : (n acc b : ℕ) → b < 256 → code_bytes (suc n) (acc * 256 + (b - 0)) ≡ b ∷ code_bytes n acc
unfolding code_bytes
last n acc b h =
    let r : (acc * 256 + (b - 0)) % 256 ≡ b = omega arith in
    let q : (acc * 256 + (b - 0)) / 256 ≡ acc = omega arith in
    rw (r, q)

unpack : (n acc : ℕ) (s : List ℕ) → Each 256 s → code_bytes (length s + n) (value 256 0 acc s) ≡ reverse_aux s (code_bytes n acc)
unfolding value
unpack n acc [] p = ap (λ (k : ℕ). code_bytes k acc) (omega arith)
unpack n acc (b ∷ s) p =
    let k : suc (length s) + n ≡ length s + suc n = omega arith in
    rw k (unpack (suc n) (acc * 256 + (b - 0)) s (λ i. p (suc i)) ∙ ap (reverse_aux s) (last n acc b (p 0)))

pub code_unpacks : (s : List ℕ) → Each 256 s → code_bytes (length s) (code_of s) ≡ reverse s
unfolding code_bytes
code_unpacks s p = ap (λ (k : ℕ). code_bytes k (code_of s)) (sym (add-zero (length s))) ∙ unpack 0 0 s p

pub value_append : (base off acc : ℕ) (s t : List ℕ) → value base off acc (s ++ t) ≡ value base off (value base off acc s) t
unfolding value
value_append base off acc [] t = refl
value_append base off acc (b ∷ s) t = value_append base off (acc * base + (b - off)) s t

-- and what a code of the width unpacks to packs to it again
pub code_packs : (n w : ℕ) → w < 256 ^ n → code_of (reverse (code_bytes n w)) ≡ w
unfolding value code_bytes
code_packs zero w h = omega (arith, rw pow-zero at h)
code_packs (suc n) w h =
    let k : w / 256 < 256 ^ n = omega (arith, rw pow-suc at h) in
    ap code_of (reverse-cons (w % 256) (code_bytes n (w / 256)))
    ∙ value_append 256 0 0 (reverse (code_bytes n (w / 256))) (w % 256 ∷ [])
    ∙ rw (code_packs n (w / 256) k) (omega arith)

-- a code's field that is right leaves a word that is right
pub code_right_lem : (s : List ℕ) → Each 256 s → all allowed s ≡ true → all_blank s ≡ false → code_right (length s) (code_of s) ≡ true
unfolding code_right
code_right_lem s p a b = rw (code_unpacks s p, all_reverse, all_reverse, lt-ltb (code_of s) (256 ^ length s) (code_below s p), a, b)

-- MARKS: a mark counts for at most one bit, and what stands beyond the end for none
mark_low : (b : ℕ) → zero_or_one b ≡ true → b - 48 ≤ 1
unfolding zero_or_one
mark_low b e = go (eqb b 48) refl e
  where
    go : (t : Bool) → eqb b 48 ≡ t → (t || eqb b 49) ≡ true → b - 48 ≤ 1
    go true q e' = omega (arith, eqb-true b 48 q)
    go false q e' = omega (arith, eqb-true b 49 e')

pub mark_at : (n : ℕ) (s : List ℕ) → all zero_or_one (take n s) ≡ true → (i : ℕ) → i < n → get_or s i 0 - 48 ≤ 1
mark_at n s e i h = go (ltb i (length s)) refl
  where
    go : (t : Bool) → ltb i (length s) ≡ t → get_or s i 0 - 48 ≤ 1
    go true q =
        let l : i < length s = ltb-true _ _ q in
        let k : i < length (take n s) = rw length-take (omega arith) in
        mark_low (get_or s i 0) (rw get_or-take at (all_at zero_or_one (take n s) e i k))
    go false q = rw (get_or-eq_default s 0 {n = i} (ltb-false _ _ q)) (omega arith)

bits_none : (n : ℕ) → bits n [] ≡ 0
unfolding bits
bits_none zero = refl
bits_none (suc n) = refl

pub bits_at : (n : ℕ) (s : List ℕ) → bits (suc n) s ≡ (get_or s 0 0 - 48) + 2 * bits n (drop 1 s)
unfolding bits
bits_at n [] = omega (arith, bits_none n)
bits_at n (b ∷ s) = refl

-- a word of marks is below 2 to their number, and to the number of those there are
pub bits_below : (n : ℕ) (s : List ℕ) → all zero_or_one s ≡ true → bits n s < 2 ^ n
unfolding bits all
bits_below zero s e = lit< tt
bits_below (suc n) [] e = omega (arith, one-le-pow (suc n) 2 (lit< tt))
bits_below (suc n) (b ∷ s) e =
    rw pow-suc (omega (arith, mark_low b (and_left (zero_or_one b) _ e), bits_below n s (and_right (zero_or_one b) _ e)))

pub bits_short : (n : ℕ) (s : List ℕ) → all zero_or_one s ≡ true → bits n s < 2 ^ length s
unfolding bits all
bits_short zero s e = omega (arith, one-le-pow (length s) 2 (lit< tt))
bits_short (suc n) [] e = lit< tt
bits_short (suc n) (b ∷ s) e =
    rw pow-suc (omega (arith, mark_low b (and_left (zero_or_one b) _ e), bits_short n s (and_right (zero_or_one b) _ e)))

-- bit i is mark i
pub bit_is : (n : ℕ) (s : List ℕ) → all zero_or_one s ≡ true → (i : ℕ) → i < n → bits n s / 2 ^ i % 2 ≡ get_or s i 0 - 48
unfolding bits all
bit_is zero s e i h = absurd (omega arith)
bit_is (suc n) [] e i h = rw zero-div
bit_is (suc n) (b ∷ s) e zero h = rw (pow-zero, div-one) (omega (arith, mark_low b (and_left (zero_or_one b) _ e)))
bit_is (suc n) (b ∷ s) e (suc i) h =
    let k : ((b - 48) + 2 * bits n s) / 2 ≡ bits n s = omega (arith, mark_low b (and_left (zero_or_one b) _ e)) in
    rw (pow-succ', ← div-div-eq-div-mul, k) (bit_is n s (and_right (zero_or_one b) _ e) i (omega arith))

-- word k of a vector has the marks from 64 k on
pub vector_word : (n : ℕ) (s : List ℕ) (k : ℕ) → k < n → get_or (vector_words n s) k 0 ≡ bits 64 (drop (k * 64) s)
unfolding vector_words
vector_word zero s k h = absurd (omega arith)
vector_word (suc n) s zero h = refl
vector_word (suc n) s (suc k) h =
    let e : 64 + k * 64 ≡ suc k * 64 = omega arith in
    vector_word n (drop 64 s) k (omega arith) ∙ rw (drop-drop, e)

-- a vector of marks leaves words that are right
pub vector_right_lem : (n : ℕ) (s : List ℕ) → all zero_or_one s ≡ true → vector_right n (length s) (vector_words n s) ≡ true
unfolding vector_right vector_words
vector_right_lem zero s e = refl
vector_right_lem (suc n) s e = rw (word (leb 64 (length s)) refl, ← length-drop) (vector_right_lem n (drop 64 s) (all_rest zero_or_one 64 s e))
  where
    word : (t : Bool) → leb 64 (length s) ≡ t → ltb (bits 64 s) (2 ^ cond (leb 64 (length s)) 64 (length s)) ≡ true
    word true q = rw q (lt-ltb (bits 64 s) (2 ^ 64) (bits_below 64 s e))
    word false q = rw q (lt-ltb (bits 64 s) (2 ^ length s) (bits_short 64 s e))
