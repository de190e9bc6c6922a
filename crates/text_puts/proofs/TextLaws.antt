-- Laws of text put together in a buffer. Assumes nothing.
use Prim.Native.Nat.{ℕ, zero, suc, ◌+◌, ◌-◌, ◌/◌, ◌<◌, ◌≤◌}
use mathlib.Core.Path.{◌≡◌, refl, ap, sym, ◌∙◌}
use mathlib.Core.List.{List, [], ◌∷◌, ◌++◌, append_assoc}
use native.Mathlib.Omega.{arith}
use native.Mathlib.Numerals.{add-one}
use borrow.Author.Tests.{lt-ltb, le-ltb}
use lib.ListN.{length, take, set, length-set}
use lib.Seq.{take-nil, length-take-le}
use Rattle.text_puts.specs.Texts.{Appended, Front, last_digit, digits}

-- what is cut off does not come back
cut_front : (n : ℕ) (a b : List ℕ) → take n (take n a ++ b) ≡ take n (a ++ b)
cut_front zero a b = refl
cut_front (suc n) [] b = refl
cut_front (suc n) (x ∷ a) b = ap (λ (l : List ℕ). x ∷ l) (cut_front n a b)

-- a text at the front of a buffer
pub at_front : {a b x : List ℕ} {j : ℕ} → Appended a 0 x b j → Front j b
at_front {a} {b} {x} {j} p =
    let h : j ≤ length b = p.within (omega arith) in
    (h, sym (length-take-le j b h))

-- one text behind another
pub then : {a b c x y : List ℕ} {i j k : ℕ} → Appended a i x b j → Appended b j y c k → Appended a i (x ++ y) c k
then {a} {b} {c} {x} {y} {i} {j} {k} p q =
    record {
      text = q.text ∙ rw (p.kept, p.text, cut_front (length a) (take i a ++ x) y, append_assoc (take i a) x y);
      kept = q.kept ∙ p.kept;
      within = λ h. q.within (p.within h);
    }

-- a byte, where there is room for it and where not
set_front : (t : List ℕ) (at b : ℕ) → at < length t → take (suc at) (set t at b) ≡ take (length t) (take at t ++ (b ∷ []))
set_front [] at b h = absurd (omega arith)
set_front (x ∷ t) zero b h = ap (λ (l : List ℕ). b ∷ l) (sym (take-nil (length t)))
set_front (x ∷ t) (suc at) b h = ap (λ (l : List ℕ). x ∷ l) (set_front t at b (omega arith))

pub byte_put : (t : List ℕ) (at b : ℕ) → at < length t → Appended t at (b ∷ []) (set t at b) (at + 1)
byte_put t at b h = record { text = rw add-one (set_front t at b h); kept = length-set t at b; within = λ _. rw length-set (omega arith) }

full_front : (t : List ℕ) (at b : ℕ) → length t ≤ at → take at t ≡ take (length t) (take at t ++ (b ∷ []))
full_front [] zero b h = refl
full_front [] (suc at) b h = refl
full_front (x ∷ t) zero b h = absurd (omega arith)
full_front (x ∷ t) (suc at) b h = ap (λ (l : List ℕ). x ∷ l) (full_front t at b (omega arith))

pub no_room : (t : List ℕ) (at b : ℕ) → length t ≤ at → Appended t at (b ∷ []) t at
no_room t at b h = record { text = full_front t at b h; kept = refl; within = λ g. g }

-- A NUMBER'S DIGITS
one_digit : (k n : ℕ) → n < 10 → digits k n ≡ last_digit n ∷ []
unfolding digits
one_digit zero n h = refl
one_digit (suc k) n h = rw (lt-ltb n 10 h)

no_depth : (k n : ℕ) → k ≡ 0 → digits k n ≡ last_digit n ∷ []
unfolding digits
no_depth k n e = rw e

a_tenth : (k n : ℕ) → ((k ≡ 0) → ⊥) → 10 ≤ n → digits k n ≡ digits (k - 1) (n / 10) ++ (last_digit n ∷ [])
unfolding digits
a_tenth zero n e h = absurd (e refl)
a_tenth (suc k) n e h =
    let m : suc k - 1 ≡ k = omega arith in
    rw (le-ltb n 10 h, m)

module _ {a c : List ℕ} {i j last : ℕ} (k n : ℕ) (l : last ≡ last_digit n) where
  pub only_digit : k ≡ 0 → Appended a i (last ∷ []) c j → Appended a i (digits k n) c j
  only_digit e p = rw (no_depth k n e, ← l) p

  pub small_number : n < 10 → Appended a i (last ∷ []) c j → Appended a i (digits k n) c j
  small_number h p = rw (one_digit k n h, ← l) p

  pub more_digits : {b : List ℕ} {m : ℕ} →
      ((k ≡ 0) → ⊥) → 10 ≤ n → Appended a i (digits (k - 1) (n / 10)) b m → Appended b m (last ∷ []) c j → Appended a i (digits k n) c j
  more_digits e h p q = rw (a_tenth k n e h, ← l) (then p q)
