-- Laws of rows: words put one after the other into zeros. Assumes nothing.
use Prim.Native.Nat.{ℕ, zero, suc, ◌+◌, ◌-◌, ◌≤◌, ◌<◌}
use mathlib.Core.Path.{◌≡◌, refl, ap, sym, ◌∙◌}
use mathlib.Core.List.{List, [], ◌∷◌, ◌++◌, append-nil, append_assoc}
use native.Mathlib.Omega.{arith}
use native.Mathlib.Numerals.{add-one}
use lib.ListN.{length, get_or, take, drop, set, replicate, length-drop, take-append-drop, length-set, length-append, length-replicate}
use lib.Seq.{take-suc, drop-cons, set_at, length-take-le}
use Rattle.iff.specs.Columns.{Class, Letter, Number, StopNumber, NumberOrAny, Code, Marks, Text, Unread, Field, columns}
use Rattle.iff.specs.Values.{words, field_words, vector_words, words_of, word_count}
use Rattle.iff.specs.Tables.{padded}

-- zeros, with the first word put
pub cleared_length : (m : ℕ) (t : List ℕ) (v : ℕ) → t ≡ replicate m 0 → length (set t 0 v) ≡ m
cleared_length m t v e = rw (length-set, e, length-replicate)

-- the first word
pub put_first : (m : ℕ) (v : ℕ) (t ws : List ℕ) → 0 < m → t ≡ replicate m 0 → set t 0 v ≡ padded m (take 1 (v ∷ ws))
unfolding padded
put_first zero v t ws h e = absurd (omega arith)
put_first (suc m) v t ws h e = let n : suc m - 1 ≡ m = omega arith in rw (e, n)

-- word k, where v is the first that is left
module _ (m : ℕ) (ws : List ℕ) (k v : ℕ) (rest : List ℕ) (e : drop k ws ≡ v ∷ rest) where
  here : k < length ws
  here = omega (arith, length-drop k ws, ap length e)

  both : get_or ws k 0 ∷ drop (suc k) ws ≡ v ∷ rest
  both = sym (drop-cons ws k 0 here) ∙ e

  pub put_rest : drop (k + 1) ws ≡ rest
  put_rest = rw add-one (let b = both in cc)

  pub put_next : (t : List ℕ) → t ≡ padded m (take k ws) → k < m → set t k v ≡ padded m (take (k + 1) ws)
  unfolding padded
  put_next t q h =
      let n : length (take k ws) ≡ k = length-take-le k ws (omega (arith, here)) in
      let l : length (take (suc k) ws) ≡ suc k = length-take-le (suc k) ws here in
      let z : m - k ≡ suc (m - suc k) = omega arith in
      let w : get_or ws k 0 ≡ v = let b = both in cc in
      rw (q, add-one, l, n, z, take-suc ws k 0 here, w, append_assoc) (set_at (take k ws) 0 (replicate (m - suc k) 0) v k n)

-- none is left
pub put_last : (m : ℕ) (ws : List ℕ) (k : ℕ) (t : List ℕ) → t ≡ padded m (take k ws) → drop k ws ≡ [] → t ≡ padded m ws
put_last m ws k t q e = q ∙ ap (padded m) (sym (append-nil (take k ws)) ∙ ap (λ (l : List ℕ). take k ws ++ l) (sym e) ∙ take-append-drop k ws)

-- HOW MANY WORDS
vector_count : (n : ℕ) (s : List ℕ) → length (vector_words n s) ≡ n
unfolding vector_words
vector_count zero s = refl
vector_count (suc n) s = ap suc (vector_count n (drop 64 s))

field_count : (n : ℕ) (k : Class) (s : List ℕ) → length (field_words n k s) ≡ words_of k
unfolding field_words
field_count n Letter s = refl
field_count n Number s = refl
field_count n StopNumber s = refl
field_count n NumberOrAny s = refl
field_count n Code s = refl
field_count n Marks s = vector_count 13 s
field_count n Text s = refl
field_count n Unread s = refl

pub words_length : (n : ℕ) (body : List ℕ) (fs : List Field) → length (words n body fs) ≡ word_count fs
unfolding words
words_length n body [] = refl
words_length n body (f ∷ fs) = rw (length-append, field_count n f.class (columns body f), words_length n body fs)

pub padded_length : (m : ℕ) (ws : List ℕ) → length ws ≤ m → length (padded m ws) ≡ m
unfolding padded
padded_length m ws h = rw (length-append, length-replicate) (omega arith)
