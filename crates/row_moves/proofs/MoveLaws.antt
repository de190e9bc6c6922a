-- Words moved, and zeros behind them. Assumes nothing.
use Prim.Native.Nat.{ℕ, ◌+◌, ◌-◌, ◌≤◌, ◌<◌}
use mathlib.Core.Path.{◌≡◌, ap, sym, ◌∙◌}
use mathlib.Core.List.{List, ◌++◌, append_assoc}
use mathlib.Core.Bool.{true}
use native.Mathlib.Omega.{arith}
use lib.ListN.{length, take, drop, replicate, length-drop, take-append-drop, replicate-append-replicate}
use lib.Seq.{drop-drop, take_at, drop_at, length-take-le, length_paste_head}
use Rattle.std.specs.List.{copy_within}
use Rattle.iff.specs.Tables.{all_zero}
use Rattle.tables.proofs.Filled.{all_zeros, drop_replicate}
use Rattle.row_moves.specs.Moves.{copied, moved, Movable}

-- std's word for words copied
pub copied_is : (t : List ℕ) (from end to : ℕ) → copy_within t from end to ≡ copied t from to (end - from)
unfolding copied
copied_is t from end to = append_assoc (take to t) (take (end - from) (drop from t)) (drop (to + (end - from)) t)

-- what is zero from a on is zero from b on
zeros_behind : (t : List ℕ) (a b : ℕ) → a ≤ b → all_zero (drop a t) ≡ true → drop b t ≡ replicate (length t - b) 0
zeros_behind t a b h z =
    let d : a + (b - a) ≡ b = omega arith in
    let m : length t - a - (b - a) ≡ length t - b = omega arith in
    let e : drop b t ≡ drop (b - a) (drop a t) = rw (drop-drop, d) in
    e ∙ ap (drop (b - a)) (all_zeros (drop a t) z) ∙ rw (length-drop, drop_replicate, m)

module _ (t : List ℕ) (from end to : ℕ) (m : Movable t from end to) where
  -- TOWARDS THE BACK nothing was in use behind the new end
  pub moved_back : from ≤ to → copied t from to (end - from) ≡ moved t from end to
  unfolding copied moved
  moved_back h = rw (zeros_behind t end (to + (end - from)) (omega (arith, m.ordered)) m.unused)

  -- words copied to their own places
  copied_nowhere : from ≡ to → t ≡ copied t from to (end - from)
  unfolding copied
  copied_nowhere e = rw (e, ← drop-drop, take-append-drop, take-append-drop)

  pub moved_nowhere : from ≡ to → t ≡ moved t from end to
  moved_nowhere e = copied_nowhere e ∙ moved_back (omega arith)

  -- TOWARDS THE FRONT the places from the new end to the old are cleared
  module _ (low : to < from) (is : List ℕ) (c : is ≡ copied t from to (end - from)) where
    head_length : length (take to t ++ take (end - from) (drop from t)) ≡ to + (end - from)
    head_length = length_paste_head t to (drop from t) (end - from) (omega (arith, m.roomy)) (rw length-drop (omega (arith, m.ordered, m.lies)))

    parts : is ≡ (take to t ++ take (end - from) (drop from t)) ++ drop (to + (end - from)) t
    unfolding copied
    parts = c ∙ rw append_assoc

    pub moved_front : (last : ℕ) → last ≡ to + (end - from) → (cleared : List ℕ)
        → cleared ≡ replicate (length (take (end - last) (drop last is))) 0
        → take last is ++ (cleared ++ drop (end - last) (drop last is)) ≡ moved t from end to
    unfolding moved
    moved_front last l cleared z =
        let f : take last is ≡ take to t ++ take (end - from) (drop from t) =
        ap (take last) parts ∙ take_at (take to t ++ take (end - from) (drop from t)) (drop (to + (end - from)) t) last (head_length ∙ sym l) in
        let d : drop last is ≡ drop last t =
        ap (drop last) parts
        ∙ drop_at (take to t ++ take (end - from) (drop from t)) (drop (to + (end - from)) t) last (head_length ∙ sym l)
        ∙ rw l in
        let n : length (take (end - last) (drop last t)) ≡ end - last =
        length-take-le (end - last) (drop last t) (rw length-drop (omega (arith, m.lies))) in
        let b : last + (end - last) ≡ end = omega (arith, m.ordered) in
        let s : end - last + (length t - end) ≡ length t - (to + (end - from)) = omega (arith, m.ordered, m.lies) in
        rw (z, f, d, n, drop-drop, b, zeros_behind t end end (omega arith) m.unused, append_assoc, replicate-append-replicate, s)
