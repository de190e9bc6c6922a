-- Request W12 told question by question: where the answer to each stands, what stays as it was, and that a call with one input ends in one way.
-- Assumes nothing.
use Rattle.std.specs.Prelude.{Err, Ok, Result}
use Prim.Native.Nat.{ℕ, zero, suc, ◌+◌, ◌*◌, ◌^◌, ◌<◌}
use mathlib.Core.Path.{◌≡◌, refl, ap, sym, ◌∙◌}
use mathlib.Core.List.{List, ◌++◌, map, append_assoc}
use mathlib.Core.Bool.{false}
use native.Mathlib.Omega.{arith}
use lib.IntN.{ℤ, pos, negsuc}
use lib.Signed.{mag}
use lib.ListN.{length, take, drop, length-append}
use lib.Seq.{take_at, drop_at, drop-drop}
use Rattle.iff.specs.Files.{PerFile}
use Rattle.iff.specs.Refusals.{first_test, Test}
use Rattle.iff.specs.Tables.{row_at, joined}
use Rattle.iff.specs.declared.Reason.{Reason}
use Rattle.iff.specs.declared.Reason.TheVariants.{NotSound}
use Rattle.iff_desk.specs.Sound.{sound}
use Rattle.iff_desk.specs.Changing.{Side, change}
use Rattle.iff_desk.specs.Sheet.{answer_width, asked, from_at, to_at, answers_by, answers_to, sheet_test}
use Rattle.iff_desk.specs.declared.Change.{Change}
use Rattle.iff_laws.specs.Outcomes.{one_outcome}
use Rattle.change_numbers.specs.Numbers.{change_words}
use Rattle.sheet_answers.specs.Words.{signed_word, sheet_words, answered_in, list_after, sheet_list}

-- AN ANSWER'S WORDS: those of the single question first
pub single_words : (a : Result Change Reason) → take 7 (sheet_words a) ≡ change_words a
unfolding sheet_words
single_words a = refl

eight : (a : Result Change Reason) → length (sheet_words a) ≡ answer_width
unfolding sheet_words
eight a = refl

-- and a gap's word is that of no other gap of 64 bits
pub one_gap : (x y : ℤ) → mag x < 2 ^ 63 → mag y < 2 ^ 63 → signed_word x ≡ signed_word y → x ≡ y
one_gap (pos x) (pos y) h g e = ap pos e
one_gap (pos x) (negsuc y) h g e = absurd (omega arith)
one_gap (negsuc x) (pos y) h g e = absurd (omega arith)
one_gap (negsuc x) (negsuc y) h g e = let z : x ≡ y = omega arith in ap negsuc z

-- THE ANSWERS in the list, one after the other
module _ (answer : Side → Side → Result Change Reason) (qs : List ℕ) where
  abbrev words : ℕ → ℕ → List ℕ
  words q n = joined (map sheet_words (answers_by answer qs q n))

  words_first : (q n : ℕ) → words q (suc n) ≡ sheet_words (answer (from_at qs q) (to_at qs q)) ++ words (suc q) n
  unfolding answers_by joined
  words_first q n = refl

  so_many : (q n : ℕ) → length (words q n) ≡ n * answer_width
  unfolding answers_by joined
  so_many q zero = refl
  so_many q (suc n) =
      let e = eight (answer (from_at qs q) (to_at qs q)) in
      let l = length-append (sheet_words (answer (from_at qs q) (to_at qs q))) (words (suc q) n) in
      omega (arith, l, e, so_many (suc q) n)

  -- the answer to question q + k, before any rest
  answer_in : (q n k : ℕ) (rest : List ℕ) → k < n
      → row_at answer_width (words q n ++ rest) k ≡ sheet_words (answer (from_at qs (q + k)) (to_at qs (q + k)))
  answer_in q zero k rest h = absurd (omega arith)
  answer_in q (suc n) zero rest h =
      let first = sheet_words (answer (from_at qs q) (to_at qs q)) in
      let z : q ≡ q + 0 = omega arith in
      ap (λ x. take answer_width (x ++ rest)) (words_first q n)
      ∙ (ap (take answer_width) (append_assoc first (words (suc q) n) rest)
      ∙ (take_at first (words (suc q) n ++ rest) answer_width (eight (answer (from_at qs q) (to_at qs q)))
      ∙ ap (λ (j : ℕ). sheet_words (answer (from_at qs j) (to_at qs j))) z))
  answer_in q (suc n) (suc k) rest h =
      let first = sheet_words (answer (from_at qs q) (to_at qs q)) in
      let m : suc k * answer_width ≡ answer_width + k * answer_width = omega arith in
      let z : suc q + k ≡ q + suc k = omega arith in
      ap (λ x. take answer_width (drop (suc k * answer_width) (x ++ rest))) (words_first q n)
      ∙ (ap (λ x. take answer_width (drop (suc k * answer_width) x)) (append_assoc first (words (suc q) n) rest)
      ∙ (ap (λ (j : ℕ). take answer_width (drop j (first ++ (words (suc q) n ++ rest)))) m
      ∙ (ap (take answer_width) (sym (drop-drop (k * answer_width) answer_width (first ++ (words (suc q) n ++ rest))))
      ∙ (ap (λ x. take answer_width (drop (k * answer_width) x))
      (drop_at first (words (suc q) n ++ rest) answer_width (eight (answer (from_at qs q) (to_at qs q))))
      ∙ (answer_in (suc q) n k rest (omega arith) ∙ ap (λ (j : ℕ). sheet_words (answer (from_at qs j) (to_at qs j))) z)))))

-- THE CALL
module _ (T : PerFile (List ℕ)) (qs list : List ℕ) where
  -- "each the one that the single question gives"
  pub answer_is : sheet_test T qs list ≡ Ok tt → (q : ℕ) → q < asked qs
      → row_at answer_width (sheet_list T qs list) q ≡ sheet_words (change T (from_at qs q) (to_at qs q))
  unfolding answered_in
  answer_is e q h =
      let z : 0 + q ≡ q = omega arith in
      ap (λ (t : Test). row_at answer_width (list_after t list (answered_in (answers_to T qs) list (asked qs))) q) e
      ∙ (answer_in (change T) qs 0 (asked qs) q (drop (asked qs * answer_width) list) h
      ∙ ap (λ (j : ℕ). sheet_words (change T (from_at qs j) (to_at qs j))) z)

  -- "both write no answer"
  pub none_written : (r : Reason) → sheet_test T qs list ≡ Err r → sheet_list T qs list ≡ list
  none_written r e = ap (λ (t : Test). list_after t list (answered_in (answers_to T qs) list (asked qs))) e

  -- what is behind the answers stays
  pub rest_stays : drop (asked qs * answer_width) (sheet_list T qs list) ≡ drop (asked qs * answer_width) list
  unfolding answered_in
  rest_stays = go (sheet_test T qs list)
    where
      go : (t : Test)
          → drop (asked qs * answer_width) (list_after t list (answered_in (answers_to T qs) list (asked qs))) ≡ drop (asked qs * answer_width) list
      go (Err r) = refl
      go (Ok _) = drop_at (words (change T) qs 0 (asked qs)) (drop (asked qs * answer_width) list) (asked qs * answer_width) (so_many (change T) qs 0 (asked qs))

  -- "16, then 23": tables that are not sound are told whatever the lists are
  pub unsound_first : sound T ≡ false → sheet_test T qs list ≡ Err NotSound
  unfolding sheet_test first_test
  unsound_first e = rw e

  -- "Any two outcomes allowed for one input are proved the same"
  pub one_sheet : {a b : Test} {x y : List ℕ}
      → a ≡ sheet_test T qs list → x ≡ sheet_list T qs list → b ≡ sheet_test T qs list → y ≡ sheet_list T qs list → (a ≡ b) × (x ≡ y)
  one_sheet p u q v = (one_outcome p q, one_outcome u v)
