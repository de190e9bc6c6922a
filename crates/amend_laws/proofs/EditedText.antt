-- Lines that CR LF ends, put together anew: their text has those lines, before any text and behind one that CR LF ends; their sizes make its
-- length, and its bytes are theirs. Laws over plain lists. Assumes nothing.
use Prim.Native.Nat.{ℕ, suc, ◌+◌}
use mathlib.Core.Path.{◌≡◌, refl, ap, sym, ◌∙◌}
use mathlib.Core.List.{List, [], ◌∷◌, ◌++◌, append_assoc, append-nil}
use mathlib.Core.Bool.{Bool, true, false, cond}
use native.Mathlib.Omega.{arith}
use lib.Dec.{lit<}
use lib.ListN.{length, take, drop, length-append}
use lib.Seq.{take_at}
use Rattle.iff.specs.Bytes.{cr, lf}
use Rattle.iff.specs.Lists.{total}
use Rattle.iff.specs.Lines.{Line, lines, text, size, width, first_line}
use Rattle.text.proofs.PackLaws.{Each as EachByte}
use Rattle.text.proofs.CutLaws.{text_lines, closed_end}
use Rattle.text.proofs.LineLaws.{lines_nil, lines_step}
use Rattle.tables.proofs.Each.{Each}
use Rattle.sound_laws.proofs.PlainLaws.{InBytes}
use Rattle.sound_laws.proofs.TextLaws.{length_text, no_byte, with_byte}

abbrev ending : List ℕ
ending = cr ∷ lf ∷ []

-- A LINE OF A TEXT that CR LF ends: alone with its end, it is one line
abbrev pub Ended : Line → Type 0
Ended l = l.ended ≡ true

pub record Whole (l : Line) : Type 0 where
  pub ends : Ended l
  pub alone : lines (l.body ++ ending) ≡ l ∷ []

text_cons : (l : Line) (ls : List Line) → Ended l → text (l ∷ ls) ≡ (l.body ++ ending) ++ text ls
unfolding text
text_cons l ls e = rw (e, append_assoc)

-- the lines behind the first are those of their own text
lines_behind : (s : List ℕ) (l : Line) (ls : List Line) → lines s ≡ l ∷ ls → lines (text ls) ≡ ls
lines_behind [] l ls e = absurd (let q : ◌≡◌ {A = ℕ} 0 (suc (length ls)) = ap length (sym lines_nil ∙ e) in omega arith)
lines_behind (b ∷ s) l ls e =
    let t : List ℕ = b ∷ s in
    let q : first_line t ∷ lines (drop (width t + 2) t) ≡ l ∷ ls = sym (lines_step t (omega arith)) ∙ e in
    let z : lines (drop (width t + 2) t) ≡ ls = ap (drop 1) q in
    ap (λ (ms : List Line). lines (text ms)) (sym z) ∙ ap lines (text_lines (drop (width t + 2) t)) ∙ z

first_whole : (s : List ℕ) (l : Line) (ls : List Line) → lines s ≡ l ∷ ls → Ended l → Whole l
first_whole s l ls e h =
    let q : s ≡ (l.body ++ ending) ++ text ls = sym (text_lines s) ∙ ap text e ∙ text_cons l ls h in
    let z : lines (l.body ++ ending) ++ ls ≡ l ∷ ls =
    ap (λ (ms : List Line). lines (l.body ++ ending) ++ ms) (sym (lines_behind s l ls e))
    ∙ sym (closed_end l.body (text ls)) ∙ ap lines (sym q) ∙ e in
    let n : length (lines (l.body ++ ending)) ≡ 1 = omega (arith, ap length z, length-append (lines (l.body ++ ending)) ls) in
    record { ends = h; alone = sym (take_at (lines (l.body ++ ending)) ls 1 n) ∙ ap (take 1) z }

pub lines_whole : (ls : List Line) (s : List ℕ) → lines s ≡ ls → Each Ended ls → Each Whole ls
lines_whole [] s e u = tt
lines_whole (l ∷ ls) s e u = (first_whole s l ls e u.0, lines_whole ls (text ls) (lines_behind s l ls e) u.1)

-- LINES OF TEXTS, before any text
pub lines_before : (ls : List Line) (t : List ℕ) → Each Whole ls → lines (text ls ++ t) ≡ ls ++ lines t
unfolding text
lines_before [] t u = refl
lines_before (l ∷ ls) t u =
    let q : text (l ∷ ls) ++ t ≡ (l.body ++ ending) ++ (text ls ++ t) =
    ap (λ (s : List ℕ). s ++ t) (text_cons l ls u.0.ends) ∙ append_assoc (l.body ++ ending) (text ls) t in
    ap lines q ∙ closed_end l.body (text ls ++ t) ∙ rw (u.0.alone, lines_before ls t u.1)

pub lines_of_text : (ls : List Line) → Each Whole ls → lines (text ls) ≡ ls
lines_of_text ls u = ap lines (sym (append-nil (text ls))) ∙ lines_before ls [] u ∙ rw (lines_nil, append-nil)

-- a text between some lines and others
module _ (xs ys : List Line) (b : List ℕ) (u : Each Whole xs) (v : Each Ended (lines b)) (w : Each Whole ys) where
  pub lines_between : lines (text xs ++ (b ++ text ys)) ≡ xs ++ (lines b ++ ys)
  lines_between =
      let q : b ++ text ys ≡ text (lines b) ++ text ys = ap (λ (s : List ℕ). s ++ text ys) (sym (text_lines b)) in
      lines_before xs (b ++ text ys) u
      ∙ ap (λ (ms : List Line). xs ++ ms)
      (ap lines q ∙ lines_before (lines b) (text ys) (lines_whole (lines b) b refl v) ∙ ap (λ (ms : List Line). lines b ++ ms) (lines_of_text ys w))

  pub length_between : length (text xs ++ (b ++ text ys)) ≡ total size xs + length b + total size ys
  length_between =
      omega (arith, length-append (text xs) (b ++ text ys), length-append b (text ys), length_text xs, length_text ys)

-- BYTES
pub append_bytes : (s t : List ℕ) → EachByte 256 s → EachByte 256 t → EachByte 256 (s ++ t)
append_bytes [] t p q = q
append_bytes (b ∷ s) t p q = with_byte b (s ++ t) (p 0) (append_bytes s t (λ i. p (suc i)) q)

pub text_bytes : (ls : List Line) → Each InBytes ls → EachByte 256 (text ls)
unfolding text
text_bytes [] u = no_byte
text_bytes (l ∷ ls) u = append_bytes l.body _ u.0 (go l.ended (text_bytes ls u.1))
  where
    go : (t : Bool) → EachByte 256 (text ls) → EachByte 256 (cond t (cr ∷ lf ∷ text ls) (text ls))
    go true p = with_byte cr (lf ∷ text ls) (lit< tt) (with_byte lf (text ls) (lit< tt) p)
    go false p = p
