-- The lines of a text: their bytes are the text's, their lengths make its length, and there are some where it is not empty. Assumes nothing.
use Prim.Native.Nat.{ℕ, zero, suc, ◌+◌, ◌<◌}
use mathlib.Core.Path.{◌≡◌, refl, ap, sym, ◌∙◌}
use mathlib.Core.List.{List, [], ◌∷◌, ◌++◌}
use mathlib.Core.Bool.{Bool, true, false, cond}
use native.Mathlib.Omega.{arith}
use lib.Dec.{ltb, lit<}
use lib.ListN.{length, length-append}
use borrow.Author.Tests.{lt-ltb}
use Rattle.iff.specs.Bytes.{cr, lf}
use Rattle.iff.specs.Lists.{total}
use Rattle.iff.specs.Lines.{Line, crlf, before, lines, text, size}
use Rattle.text.proofs.PackLaws.{Each as EachByte}
use Rattle.text.proofs.CutLaws.{text_lines}
use Rattle.text.proofs.LineLaws.{lines_step}
use Rattle.tables.proofs.Each.{Each}
use Rattle.sound_laws.proofs.PlainLaws.{InBytes}

-- BYTES
pub with_byte : (b : ℕ) (s : List ℕ) → b < 256 → EachByte 256 s → EachByte 256 (b ∷ s)
with_byte b s h p zero = h
with_byte b s h p (suc i) = p i

pub no_byte : EachByte 256 []
no_byte i = lit< tt

before_bytes : (b : ℕ) (ls : List Line) → b < 256 → Each InBytes ls → Each InBytes (before b ls)
unfolding before
before_bytes b [] h u = (with_byte b [] h no_byte, tt)
before_bytes b (l ∷ ls) h u = (with_byte b l.body h u.0, u.1)

pub lines_bytes : (s : List ℕ) → EachByte 256 s → Each InBytes (lines s)
unfolding lines
lines_bytes [] p = tt
lines_bytes (b ∷ []) p = before_bytes b [] (p 0) tt
lines_bytes (b ∷ c ∷ s) p =
    go (crlf b c) (lines_bytes s (λ i. p (suc (suc i)))) (before_bytes b (lines (c ∷ s)) (p 0) (lines_bytes (c ∷ s) (λ i. p (suc i))))
  where
    go : (t : Bool) → Each InBytes (lines s) → Each InBytes (before b (lines (c ∷ s)))
        → Each InBytes (cond t (record { body = []; ended = true } ∷ lines s) (before b (lines (c ∷ s))))
    go true u v = (no_byte, u)
    go false u v = v

-- LENGTH
pub length_text : (ls : List Line) → length (text ls) ≡ total size ls
unfolding text total
length_text [] = refl
length_text (l ∷ ls) = go l.ended (length_text ls)
  where
    go : (t : Bool) → length (text ls) ≡ total size ls
        → length (l.body ++ cond t (cr ∷ lf ∷ text ls) (text ls)) ≡ length l.body + cond t 2 0 + total size ls
    go true e = rw length-append (omega arith)
    go false e = rw length-append (omega arith)

pub length_lines : (s : List ℕ) → length s ≡ total size (lines s)
length_lines s = ap length (sym (text_lines s)) ∙ length_text (lines s)

-- PRESENT
pub some_lines : (s : List ℕ) → ltb 0 (length (lines s)) ≡ ltb 0 (length s)
unfolding lines
some_lines [] = refl
some_lines (b ∷ s) =
    let h : 0 < length (lines (b ∷ s)) = omega (arith, ap length (lines_step (b ∷ s) (omega arith))) in
    lt-ltb 0 _ h ∙ sym (lt-ltb 0 (length (b ∷ s)) (omega arith))
