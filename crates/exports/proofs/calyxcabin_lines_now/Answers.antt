-- `calyxcabin_lines_now` meets its contract: it is the block, or `service_lines::lines_part`'s, in numbers. Assumes nothing.
use Rattle.std.specs.Prelude.{Ok}
use Prim.Native.Nat.{ℕ}
use mathlib.Core.Path.{◌≡◌, sym, ◌∙◌, ap, subst}
use mathlib.Core.List.{List}
use mathlib.Core.Bool.{Bool, true, false, cond}
use native.Mathlib.Omega.{arith}
use lib.ListN.{length}
use Rattle.iff.specs.Lines.{lines}
use Rattle.iff_desk.specs.Parts.{is_one_block}
use Rattle.question_numbers.specs.Numbers.{lines_words}
use Rattle.parts.specs.Bounds.{Inside}
use Rattle.parts.specs.declared.Part.{Part}
use Rattle.service_lines.specs.Bounds.{lines_part, part_now}
use Rattle.service_lines.proofs.LinesLaws.{now_holds, now_tested}
use Rattle.exports.specs.Exported.{LinesInNumbers}
use Rattle.exports.proofs.calyxcabin_lines_now.Goals as goal

-- a part of the block, or of the text, in numbers
abbrev words_of : Bool → Part → List ℕ
words_of b p = lines_words p.test b p.from p.to

abbrev whole : List ℕ → Part
whole block = record { test = Ok tt; from = 0; to = length block }

module _ (t block : List ℕ) (s : ℕ) (words : List ℕ) where
  told : (b : Bool) → is_one_block s (lines block) ≡ b → words ≡ words_of b (cond b (whole block) (lines_part t s))
      → Inside (cond b block t) (cond b (whole block) (lines_part t s)) → LinesInNumbers t block s words
  told b p e i =
      record {
        answers =
            e
            ∙ ap (λ v. words_of v (cond v (whole block) (lines_part t s))) (sym p)
            ∙ ap (λ x. lines_words x (is_one_block s (lines block)) (part_now t block s).from (part_now t block s).to) (now_tested t block s);
        inside = subst (λ v. Inside (cond v block t) (cond v (whole block) (lines_part t s))) (sym p) i;
        part = now_holds t block s;
      }

pub returns-then-is_one_block : goal.returns-then-is_one_block
returns-then-is_one_block c =
    let a = c.args in
    told a.text.now a.block.now a.service _ true (sym c.is_one_block.ensures ∙ c.if-is_one_block.true) c.lines_words.ensures
    (record { low = omega arith; high = omega arith })

pub returns : goal.returns
returns c =
    let part = c.lines_part-part.ensures in
    let a = c.args in
    told a.text.now a.block.now a.service _ false (sym c.is_one_block.ensures ∙ c.if-is_one_block.false)
    (c.lines_words-2.ensures ∙ ap (words_of false) part.0)
    (subst (Inside a.text.now) part.0 part.1)
