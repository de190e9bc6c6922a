-- A service's lines by their bounds.
use Rattle.std.specs.Prelude.{ℕ, List, Bool, ◌&&◌, cond, length, drop, None, Ok, Option, Some}
use Rattle.iff.specs.Lines.{Line, lines, is_hash}
use Rattle.iff.specs.declared.Reason.TheVariants.{NoService}
use Rattle.iff_desk.specs.Parts.{seek_after, head_at, inner, is_one_block}
use Rattle.parts.specs.Bounds.{no_part}
use Rattle.parts.specs.declared.Part.{Part}

-- a line that may follow a block's first: ended, and beginning neither `#` nor `@`
unfoldable pub follows : Line → Bool
follows l = l.ended && inner l

-- a service's lines, to the next block or the end
abbrev pub end_at : List ℕ → Option ℕ → ℕ
end_at t (Some j) = j
end_at t None = length t

abbrev pub lines_from : List ℕ → Option ℕ → Part
lines_from t (Some i) = record { test = Ok tt; from = i; to = end_at t (seek_after is_hash i (lines (drop i t))) }
lines_from t None = no_part NoService

unfoldable pub lines_part : List ℕ → ℕ → Part
lines_part t service = lines_from t (head_at t service)

-- LINES NOW: the text that has them, and where
abbrev pub text_now : List ℕ → List ℕ → ℕ → List ℕ
text_now t block service = cond (is_one_block service (lines block)) block t

abbrev pub part_now : List ℕ → List ℕ → ℕ → Part
part_now t block service = cond (is_one_block service (lines block)) (record { test = Ok tt; from = 0; to = length block }) (lines_part t service)
