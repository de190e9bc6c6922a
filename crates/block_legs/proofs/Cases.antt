-- A block that is legible and whose legs are right: what `are_right` asks can be met. And P9, of rows. Assumes nothing.
use Prim.Native.Nat.{ℕ}
use mathlib.Core.Path.{◌≡◌, refl}
use mathlib.Core.List.{List, [], ◌∷◌, ◌++◌}
use mathlib.Core.Bool.{true, false}
use lib.ListN.{replicate}
use lib.Dec.{lit<, lit≤}
use Rattle.iff.specs.Bytes.{allowed, digit}
use Rattle.iff.specs.Lists.{all, any, all2, kept, total}
use Rattle.iff.specs.Lines.{lines, before}
use Rattle.iff.specs.Columns.{form424, record_fields, record_of, block_record, fields_of, picture_from, column, figure}
use Rattle.iff.specs.Values.{value, words, field_words, field_right, readable}
use Rattle.iff.specs.Tables.{Row, padded}
use Rattle.iff_rules.specs.Legs.{covered, reach_of, in_range, legs}
use Rattle.iff_rules.specs.Rows.{block_row, block_rows_from, block_rows, as_block}
use Rattle.records.specs.Layouts.{legible}
use Rattle.block_legs.specs.Sight.{LegibleBlock}

-- two stops, and one record of each kind that covers the leg between them
abbrev block : List ℕ
block =
    35 ∷ 48 ∷ 48 ∷ 48 ∷ 48 ∷ 48 ∷ 48 ∷ 48 ∷ 49 ∷ 13 ∷ 10
    ∷ 37 ∷ 48 ∷ 48 ∷ 49 ∷ 44 ∷ 48 ∷ 48 ∷ 48 ∷ 48 ∷ 49 ∷ 44 ∷ 32 ∷ 32 ∷ 32 ∷ 32 ∷ 32 ∷ 32 ∷ 32 ∷ 44 ∷ 48 ∷ 48 ∷ 48 ∷ 44 ∷ 57 ∷ 57 ∷ 57 ∷ 44
    ∷ (replicate 30 32
    ++ (13 ∷ 10
    ∷ 45 ∷ 48 ∷ 48 ∷ 48 ∷ 48 ∷ 48 ∷ 44 ∷ 48 ∷ 48 ∷ 49 ∷ 44 ∷ 57 ∷ 57 ∷ 57 ∷ 13 ∷ 10
    ∷ 38 ∷ 73 ∷ 67 ∷ 32 ∷ 32 ∷ 44 ∷ 48 ∷ 48 ∷ 48 ∷ 44 ∷ 48 ∷ 48 ∷ 50 ∷ 13 ∷ 10
    ∷ 62 ∷ 97 ∷ 115 ∷ 100 ∷ 32 ∷ 32 ∷ 32 ∷ 32 ∷ 44 ∷ 48 ∷ 57 ∷ 48 ∷ 48 ∷ 13 ∷ 10
    ∷ 60 ∷ 117 ∷ 116 ∷ 32 ∷ 32 ∷ 32 ∷ 32 ∷ 32 ∷ 44 ∷ 48 ∷ 57 ∷ 51 ∷ 48 ∷ 13 ∷ 10
    ∷ []))

legible_block : LegibleBlock (form424 0) block 2
unfolding allowed digit all any all2 kept lines before record_fields record_of block_record fields_of picture_from column figure field_right readable
    legible
legible_block = record { some = lit< tt; stops = refl; few = lit≤ tt; each = refl }

right_block : legs reach_of (block_rows (form424 0) (as_block block)) ≡ true
unfolding all any kept total lines before record_fields record_of block_record fields_of value words field_words padded covered in_range legs block_row
    block_rows_from
right_block = refl

-- P9, five stops: "001-004 with 004-005 covers; 001-003 with 004-005 lacks leg 3; 001-004 with 003-005 has it twice."
abbrev train : ℕ → ℕ → Row
train first last = 37 ∷ 100 ∷ 1 ∷ first ∷ last ∷ 0 ∷ 2 ∷ []

p9_covers : covered 4 (train 1 4 ∷ train 4 5 ∷ []) ≡ true
unfolding covered total
p9_covers = refl

p9_lacks : covered 4 (train 1 3 ∷ train 4 5 ∷ []) ≡ false
unfolding covered total
p9_lacks = refl

p9_twice : covered 4 (train 1 4 ∷ train 3 5 ∷ []) ≡ false
unfolding covered total
p9_twice = refl
