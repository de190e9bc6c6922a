-- TIMETBLS, its frame and its blocks together: what each way out of the tests says. Assumes nothing.
use Rattle.std.specs.Prelude.{None, Option, Some}
use Prim.Native.Nat.{ℕ, ◌*◌, ◌<◌}
use mathlib.Core.Path.{◌≡◌, refl, ap, sym, ◌∙◌}
use mathlib.Core.List.{List}
use mathlib.Core.Bool.{Bool, true, false, ◌&&◌, and-false, and-true}
use native.Mathlib.Omega.{arith}
use lib.ListN.{length, drop}
use Rattle.iff.specs.Bytes.{at}
use Rattle.iff.specs.Tables.{Row, tag, row_at, row_width, rows_in, all_zero, keys_of}
use Rattle.iff.specs.declared.File.TheVariants.{Timetbls}
use Rattle.iff.specs.declared.Form.{Form}
use Rattle.iff_rules.specs.Rows.{Context}
use Rattle.iff_desk.specs.Sound.{sound_timetbls, distinct}
use Rattle.keys.specs.Blocks.{rows_between}
use Rattle.keys.specs.Lookup.{keys_among}
use Rattle.fresh_keys.proofs.Runs.{and_left, and_right}
use Rattle.slots.specs.Slots.{Index}
use Rattle.walks.proofs.TableLaws.{parted}
use Rattle.sound_timetbls.specs.Told.{BlocksTold}
use Rattle.sound_frames.specs.Frames.{framed_rows, framed}
use Rattle.sound_frames.proofs.FrameLaws.{later_keys, not_distinct, some_rows}
use Rattle.references.specs.declared.BlockCounts.{BlockCounts}
use Rattle.references.specs.Agree.{BlockKeysAmong}
use Rattle.sound_behind.specs.Behind.{behind, BlocksJudged}
use Rattle.sound_timetbls.specs.declared.SoundBlocks.{SoundBlocks}

-- what is told of blocks, by the number of rows that they tell
pub by_number : (counts : BlockCounts) (co mo st fo t : List ℕ) (used n : ℕ) → n ≡ used → (qs : List ℕ) (r : Option SoundBlocks)
    → BlocksTold counts co mo st fo t used qs r → BlocksTold counts co mo st fo t n qs r
by_number counts co mo st fo t used n e qs r told = rw e told

pub some_rows_told : (n used : ℕ) → n ≡ used → 0 < used → 0 < n
some_rows_told n used e h = omega arith

module _ (t : List ℕ) (used : ℕ) (e : used ≡ length (rows_in Timetbls t)) (h : 0 < used) (form : Form) (delivery : Row) (c : Context) where
  abbrev later : List Row
  later = rows_between (row_width Timetbls) t 1 used

  behind_first : behind c Timetbls (rows_in Timetbls t) ≡ sound_timetbls c later
  unfolding behind
  behind_first = rw (parted Timetbls t used e h)

  -- the frame's rows, or the whole frame
  pub rows_refused : false ≡ framed_rows form delivery Timetbls (rows_in Timetbls t)
      → false ≡ (framed form delivery Timetbls t && behind c Timetbls (rows_in Timetbls t))
  unfolding framed
  rows_refused q = rw (sym q)

  pub frame_refused : false ≡ framed form delivery Timetbls t
      → false ≡ (framed form delivery Timetbls t && behind c Timetbls (rows_in Timetbls t))
  frame_refused q = rw (sym q)

  -- the blocks and their services, behind a first line's row
  module _ (q : tag (row_at (row_width Timetbls) t 0) ≡ at) where
    pub services_are : keys_among Timetbls used t ≡ keys_of Timetbls later
    services_are = later_keys Timetbls t used e h q

    pub blocks_refused : false ≡ (sound_timetbls c later && distinct (keys_among Timetbls used t))
        → false ≡ (framed form delivery Timetbls t && behind c Timetbls (rows_in Timetbls t))
    blocks_refused n = go (sound_timetbls c later) refl
      where
        go : (b : Bool) → sound_timetbls c later ≡ b → false ≡ (framed form delivery Timetbls t && behind c Timetbls (rows_in Timetbls t))
        go true s =
            let d : distinct (keys_of Timetbls later) ≡ false =
            ap distinct (sym services_are) ∙ ap (λ b. b && distinct (keys_among Timetbls used t)) (sym s) ∙ sym n in
            rows_refused (not_distinct Timetbls t used e form delivery h d)
        go false s = rw (behind_first ∙ s, and-false)

    -- where both are as they should be, the frame says all
    module _ (y : true ≡ (sound_timetbls c later && distinct (keys_among Timetbls used t))) where
      pub services_distinct : distinct (keys_of Timetbls later) ≡ true
      services_distinct = ap distinct (sym services_are) ∙ and_right (sound_timetbls c later) _ (sym y)

      pub by_frame : all_zero (drop (used * row_width Timetbls) t) ≡ true
          → framed_rows form delivery Timetbls (rows_in Timetbls t) ≡ (framed form delivery Timetbls t && behind c Timetbls (rows_in Timetbls t))
      by_frame z =
          some_rows Timetbls t used e form delivery z
          ∙ sym (ap (λ b. framed form delivery Timetbls t && b) (behind_first ∙ and_left (sound_timetbls c later) _ (sym y))
          ∙ and-true (framed form delivery Timetbls t))

-- what is told
module _ (counts : BlockCounts) (co mo st fo : List ℕ) (form : Form) (delivery : Row) (t qs : List ℕ) where
  abbrev Whole : Context → Bool
  Whole c = framed form delivery Timetbls t && behind c Timetbls (rows_in Timetbls t)

  pub wrong : ((c : Context) → BlockKeysAmong c counts co mo st fo → false ≡ Whole c) → BlocksJudged counts co mo st fo form delivery t qs None
  wrong s =
      record {
        says = s;
        rows = λ n x e. absurd (let z : ◌≡◌ {A = ℕ} 0 1 = cc in omega arith);
        index = λ n x e y. absurd (let z : ◌≡◌ {A = ℕ} 0 1 = cc in omega arith);
      }

  pub right : (used : ℕ) (told : Bool) → used ≡ length (rows_in Timetbls t)
      → (told ≡ true → Index Timetbls t (length (rows_in Timetbls t)) (length qs) qs)
      → ((c : Context) → BlockKeysAmong c counts co mo st fo → true ≡ Whole c)
      → BlocksJudged counts co mo st fo form delivery t qs (Some (used, told))
  right used told e i s =
      record {
        says = s;
        rows = λ n x q. let z : ◌≡◌ {A = ℕ × Bool} (used, told) (n, x) = cc in sym (ap (λ p. p.0) z) ∙ e;
        index = λ n x q y. let z : ◌≡◌ {A = ℕ × Bool} (used, told) (n, x) = cc in i (ap (λ p. p.1) z ∙ y);
      }
