-- AN ACCEPTED AMENDMENT: what each of its tests says, the table that is written, the rows that it holds, and the services of these. Assumes nothing.
use Rattle.std.specs.Prelude.{Err, Ok}
use Prim.Native.Nat.{ℕ, suc, ◌*◌, ◌≤◌}
use mathlib.Core.Path.{◌≡◌, refl, ap, sym, ◌∙◌}
use mathlib.Core.List.{List}
use mathlib.Core.Bool.{true, false≢true}
use native.Mathlib.Omega.{arith}
use native.Mathlib.Nat.{le-div_iff_mul-le}
use lib.ListN.{length, get_or, take}
use borrow.Author.Tests.{leb-true}
use Rattle.iff.specs.Lists.{has}
use Rattle.iff.specs.Files.{PerFile, limit}
use Rattle.iff.specs.Refusals.{fine, Verdict}
use Rattle.iff.specs.Tables.{Row, row_width, fill, rows_in, keys_of}
use Rattle.iff.specs.declared.File.TheVariants.{Timetbls}
use Rattle.iff_rules.specs.Rows.{as_block, Context, context_of}
use Rattle.iff_rules.specs.Load.{block_verdict}
use Rattle.iff_laws.specs.ScanLaws.{no_fault_all, unless_passes, verdict_fine}
use Rattle.iff_desk.specs.Sound.{rows_of_tables, sound}
use Rattle.iff_desk.specs.Amend.{table_blocks, place_of, edited_length, edited_lines, amend_verdict, amended_rows, amend_timetbls}
use Rattle.tables.proofs.Each.{Each}
use Rattle.tables.proofs.Rows.{Used, table_rows_used}
use Rattle.tables.proofs.Widths.{widths}
use Rattle.tables.proofs.Filled.{rows_in_fill, length_fill}
use Rattle.amend_laws.proofs.NewBlock.{OneBlock, one_block, new_block, row_names, rows_in_use}
use Rattle.amend_laws.proofs.AmendedRows.{service_in, place_inside, place_names, amended_keys, amended_each, amended_length}

pub fine_is : (v : Verdict) → fine v ≡ true → v ≡ Ok tt
fine_is (Ok _) e = refl
fine_is (Err fault) e = absurd (false≢true e)

-- an amendment's tables, a service and a block: the rules' context, the rows of TIMETBLS, the service's place, and the rows after it
module _ (T : PerFile (List ℕ)) where
  abbrev pub context_in : Context
  context_in = context_of (rows_of_tables T)

  abbrev pub rows_were : List Row
  rows_were = rows_in Timetbls T.timetbls

  abbrev pub place_in : ℕ → ℕ
  place_in s = place_of s rows_were

  abbrev pub rows_after : ℕ → List ℕ → List Row
  rows_after s b = amended_rows context_in.form (place_in s) rows_were b

module _ (T : PerFile (List ℕ)) (s : ℕ) (b : List ℕ) where
  abbrev c : Context
  c = context_in T

  abbrev rs : List Row
  rs = rows_were T

  abbrev k : ℕ
  k = place_in T s

  abbrev rows : List Row
  rows = rows_after T s b

  -- what each of its tests says
  pub record Accepted : Type 0 where
    pub was_sound : sound T ≡ true
    pub is_one : OneBlock s b
    pub is_named_lem : has s (keys_of Timetbls rs) ≡ true
    pub short : edited_length c k rs b ≤ limit
    pub roomy : edited_lines k rs b * row_width Timetbls ≤ length T.timetbls
    pub right : block_verdict c (take k (keys_of Timetbls rs)) (suc k) (as_block b) ≡ Ok tt

  pub accepted : amend_verdict T s b ≡ Ok tt → Accepted
  unfolding amend_verdict context_of
  accepted e =
      record {
        was_sound = unless_passes _ _ (verdict_fine _ _ (no_fault_all _ e 0 (omega arith)));
        is_one = one_block s b (unless_passes _ _ (verdict_fine _ _ (no_fault_all _ e 1 (omega arith))));
        is_named_lem = unless_passes _ _ (verdict_fine _ _ (no_fault_all _ e 2 (omega arith)));
        short = leb-true _ _ (unless_passes _ _ (verdict_fine _ _ (no_fault_all _ e 3 (omega arith))));
        roomy = (le-div_iff_mul-le (widths Timetbls).some).0 (leb-true _ _ (unless_passes _ _ (verdict_fine _ _ (no_fault_all _ e 4 (omega arith)))));
        right = no_fault_all _ e 5 (omega arith);
      }

  module _ (e : amend_verdict T s b ≡ Ok tt) where
    a : Accepted
    a = accepted e

    pub same_service : service_in (new_block c.form b) ≡ service_in (get_or (table_blocks rs) k (new_block c.form b))
    same_service =
        row_names c.form (as_block b) a.is_one.opens.0 ∙ a.is_one.number_is
        ∙ sym (place_names s rs a.is_named_lem (new_block c.form b))

    -- the table that is written, and its rows
    pub table_is : amend_timetbls T s b ≡ fill (row_width Timetbls) (length T.timetbls) rows
    unfolding amend_timetbls
    table_is = rw e

    pub used : Each (Used (row_width Timetbls)) rows
    used =
        amended_each c.form k rs b (Used (row_width Timetbls)) (table_rows_used (row_width Timetbls) (widths Timetbls).some T.timetbls)
        (rows_in_use c (take k (keys_of Timetbls rs)) (suc k) (as_block b) a.right)

    pub as_lines : length rows ≡ edited_lines k rs b
    as_lines = amended_length c.form k rs b a.is_one.is

    fits : length rows * row_width Timetbls ≤ length T.timetbls
    fits = rw as_lines a.roomy

    pub rows_are : rows_in Timetbls (amend_timetbls T s b) ≡ rows
    rows_are = ap (rows_in Timetbls) table_is ∙ rows_in_fill (row_width Timetbls) (widths Timetbls).some (length T.timetbls) rows used fits

    pub keys_are : keys_of Timetbls rows ≡ keys_of Timetbls rs
    keys_are =
        amended_keys c.form k rs b a.is_one.opens (new_block c.form b) (place_inside s rs a.is_named_lem) same_service

    -- as long as it was
    pub same_length : length (amend_timetbls T s b) ≡ length T.timetbls
    same_length = ap length table_is ∙ length_fill (row_width Timetbls) (length T.timetbls) rows used fits
