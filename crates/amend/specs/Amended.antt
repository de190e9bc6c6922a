-- What an amendment promises.
use Rattle.std.specs.Prelude.{ℕ, ◌*◌, ◌<◌, ◌≡◌, List, true, cond, length, drop}
use Rattle.iff.specs.Files.{PerFile}
use Rattle.iff.specs.Refusals.{answer, fine, Answer, Verdict}
use Rattle.iff.specs.Tables.{row_width, fill, rows_in, all_zero, keys_of}
use Rattle.iff.specs.declared.File.TheVariants.{Delivery, Timetbls}
use Rattle.iff_rules.specs.Rows.{Context, form_of, first_of}
use Rattle.iff_desk.specs.Amend.{place_of, amended_rows, amend_answer, amend_timetbls}
use Rattle.references.specs.Agree.{BlockKeys}
use Rattle.amend_tests.specs.Judged.{Judgeable, edit_verdict}

-- what soundness gives it
pub record SoundThere (d t : List ℕ) : Type 0 where
  pub held : 0 < length (rows_in Delivery d)
  pub judgeable : Judgeable (form_of (first_of (rows_in Delivery d))) t
  pub unused : all_zero (drop (length (rows_in Timetbls t) * row_width Timetbls) t) ≡ true

-- the tests after 16 of TIMETBLS, and TIMETBLS after a verdict
abbrev pub verdict_there : Context → List ℕ → ℕ → List ℕ → Verdict
verdict_there c t s b = edit_verdict c (rows_in Timetbls t) (length t) s b

abbrev pub amended_there : Context → List ℕ → ℕ → List ℕ → List ℕ
amended_there c t s b = fill (row_width Timetbls) (length t) (amended_rows c.form (place_of s (rows_in Timetbls t)) (rows_in Timetbls t) b)

-- whatever context agrees with the lent tables
pub record AmendedThere (d co mo st fo t : List ℕ) (s : ℕ) (b : List ℕ) (r : Answer) (is : List ℕ) : Type 0 where
  pub answers :
      (c : Context) → c.form ≡ form_of (first_of (rows_in Delivery d)) → c.keys Timetbls ≡ keys_of Timetbls (rows_in Timetbls t)
      → BlockKeys c co mo st fo → r ≡ answer (verdict_there c t s b) c.form.days (length (c.keys Timetbls))
  pub leaves :
      (c : Context) → c.form ≡ form_of (first_of (rows_in Delivery d)) → c.keys Timetbls ≡ keys_of Timetbls (rows_in Timetbls t)
      → BlockKeys c co mo st fo → is ≡ cond (fine (verdict_there c t s b)) (amended_there c t s b) t

-- THE CONTRACT
pub record Amended (T : PerFile (List ℕ)) (s : ℕ) (b : List ℕ) (r : Answer) (t : List ℕ) : Type 0 where
  pub answer : r ≡ amend_answer T s b
  pub table : t ≡ amend_timetbls T s b
