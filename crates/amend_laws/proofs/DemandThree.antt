-- LAW: AN AMENDMENT IS A LOAD OF THE EDITED TEXT. Of a delivery that was accepted, and a service that its tables hold: the amendment of the tables
-- answers what a load of the edited text answers, the same number at the same place or the same days and services; and where it is accepted, its
-- tables are that load's. Over the definitions alone; it assumes that the files' bytes are bytes, and nothing else.
use Rattle.std.specs.Prelude.{None, Ok}
use Prim.Native.Nat.{ℕ, suc}
use mathlib.Core.Path.{◌≡◌, refl, ap, sym, subst, ◌∙◌}
use mathlib.Core.List.{List, [], ◌∷◌}
use mathlib.Core.Bool.{Bool, true, cond}
use lib.ListN.{length, take, replicate}
use Rattle.iff.specs.Lists.{has}
use Rattle.iff.specs.Files.{PerFile}
use Rattle.iff.specs.Refusals.{first_fault, fine, answer, Verdict}
use Rattle.iff.specs.Lines.{lines}
use Rattle.iff.specs.Tables.{Row, row_width, fill, keys_of}
use Rattle.iff.specs.declared.File.TheVariants.{Timetbls}
use Rattle.iff.specs.declared.Form.{Form}
use Rattle.iff.specs.declared.Reason.TheVariants.{NotOneBlock, NoService, NotSound}
use Rattle.iff_rules.specs.Rows.{as_block, rows_of_lines, rows_of_files, delivery_rows, form_of, first_of, Context, context_of}
use Rattle.iff_rules.specs.References.{names}
use Rattle.iff_rules.specs.Load.{fault_unless, length_verdict, room_verdict, block_verdict, header_of, file_verdict, load_verdict, load_answer, filled, load_table}
use Rattle.iff_desk.specs.Sound.{rows_of_tables}
use Rattle.iff_desk.specs.Parts.{is_one_block}
use Rattle.iff_desk.specs.Amend.{place_of, edited_length, edited_lines, amend_verdict, amend_answer, amended_rows, amend_timetbls, edited}
use Rattle.text.proofs.PackLaws.{Each as EachByte}
use Rattle.tables.proofs.Filled.{length_fill}
use Rattle.sound_laws.proofs.SoundLaws.{OfBytes, own_form, timetbls_read, rows_are, used, fit, table_is, tables_rows, faultless_sound, meets}
pub use Rattle.amend_laws.proofs.EditedFiles.{edited_files, loaded}
use Rattle.amend_laws.proofs.OtherTables.{with_timetbls, with_each}
use Rattle.amend_laws.proofs.Accepted.{fine_is}
use Rattle.amend_laws.proofs.EditedVerdicts.{past_fine}
use Rattle.amend_laws.proofs.EditedFile.{Told, told, still_bytes}
use Rattle.amend_laws.proofs.EditedLoad.{context_same, load_with, tables_with}

-- an amendment's verdict, of tables with some rows, sound or not, and room for so many words
abbrev verdict_of : PerFile (List Row) → Bool → ℕ → ℕ → List ℕ → Verdict
verdict_of D right n s b =
    let c = context_of D in
    let k = place_of s D.timetbls in
    first_fault
    (fault_unless right NotSound None
    ∷ fault_unless (is_one_block s (lines b)) NotOneBlock None
    ∷ fault_unless (names c Timetbls s) NoService None
    ∷ length_verdict Timetbls (edited_length c k D.timetbls b)
    ∷ room_verdict Timetbls (edited_lines k D.timetbls b) n
    ∷ block_verdict c (take k (c.keys Timetbls)) (suc k) (as_block b)
    ∷ [])

-- A DELIVERY WITHOUT FAULT
module _ (F : PerFile (List ℕ)) (R : PerFile ℕ) (bytes : OfBytes F) (e : load_verdict F R ≡ Ok tt) where
  abbrev D : PerFile (List Row)
  D = rows_of_files F

  abbrev c : Context
  c = context_of (rows_of_files F)

  abbrev form : Form
  form = form_of (first_of (delivery_rows F.delivery))

  abbrev T : PerFile (List ℕ)
  T = loaded F R

  room_same : length T.timetbls ≡ R.timetbls
  room_same =
      ap length (table_is F R bytes e Timetbls)
      ∙ length_fill (row_width Timetbls) R.timetbls D.timetbls (used F R bytes e Timetbls) (fit F R bytes e Timetbls)

  -- what the tables hold is what the files hold
  pub held_same : (s : ℕ) → names (context_of (rows_of_tables T)) Timetbls s ≡ names c Timetbls s
  held_same s = ap (λ (r : PerFile (List Row)). names (context_of r) Timetbls s) (tables_rows F R bytes e)

  -- AN AMENDMENT of one block, of a service that is held
  module _ (s : ℕ) (b : List ℕ) (one : is_one_block s (lines b) ≡ true) (held : names c Timetbls s ≡ true) where
    abbrev t : List ℕ
    t = edited c.form F.timetbls s b

    held_in_lines : has s (keys_of Timetbls (rows_of_lines c.form Timetbls (lines F.timetbls))) ≡ true
    unfolding context_of
    held_in_lines = ap (λ (rs : List Row). has s (keys_of Timetbls rs)) (sym (rows_are F R bytes e Timetbls)) ∙ held

    tells : Told c (header_of F) D.timetbls s b t
    tells =
        subst (λ (rs : List Row). Told c (header_of F) rs s b t) (sym (rows_are F R bytes e Timetbls))
        (told c (header_of F) F.timetbls (bytes.below Timetbls) ((meets F R bytes e).there Timetbls refl) (timetbls_read F R bytes e) s b one held_in_lines)

    -- the edited text's rows, in the form that a load of it reads them in
    rows_same : rows_of_lines c.form Timetbls (lines t) ≡ rows_of_lines form Timetbls (lines t)
    rows_same = ap (λ (m : Form). rows_of_lines m Timetbls (lines t)) (own_form F R bytes e)

    services : keys_of Timetbls (rows_of_lines form Timetbls (lines t)) ≡ keys_of Timetbls D.timetbls
    services = ap (keys_of Timetbls) (sym rows_same) ∙ tells.services

    judged : block_verdict c (take (place_of s D.timetbls) (c.keys Timetbls)) (suc (place_of s D.timetbls)) (as_block b)
        ≡ file_verdict c (header_of F) Timetbls (lines t)
    unfolding context_of
    judged = tells.judged

    -- THE VERDICT
    as_rows_say : amend_verdict T s b ≡ verdict_of D true R.timetbls s b
    unfolding amend_verdict
    as_rows_say = λ i. verdict_of (tables_rows F R bytes e i) (faultless_sound F R bytes e i) (room_same i) s b

    amend_with : amend_verdict T s b
        ≡ first_fault
        (length_verdict Timetbls (length t)
        ∷ room_verdict Timetbls (length (lines t)) R.timetbls
        ∷ file_verdict c (header_of F) Timetbls (lines t)
        ∷ [])
    amend_with =
        as_rows_say
        ∙ past_fine (Ok tt) _ refl
        ∙ past_fine (fault_unless (is_one_block s (lines b)) NotOneBlock None) _ (ap (λ (q : Bool). fault_unless q NotOneBlock None) one)
        ∙ past_fine (fault_unless (names c Timetbls s) NoService None) _ (ap (λ (q : Bool). fault_unless q NoService None) held)
        ∙ (λ i. first_fault (length_verdict Timetbls (tells.long i) ∷ room_verdict Timetbls (tells.many i) R.timetbls ∷ judged i ∷ []))

    same_verdict : amend_verdict T s b ≡ load_verdict (edited_files F s b) R
    same_verdict = amend_with ∙ sym (load_with F R e t services tells.there)

    -- the answer
    same_answer : amend_answer T s b ≡ load_answer (edited_files F s b) R
    unfolding amend_answer load_answer
    same_answer =
        let q : context_of (rows_of_tables T) ≡ context_of (rows_of_files (edited_files F s b)) =
        ap context_of (tables_rows F R bytes e) ∙ sym (context_same F R e t services) in
        λ i. answer (same_verdict i) (q i).form.days (length ((q i).keys Timetbls))

    -- and, where it is accepted, the tables
    module _ (a : amend_verdict T s b ≡ Ok tt) where
      pub still_fine : load_verdict (edited_files F s b) R ≡ Ok tt
      still_fine = sym same_verdict ∙ a

      table_same : load_table Timetbls (edited_files F s b) R ≡ amend_timetbls T s b
      unfolding load_table filled amend_timetbls
      table_same =
          let w : ℕ = row_width Timetbls in
          ap (λ (v : Verdict). cond (fine v) (fill w R.timetbls (rows_of_lines form Timetbls (lines t))) (replicate R.timetbls 0)) still_fine
          ∙ ap (fill w R.timetbls) (sym rows_same ∙ sym tells.rows)
          ∙ (λ i. fill w (sym room_same i) (amended_by (sym (tables_rows F R bytes e) i)))
          ∙ ap (λ (v : Verdict). cond (fine v) (fill w (length T.timetbls) (amended_by (rows_of_tables T))) T.timetbls) (sym a)
        where
          amended_by : PerFile (List Row) → List Row
          amended_by r = amended_rows (context_of r).form (place_of s r.timetbls) r.timetbls b

      pub same_tables : loaded (edited_files F s b) R ≡ with_timetbls T (amend_timetbls T s b)
      same_tables = tables_with F R e t still_fine ∙ ap (with_timetbls T) table_same

    -- of bytes again, where the block is
    pub edited_bytes_lem : EachByte 256 b → OfBytes (edited_files F s b)
    edited_bytes_lem p =
        let q =
        still_bytes c (header_of F) F.timetbls (bytes.below Timetbls) ((meets F R bytes e).there Timetbls refl) (timetbls_read F R bytes e) s b one
        held_in_lines p in
        record { below = λ f. with_each F t (λ g x y. EachByte 256 y → EachByte 256 x) (λ g x r. r) (λ r. q) f (bytes.below f) }

-- THE LAW
pub record AsLoad (F : PerFile (List ℕ)) (R : PerFile ℕ) (s : ℕ) (b : List ℕ) : Type 0 where
  -- the same number at the same place, or the same days and services
  pub answers : amend_answer (loaded F R) s b ≡ load_answer (edited_files F s b) R
  -- where it is accepted, the same eleven tables
  pub tables : fine (amend_verdict (loaded F R) s b) ≡ true
      → with_timetbls (loaded F R) (amend_timetbls (loaded F R) s b) ≡ loaded (edited_files F s b) R

pub demand_three : (F : PerFile (List ℕ)) (R : PerFile ℕ) → OfBytes F → fine (load_verdict F R) ≡ true → (s : ℕ) (b : List ℕ)
    → is_one_block s (lines b) ≡ true
    → names (context_of (rows_of_files F)) Timetbls s ≡ true
    → AsLoad F R s b
demand_three F R bytes a s b one held =
    let e = fine_is (load_verdict F R) a in
    record {
      answers = same_answer F R bytes e s b one held;
      tables = λ q. sym (same_tables F R bytes e s b one held (fine_is (amend_verdict (loaded F R) s b) q));
    }
