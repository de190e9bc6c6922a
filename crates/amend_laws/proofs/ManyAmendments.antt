-- LAW: AMENDMENTS ONE AFTER THE OTHER, whatever they are: after each, the tables are the load's of the files with every accepted block in the place
-- of its service's lines, and that load is without fault. It assumes that files and blocks are made of bytes, and nothing else.
use Rattle.std.specs.Prelude.{Err, Ok, Option}
use Prim.Native.Nat.{ℕ}
use mathlib.Core.Path.{◌≡◌, refl, ap, sym, subst, ◌∙◌}
use mathlib.Core.List.{List, [], ◌∷◌}
use mathlib.Core.Bool.{true, false}
use Rattle.iff.specs.Files.{PerFile}
use Rattle.iff.specs.Refusals.{fine, answer, Verdict, fault_at}
use Rattle.iff.specs.Lines.{lines}
use Rattle.iff.specs.declared.File.TheVariants.{Timetbls}
use Rattle.iff.specs.declared.Reason.{Reason}
use Rattle.iff_rules.specs.Rows.{context_of}
use Rattle.iff_rules.specs.References.{names}
use Rattle.iff_rules.specs.Load.{load_verdict, load_answer}
use Rattle.iff_laws.specs.ScanLaws.{no_fault_all, unless_passes, verdict_fine}
use Rattle.iff_desk.specs.Sound.{rows_of_tables}
use Rattle.iff_desk.specs.Parts.{is_one_block}
use Rattle.iff_desk.specs.Amend.{amend_verdict, amend_answer, amend_timetbls}
use Rattle.text.proofs.PackLaws.{Each as EachByte}
use Rattle.tables.proofs.Each.{Each}
use native.Mathlib.Omega.{arith}
use Rattle.sound_laws.proofs.SoundLaws.{OfBytes}
use Rattle.amend_laws.proofs.OtherTables.{with_timetbls}
use Rattle.amend_laws.proofs.Accepted.{fine_is}
pub use Rattle.amend_laws.proofs.Amendments.{Amendment, tables_after, files_where, files_after}
use Rattle.amend_laws.proofs.DemandThree.{edited_files, loaded, held_same, still_fine, same_tables, edited_bytes_lem, demand_three}
use Rattle.iff.specs.declared.Place.{Place}

-- WHAT AN AMENDMENT LEAVES: a refused one every table as it stood
fault_stays : (T : PerFile (List ℕ)) (s : ℕ) (b : List ℕ) → fine (amend_verdict T s b) ≡ false → with_timetbls T (amend_timetbls T s b) ≡ T
unfolding amend_timetbls
fault_stays T s b e = rw e

pub refused_stays : (T : PerFile (List ℕ)) (s : ℕ) (b : List ℕ) (r : Reason) (p : Option Place) → amend_answer T s b ≡ fault_at r p
    → with_timetbls T (amend_timetbls T s b) ≡ T
unfolding amend_answer
refused_stays T s b r p e = fault_stays T s b (go (amend_verdict T s b) _ _ e)
  where
    go : (v : Verdict) (days services : ℕ) → answer v days services ≡ fault_at r p → fine v ≡ false
    go (Ok _) days services e = absurd (let z : ◌≡◌ {A = ℕ} 0 1 = cc in omega arith)
    go (Err fault) days services e = refl

-- an accepted one was one block of a service that is held
pub accepted_asked : (T : PerFile (List ℕ)) (s : ℕ) (b : List ℕ) → amend_verdict T s b ≡ Ok tt
    → (is_one_block s (lines b) ≡ true) × (names (context_of (rows_of_tables T)) Timetbls s ≡ true)
unfolding amend_verdict
accepted_asked T s b e = (
  unless_passes _ _ (verdict_fine _ _ (no_fault_all _ e 1 (omega arith))),
  unless_passes _ _ (verdict_fine _ _ (no_fault_all _ e 2 (omega arith))),
)

-- ONE AFTER THE OTHER: the tables after some, and the files that they stand for
unfoldable pub tables_after_all : PerFile (List ℕ) → List Amendment → PerFile (List ℕ)
tables_after_all T [] = T
tables_after_all T (a ∷ more) = tables_after_all (tables_after T a) more

unfoldable pub files_after_all : PerFile (List ℕ) → PerFile (List ℕ) → List Amendment → PerFile (List ℕ)
files_after_all T F [] = F
files_after_all T F (a ∷ more) = files_after_all (tables_after T a) (files_after T F a) more

-- tables are the load's of some files of bytes, without fault, into rooms of these lengths
pub record LoadOf (R : PerFile ℕ) (T F : PerFile (List ℕ)) : Type 0 where
  pub of_bytes : OfBytes F
  pub fine_load : load_verdict F R ≡ Ok tt
  pub its_tables : T ≡ loaded F R

abbrev pub BlockOfBytes : Amendment → Type 0
BlockOfBytes a = EachByte 256 a.block

module _ (R : PerFile ℕ) where
  -- one amendment of the tables of a load
  one_of_load : (F : PerFile (List ℕ)) → OfBytes F → load_verdict F R ≡ Ok tt → (a : Amendment) → BlockOfBytes a
      → LoadOf R (tables_after (loaded F R) a) (files_after (loaded F R) F a)
  one_of_load F p e a q = go (amend_verdict (loaded F R) a.service a.block) refl
    where
      go : (v : Verdict) → amend_verdict (loaded F R) a.service a.block ≡ v → LoadOf R (tables_after (loaded F R) a) (files_where (fine v) F a)
      go (Ok _) z =
          let w = accepted_asked (loaded F R) a.service a.block z in
          let h = sym (held_same F R p e a.service) ∙ w.1 in
          record {
            of_bytes = edited_bytes_lem F R p e a.service a.block w.0 h q;
            fine_load = still_fine F R p e a.service a.block w.0 h z;
            its_tables = sym (same_tables F R p e a.service a.block w.0 h z);
          }
      go (Err fault) z = record { of_bytes = p; fine_load = e; its_tables = fault_stays (loaded F R) a.service a.block (ap fine z) }

  one_after : (T F : PerFile (List ℕ)) (a : Amendment) → BlockOfBytes a → LoadOf R T F → LoadOf R (tables_after T a) (files_after T F a)
  one_after T F a q l =
      subst (λ (U : PerFile (List ℕ)). LoadOf R (tables_after U a) (files_after U F a)) (sym l.its_tables)
      (one_of_load F l.of_bytes l.fine_load a q)

  after_more : (T F : PerFile (List ℕ)) (more : List Amendment) → Each BlockOfBytes more → LoadOf R T F
      → LoadOf R (tables_after_all T more) (files_after_all T F more)
  unfolding tables_after_all files_after_all
  after_more T F [] u l = l
  after_more T F (a ∷ more) u l = after_more (tables_after T a) (files_after T F a) more u.1 (one_after T F a u.0 l)

-- THE LAW
pub after_all : (F : PerFile (List ℕ)) (R : PerFile ℕ) → OfBytes F → fine (load_verdict F R) ≡ true
    → (more : List Amendment) → Each BlockOfBytes more
    → LoadOf R (tables_after_all (loaded F R) more) (files_after_all (loaded F R) F more)
after_all F R bytes a more u =
    after_more R (loaded F R) F more u (record { of_bytes = bytes; fine_load = fine_is (load_verdict F R) a; its_tables = refl })

-- so the next one, too, is a load of the edited text
pub next_as_load : (R : PerFile ℕ) (T F : PerFile (List ℕ)) → LoadOf R T F → (s : ℕ) (b : List ℕ)
    → is_one_block s (lines b) ≡ true
    → names (context_of (rows_of_tables T)) Timetbls s ≡ true
    → amend_answer T s b ≡ load_answer (edited_files F s b) R
next_as_load R T F l s b one held =
    let h : names (context_of (rows_of_tables (loaded F R))) Timetbls s ≡ true =
    subst (λ (U : PerFile (List ℕ)). names (context_of (rows_of_tables U)) Timetbls s ≡ true) l.its_tables held in
    ap (λ (U : PerFile (List ℕ)). amend_answer U s b) l.its_tables
    ∙ (demand_three F R l.of_bytes (ap fine l.fine_load) s b one (sym (held_same F R l.of_bytes l.fine_load s) ∙ h)).answers
