-- What soundness gives a sheet, and what a sheet answers and leaves. Assumes nothing.
use Rattle.std.specs.Prelude.{Err, None, Ok, Option, Some, Result}
use Prim.Native.Nat.{ℕ}
use mathlib.Core.Path.{◌≡◌, refl, ap, sym, ◌∙◌}
use mathlib.Core.List.{List, [], ◌∷◌}
use mathlib.Core.Bool.{Bool, true, false}
use Rattle.iff.specs.Files.{PerFile}
use lib.ListN.{length}
use Rattle.iff.specs.Refusals.{first_test, unless, Test}
use Rattle.iff.specs.Tables.{rows_in}
use Rattle.iff.specs.declared.RowFile.TheVariants.{Stations}
use Rattle.iff.specs.declared.GroupFile.TheVariants.{Timezone, Footnote, Changes, Xfootnote, Xchanges}
use Rattle.iff.specs.declared.File.TheVariants.{Delivery, Rows, Groups, Timetbls}
use Rattle.iff.specs.declared.Reason.TheVariants.{NotSound}
use Rattle.iff_desk.specs.Sound.{sound, rows_of_tables}
use Rattle.iff_desk.specs.Changing.{change, change_in}
use Rattle.iff_desk.specs.Sheet.{asked, answers_by, answers_to, room_test, sheet_test}
use Rattle.iff_desk.specs.declared.Change.{Change}
use Rattle.sheet_answers.specs.Words.{answered_in, list_after}
use Rattle.lost_services.specs.Told.{ServicesTold}
use Rattle.std.specs.Option.{is_some}
use Rattle.sound.specs.Whole.{SoundTold}
use Rattle.sound_facts.proofs.SoundFacts.{unused_zero, first_unnamed}
use Rattle.sheet_fills.specs.Tested.{Tested, Filled}
use Rattle.sheets.specs.Sheeted.{Sheeted}
use Rattle.iff.specs.declared.Reason.{Reason}

-- what soundness gives a sheet beside what it gives a change
pub tested : (T : PerFile (List ℕ)) → sound T ≡ true
    → Tested T.delivery T.timezone T.stations T.footnote T.timetbls T.changes T.xfootnote T.xchanges
tested T s =
    record {
      delivery = unused_zero T s Delivery;
      timezone = unused_zero T s (Groups Timezone);
      stations = unused_zero T s (Rows Stations);
      footnote = unused_zero T s (Groups Footnote);
      timetbls = unused_zero T s Timetbls;
      changes = unused_zero T s (Groups Changes);
      xfootnote = unused_zero T s (Groups Xfootnote);
      xchanges = unused_zero T s (Groups Xchanges);
      changes_first = first_unnamed T s (Groups Changes);
      xchanges_first = first_unnamed T s (Groups Xchanges);
    }

-- what soundness told
module _ (T : PerFile (List ℕ)) (ps : List ℕ) (r : Option Bool) (s : SoundTold T ps r) where
  pub told_unsound : r ≡ None → sound T ≡ false
  told_unsound e = sym s.says ∙ ap is_some e

  module _ (b : Bool) (e : r ≡ Some b) where
    pub told_sound : sound T ≡ true
    told_sound = sym s.says ∙ ap is_some e

    pub told_services : ServicesTold b (length (rows_in Timetbls T.timetbls)) T.timetbls ps
    told_services t = s.services (e ∙ ap Some t)

module _ (T : PerFile (List ℕ)) (qs list : List ℕ) where
  -- the list, by the test and the answers
  abbrev left : Test → List (Result Change Reason) → List ℕ
  left t answers = list_after t list (answered_in answers list (asked qs))

  pub not_sound : sound T ≡ false → Sheeted T qs list (Err NotSound) list
  unfolding sheet_test first_test
  not_sound e =
      let is : sheet_test T qs list ≡ Err NotSound = rw e in
      record { tells = sym is; leaves = sym (ap (λ (t : Test). left t (answers_to T qs)) is) }

  -- of sound tables room alone is asked
  room_asked : sound T ≡ true → sheet_test T qs list ≡ room_test qs list
  unfolding sheet_test first_test
  room_asked e = ap (λ (b : Bool). first_test (unless b NotSound ∷ room_test qs list ∷ [])) e ∙ go (room_test qs list)
    where
      go : (t : Test) → first_test (Ok tt ∷ t ∷ []) ≡ t
      go (Ok _) = refl
      go (Err r) = refl

  -- each answer is the one that the single question gives
  by_itself : sound T ≡ true → answers_by (change_in true (rows_of_tables T)) qs 0 (asked qs) ≡ answers_to T qs
  unfolding change
  by_itself e = ap (λ (b : Bool). answers_by (change_in b (rows_of_tables T)) qs 0 (asked qs)) (sym e)

  pub sheeted : sound T ≡ true → (r : Test) (after : List ℕ) → Filled (rows_of_tables T) qs list r after → Sheeted T qs list r after
  sheeted e r after f =
      let is : r ≡ sheet_test T qs list = f.tells ∙ sym (room_asked e) in
      let each = answers_by (change_in true (rows_of_tables T)) qs 0 (asked qs) in
      record { tells = is; leaves = f.leaves ∙ (ap (λ (t : Test). left t each) is ∙ ap (left (sheet_test T qs list)) (by_itself e)) }
