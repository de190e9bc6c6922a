-- A whole file of groups: by what its first line and its groups tell. Assumes nothing.
use Rattle.std.specs.Prelude.{Err, Ok, Option, Result}
use Prim.Native.Nat.{ℕ, ◌<◌}
use mathlib.Core.Path.{◌≡◌, refl, ap, ◌∙◌}
use mathlib.Core.List.{List, map, append-nil}
use mathlib.Core.Bool.{Bool, true}
use lib.ListN.{length, set, take, drop}
use lib.Seq.{take_at}
use Rattle.iff.specs.Lines.{Line, lines}
use Rattle.iff.specs.Tables.{Row, row_width, joined, fill}
use Rattle.iff.specs.declared.GroupFile.{GroupFile}
use Rattle.iff.specs.declared.File.TheVariants.{Groups}
use Rattle.iff.specs.declared.Form.{Form}
use Rattle.iff.specs.declared.Reason.{Reason}
use Rattle.iff_rules.specs.Rows.{row_of, flag, first_row_of, Context}
use Rattle.iff_rules.specs.Load.{groups_verdict}
use Rattle.reading.specs.Reading.{head_line, Ready, Begun, Split, FirstRead, RowsDone, FileRead, begin_test}
use Rattle.heads.proofs.FileLaws.{some_lines, absent, passed, first_refused, rows_refused, rows_accepted, flag_fits}
use Rattle.group_files.specs.Begun.{first_in, GroupsBegun}
use Rattle.iff.specs.Refusals.{Verdict, at_place, fault_at}
use Rattle.iff.specs.declared.Fault.{Fault}
use Rattle.iff.specs.declared.Place.{Place}

-- what holds for every context that agrees with the first rows holds for those that agree with the tables
pub done_for : (f : GroupFile) (form : Form) (Agree Fewer : Context → Type 0) → ((c : Context) → Fewer c → Agree c)
    → (due : Context → Verdict) (first : Row) (rows : List Row) (was is : List ℕ) (r : Result Bool Fault)
    → RowsDone (Groups f) form Agree due first rows was is r → RowsDone (Groups f) form Fewer due first rows was is r
done_for f form Agree Fewer g due first rows was is r d =
    record { verdict = λ c n a. d.verdict c n (g c a); table = d.table; rises = d.rises; kept = d.kept }

-- the row that begins a table stands first in it
begun_first : (f : GroupFile) (n : ℕ) (first : Row) (t : List ℕ) → Begun (Groups f) n first t → first_in f t ≡ first
unfolding fill joined
begun_first f n first t b = ap (take (row_width (Groups f))) b.holds ∙ rw append-nil (take_at first _ (row_width (Groups f)) b.width)

pub groups_begun : (f : GroupFile) (text t : List ℕ) (from : ℕ) → Split (Groups f) text t (head_line text) from → GroupsBegun f text from t
groups_begun f text t from s = record { inside = s.inside; begun = rw (begun_first f _ _ t s.begun) s.begun }

-- AFTER A VERDICT on what came before
module _ (f : GroupFile) (form : Form) (Agree : Context → Type 0) (header text was : List ℕ) (v : Verdict) where
  abbrev Told : List ℕ → Verdict → Type 0
  Told is r = FileRead (Groups f) form Agree header text v was is r

  -- a fault before it is handed on
  pub handed_on : (k : Reason) (p : Option Place) → v ≡ fault_at k p → Told was (fault_at k p)
  handed_on k p e = rw e (passed (Groups f) form Agree header text was k p was refl)

  module _ (e : v ≡ Ok tt) where
    -- the file is absent
    pub not_there : length text ≡ 0 → Ready (Groups f) text was → Told was (Ok tt)
    not_there h r = rw e (absent (Groups f) form Agree header text was h r)

    -- or there
    module _ (more : 0 < length text) (begun : List ℕ) (b : Result ℕ Reason) (B : FirstRead (Groups f) header text was begun (head_line text) b) where
      -- its first line is refused
      pub head_refused : (k : Reason) → b ≡ Err k → Told begun (fault_at k (at_place (Groups f) 0 1))
      head_refused k q =
          rw e
          (first_refused (Groups f) form Agree header text was (drop 1 (lines text)) (some_lines text more) (begin_test b) B.test k begun
          (ap begin_test q) B.kept)

      -- or not, and its groups are read
      module _ (from : ℕ) (q : b ≡ Ok from) where
        abbrev later : List Line
        later = lines (drop from text)

        split : Split (Groups f) text begun (head_line text) from
        split = B.rest from q

        head_first : first_in f begun ≡ first_row_of (Groups f) true (head_line text)
        head_first = begun_first f (length later) _ begun split.begun

        module _ (is : List ℕ) (r : Result Bool Fault)
            (D : RowsDone (Groups f) form Agree (λ c. groups_verdict c f later) (first_in f begun) (map (row_of form (Groups f)) later) begun is r) where
          pub groups_refused : (k : Reason) (p : Option Place) → r ≡ fault_at k p → Told is (fault_at k p)
          groups_refused k p u =
              rw e
              (rows_refused (Groups f) form Agree header text was later split.all (begin_test b) B.test (ap begin_test q) _ _ begun is r D
              B.kept k p u)

          module _ (rises : Bool) (u : r ≡ Ok rises) where
            -- there is a place for whether their keys rise
            pub flag_room : 5 < length is
            flag_room =
                flag_fits (Groups f) form Agree header text was later split.all (begin_test b) B.test (ap begin_test q) _ _ begun is r D
                B.kept rises (set is 5 (flag rises)) u refl head_first refl

            pub groups_accepted : (done : List ℕ) → done ≡ set is 5 (flag rises) → Told done (Ok tt)
            groups_accepted done w =
                rw e
                (rows_accepted (Groups f) form Agree header text was later split.all (begin_test b) B.test (ap begin_test q) _ _ begun is r D
                B.kept rises done u w head_first refl)
