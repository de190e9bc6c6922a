-- "Any two outcomes allowed for one input are proved the same": every contract is an equality with a function of the inputs. Assumes nothing.
use Rattle.std.specs.Prelude.{ℕ, ◌≡◌, List, Bool, Result}
use Rattle.std.proofs.Common.{◌∙◌, sym}
use Rattle.iff.specs.Files.{PerFile, of}
use Rattle.iff.specs.declared.File.{File}
use Rattle.iff_rules.specs.Load.{load_answer, load_table}
use Rattle.iff_desk.specs.Sound.{sound}
use Rattle.iff_desk.specs.Running.{running_day}
use Rattle.iff_desk.specs.Stops.{stop_time}
use Rattle.iff_desk.specs.Changing.{Side, rank, change}
use Rattle.iff_desk.specs.Parts.{name, name_test, lines_now, lines_now_test}
use Rattle.iff_desk.specs.Amend.{amend_answer, amend_timetbls}
use Rattle.iff_desk.specs.declared.Riding.{Riding}
use Rattle.iff_desk.specs.declared.Change.{Change}
use Rattle.iff.specs.Refusals.{Answer, Test}
use Rattle.iff.specs.declared.Reason.{Reason}
use Rattle.iff_desk.specs.declared.StopTimes.{StopTimes}

-- what two calls with one input may end in is one thing
pub one_outcome {ℓ} : {A : Type ℓ} {x a b : A} → a ≡ x → b ≡ x → a ≡ b
one_outcome p q = p ∙ sym q

-- what a load's contract allows: the answer, and each table at exit
pub record Loaded (F : PerFile (List ℕ)) (R : PerFile ℕ) (a : Answer) (T : PerFile (List ℕ)) : Type 0 where
  pub answers : a ≡ load_answer F R
  pub leaves : (f : File) → of T f ≡ load_table f F R

pub one_load : {F : PerFile (List ℕ)} {R : PerFile ℕ} {a b : Answer} {T U : PerFile (List ℕ)}
    → Loaded F R a T → Loaded F R b U → (a ≡ b) × ((f : File) → of T f ≡ of U f)
one_load p q = (one_outcome p.answers q.answers, λ f. one_outcome (p.leaves f) (q.leaves f))

-- what an amendment's contract allows: the answer, and TIMETBLS at exit; the other tables are not lent to be written
pub record Amended (T : PerFile (List ℕ)) (s : ℕ) (block : List ℕ) (a : Answer) (t : List ℕ) : Type 0 where
  pub answers : a ≡ amend_answer T s block
  pub leaves : t ≡ amend_timetbls T s block

pub one_amendment : {T : PerFile (List ℕ)} {s : ℕ} {block : List ℕ} {a b : Answer} {t u : List ℕ}
    → Amended T s block a t → Amended T s block b u → (a ≡ b) × (t ≡ u)
one_amendment p q = (one_outcome p.answers q.answers, one_outcome p.leaves q.leaves)

-- the questions
module _ (T : PerFile (List ℕ)) where
  pub one_soundness : {a b : Bool} → a ≡ sound T → b ≡ sound T → a ≡ b
  one_soundness p q = one_outcome p q

  pub one_running : (s leg date : ℕ) {a b : Result Bool Reason} → a ≡ running_day T s leg date → b ≡ running_day T s leg date → a ≡ b
  one_running s leg date p q = one_outcome p q

  pub one_stop_time : (s stop date : ℕ) {a b : Result StopTimes Reason} → a ≡ stop_time T s stop date → b ≡ stop_time T s stop date → a ≡ b
  one_stop_time s stop date p q = one_outcome p q

  pub one_change : (A B : Side) {a b : Result Change Reason} → a ≡ change T A B → b ≡ change T A B → a ≡ b
  one_change A B p q = one_outcome p q

pub one_rank : (from to : Riding) {a b : ℕ} → a ≡ rank from to → b ≡ rank from to → a ≡ b
one_rank from to p q = one_outcome p q

pub one_name : (stations : List ℕ) (short : ℕ) {a b : List ℕ} {m n : Test}
    → a ≡ name stations short → m ≡ name_test stations short → b ≡ name stations short → n ≡ name_test stations short → (a ≡ b) × (m ≡ n)
one_name stations short p u q v = (one_outcome p q, one_outcome u v)

pub one_lines_now : (t block : List ℕ) (s : ℕ) {a b : List ℕ} {m n : Test}
    → a ≡ lines_now t block s → m ≡ lines_now_test t block s → b ≡ lines_now t block s → n ≡ lines_now_test t block s → (a ≡ b) × (m ≡ n)
one_lines_now t block s p u q v = (one_outcome p q, one_outcome u v)
