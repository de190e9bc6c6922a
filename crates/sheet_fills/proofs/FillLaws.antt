-- 23, and a list that is filled. Assumes nothing.
use Rattle.std.specs.Prelude.{Err, Ok}
use Prim.Native.Nat.{ℕ, ◌*◌, ◌≤◌, ◌<◌}
use mathlib.Core.Path.{◌≡◌, refl, ap, sym}
use mathlib.Core.List.{List}
use mathlib.Core.Bool.{Bool, true}
use native.Mathlib.Nat.{div-mul-le_self}
use native.Mathlib.Omega.{arith}
use borrow.Author.Tests.{le-leb, lt-leb}
use lib.ListN.{length}
use Rattle.iff.specs.Files.{PerFile}
use Rattle.iff.specs.Refusals.{unless}
use Rattle.iff.specs.Tables.{Row}
use Rattle.iff.specs.declared.File.TheVariants.{Timetbls}
use Rattle.iff.specs.declared.Reason.TheVariants.{ShortList}
use Rattle.iff_desk.specs.Changing.{change_in}
use Rattle.iff_desk.specs.Sheet.{question_width, answer_width, asked, answer_room, answers_by}
use Rattle.sheet_answers.specs.Words.{answered_in}
use Rattle.slots.specs.Slots.{Index, Kept}
use Rattle.lost_services.specs.Told.{ServicesTold}
use Rattle.sheet_fills.specs.Tested.{Filled}

module _ (qs list : List ℕ) where
  -- so many questions are in their list
  pub asked_there : asked qs * question_width ≤ length qs
  asked_there = div-mul-le_self (length qs) question_width

  -- and so many answers in theirs, where there is room
  pub answers_there : asked qs ≤ answer_room list → asked qs * answer_width ≤ length list
  answers_there h = omega (arith, h, div-mul-le_self (length list) answer_width)

  module _ (R : PerFile (List Row)) where
    pub too_short : answer_room list < asked qs → Filled R qs list (Err ShortList) list
    too_short h = record { tells = sym (ap (λ (b : Bool). unless b ShortList) (lt-leb (asked qs) (answer_room list) h)); leaves = refl }

    pub filled : asked qs ≤ answer_room list → (after : List ℕ) → after ≡ answered_in (answers_by (change_in true R) qs 0 (asked qs)) list (asked qs)
        → Filled R qs list (Ok tt) after
    filled h after is = record { tells = sym (ap (λ (b : Bool). unless b ShortList) (le-leb (asked qs) (answer_room list) h)); leaves = is }

-- THE SERVICES in the slots, told by soundness, still are after what is put for stations
pub still_told : (told : Bool) (n used : ℕ) (tt ps qs ms : List ℕ) → used ≡ n → ServicesTold told n tt ps → (told ≡ true → qs ≡ ps) → Kept qs ms
    → length ms ≡ length qs → ServicesTold told used tt ms
still_told told n used tt ps qs ms e x same k l t =
    let there : Index Timetbls tt n (length qs) qs = rw (same t) (x t) in
    rw (e, l) (k.keeps Timetbls tt n (length qs) there)
