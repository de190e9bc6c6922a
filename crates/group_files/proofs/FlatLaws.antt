-- Groups one after the other are the lines in one walk. Assumes nothing.
use Rattle.std.specs.Prelude.{Err, Ok}
use Prim.Native.Nat.{ℕ, suc, ◌+◌}
use mathlib.Core.Path.{◌≡◌, refl, ap, sym, ◌∙◌}
use mathlib.Core.List.{List, [], ◌∷◌, ◌++◌, map, append-nil, append_assoc}
use mathlib.Core.Bool.{Bool, true, false}
use native.Mathlib.Omega.{arith}
use lib.ListN.{length, length-append}
use Rattle.iff.specs.Lists.{Group, front, groups, kept}
use Rattle.iff.specs.Refusals.{first_test, verdict_at, or_else, first_fault, scan, after, Verdict, at_place}
use Rattle.iff.specs.Lines.{Line, letter, is_hash}
use Rattle.iff.specs.Tables.{Row, keys_of}
use Rattle.iff.specs.Words.{named}
use Rattle.iff.specs.declared.GroupFile.{GroupFile}
use Rattle.iff.specs.declared.File.TheVariants.{Groups}
use Rattle.iff.specs.declared.Reason.TheVariants.{Order}
use Rattle.iff_rules.specs.Order.{line_test, stray_tests, known_in_group, group_stand, may_end}
use Rattle.iff_rules.specs.Rows.{row_of, Context}
use Rattle.iff_rules.specs.Load.{group_test, group_verdict, groups_verdict, stray_verdict, fault_unless, after_group}
use Rattle.keys.proofs.Fills.{keys_same, keys_next}
use Rattle.group_lines.specs.Tests.{line_verdict}
use Rattle.group_files.specs.Flat.{flat}
use Rattle.group_files.proofs.HashLaws.{row_hash, any_keys, stray_line}

or_assoc : (a b c : Verdict) → or_else (or_else a b) c ≡ or_else a (or_else b c)
or_assoc (Ok _) b c = refl
or_assoc (Err fault) b c = refl

or_fine : (a : Verdict) → or_else a (Ok tt) ≡ a
or_fine (Ok _) = refl
or_fine (Err fault) = refl

-- what stands before the first `#`, and the groups behind it
module _ (l : Line) (ls : List Line) where
  front_hash : is_hash l ≡ true → front is_hash (l ∷ ls) ≡ []
  unfolding front
  front_hash h = rw h

  front_other : is_hash l ≡ false → front is_hash (l ∷ ls) ≡ l ∷ front is_hash ls
  unfolding front
  front_other h = rw h

  groups_hash : is_hash l ≡ true → groups is_hash (l ∷ ls) ≡ record { top = l; rest = front is_hash ls } ∷ groups is_hash ls
  unfolding groups
  groups_hash h = rw h

  groups_other : is_hash l ≡ false → groups is_hash (l ∷ ls) ≡ groups is_hash ls
  unfolding groups
  groups_other h = rw h

module _ (c : Context) (f : GroupFile) where
  abbrev row_in : Line → Row
  row_in l = row_of c.form (Groups f) l

  abbrev put : List Row → Line → List Row
  put g l = g ++ (row_in l ∷ [])

  abbrev keys : List Row → List ℕ
  keys rows = keys_of (Groups f) rows

  -- line k, after some rows of its group
  abbrev line_in : List ℕ → List Row → ℕ → Line → Verdict
  line_in seen g k l = verdict_at (at_place (Groups f) 0 k) (group_test c f seen g l)

  -- a group of some rows ends at line k
  abbrev end_at : List Row → ℕ → Verdict
  end_at g k = fault_unless (may_end f (group_stand g)) Order (at_place (Groups f) 0 k)

  -- ONE LINE OF THE WALK
  module _ (rows g : List Row) (l : Line) (ls : List Line) where
    flat_hash : is_hash l ≡ true
        → flat c f rows g (l ∷ ls)
        ≡ or_else (end_at g (suc (length rows)))
        (or_else (line_in (keys rows) [] (suc (suc (length rows))) l) (flat c f (put rows l) (row_in l ∷ []) ls))
    unfolding flat line_verdict
    flat_hash h =
        rw h
        (or_assoc
        (end_at g (suc (length rows)))
        (line_in (keys rows) [] (suc (suc (length rows))) l)
        (flat c f (put rows l) (row_in l ∷ []) ls))

    flat_other : is_hash l ≡ false
        → flat c f rows g (l ∷ ls) ≡ or_else (line_in (keys rows) g (suc (suc (length rows))) l) (flat c f (put rows l) (put g l) ls)
    unfolding flat line_verdict
    flat_other h = rw h

  -- THE OPEN GROUP: the lines that are left of it, and whether it may end; the line before them is line i
  unfoldable held : List ℕ → List Row → ℕ → List Line → Verdict
  held seen g i ms = or_else (scan (line_in seen) put g (suc i) ms) (end_at (g ++ map row_in ms) (i + length ms))

  held_none : (seen : List ℕ) (g : List Row) (i : ℕ) → held seen g i [] ≡ end_at g i
  unfolding held scan
  held_none seen g i =
      let b : i + 0 ≡ i = omega arith in
      rw (append-nil, b)

  held_more : (seen : List ℕ) (g : List Row) (i : ℕ) (l : Line) (ms : List Line)
      → held seen g i (l ∷ ms) ≡ or_else (line_in seen g (suc i) l) (held seen (put g l) (suc i) ms)
  unfolding held scan
  held_more seen g i l ms =
      let a : g ++ map row_in (l ∷ ms) ≡ put g l ++ map row_in ms = sym (append_assoc g (row_in l ∷ []) (map row_in ms)) in
      let b : i + suc (length ms) ≡ suc i + length ms = omega arith in
      rw (a, b)
      (or_assoc
      (line_in seen g (suc i) l)
      (scan (line_in seen) put (put g l) (suc (suc i)) ms)
      (end_at (put g l ++ map row_in ms) (suc i + length ms)))

  group_held : (seen : List ℕ) (i : ℕ) (l : Line) (ms : List Line)
      → group_verdict c f seen (suc i) (record { top = l; rest = ms }) ≡ or_else (line_in seen [] (suc i) l) (held seen (row_in l ∷ []) (suc i) ms)
  unfolding group_verdict first_fault held scan
  group_held seen i l ms =
      let v : Verdict = end_at (row_in l ∷ map row_in ms) (suc i + length ms) in
      rw (or_fine (end_at (row_in l ∷ map row_in ms) (suc i + length ms)))
      (or_assoc (line_in seen [] (suc i) l) (scan (line_in seen) put (row_in l ∷ []) (suc (suc i)) ms) v)

  -- AND THE GROUPS BEHIND IT
  unfoldable behind : List ℕ → ℕ → ℕ → List (Group Line) → Verdict
  behind seen i o gs = scan (λ b o' h. group_verdict c f b.seen b.line h) (after_group c f) (record { seen = seen; line = suc i }) o gs

  behind_none : (seen : List ℕ) (i o : ℕ) → behind seen i o [] ≡ Ok tt
  unfolding behind scan
  behind_none seen i o = refl

  behind_more : (seen : List ℕ) (i o : ℕ) (l : Line) (ms : List Line) (gs : List (Group Line))
      → behind seen i o (record { top = l; rest = ms } ∷ gs)
      ≡ or_else (line_in seen [] (suc i) l)
      (or_else (held seen (row_in l ∷ []) (suc i) ms) (behind (seen ++ (named (row_in l) ∷ [])) (suc i + length ms) (suc o) gs))
  unfolding behind scan
  behind_more seen i o l ms gs =
      let a : suc i + suc (length ms) ≡ suc (suc i + length ms) = omega arith in
      rw (a, group_held seen i l ms)
      (or_assoc
      (line_in seen [] (suc i) l)
      (held seen (row_in l ∷ []) (suc i) ms)
      (behind (seen ++ (named (row_in l) ∷ [])) (suc i + length ms) (suc o) gs))

  -- a walk inside a group, whose last line is the last of these rows'
  abbrev ahead : List Row → List Row → List ℕ → ℕ → List Line → List (Group Line) → Verdict
  ahead rows g seen o ms gs = or_else (held seen g (suc (length rows)) ms) (behind (keys rows) (suc (length rows) + length ms) o gs)

  abbrev Inside : List Line → Type 0
  Inside ls = (rows g : List Row) (seen : List ℕ) (o : ℕ) → flat c f rows g ls ≡ ahead rows g seen o (front is_hash ls) (groups is_hash ls)

  put_length : (rows : List Row) (l : Line) → length (put rows l) ≡ suc (length rows)
  put_length rows l = rw length-append (omega arith)

  -- the row of a `#` opens a group
  opened : (l : Line) (ls : List Line) → is_hash l ≡ true → Inside ls → (rows : List Row) (o : ℕ)
      → or_else (line_in (keys rows) [] (suc (suc (length rows))) l) (flat c f (put rows l) (row_in l ∷ []) ls)
      ≡ behind (keys rows) (suc (length rows)) o (record { top = l; rest = front is_hash ls } ∷ groups is_hash ls)
  opened l ls h ih rows o =
      let k : keys (put rows l) ≡ keys rows ++ (named (row_in l) ∷ []) = keys_next (Groups f) rows (row_in l) (row_hash f c.form l ∙ h) in
      let i : flat c f (put rows l) (row_in l ∷ []) ls ≡ ahead (put rows l) (row_in l ∷ []) (keys rows) (suc o) (front is_hash ls) (groups is_hash ls) =
      ih (put rows l) (row_in l ∷ []) (keys rows) (suc o) in
      rw (behind_more, i, put_length rows l, k)

  inside_none : Inside []
  unfolding flat front groups
  inside_none rows g seen o = rw (held_none seen g (suc (length rows)), behind_none) (sym (or_fine _))

  inside : (ls : List Line) → Inside ls
  inside [] rows g seen o = inside_none rows g seen o
  inside (l ∷ ls) rows g seen o = go (is_hash l) refl (inside ls)
    where
      go : (b : Bool) → is_hash l ≡ b → Inside ls → flat c f rows g (l ∷ ls) ≡ ahead rows g seen o (front is_hash (l ∷ ls)) (groups is_hash (l ∷ ls))
      go true h ih =
          let z : suc (length rows) + 0 ≡ suc (length rows) = omega arith in
          rw (front_hash l ls h, groups_hash l ls h, flat_hash rows g l ls h, held_none seen g (suc (length rows)), z)
          (ap (or_else (end_at g (suc (length rows)))) (opened l ls h ih rows o))
      go false h ih =
          let k : keys (put rows l) ≡ keys rows = keys_same (Groups f) rows (row_in l) (row_hash f c.form l ∙ h) in
          let m : suc (length rows) + suc (length (front is_hash ls)) ≡ suc (suc (length rows)) + length (front is_hash ls) = omega arith in
          let i : flat c f (put rows l) (put g l) ls ≡ ahead (put rows l) (put g l) seen o (front is_hash ls) (groups is_hash ls) =
          ih (put rows l) (put g l) seen o in
          let a : line_in (keys rows) g (suc (suc (length rows))) l ≡ line_in seen g (suc (suc (length rows))) l =
          ap (verdict_at (at_place (Groups f) 0 (suc (suc (length rows))))) (any_keys c f (keys rows) seen g l h) in
          rw (front_other l ls h, groups_other l ls h, flat_other rows g l ls h, a, held_more, m, i, put_length rows l, k)
          (sym
          (or_assoc
          (line_in seen g (suc (suc (length rows))) l)
          (held seen (put g l) (suc (suc (length rows))) (front is_hash ls))
          (behind (keys rows) (suc (suc (length rows)) + length (front is_hash ls)) o (groups is_hash ls))))

  -- A WHOLE FILE
  groups_none : groups_verdict c f [] ≡ flat c f [] [] []
  unfolding groups_verdict first_fault front groups scan flat group_stand after
  groups_none = refl

  groups_parts : (ls : List Line)
      → groups_verdict c f ls ≡ or_else (stray_verdict (Groups f) (known_in_group f) (front is_hash ls)) (behind [] 1 1 (groups is_hash ls))
  unfolding groups_verdict first_fault behind
  groups_parts ls = rw or_fine

  none_open : end_at [] 1 ≡ Ok tt
  unfolding group_stand after
  none_open = refl

  stray_fault : (b : Bool) (v w : Verdict)
      → or_else (verdict_at (at_place (Groups f) 0 2) (line_test (stray_tests b))) v ≡ or_else (verdict_at (at_place (Groups f) 0 2) (line_test (stray_tests b))) w
  unfolding line_test first_test
  stray_fault true v w = refl
  stray_fault false v w = refl

  -- lines before the first `#` are lines of no group
  pub groups_flat : (ls : List Line) → groups_verdict c f ls ≡ flat c f [] [] ls
  unfolding kept
  groups_flat [] = groups_none
  groups_flat (l ∷ ls) = go (is_hash l) refl
    where
      go : (b : Bool) → is_hash l ≡ b → groups_verdict c f (l ∷ ls) ≡ flat c f [] [] (l ∷ ls)
      go true h =
          groups_parts (l ∷ ls)
          ∙ rw (front_hash l ls h, groups_hash l ls h, flat_hash [] [] l ls h, none_open)
          (sym (opened l ls h (inside ls) [] 1))
      go false h =
          groups_parts (l ∷ ls)
          ∙ rw (front_other l ls h, flat_other [] [] l ls h, stray_line c f (keys []) l h) (stray_fault (known_in_group f (letter l)) _ _)
