-- The key of a row tested and put into the index. Assumes nothing.
use Prim.Native.Nat.{ℕ, ◌+◌, ◌*◌, ◌≤◌, ◌<◌}
use mathlib.Core.Path.{◌≡◌, refl, ap, sym, ◌∙◌}
use mathlib.Core.List.{List}
use mathlib.Core.Bool.{Bool, true, false, not, false≢true}
use native.Mathlib.Omega.{arith}
use lib.ListN.{length, set, length-set}
use Rattle.iff.specs.declared.File.{File}
use Rattle.iff.specs.Lists.{has}
use Rattle.iff.specs.Tables.{row_width}
use Rattle.fresh_keys.specs.declared.KeyRun.{KeyRun}
use Rattle.keys.specs.Places.{probes, place_of}
use Rattle.fresh_keys.specs.Runs.{still_rises, step_run, run_of}
use Rattle.fresh_keys.proofs.Runs.{run_fresh}
use Rattle.slots.specs.Slots.{last_row, names_at, key_at, keys_between, Stands, PassedFor, FirstFree}
use Rattle.slot_puts.specs.Puts.{AtRow, KeyPut}
use Rattle.slots.proofs.SlotLaws.{one_more, kept_same, new_by_free, kept_put, put_indexed, full_indexed}

-- a key with which the keys so far still rise is new
pub new_by_run : (f : File) (t : List ℕ) (i : ℕ) (run next : KeyRun) (key : ℕ) → run ≡ run_of (keys_between f t 0 i) → next ≡ step_run run key
    → next.rises ≡ true → true ≡ not (has key (keys_between f t 0 i))
new_by_run f t i run next key e n r =
    let q : still_rises (run_of (keys_between f t 0 i)) key ≡ true =
    ap (λ (s : KeyRun). still_rises s key) (sym e) ∙ (sym (ap (λ (s : KeyRun). s.rises) n) ∙ r)
    in
    sym (ap not (run_fresh (keys_between f t 0 i) key q))

-- ONE KEY
module _ (f : File) (t : List ℕ) (run : KeyRun) (i key : ℕ) (ps : List ℕ) (a : AtRow f t run i ps) (is : key ≡ key_at f t i) where
  pub room_before : i * row_width f ≤ length t
  room_before = omega (arith, a.room)

  -- the rows before it are searched, and it is not put where it would have to stand nowhere
  pub searched : (b : Bool) → b ≡ not (has key (keys_between f t 0 i))
      → (names_at f t i ≡ true → i ≤ last_row → probes < length ps → Stands (length ps) ps (key_at f t i) i)
      → KeyPut f t i key ps ps b
  searched b e g =
      record {
        wide = refl;
        new = e;
        index = λ n. one_more f t i (length ps) ps a.index g;
        kept = kept_same ps;
      }

  module _ (wide : probes < length ps) (few : i ≤ last_row) where
    pub put_free : (s : ℕ) → FirstFree f t i key ps (place_of key (length ps)) s → KeyPut f t i key ps (set ps s i) true
    put_free s free =
        record {
          wide = length-set ps s i;
          new = ap not (sym (new_by_free f t i (length ps) ps a.index wide few key a.first s free));
          index = λ n. put_indexed f t i (length ps) ps a.index wide few key a.some (sym is) s free;
          kept = kept_put f t i (length ps) ps a.index wide few key a.some s free;
        }

    pub searched_full : (b : Bool) → b ≡ not (has key (keys_between f t 0 i))
        → PassedFor f t i key ps (place_of key (length ps)) (place_of key (length ps) + probes)
        → KeyPut f t i key ps ps b
    searched_full b e full =
        record {
          wide = refl;
          new = e;
          index = λ n. full_indexed f t i (length ps) ps a.index wide few key a.some (sym is) full;
          kept = kept_same ps;
        }

  pub put_taken : has key (keys_between f t 0 i) ≡ true → KeyPut f t i key ps ps false
  put_taken e = record { wide = refl; new = ap not (sym e); index = λ n. absurd (false≢true n); kept = kept_same ps }
