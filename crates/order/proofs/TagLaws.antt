-- A tag that is no byte leads nowhere. Assumes nothing.
use Rattle.std.specs.Prelude.{None}
use Prim.Native.Nat.{ℕ, ◌≤◌}
use mathlib.Core.Path.{◌≡◌, refl}
use mathlib.Core.Bool.{false}
use native.Mathlib.Omega.{arith}
use borrow.Author.Tests.{ne_eqb}
use lib.Dec.{eqb}
use Rattle.iff.specs.Bytes.{hash, percent, ampersand, asterisk, plus, dash, dot, semicolon, less, greater, question}
use Rattle.iff.specs.declared.Stand.{Stand}
use Rattle.iff.specs.declared.Stand.TheVariants.{Start, Hash, Percent, Dash, Ampersand, Asterisk, Stop, Between, Last, LastPlatform}
use Rattle.iff_rules.specs.Order.{goes}

module _ (x : ℕ) (h : 256 ≤ x) where
  -- no letter is 256 or more
  not_letter : (k : ℕ) → k ≤ 255 → eqb x k ≡ false
  not_letter k l = ne_eqb x k (λ e. omega (arith, e))

  pub leads_nowhere : (s : Stand) → goes s x ≡ None
  unfolding goes
  leads_nowhere Start = rw (not_letter hash (omega arith))
  leads_nowhere Hash = rw (not_letter percent (omega arith))
  leads_nowhere Percent = rw (not_letter percent (omega arith), not_letter dash (omega arith))
  leads_nowhere Dash = rw (not_letter dash (omega arith), not_letter ampersand (omega arith))
  leads_nowhere Ampersand =
      rw (not_letter ampersand (omega arith), not_letter asterisk (omega arith), not_letter greater (omega arith))
  leads_nowhere Asterisk = rw (not_letter asterisk (omega arith), not_letter greater (omega arith))
  leads_nowhere Stop =
      rw (
        not_letter dot (omega arith),
        not_letter plus (omega arith),
        not_letter semicolon (omega arith),
        not_letter question (omega arith),
        not_letter less (omega arith),
      )
  leads_nowhere Between =
      rw (not_letter dot (omega arith), not_letter plus (omega arith), not_letter semicolon (omega arith), not_letter less (omega arith))
  leads_nowhere Last = rw (not_letter question (omega arith))
  leads_nowhere LastPlatform = refl
