-- What the bytes that are left say is the whole. Assumes nothing.
use Prim.Native.Nat.{◌+◌, ◌-◌}
use mathlib.Core.Path.{◌≡◌, sym, ◌∙◌}
use native.Mathlib.Omega.{arith}
use Rattle.codes.proofs.CodeLaws.{code_begin, code_fails, code_on, code_long, code_end}
use Rattle.codes.proofs.is_code.Goals as goal

pub returns-then-not-is_allowed : goal.returns-then-not-is_allowed
returns-then-not-is_allowed c =
    code_fails _ _ _ _ _ c.loop.invariant (omega arith) (sym c.is_allowed.ensures ∙ c.if-not-is_allowed.true)

pub loop-init : goal.loop-init
loop-init c =
    let n : c.args.width - 0 ≡ c.args.width = omega arith in
    rw n (code_begin _ _)

pub loop-preserved : goal.loop-preserved
loop-preserved c =
    let n : c.args.width - c.loop.counter - 1 ≡ c.args.width - (c.loop.counter + 1) = omega arith in
    rw n at (code_on _ _ _ _ _ c.loop.invariant (omega arith) (sym c.is_allowed.ensures ∙ c.if-not-is_allowed.false) _ c.still_blank-blank.ensures)

pub returns-then-left-ne0 : goal.returns-then-left-ne0
returns-then-left-ne0 c =
    code_long _ _ _ _ _ c.loop.invariant (omega arith) (λ e. omega (arith, c.if-left-ne0.true))

pub returns : goal.returns
returns c =
    code_end _ _ _ _ _ c.loop.invariant (omega arith) (omega (arith, c.if-left-ne0.false))
