-- `place_of` meets its contract. Assumes nothing.
use Prim.Native.Nat.{◌-◌, ◌*◌, ◌/◌, ◌%◌}
use mathlib.Core.Path.{ap}
use native.Mathlib.Nat.{mod-lt}
use native.Mathlib.Omega.{arith}
use Rattle.keys.specs.Places.{place_of}
use Rattle.keys.proofs.PlaceLaws.{few_is, place_inside, product_fits}
use Rattle.keys.proofs.place_of.Goals as goal

pub overflow_mul-result : goal.overflow_mul-result
overflow_mul-result c =
    let k = c.args.key in
    let f = (few_is (c.args.slots - 64)).2 in
    omega (
      arith,
      product_fits (k % 4294967291 * 2654435761 % 4294967296) c.at_most_32_bits-firsts.result
          (mod-lt (k % 4294967291 * 2654435761) (omega arith)) (omega (arith, c.at_most_32_bits-firsts.ensures, f)),
    )

pub returns : goal.returns
unfolding place_of
returns c =
    let e = ap (λ f. c.args.key % 4294967291 * 2654435761 % 4294967296 * f / 4294967296) c.at_most_32_bits-firsts.ensures in
    (e, omega (arith, e, place_inside c.args.key c.args.slots c.requires))
