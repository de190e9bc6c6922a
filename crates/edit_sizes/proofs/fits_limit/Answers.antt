-- What is left of the limit has room for the block exactly where the edited text fits. Assumes nothing.
use Prim.Native.Nat.{◌+◌, ◌≤◌}
use native.Mathlib.Omega.{arith}
use borrow.Author.Rules.{rules}
use Rattle.iff.specs.Files.{limit}
use Rattle.iff_desk.specs.Sound.{first_size}
use Rattle.edit_sizes.proofs.EditLaws.{size_between, stays, fits_edited}
use Rattle.edit_sizes.proofs.fits_limit.Goals as goal

pub lines_length-before-requires : goal.lines_length-before-requires
lines_length-before-requires c =
    let stay : (let a = c.args in
    first_size + size_between a.form a.t.now 1 a.from + size_between a.form a.t.now a.to a.used ≤ limit) = let a = c.args in stays a.form a.t.now a.used a.from a.to c.requires in
    (omega (arith, c.requires.some, c.requires.within, c.requires.lies), omega (arith, stay))

pub lines_length-behind-requires : goal.lines_length-behind-requires
lines_length-behind-requires c =
    let stay : (let a = c.args in
    first_size + size_between a.form a.t.now 1 a.from + size_between a.form a.t.now a.to a.used ≤ limit) = let a = c.args in stays a.form a.t.now a.used a.from a.to c.requires in
    (c.requires.lies, omega (arith, stay))

pub overflow_add-result : goal.overflow_add-result
overflow_add-result c =
    let stay : (let a = c.args in
    first_size + size_between a.form a.t.now 1 a.from + size_between a.form a.t.now a.to a.used ≤ limit) = let a = c.args in stays a.form a.t.now a.used a.from a.to c.requires in
    let all_stay : c.first_length-first.result + c.lines_length-before.result + c.lines_length-behind.result ≤ limit = omega (arith, stay, c.first_length-first.ensures, c.lines_length-before.ensures, c.lines_length-behind.ensures) in
    let h = all_stay in search (rules, h)

pub overflow_add-result-2 : goal.overflow_add-result-2
overflow_add-result-2 c =
    let stay : (let a = c.args in
    first_size + size_between a.form a.t.now 1 a.from + size_between a.form a.t.now a.to a.used ≤ limit) = let a = c.args in stays a.form a.t.now a.used a.from a.to c.requires in
    let all_stay : c.first_length-first.result + c.lines_length-before.result + c.lines_length-behind.result ≤ limit = omega (arith, stay, c.first_length-first.ensures, c.lines_length-before.ensures, c.lines_length-behind.ensures) in
    let h = all_stay in search (rules, h)

pub returns : goal.returns
returns c =
    let a = c.args in
    fits_edited a.form a.t.now a.used a.from a.to c.requires _ _ _ a.bytes
    c.first_length-first.ensures c.lines_length-before.ensures c.lines_length-behind.ensures

pub overflow_sub-result : goal.overflow_sub-result
overflow_sub-result c =
    let stay : (let a = c.args in
    first_size + size_between a.form a.t.now 1 a.from + size_between a.form a.t.now a.to a.used ≤ limit) = let a = c.args in stays a.form a.t.now a.used a.from a.to c.requires in
    let all_stay : c.first_length-first.result + c.lines_length-before.result + c.lines_length-behind.result ≤ limit = omega (arith, stay, c.first_length-first.ensures, c.lines_length-before.ensures, c.lines_length-behind.ensures) in
    omega (arith, all_stay)
