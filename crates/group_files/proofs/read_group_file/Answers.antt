-- `group_files::read_group_file` meets its contract: a first line and the groups after it make a file. Assumes nothing.
use Rattle.std.proofs.Common.{rules, ◌≡◌, Err}
use Prim.Native.Nat.{◌<◌}
use mathlib.Core.Path.{ap}
use native.Mathlib.Omega.{arith}
use lib.ListN.{length}
use Rattle.iff.specs.Refusals.{fine}
use Rattle.group_files.proofs.WholeLaws.{handed_on, not_there, head_refused, groups_begun, groups_refused, flag_room, groups_accepted}
use Rattle.group_files.proofs.read_group_file.Goals as goal

pub returns-then-text-eq0 : goal.returns-then-text-eq0
returns-then-text-eq0 c =
    let e = c.in_ok-v.was in
    not_there _ _ _ _ _ _ _ e c.if-text-eq0.true (c.requires (ap fine e))

pub begin_file-requires : goal.begin_file-requires
begin_file-requires c =
    let h : 0 < length c.args.text.now = omega (arith, c.if-text-eq0.false) in
    (h, c.requires (ap fine c.in_ok-v.was))

pub read_groups-requires : goal.read_groups-requires
read_groups-requires c =
    groups_begun c.args.file c.args.text.now _ _ (c.begin_file.ensures.rest _ c.in-Ok.is)

pub set_rises-requires : goal.set_rises-requires
set_rises-requires c =
    let more : 0 < length c.args.text.now = omega (arith, c.if-text-eq0.false) in
    flag_room _ _ _ _ _ _ _ c.in_ok-v.was more _ _ c.begin_file.ensures _ c.in-Ok.is _ _
    c.read_groups.ensures _ c.in_ok-rises-in-Ok.was

pub returns-in_err-v : goal.returns-in_err-v
returns-in_err-v c =
    let handed : c.from_residual.result ≡ Err c.in_err-v.field-0.0 = search rules in
    rw handed (handed_on _ _ _ _ _ _ _ _ _ c.in_err-v.was)

pub returns-in-Err : goal.returns-in-Err
returns-in-Err c =
    let more : 0 < length c.args.text.now = omega (arith, c.if-text-eq0.false) in
    head_refused _ _ _ _ _ _ _ c.in_ok-v.was more _ _ c.begin_file.ensures _ c.in-Err.is

pub returns-in_err-rises-in-Ok : goal.returns-in_err-rises-in-Ok
returns-in_err-rises-in-Ok c =
    let more : 0 < length c.args.text.now = omega (arith, c.if-text-eq0.false) in
    let handed : c.from_residual-in_err-rises-in-Ok.result ≡ Err c.in_err-rises-in-Ok.field-0.0 = search rules in
    rw handed (groups_refused _ _ _ _ _ _ _ c.in_ok-v.was more _ _ c.begin_file.ensures _ c.in-Ok.is _ _
    c.read_groups.ensures _ _ c.in_err-rises-in-Ok.was)

pub returns-in_ok-rises-in-Ok : goal.returns-in_ok-rises-in-Ok
returns-in_ok-rises-in-Ok c =
    let more : 0 < length c.args.text.now = omega (arith, c.if-text-eq0.false) in
    groups_accepted _ _ _ _ _ _ _ c.in_ok-v.was more _ _ c.begin_file.ensures _ c.in-Ok.is _ _
    c.read_groups.ensures _ c.in_ok-rises-in-Ok.was _ c.set_rises.ensures

pub shape_of-t-in-Err : goal.shape_of-t-in-Err
shape_of-t-in-Err c = (returns-in-Err c).kept

pub shape_of-t-in_err-rises-in-Ok : goal.shape_of-t-in_err-rises-in-Ok
shape_of-t-in_err-rises-in-Ok c = (returns-in_err-rises-in-Ok c).kept

pub shape_of-t-in_ok-rises-in-Ok : goal.shape_of-t-in_ok-rises-in-Ok
shape_of-t-in_ok-rises-in-Ok c = (returns-in_ok-rises-in-Ok c).kept
