-- `stop_time_minutes` meets its contract: in each arm the answer is known, and each number is its callee's. Assumes nothing.
use mir.Syntax.{w32}
use mir.Facts.{to_z-of_z}
use Rattle.question_numbers.proofs.stop_time_minutes.Goals as goal

pub returns-in-Ok : goal.returns-in-Ok
returns-in-Ok c =
    let arrives = c.local_of-arrives in
    let arrives_reference = c.reference_of-arrives_reference in
    let departs = c.local_of-departs in
    let departs_reference = c.reference_of-departs_reference in
    rw (to_z-of_z {w = w32} {z = arrives.result} (record { sfits = arrives.type_inv }))
    (rw (to_z-of_z {w = w32} {z = arrives_reference.result} (record { sfits = arrives_reference.type_inv }))
    (rw (to_z-of_z {w = w32} {z = departs.result} (record { sfits = departs.type_inv }))
    (rw (to_z-of_z {w = w32} {z = departs_reference.result} (record { sfits = departs_reference.type_inv }))
    (rw c.in-Ok.is
    (rw (arrives.ensures, arrives_reference.ensures, departs.ensures, departs_reference.ensures))))))

pub returns-in-Err : goal.returns-in-Err
returns-in-Err c = rw c.in-Err.is
