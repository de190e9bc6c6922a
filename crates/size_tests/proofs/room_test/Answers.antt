-- `room_test` meets its contract. Assumes nothing.
use Prim.Native.Nat.{◌<◌, ◌≤◌}
use native.Mathlib.Omega.{arith}
use borrow.Author.Tests.{le-leb, lt-leb}
use Rattle.size_tests.proofs.room_test.Goals as goal

pub returns-then-count-room : goal.returns-then-count-room
returns-then-count-room c =
    let fits : c.count_lines-count.result ≤ c.room-room.result = omega arith in
    rw (c.in-Ok.is, ← c.count_lines-count.ensures, ← c.room-room.ensures, le-leb _ _ fits)

pub returns-else-count-room : goal.returns-else-count-room
returns-else-count-room c =
    let more : c.room-room.result < c.count_lines-count.result = omega arith in
    rw (c.in-Ok.is, ← c.count_lines-count.ensures, ← c.room-room.ensures, lt-leb _ _ more)
