-- Where the row of a key is put, as a hint for later lookups.
use Rattle.std.specs.Prelude.{ℕ, ◌*◌, ◌-◌, ◌/◌, ◌%◌, cond, ltb}

-- so many slots are tried for a key
abbrev pub probes : ℕ
probes = 64

-- so many that a product with a number of 32 bits is a word
unfoldable pub few : ℕ → ℕ
few n = cond (ltb n 4294967296) n 4294967295

-- the first of them: any function of the key serves, as long as each lookup has the same one. A key's 32 bits are taken as a part of 2 to the 32, and
-- the slots are parted alike, which takes no division
unfoldable pub place_of : ℕ → ℕ → ℕ
place_of key slots = key % 4294967291 * 2654435761 % 4294967296 * few (slots - probes) / 4294967296
