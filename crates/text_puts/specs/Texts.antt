-- Text put together in a lent buffer.
use Rattle.std.specs.Prelude.{ℕ, zero, suc, ◌+◌, ◌/◌, ◌%◌, ◌≤◌, ◌≡◌, List, [], ◌∷◌, ◌++◌, cond, ltb, length, take}

-- behind the first `at` bytes of a buffer some more are put, as far as it has room: the first `to` bytes are then the text
pub record Appended (was : List ℕ) (at : ℕ) (more is : List ℕ) (to : ℕ) : Type 0 where
  pub text : take to is ≡ take (length was) (take at was ++ more)
  pub kept : length is ≡ length was
  pub within : at ≤ length was → to ≤ length is

-- n counts bytes at the front of a buffer. The second part follows from the first; with both a caller can take `&buf[..n]` without a proof.
abbrev pub Front : ℕ → List ℕ → Type 0
Front n xs = (n ≤ length xs) × (n ≡ length (take n xs))

-- A NUMBER in decimal, without leading zeros
abbrev pub last_digit : ℕ → ℕ
last_digit n = 48 + n % 10

-- at most so many digits before the last
unfoldable pub digits : ℕ → ℕ → List ℕ
digits zero n = last_digit n ∷ []
digits (suc k) n = cond (ltb n 10) (last_digit n ∷ []) (digits k (n / 10) ++ (last_digit n ∷ []))

-- twenty digits hold every number of 64 bits
abbrev pub decimal : ℕ → List ℕ
decimal n = digits 19 n
