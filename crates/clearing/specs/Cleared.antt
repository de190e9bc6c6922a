-- Tables that are cleared.
use Rattle.std.specs.Prelude.{ℕ, ◌≡◌, List, length, replicate, Err, Ok}
use Rattle.iff.specs.Refusals.{Verdict}

-- in groups: five, six, and all
pub record Cleared5 (t1 t2 t3 t4 t5 u1 u2 u3 u4 u5 : List ℕ) : Type 0 where
  pub c1 : u1 ≡ replicate (length t1) 0
  pub c2 : u2 ≡ replicate (length t2) 0
  pub c3 : u3 ≡ replicate (length t3) 0
  pub c4 : u4 ≡ replicate (length t4) 0
  pub c5 : u5 ≡ replicate (length t5) 0

pub record Cleared6 (t1 t2 t3 t4 t5 t6 u1 u2 u3 u4 u5 u6 : List ℕ) : Type 0 where
  pub c1 : u1 ≡ replicate (length t1) 0
  pub c2 : u2 ≡ replicate (length t2) 0
  pub c3 : u3 ≡ replicate (length t3) 0
  pub c4 : u4 ≡ replicate (length t4) 0
  pub c5 : u5 ≡ replicate (length t5) 0
  pub c6 : u6 ≡ replicate (length t6) 0

pub record Cleared (t1 t2 t3 t4 t5 t6 t7 t8 t9 t10 t11 u1 u2 u3 u4 u5 u6 u7 u8 u9 u10 u11 : List ℕ) : Type 0 where
  pub c1 : u1 ≡ replicate (length t1) 0
  pub c2 : u2 ≡ replicate (length t2) 0
  pub c3 : u3 ≡ replicate (length t3) 0
  pub c4 : u4 ≡ replicate (length t4) 0
  pub c5 : u5 ≡ replicate (length t5) 0
  pub c6 : u6 ≡ replicate (length t6) 0
  pub c7 : u7 ≡ replicate (length t7) 0
  pub c8 : u8 ≡ replicate (length t8) 0
  pub c9 : u9 ≡ replicate (length t9) 0
  pub c10 : u10 ≡ replicate (length t10) 0
  pub c11 : u11 ≡ replicate (length t11) 0

-- a table after the verdict: as it was read, or all zero
abbrev pub settled : Verdict → List ℕ → List ℕ
settled (Ok _) t = t
settled (Err fault) t = replicate (length t) 0

pub record Settled (v : Verdict) (t1 t2 t3 t4 t5 t6 t7 t8 t9 t10 t11 u1 u2 u3 u4 u5 u6 u7 u8 u9 u10 u11 : List ℕ) : Type 0 where
  pub s1 : u1 ≡ settled v t1
  pub s2 : u2 ≡ settled v t2
  pub s3 : u3 ≡ settled v t3
  pub s4 : u4 ≡ settled v t4
  pub s5 : u5 ≡ settled v t5
  pub s6 : u6 ≡ settled v t6
  pub s7 : u7 ≡ settled v t7
  pub s8 : u8 ≡ settled v t8
  pub s9 : u9 ≡ settled v t9
  pub s10 : u10 ≡ settled v t10
  pub s11 : u11 ≡ settled v t11
