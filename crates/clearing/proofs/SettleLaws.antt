-- The tables after the verdict. Assumes nothing.
use Rattle.std.specs.Prelude.{Ok, Option}
use Prim.Native.Nat.{ℕ}
use mathlib.Core.Path.{◌≡◌}
use mathlib.Core.List.{List}
use lib.ListN.{length, replicate}
use Rattle.iff.specs.declared.Reason.{Reason}
use Rattle.clearing.specs.Cleared.{Cleared, settled, Settled}
use Rattle.iff.specs.Refusals.{Verdict, fault_at}
use Rattle.iff.specs.declared.Place.{Place}

stays : (v : Verdict) (t : List ℕ) → v ≡ Ok tt → t ≡ settled v t
stays v t e = rw e

goes_out : (v : Verdict) (k : Reason) (p : Option Place) (t u : List ℕ) → v ≡ fault_at k p → u ≡ replicate (length t) 0 → u ≡ settled v t
goes_out v k p t u e h = rw e h

pub all_stay : (v : Verdict) (t1 t2 t3 t4 t5 t6 t7 t8 t9 t10 t11 : List ℕ) → v ≡ Ok tt
    → Settled v t1 t2 t3 t4 t5 t6 t7 t8 t9 t10 t11 t1 t2 t3 t4 t5 t6 t7 t8 t9 t10 t11
all_stay v t1 t2 t3 t4 t5 t6 t7 t8 t9 t10 t11 e =
    record {
      s1 = stays v t1 e;
      s2 = stays v t2 e;
      s3 = stays v t3 e;
      s4 = stays v t4 e;
      s5 = stays v t5 e;
      s6 = stays v t6 e;
      s7 = stays v t7 e;
      s8 = stays v t8 e;
      s9 = stays v t9 e;
      s10 = stays v t10 e;
      s11 = stays v t11 e;
    }

pub all_go : (v : Verdict) (k : Reason) (p : Option Place) (t1 t2 t3 t4 t5 t6 t7 t8 t9 t10 t11 u1 u2 u3 u4 u5 u6 u7 u8 u9 u10 u11 : List ℕ)
    → v ≡ fault_at k p
    → Cleared t1 t2 t3 t4 t5 t6 t7 t8 t9 t10 t11 u1 u2 u3 u4 u5 u6 u7 u8 u9 u10 u11
    → Settled v t1 t2 t3 t4 t5 t6 t7 t8 t9 t10 t11 u1 u2 u3 u4 u5 u6 u7 u8 u9 u10 u11
all_go v k p t1 t2 t3 t4 t5 t6 t7 t8 t9 t10 t11 u1 u2 u3 u4 u5 u6 u7 u8 u9 u10 u11 e h =
    record {
      s1 = goes_out v k p t1 u1 e h.c1;
      s2 = goes_out v k p t2 u2 e h.c2;
      s3 = goes_out v k p t3 u3 e h.c3;
      s4 = goes_out v k p t4 u4 e h.c4;
      s5 = goes_out v k p t5 u5 e h.c5;
      s6 = goes_out v k p t6 u6 e h.c6;
      s7 = goes_out v k p t7 u7 e h.c7;
      s8 = goes_out v k p t8 u8 e h.c8;
      s9 = goes_out v k p t9 u9 e h.c9;
      s10 = goes_out v k p t10 u10 e h.c10;
      s11 = goes_out v k p t11 u11 e h.c11;
    }
