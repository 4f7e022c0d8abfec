-- A pool's maps have 512 elements: every pool of the program does, and each writer keeps it so.
--     whole_fresh, whole_began, whole_ended, whole_accounted
--     began-none       with no free record nothing begins
-- Assumes nothing.
use Prim.Native.Nat.{ℕ, ◌≤◌}
use mathlib.Core.Path.{◌≡◌, ◌∙◌}
use mathlib.Core.Bool.{Bool, false, cond}
use native.Mathlib.Omega.{arith}
use lib.ListN.{get_or, set, length-set, length-replicate}
use lib.Seq.{set_out}
use Rattle.sums.proofs.Maps.{map_to-length}
pub use Rattle.pool.specs.Pool.{Whole}
use Rattle.pool.specs.Pool.{free, free_of, fresh_pool, began, is_one, ended, accounted}
use Rattle.pool.specs.declared.Pool.{Pool}
use lib.Dec.{eqb}

pub whole_fresh : Whole fresh_pool
unfolding fresh_pool
whole_fresh = record {
  owner = length-replicate 512 free;
  channel = length-replicate {A = ℕ} 512 0;
  charged = length-replicate 512 false;
  accounting = length-replicate {A = ℕ} 512 0;
}

module _ (pool : Pool) (whole : Whole pool) (p : ℕ) where
  module _ (k : ℕ) (c : Bool) (a : ℕ) where
    pub whole_began : Whole (began pool p k c a)
    unfolding began
    whole_began = record {
      owner = length-set pool.owner (free_of pool) p ∙ whole.owner;
      channel = length-set pool.channel (free_of pool) k ∙ whole.channel;
      charged = length-set pool.charged (free_of pool) c ∙ whole.charged;
      accounting = length-set pool.accounting (free_of pool) a ∙ whole.accounting;
    }

    pub began-none : 512 ≤ free_of pool → began pool p k c a ≡ pool
    unfolding began
    began-none h =
        let o : set pool.owner (free_of pool) p ≡ pool.owner = set_out pool.owner (free_of pool) p (omega (arith, whole.owner)) in
        let j : set pool.channel (free_of pool) k ≡ pool.channel = set_out pool.channel (free_of pool) k (omega (arith, whole.channel)) in
        let b : set pool.charged (free_of pool) c ≡ pool.charged = set_out pool.charged (free_of pool) c (omega (arith, whole.charged)) in
        let m : set pool.accounting (free_of pool) a ≡ pool.accounting = set_out pool.accounting (free_of pool) a (omega (arith, whole.accounting)) in
        simp (o, j, b, m)

  pub whole_ended : (sel : ℕ → Bool) → Whole (ended pool p sel)
  unfolding ended
  whole_ended sel = record {
    owner = map_to-length 512 (λ i. cond (is_one pool p sel i) free (get_or pool.owner i 0));
    channel = whole.channel;
    charged = whole.charged;
    accounting = whole.accounting;
  }

  pub whole_accounted : (k value : ℕ) → Whole (accounted pool p k value)
  unfolding accounted
  whole_accounted k value = record {
    owner = whole.owner;
    channel = whole.channel;
    charged = whole.charged;
    accounting = map_to-length 512 (λ i. cond (is_one pool p (λ j. eqb j k) i) value (get_or pool.accounting i 0));
  }
