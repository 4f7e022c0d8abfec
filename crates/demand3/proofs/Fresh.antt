-- A start that is taken: what its tables have, and that its card agrees with the ledger that is opened. Assumes nothing.
use Prim.Native.Nat.{ℕ, ◌≤◌, ◌<◌}
use mathlib.Core.Path.{◌≡◌, refl, sym, ap, subst}
use mathlib.Core.Bool.{Bool, true, false, cond, false≢true}
use mathlib.Core.List.{List, [], ◌∷◌}
use native.Mathlib.Omega.{arith}
use lib.ListN.{length-replicate, get_or-replicate}
use lib.Dec.{leb}
use Rattle.octets.specs.Tests.{every}
use borrow.Author.Tests.{le-leb}
use Rattle.octets.proofs.Tests.{each, every-by}
use Rattle.tables.proofs.Tables.{tables-taken}
use Rattle.ports.specs.declared.Port.{Port}
use Rattle.ports.specs.Ports.{fresh_port}
use Rattle.pool.proofs.Whole.{whole_fresh}
use Rattle.pool.proofs.Law.{owned_fresh, extras-fresh}
use Rattle.pool.proofs.Pools.{pool-fresh}
use Rattle.card.specs.Cards.{Card, port_at}
use Rattle.card.specs.Start.{Started, fresh_card, first_ok, start_of}
use Rattle.sums.specs.Sums.{sum_by}
use Rattle.demand3.specs.Calls.{Tables, started_of}
use Rattle.demand3.specs.Ledger.{opened}
use Rattle.demand3.specs.Claim.{charges, Once, takes}
use Rattle.demand3.proofs.Rows.{flow_sum, AllListed}
use Rattle.demand3.proofs.Agree.{Agree, TablesTaken}

module _ (t : Tables) (first : ℕ) where
  abbrev fresh : Card
  fresh = fresh_card t.ports t.channel_count t.entry_count t.white_cac t.add_cac first

  fresh_port_lem : (p : ℕ) → p < 64 → port_at fresh p ≡ fresh_port
  fresh_port_lem p h = get_or-replicate 64 p fresh_port fresh_port h

  agree_opened : Agree t fresh opened
  unfolding charges flow_sum AllListed Once sum_by
  agree_opened =
      record {
        ports = refl;
        channels = refl;
        entries = refl;
        white = refl;
        add = refl;
        records = length-replicate 64 fresh_port;
        whole = whole_fresh;
        owned = owned_fresh;
        extras = omega (arith, extras-fresh);
        at = λ p h. record {
          is_up = ap (λ (x : Port). x.up) (fresh_port_lem p h);
          delegation = ap (λ (x : Port). x.delegation) (fresh_port_lem p h);
          flows = λ w. pool-fresh p (λ k c a. w k c) (λ e. omega arith);
          rows = tt;
          once = tt;
          few = omega arith;
          bounded = omega arith;
          idle = λ e. refl;
          asks-more = subst (λ (x : Port). x.asking ≡ true → x.delegation < x.required) (sym (fresh_port_lem p h)) (λ e. absurd (false≢true e));
        };
      }

  abbrev tests : List Bool
  tests = takes t ∷ first_ok first ∷ []

  -- the two ways in which a start ends
  abbrev started : Bool → Started
  started b = cond b (record { card = fresh; number = 0 }) (record { card = fresh_card 0 0 0 false false 1; number = 14 })

  pub agree_fresh : (started_of t first).number ≡ 0 → TablesTaken t × Agree t (started_of t first).card opened
  unfolding started_of start_of
  agree_fresh e = go (every tests) refl e
    where
      go : (b : Bool) → every tests ≡ b → (started b).number ≡ 0 → TablesTaken t × Agree t (started b).card opened
      go true s n = (tables-taken t.ids t.ports t.channels t.channel_count t.entries t.entry_count (each tests s).0, agree_opened)
      go false s n = absurd (omega arith)

  pub started_port : (started_of t first).number ≡ 0 → (p : ℕ) → p < 64 → port_at (started_of t first).card p ≡ fresh_port
  unfolding started_of start_of
  started_port e p h = go (every tests) e
    where
      go : (b : Bool) → (started b).number ≡ 0 → port_at (started b).card p ≡ fresh_port
      go true n = fresh_port_lem p h
      go false n = absurd (omega arith)

  -- good tables and a first transaction number in range are taken
  pub start-takes : takes t ≡ true → 1 ≤ first → first ≤ 16777215 → (started_of t first).number ≡ 0
  unfolding started_of start_of first_ok
  start-takes h least most =
      ap (λ (b : Bool). (started b).number)
      (every-by tests (h, (every-by (leb 1 first ∷ leb first 16777215 ∷ []) (le-leb 1 first least, (le-leb first 16777215 most, tt)), tt)))
