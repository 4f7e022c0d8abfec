-- Loops over lent maps that write v at port p's records whose channel is selected, and tell whether there was one.
--     swept_start, swept_hit, swept_miss, swept_end     its beginning, one turn, its end
--     next_hit, next_miss      where the owner map itself is written: the port's next record
--     swept_none       where no record is selected nothing is written
--     ending_start, ending_hit, ending_miss, ending_end     the same of a pool whose flows end
--     accounting_start, .. accounting_end                   and of one whose accounting is set
--     ended-none, accounted-none                            where no flow is selected the pool is as it was
-- Assumes nothing.
use Prim.Native.Nat.{ℕ, ◌+◌, ◌≤◌, ◌<◌}
use mathlib.Core.Path.{◌≡◌, refl, sym, ap, subst, ◌∙◌}
use mathlib.Core.Bool.{Bool, true, false, cond}
use mathlib.Core.List.{List, []}
use native.Mathlib.Omega.{arith}
use lib.ListN.{length, get_or, set}
use lib.Dec.{eqb, ltb}
use borrow.Author.Tests.{eqb-true, eq-eqb, ne_eqb, lt-ltb, ltb-false}
use Rattle.octets.proofs.Tests.{both, false_by}
use Rattle.rows.proofs.Nexts.{kept-over, next-stands, next-same}
use Rattle.sums.specs.Sums.{map_to}
use Rattle.pool.specs.Pool.{is_of, Next, is_one, holds_where, active_where, pool_of, with_owner, with_accounting, free, ended, accounted}
use Rattle.pool.specs.declared.Pool.{Pool}
use Rattle.pool.proofs.Turns.{Stands, sum_before, sum-start, sum-mine, sum-none, sum-at, sum_skip, sum_end}
use Rattle.pool.proofs.Marks.{mark, marked, mark-start, mark_read, mark_on, mark-off, mark_skip, mark_end, is_one_lem, not_selected}

module _ (l : List ℕ) (v : ℕ) (owner channel : List ℕ) (p : ℕ) (sel : ℕ → Bool) where
  abbrev maps : Pool
  maps = pool_of owner channel [] []

  -- record i is port p's, with a channel that is selected
  abbrev hits : ℕ → Bool
  hits = is_one maps p sel

  abbrev chosen : ℕ → ℕ
  chosen i = cond (sel (get_or channel i 0)) 1 0

  -- the records before i are done: m is the map, and found whether one was written
  pub record Passed (i : ℕ) (m : List ℕ) (found : Bool) : Type 0 where
    pub marks : m ≡ marked l v hits i
    pub seen : found ≡ ltb 0 (sum_before owner p chosen i)

  -- and the walk stands at record i
  abbrev pub Swept : ℕ → List ℕ → Bool → Type 0
  Swept i m found = Stands owner p i × Passed i m found

  passed_skip : {i r : ℕ} {m : List ℕ} {found : Bool} → Passed i m found → Next owner p i r → Swept r m found
  passed_skip {i} s x = (
    next-stands x,
    record {
      marks = s.marks ∙ mark_skip maps p sel l v i x;
      seen = s.seen ∙ ap (ltb 0) (sum_skip owner p chosen i refl x);
    },
  )

  pub swept_start : {r : ℕ} → length l ≡ 512 → Next owner p 0 r → Swept r l false
  swept_start h x = passed_skip (record { marks = mark-start l v hits h; seen = ap (ltb 0) (sum-start owner p chosen) }) x

  module _ {i : ℕ} {m : List ℕ} {found : Bool} (s : Swept i m found) (h : i < 512) where
    passed_hit : sel (get_or channel i 0) ≡ true → {n : List ℕ} {f : Bool} → n ≡ set m i v → f ≡ true → Passed (i + 1) n f
    passed_hit c en ef =
        let mine = s.0.1 h in
        let more = sum-mine owner p chosen i 1 refl mine (simp c) in
        record {
          marks = en ∙ ap (λ (x : List ℕ). set x i v) s.1.marks ∙ mark_on l v hits i h (is_one_lem maps p sel i mine c);
          seen = ef ∙ sym (lt-ltb 0 (sum_before owner p chosen (i + 1)) (omega (arith, more)));
        }

    passed_miss : sel (get_or channel i 0) ≡ false → {n : List ℕ} {f : Bool} → n ≡ m → f ≡ found → Passed (i + 1) n f
    passed_miss c en ef =
        record {
          marks = en ∙ s.1.marks ∙ mark-off l v hits i h (not_selected maps p sel i c);
          seen = ef ∙ s.1.seen ∙ ap (ltb 0) (sum-none owner p chosen i refl (simp c));
        }

    -- one turn: record i is written or not, and the walk goes on to the port's next record
    module _ {n : List ℕ} {f : Bool} {r : ℕ} (x : Next owner p (i + 1) r) where
      pub swept_hit : sel (get_or channel i 0) ≡ true → n ≡ set m i v → f ≡ true → Swept r n f
      swept_hit c en ef = passed_skip (passed_hit c en ef) x

      pub swept_miss : sel (get_or channel i 0) ≡ false → n ≡ m → f ≡ found → Swept r n f
      swept_miss c en ef = passed_skip (passed_miss c en ef) x

  pub swept_end : {i : ℕ} {m : List ℕ} {found : Bool} → Swept i m found → 512 ≤ i
      → (found ≡ active_where owner channel p sel) × (m ≡ map_to 512 (mark l v hits))
  swept_end {i} s h = (s.1.seen ∙ ap (ltb 0) (sum_end owner p chosen i refl s.0.0 h), s.1.marks ∙ mark_end l v hits i h)

-- ---- where the map that is written is the owner map: what is not done yet is as it was, and so is the port's next record
module _ (v : ℕ) (owner channel : List ℕ) (p : ℕ) (sel : ℕ → Bool) {i : ℕ} {m : List ℕ} {found : Bool} (s : Swept owner v owner channel p sel i m found) where
  pub next_hit : {n : List ℕ} {r : ℕ} → i < 512 → sel (get_or channel i 0) ≡ true → n ≡ set m i v → Next n p (i + 1) r → Next owner p (i + 1) r
  next_hit h c en x = next-same (λ j a b. later (passed_hit owner v owner channel p sel s h c en refl) j a b) x
    where
      later : {n : List ℕ} {f : Bool} → Passed owner v owner channel p sel (i + 1) n f → (j : ℕ) → i + 1 ≤ j → j < 512 → get_or n j 0 ≡ get_or owner j 0
      later q j a b = ap (λ (y : List ℕ). get_or y j 0) q.marks ∙ mark_read owner v (hits owner v owner channel p sel) (i + 1) j a b

  pub next_miss : {n : List ℕ} {r : ℕ} → n ≡ m → Next n p (i + 1) r → Next owner p (i + 1) r
  next_miss en x = next-same (λ j a b. ap (λ (y : List ℕ). get_or y j 0) (en ∙ s.1.marks) ∙ mark_read owner v (hits owner v owner channel p sel) i j (omega arith) b) x

-- where no record is selected nothing is written
module _ (l : List ℕ) (v : ℕ) (owner channel : List ℕ) (p : ℕ) (sel : ℕ → Bool) where
  pub swept_none : length l ≡ 512 → active_where owner channel p sel ≡ false → map_to 512 (mark l v (hits l v owner channel p sel)) ≡ l
  swept_none h n =
      sym (mark-start l v test h ∙ kept-over (marked l v test) 0 512 (omega arith) (λ i a b. mark-off l v test i b (off i b)) ∙ mark_end l v test 512 (omega arith))
    where
      test : ℕ → Bool
      test = hits l v owner channel p sel

      off : (i : ℕ) → i < 512 → test i ≡ false
      off i b = sym (false_by (test i) (λ t. let w = both (is_of owner p i) (sel (get_or channel i 0)) t in
          omega (arith, ltb-false 0 (holds_where owner channel p sel) n, sum-at owner p (chosen l v owner channel p sel) i b (eqb-true (get_or owner i 0) p w.0), let e : chosen l v owner channel p sel i ≡ 1 = simp w.1 in e)))

-- ---- of a pool: flows end, in its owner map alone
pub owner_only : (pool : Pool) {at next : Pool} {o : List ℕ} → at ≡ with_owner pool at.owner → next ≡ with_owner at o → next ≡ with_owner pool next.owner
owner_only pool {o = o} e f = f ∙ ap (λ (q : Pool). with_owner q o) e ∙ ap (with_owner pool) (sym (ap (λ (q : Pool). q.owner) f))

module _ (pool : Pool) (p : ℕ) (sel : ℕ → Bool) where
  -- the records before i are done, and the walk stands at record i: `at` is the pool
  pub record Ending (i : ℕ) (at : Pool) (found : Bool) : Type 0 where
    pub rest : at ≡ with_owner pool at.owner
    pub swept : Swept pool.owner free pool.owner pool.channel p sel i at.owner found

  pub ending_start : {r : ℕ} → length pool.owner ≡ 512 → Next pool.owner p 0 r → Ending r pool false
  ending_start h x = record { rest = refl; swept = swept_start pool.owner free pool.owner pool.channel p sel h x }

  module _ {i : ℕ} {at : Pool} {found : Bool} (s : Ending i at found) where
    channel_of : {b : Bool} → sel (get_or at.channel i 0) ≡ b → sel (get_or pool.channel i 0) ≡ b
    channel_of e = ap (λ (q : Pool). sel (get_or q.channel i 0)) (sym s.rest) ∙ e

    module _ {next : Pool} {f : Bool} {r : ℕ} (l : i < 512) (x : Next next.owner p (i + 1) r) where
      pub ending_hit : sel (get_or at.channel i 0) ≡ true → next ≡ with_owner at (set at.owner i free) → f ≡ true → Ending r next f
      ending_hit c e ef =
          let on = channel_of c in
          let o = ap (λ (q : Pool). q.owner) e in
          record {
            rest = owner_only pool s.rest e;
            swept = swept_hit pool.owner free pool.owner pool.channel p sel s.swept l (next_hit free pool.owner pool.channel p sel s.swept l on o x) on o ef;
          }

      pub ending_miss : sel (get_or at.channel i 0) ≡ false → next ≡ at → f ≡ found → Ending r next f
      ending_miss c e ef =
          let o = ap (λ (q : Pool). q.owner) e in
          record {
            rest = owner_only pool s.rest e;
            swept = swept_miss pool.owner free pool.owner pool.channel p sel s.swept l (next_miss free pool.owner pool.channel p sel s.swept o x) (channel_of c) o ef;
          }

    pub ending_end : 512 ≤ i → (found ≡ active_where pool.owner pool.channel p sel) × (at ≡ ended pool p sel)
    unfolding ended
    ending_end h =
        let all = swept_end pool.owner free pool.owner pool.channel p sel s.swept h in
        (all.0, s.rest ∙ ap (with_owner pool) all.1)

  -- where no flow is selected none ends
  pub ended-none : length pool.owner ≡ 512 → active_where pool.owner pool.channel p sel ≡ false → ended pool p sel ≡ pool
  unfolding ended
  ended-none h n = ap (with_owner pool) (swept_none pool.owner free pool.owner pool.channel p sel h n)

-- ---- and accounting is set, in its accounting map alone
pub accounting_only : (pool : Pool) {at next : Pool} {a : List ℕ} → at ≡ with_accounting pool at.accounting → next ≡ with_accounting at a → next ≡ with_accounting pool next.accounting
accounting_only pool {a = a} e f = f ∙ ap (λ (q : Pool). with_accounting q a) e ∙ ap (with_accounting pool) (sym (ap (λ (q : Pool). q.accounting) f))

owner_kept : (pool : Pool) {next : Pool} {p i r : ℕ} → next ≡ with_accounting pool next.accounting → Next next.owner p i r → Next pool.owner p i r
owner_kept pool {p = p} {i} {r} e x = subst (λ (o : List ℕ). Next o p i r) (ap (λ (q : Pool). q.owner) e) x

module _ (pool : Pool) (p k value : ℕ) where
  abbrev of_k : ℕ → Bool
  of_k j = eqb j k

  pub record Accounting (i : ℕ) (at : Pool) (found : Bool) : Type 0 where
    pub rest : at ≡ with_accounting pool at.accounting
    pub swept : Swept pool.accounting value pool.owner pool.channel p of_k i at.accounting found

  pub accounting_start : {r : ℕ} → length pool.accounting ≡ 512 → Next pool.owner p 0 r → Accounting r pool false
  accounting_start h x = record { rest = refl; swept = swept_start pool.accounting value pool.owner pool.channel p of_k h x }

  module _ {i : ℕ} {at : Pool} {found : Bool} (s : Accounting i at found) where
    channel_is : get_or pool.channel i 0 ≡ get_or at.channel i 0
    channel_is = ap (λ (q : Pool). get_or q.channel i 0) (sym s.rest)

    module _ {next : Pool} {f : Bool} {r : ℕ} (l : i < 512) (x : Next next.owner p (i + 1) r) where
      pub accounting_hit : get_or at.channel i 0 ≡ k → next ≡ with_accounting at (set at.accounting i value) → f ≡ true → Accounting r next f
      accounting_hit c e ef =
          let rest = accounting_only pool s.rest e in
          record {
            rest = rest;
            swept = swept_hit pool.accounting value pool.owner pool.channel p of_k s.swept l (owner_kept pool rest x) (eq-eqb (get_or pool.channel i 0) k (channel_is ∙ c)) (ap (λ (q : Pool). q.accounting) e) ef;
          }

      pub accounting_miss : (get_or at.channel i 0 ≡ k → ⊥) → next ≡ at → f ≡ found → Accounting r next f
      accounting_miss c e ef =
          let rest = accounting_only pool s.rest e in
          record {
            rest = rest;
            swept = swept_miss pool.accounting value pool.owner pool.channel p of_k s.swept l (owner_kept pool rest x) (ne_eqb (get_or pool.channel i 0) k (λ z. c (sym channel_is ∙ z))) (ap (λ (q : Pool). q.accounting) e) ef;
          }

    pub accounting_end : 512 ≤ i → (found ≡ active_where pool.owner pool.channel p of_k) × (at ≡ accounted pool p k value)
    unfolding accounted
    accounting_end h =
        let all = swept_end pool.accounting value pool.owner pool.channel p of_k s.swept h in
        (all.0, s.rest ∙ ap (with_accounting pool) all.1)

  -- where no flow is of this channel none is set
  pub accounted-none : length pool.accounting ≡ 512 → active_where pool.owner pool.channel p of_k ≡ false → accounted pool p k value ≡ pool
  unfolding accounted
  accounted-none h n = ap (with_accounting pool) (swept_none pool.accounting value pool.owner pool.channel p of_k h n)
