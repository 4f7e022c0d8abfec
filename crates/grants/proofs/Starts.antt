-- From a start that is taken, and from two.
--     last_of, once_of, stretch_of, differ_of     one start
--     apart_of, restart_of                        two starts
-- Assumes nothing.
use Rattle.std.specs.Prelude.{Some}
use Prim.Native.Nat.{ℕ, suc, ◌+◌, ◌-◌, ◌<◌}
use mathlib.Core.Path.{◌≡◌, refl, sym, ap, subst, ◌∙◌}
use mathlib.Core.Bool.{Bool, true, false, cond, false≢true}
use mathlib.Core.List.{List, [], ◌∷◌, ◌++◌}
use mathlib.Core.Logic.{◌⊎◌, inl, inr, ⊎_elim}
use native.Mathlib.Omega.{arith}
use lib.ListN.{length, get_or}
use Rattle.octets.specs.Members.{Among}
use Rattle.ports.specs.declared.Port.{Port}
use Rattle.numbers.specs.Numbers.{number_after}
use Rattle.numbers.proofs.Circle.{after-zero, after-add, after_range, after-apart}
use Rattle.demand3.specs.Calls.{Tables, Call, ours, started_of, card_after}
use Rattle.demand3.specs.Reads.{port_in}
use Rattle.demand3.specs.Ledger.{opened}
use Rattle.demand3.specs.Corollaries.{card_from}
use Rattle.demand3.proofs.Fresh.{agree_fresh, started_port}
use Rattle.demand3.proofs.Calls.{calls_agree}
use Rattle.demand3.proofs.Counter.{first_counter, first_range, counter_range}
use Rattle.grants.specs.Grants.{written_from, written_of, NoRequest, Moved, taken_by, transaction_in, numbers_of, begun_of, LastRequest, OwnGrant, Stretch, Disjoint, present_of, IsTaken, Grants}
use Rattle.grants.proofs.Numbers.{is_begun, begun_146, calls_stretch}
use Rattle.grants.proofs.Once.{taken-once}
use Rattle.grants.proofs.Last.{Since, open_since, last_in, calls_last, taken_open}

-- ---- one start
module _ (t : Tables) (first : ℕ) (started : (started_of t first).number ≡ 0) (calls : List Call) where
  -- no request is open on a card that is freshly started
  none_open : (p : ℕ) → p < 64 → (n : ℕ) → Since t p (started_of t first).card n (written_of t first calls) → LastRequest t p n (written_of t first calls)
  none_open p below n (open_since e k d) = absurd (false≢true (sym (ap (λ (y : Port). y.asking) (started_port t first started p below)) ∙ e))
  none_open p below n (last_in k) = k

  last_of : (m : List ℕ) → IsTaken t (card_from t first calls) m → OwnGrant t m (written_of t first calls)
  last_of m k =
      let tables = (agree_fresh t first started).0 in
      let agree = (agree_fresh t first started).1 in
      let at-end = calls_agree t tables calls (started_of t first).card opened agree in
      let o = taken_open t (card_from t first calls) at-end.ports m k.kind k.space k.done in
      record {
        p = o.p;
        port = o.port;
        last = subst (λ (n : ℕ). LastRequest t o.p n (written_of t first calls)) o.number
            (none_open o.p o.below _ (calls_last t tables o.p o.below calls (started_of t first).card opened agree (first_range t first started) o.is_open));
      }

  once_of : (p : ℕ) (m : List ℕ) → port_in t m ≡ Some p → (k : IsTaken t (card_from t first calls) m) → (more : List Call)
      → NoRequest t p (written_from t (taken_by k) more) → (n : List ℕ) → port_in t n ≡ Some p → IsTaken t (card_after ours t (taken_by k) more) n → ⊥
  once_of p m port k =
      let s = agree_fresh t first started in
      taken-once t s.0 (card_from t first calls) _ (calls_agree t s.0 calls (started_of t first).card opened s.1) (counter_range t first started calls) p m port k

  stretch_of : Stretch first (present_of t first calls) (begun_of t first calls)
  stretch_of =
      subst (λ (n : ℕ). Stretch n (present_of t first calls) (begun_of t first calls)) (first_counter t first started).0
      (calls_stretch t calls (started_of t first).card (first_range t first started))

  differ_of : (i j : ℕ) → i < j → j < length (begun_of t first calls) → j < i + 16777215
      → get_or (begun_of t first calls) i 0 ≡ get_or (begun_of t first calls) j 0 → ⊥
  differ_of i j l h few e =
      let range = (first_counter t first started).1 in
      let r = after_range i first range.0 range.1 in
      let parts : j ≡ i + (j - i) = omega arith in
      let same : number_after (number_after first i) 0 ≡ number_after (number_after first i) (j - i)
      = after-zero (number_after first i) ∙ sym (stretch_of.each i (omega arith)) ∙ e ∙ stretch_of.each j h ∙ ap (number_after first) parts ∙ after-add first i (j - i) in
      omega (arith, after-apart (number_after first i) r.0 r.1 0 (j - i) (omega arith) (omega arith) same)

-- ---- numbers among others
module _ (m : List ℕ) (begun : is_begun m ≡ true) where
  number_among : (before after : List (List ℕ)) → Among (transaction_in m) (numbers_of (before ++ m ∷ after))
  unfolding numbers_of Among
  number_among [] after = subst (λ (b : Bool). Among (transaction_in m) (cond b (transaction_in m ∷ numbers_of after) (numbers_of after))) (sym begun) (inl refl)
  number_among (w ∷ before) after = go (is_begun w) (number_among before after)
    where
      rest : List ℕ
      rest = numbers_of (before ++ m ∷ after)

      go : (b : Bool) → Among (transaction_in m) rest → Among (transaction_in m) (cond b (transaction_in w ∷ rest) rest)
      go true k = inr k
      go false k = k

last_among : (t : Tables) (p n : ℕ) (ms : List (List ℕ)) → LastRequest t p n ms → Among n (numbers_of ms)
last_among t p n ms k =
    subst (λ (i : ℕ). Among i (numbers_of ms)) k.number
    (subst (λ (ws : List (List ℕ)). Among (transaction_in k.request) (numbers_of ws)) (sym k.among)
    (number_among k.request (begun_146 k.request k.is_request.0) k.before k.after))

-- the place of a number
record Placed (n : ℕ) (ns : List ℕ) : Type 0 where
  at : ℕ
  below : at < length ns
  is : get_or ns at 0 ≡ n

placed : (n : ℕ) (ns : List ℕ) → Among n ns → Placed n ns
unfolding Among
placed n [] k = absurd k
placed n (m ∷ ns) k =
    ⊎_elim
    (λ (e : n ≡ m). record { at = 0; below = omega arith; is = sym e })
    (λ (s : Among n ns). let q = placed n ns s in record { at = suc q.at; below = omega (arith, q.below); is = q.is })
    k

-- ---- two starts
module _ (t u : Tables) (first second : ℕ) (one : (started_of t first).number ≡ 0) (two : (started_of u second).number ≡ 0) (xs ys : List Call) where
  apart_of : Disjoint (begun_of t first xs) (begun_of u second ys)
      → (m : List ℕ) → Among (transaction_in m) (begun_of t first xs) → IsTaken u (card_from u second ys) m → ⊥
  apart_of none m old k =
      let a = last_of u second two ys m k in
      none (transaction_in m) old (last_among u a.p (transaction_in m) (written_of u second ys) a.last)

  restart_of : (k : ℕ) → Moved first second k (length (begun_of t first xs)) (length (begun_of u second ys))
      → Disjoint (begun_of t first xs) (begun_of u second ys)
  restart_of k moved n a b =
      let range = (first_counter t first one).1 in
      let i = placed n (begun_of t first xs) a in
      let j = placed n (begun_of u second ys) b in
      let same : number_after first i.at ≡ number_after first (k + j.at)
      = sym ((stretch_of t first one xs).each i.at i.below) ∙ i.is ∙ sym j.is ∙ (stretch_of u second two ys).each j.at j.below
      ∙ ap (λ (m : ℕ). number_after m j.at) moved.places ∙ sym (after-add first k j.at) in
      omega (arith, i.below, moved.past, after-apart first range.0 range.1 i.at (k + j.at) (omega (arith, i.below, moved.past, moved.round)) (omega (arith, j.below, moved.round)) same)

pub grants : Grants
grants =
    record {
      range = counter_range;
      last = last_of;
      once = once_of;
      stretch = stretch_of;
      differ = differ_of;
      apart = apart_of;
      restart = restart_of;
    }
