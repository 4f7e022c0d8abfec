use Rattle.std.proofs.Common.{◌≡◌, ◌≢◌, ℕ, ◌+◌, ◌≤◌, ◌<◌, List, rules, arith, length, take, le_refl, sym, subst, take_all}
use Rattle.std.specs.List.{All}
use Rattle.std.specs.Prelude.{Option}
use Rattle.std.specs.Io.KnownBytes.{Consumes}
use Rattle.std.proofs.KnownBytes.{Consumes-trans}
use Rattle.std.proofs.lemmas.List.Elements.{All-more}
use Rattle.std.proofs.lemmas.Slice.{take-put_mid, take-put_mid_below}
use borrow.Rule.Slice.PartMut.{put_mid}
use Rattle.drafts.proofs.script.read_line.Goals as goal

-- a read of one character, behind the n that were read before it
one_more : (a b c : Option (List ℕ)) (n m k : ℕ) (xs ys : List ℕ) → n < length xs → length ys ≡ 1 → k ≢ 0 → k ≤ length ys
    → Consumes a b (take n xs) → Consumes b c (take k ys) → Consumes a c (take (n + 1) (put_mid n m xs ys))
one_more a b c n m k xs ys within one some fits before now =
    let last : Consumes b c ys = subst (Consumes b c) (take_all k ys (omega arith)) now in
    let joined = take-put_mid n m xs ys (n + 1) (omega arith) (omega arith) in
    subst (Consumes a c) (sym joined) (Consumes-trans a b c _ _ before last)

pub returns-then-buf-n-eq10-clause-taken : goal.returns-then-buf-n-eq10-clause-taken
returns-then-buf-n-eq10-clause-taken g c =
    one_more _ _ _ c.loop-n.n _ c.in_ok-read.field-0 _ _ (omega arith) (omega arith)
    c.if-branch-eq0.false c.in_ok-read.ensures.bound.0 c.loop-n.invariant.taken c.in_ok-read.ensures.bytes.0

pub loop-n-preserved : goal.loop-n-preserved
loop-n-preserved g c =
    let n = c.loop-n.n in
    let kept = take-put_mid_below n _ c.loop-n.buf c.read.new.buf n (le_refl n) (omega arith) in
    let before = subst (All (λ x. x ≢ 10)) (sym kept) c.loop-n.invariant.before in
    record {
      room = search rules;
      before = All-more (λ x. x ≢ 10) _ n 0 (omega arith) before c.if-buf-n-eq10.false;
      taken = one_more _ _ _ n _ c.in_ok-read.field-0 _ _ (omega arith) (omega arith)
          c.if-branch-eq0.false c.in_ok-read.ensures.bound.0 c.loop-n.invariant.taken c.in_ok-read.ensures.bytes.0;
    }
