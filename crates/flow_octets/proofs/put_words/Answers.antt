use Prim.Native.Nat.{ℕ, ◌*◌}
use mathlib.Core.Path.{◌≡◌, refl, sym, ap, ◌∙◌}
use mathlib.Core.List.{List}
use native.Mathlib.Omega.{arith}
use lib.ListN.{length, take, get_or}
use Rattle.octets.specs.Numbers.{oct32}
use Rattle.octets.specs.Writing.{over}
use Rattle.octets.proofs.Writing.{over_none, lent-after}
use Rattle.flows.specs.Words.{octets_of}
use Rattle.flow_octets.proofs.FlowOctets.{octets-turn, length-first}
use borrow.Author.Rules.{rules}
use Rattle.flow_octets.proofs.put_words.Goals as goal

pub loop-i-init : goal.loop-i-init
unfolding octets_of
loop-i-init c =
    (refl, over_none _)

pub loop-i-preserved : goal.loop-i-preserved
loop-i-preserved c =
    let a = c.args in
    let i = c.loop-i.i in
    let e : length a.a ≡ 4 = omega (arith, c.well_formed.1.0) in (
      search rules,
      lent-after (octets_of (take i a.a)) (oct32 (get_or a.a i 0)) a.buf.now (4 * i) c.loop-i.invariant.1 (length-first i a.a (omega arith)) c.put32.ensures
          ∙ ap (λ (w : List ℕ). over w a.buf.now) (octets-turn i a.a (omega arith)),
    )

pub returns : goal.returns
returns c =
    let a = c.args in
    let e : length a.a ≡ 4 = omega (arith, c.well_formed.1.0) in
    let n : c.loop-i.i ≡ a.words = omega arith in record {
      value = search rules;
      wrote = record {
        size = sym (length-first a.words a.a (omega arith));
        text = c.loop-i.invariant.1 ∙ ap (λ (k : ℕ). over (octets_of (take k a.a)) a.buf.now) n;
      };
    }
