use mathlib.Core.Path.{◌≡◌, sym, ap, ◌∙◌}
use mathlib.Core.Bool.{Bool}
use mathlib.Core.List.{[], ◌∷◌}
use native.Mathlib.Omega.{arith}
use Prim.Native.Nat.{ℕ}
use lib.ListN.{get_or}
use Rattle.flows.specs.Words.{address_at}
use Rattle.lists.specs.Prefix.{prefix_matches}
use Rattle.lists.proofs.Prefix.{prefix_off, prefix_on, prefix_last, prefix_end, word_at}
use borrow.Author.Rules.{rules}
use Rattle.lists.proofs.prefix_at.Goals as goal

pub returns-then-not-word_matches : goal.returns-then-not-word_matches
returns-then-not-word_matches c =
    let word : (r : Bool) → c.word_matches.result ≡ r → prefix_matches c.loop-i.left (get_or (address_at c.args.entries.now c.args.at) c.loop-i.i 0 ∷ []) (get_or c.args.b c.loop-i.i 0 ∷ []) ≡ r = (λ r e. ap (λ (x : ℕ). prefix_matches c.loop-i.left (x ∷ []) (get_or c.args.b c.loop-i.i 0 ∷ [])) (word_at c.args.entries.now c.args.at c.loop-i.i c.loop-i-test.true)
    ∙ sym c.word_matches.ensures ∙ e) in sym (c.loop-i.invariant ∙ prefix_off c.loop-i.i (address_at c.args.entries.now c.args.at) c.args.b (omega (arith, c.loop-i-test.true)) (search rules) c.loop-i.left (word _ (c.if-not-word_matches.true)))

pub returns-then-left-le32 : goal.returns-then-left-le32
returns-then-left-le32 c =
    let word : (r : Bool) → c.word_matches.result ≡ r → prefix_matches c.loop-i.left (get_or (address_at c.args.entries.now c.args.at) c.loop-i.i 0 ∷ []) (get_or c.args.b c.loop-i.i 0 ∷ []) ≡ r = (λ r e. ap (λ (x : ℕ). prefix_matches c.loop-i.left (x ∷ []) (get_or c.args.b c.loop-i.i 0 ∷ [])) (word_at c.args.entries.now c.args.at c.loop-i.i c.loop-i-test.true)
    ∙ sym c.word_matches.ensures ∙ e) in sym (c.loop-i.invariant ∙ prefix_last c.loop-i.i (address_at c.args.entries.now c.args.at) c.args.b (omega (arith, c.loop-i-test.true)) (search rules) c.loop-i.left (word _ (c.if-not-word_matches.false)) c.if-left-le32.true)

pub loop-i-preserved : goal.loop-i-preserved
loop-i-preserved c =
    let word : (r : Bool) → c.word_matches.result ≡ r → prefix_matches c.loop-i.left (get_or (address_at c.args.entries.now c.args.at) c.loop-i.i 0 ∷ []) (get_or c.args.b c.loop-i.i 0 ∷ []) ≡ r = (λ r e. ap (λ (x : ℕ). prefix_matches c.loop-i.left (x ∷ []) (get_or c.args.b c.loop-i.i 0 ∷ [])) (word_at c.args.entries.now c.args.at c.loop-i.i c.loop-i-test.true)
    ∙ sym c.word_matches.ensures ∙ e) in c.loop-i.invariant ∙ prefix_on c.loop-i.i (address_at c.args.entries.now c.args.at) c.args.b (omega (arith, c.loop-i-test.true)) (search rules) c.loop-i.left (word _ (c.if-not-word_matches.false))

pub returns : goal.returns
returns c = sym (c.loop-i.invariant ∙ prefix_end c.loop-i.i (address_at c.args.entries.now c.args.at) c.args.b c.loop-i.left (omega (arith, c.loop-i-test.false)) (omega (arith, c.loop-i-test.false, c.well_formed)))
