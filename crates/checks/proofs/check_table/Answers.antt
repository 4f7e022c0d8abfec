use mathlib.Core.Path.{◌≡◌, sym, ap, ◌∙◌}
use mathlib.Core.Bool.{false}
use Prim.Native.Nat.{ℕ}
use Rattle.tlv.specs.Depth.{depth_of, list_ok}
use Rattle.checks.specs.Table.{table_of}
use Rattle.checks.proofs.check_table.Goals as goal

pub returns-then-not-handled : goal.returns-then-not-handled
unfolding table_of
returns-then-not-handled c = λ ids card h f g. rw (f.is_kind, sym c.handled.ensures ∙ c.if-not-handled.true)

pub returns-then-not-result_ok : goal.returns-then-not-result_ok
unfolding table_of
returns-then-not-result_ok c = λ ids card h f g. rw (f.is_kind, f.is_result, sym c.handled.ensures ∙ c.if-not-handled.false, sym c.result_ok.ensures ∙ c.if-not-result_ok.true)

pub returns-then-not-transaction_ok : goal.returns-then-not-transaction_ok
unfolding table_of
returns-then-not-transaction_ok c = λ ids card h f g. rw (f.is_kind, f.is_result, f.is_transaction, sym c.handled.ensures ∙ c.if-not-handled.false, sym c.result_ok.ensures ∙ c.if-not-result_ok.false, sym c.transaction_ok.ensures ∙ c.if-not-transaction_ok.true)

pub returns-then-not-check_list : goal.returns-then-not-check_list
unfolding table_of
returns-then-not-check_list c =
    let sound : c.check_list.result ≡ list_ok (depth_of c.args.res) false c.args.tlvs.now = c.check_list.ensures ∙ ap (λ (d : ℕ). list_ok d false c.args.tlvs.now) c.depth_of.ensures in λ ids card h f g. rw (f.is_kind, f.is_result, f.is_transaction, sym c.handled.ensures ∙ c.if-not-handled.false, sym c.result_ok.ensures ∙ c.if-not-result_ok.false, sym c.transaction_ok.ensures ∙ c.if-not-transaction_ok.false, sym sound ∙ c.if-not-check_list.true)

pub returns : goal.returns
unfolding table_of
returns c =
    let sound : c.check_list.result ≡ list_ok (depth_of c.args.res) false c.args.tlvs.now = c.check_list.ensures ∙ ap (λ (d : ℕ). list_ok d false c.args.tlvs.now) c.depth_of.ensures in λ ids card h f g. rw (f.is_kind, f.is_result, f.is_transaction, sym c.handled.ensures ∙ c.if-not-handled.false, sym c.result_ok.ensures ∙ c.if-not-result_ok.false, sym c.transaction_ok.ensures ∙ c.if-not-transaction_ok.false, sym sound ∙ c.if-not-check_list.false) (c.check_named.ensures ids card g)
