-- One command of a 144 on port p (CARD.md, "Multicast Replication Control (144)"): the card after it, and the result
-- code, 0 for success. Assumes nothing: these are definitions.
use Rattle.std.specs.Prelude.{ℕ, ◌≡◌, cond, List, eqb, Option, Some, None, Result, Ok, Err, ⊤}
use Rattle.flows.specs.declared.Flow.{Flow}
use Rattle.channels.specs.Channels.{channel_of}
use Rattle.pool.specs.declared.Pool.{Pool}
use Rattle.pool.specs.Pool.{is_active, has_flow, began, ended_flow, ended_all, accounted}
use Rattle.card.specs.Cards.{Card, with_pool}
use Rattle.card.specs.declared.Terms.{Terms}
use Rattle.card.specs.Parts.{HasTerms}
use Rattle.joins.specs.Joins.{admit_number}
use Rattle.commands.specs.Directives.{Directive, directive_of}
use Rattle.commands.specs.Directives.Directive.{malformed, add, delete, delete_all}

-- the card after a command, and its result code: 0 for success
pub record Ran : Type 0 where
  pub card : Card
  pub code : ℕ

-- a failed command changes nothing
abbrev pub fails : Card → ℕ → Ran
fails card code = record { card = card; code = code }

abbrev pub succeeds : Card → Ran
succeeds card = record { card = card; code = 0 }

-- room, then admission: 0x13. The flow is charged exactly if MRepCtl-CAC is on
unfoldable pub add_new : List ℕ → Card → ℕ → ℕ → ℕ → Ran
add_new channels card p k accounting =
    cond (eqb (admit_number channels card card.head.add_cac p k) 0)
    (succeeds (with_pool card (began card.pool p k card.head.add_cac accounting)))
    (fails card 0x13)

-- "Add: unlisted 0x66; active already, succeed and set accounting only"
unfoldable pub add_row : List ℕ → Card → ℕ → ℕ → Option ℕ → Ran
add_row channels card p accounting None = fails card 0x66
add_row channels card p accounting (Some k) =
    cond (is_active card.pool p k) (succeeds (with_pool card (accounted card.pool p k accounting)))
    (add_new channels card p k accounting)

-- "Delete of an inactive flow: 0x66"
unfoldable pub delete_flow : List ℕ → Card → ℕ → Flow → Ran
delete_flow channels card p f =
    cond (has_flow channels card.pool p f) (succeeds (with_pool card (ended_flow channels card.pool p f))) (fails card 0x66)

unfoldable pub carried_out : List ℕ → Card → ℕ → Directive → Ran
carried_out channels card p (malformed code) = fails card code
carried_out channels card p (add f accounting) = add_row channels card p accounting (channel_of channels card.head.channel_count f)
carried_out channels card p (delete f) = delete_flow channels card p f
carried_out channels card p delete_all = succeeds (with_pool card (ended_all card.pool p))

-- a Command with content c
abbrev pub ran_of : List ℕ → Card → ℕ → List ℕ → Ran
ran_of channels card p c = carried_out channels card p (directive_of c)

-- ---- the same on a pool that is lent

abbrev pub ran_with : Card → Pool → ℕ → Ran
ran_with card pool code = record { card = with_pool card pool; code = code }

-- the result code that an answer stands for: 0 for success
unfoldable pub command_code : Result ⊤ ℕ → ℕ
command_code (Ok done) = 0
command_code (Err code) = code

-- a function that was lent the pool `before`, left it as `after` and answered r: on every card with these terms and this pool
-- that is what `ran` comes to; a command that fails has a result code, and not success's
pub record Runs (ran : Card → Ran) (terms : Terms) (before after : Pool) (r : Result ⊤ ℕ) : Type 0 where
  pub each : (card : Card) → HasTerms card terms.at terms → ran (with_pool card before) ≡ ran_with card after (command_code r)
  pub fails : {code : ℕ} → r ≡ Err code → code ≡ 0 → ⊥
