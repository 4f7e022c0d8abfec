-- The ledger (DEMAND3.md): what a reader of the calls' arguments, numbers and replies writes down of each port.
-- It is fed nothing else, and never looks at a card. Assumes nothing: these are definitions.
use Rattle.std.specs.Prelude.{ℕ, ◌-◌, Bool, true, false, cond, ◌&&◌, ◌||◌, List, [], ◌∷◌, take, drop, eqb, Option, Some, None}
use Rattle.flows.specs.declared.Flow.{Flow}
use Rattle.flows.specs.Flows.{same_flow}
use Rattle.items.specs.Items.{count_of, first_of}
use Rattle.fields.specs.Fields.{sequence_in}
use Rattle.demand3.specs.Reads.{Directive, malformed, add, delete, delete_all, directive_of, commands_in, kind_in, result_in, port_in, amount_in, enclosed_in}
use Rattle.demand3.specs.Calls.{Tables, Call, Seen}
use Rattle.demand3.specs.Calls.Call.{port_up, port_down, set_delegation, join, leave, ask, message}

-- a flow, by its address, and whether it is charged
pub record Held : Type 0 where
  pub flow : Flow
  pub charged : Bool

pub record Line : Type 0 where
  pub is_up : Bool
  pub delegation : ℕ
  pub flows : List Held

-- a line for each port
abbrev pub Ledger : Type 0
Ledger = ℕ → Line

-- "Ports begin down, delegation 0, no flows"
abbrev pub opened : Ledger
opened p = record { is_up = false; delegation = 0; flows = [] }

-- port p's line rewritten, every other line kept
unfoldable pub write : Ledger → ℕ → Line → Ledger
write l p x q = cond (eqb q p) x (l q)

-- the flow is among those held
unfoldable pub holds : Flow → List Held → Bool
holds f [] = false
holds f (h ∷ hs) = same_flow h.flow f || holds f hs

-- those held but the flow
unfoldable pub without : Flow → List Held → List Held
without f [] = []
without f (h ∷ hs) = cond (same_flow h.flow f) (without f hs) (h ∷ without f hs)

abbrev pub with_flows : Line → List Held → Line
with_flows x hs = record { is_up = x.is_up; delegation = x.delegation; flows = hs }

abbrev pub with_delegation : Line → ℕ → Line
with_delegation x amount = record { is_up = x.is_up; delegation = amount; flows = x.flows }

-- a flow begins; it is charged exactly when it begins under admission control
abbrev pub begins : Line → Flow → Bool → Line
begins x f charged = with_flows x (record { flow = f; charged = charged } ∷ x.flows)

-- ---- entries
-- the commands of a 144 that acted: all of them, or under Failure (4) those before the one that the Sequence-Number directly inside
-- its Status-Info names, none without one; `-` stops at 0
unfoldable pub acted_in : List ℕ → List (List ℕ) → List (List ℕ)
acted_in reply cs =
    cond (eqb (result_in reply) 4)
    (cond (eqb (count_of 0x0022 (enclosed_in reply)) 0) [] (take (sequence_in (first_of 0x0022 (enclosed_in reply)) - 1) cs))
    cs

-- a command that acts: "Add on inactive flows only"
unfoldable pub acts : Tables → Line → Directive → Line
acts t x (malformed code) = x
acts t x (add f accounting) = cond (holds f x.flows) x (begins x f t.add_cac)
acts t x (delete f) = with_flows x (without f x.flows)
acts t x delete_all = with_flows x []

unfoldable pub acts_all : Tables → Line → List (List ℕ) → Line
acts_all t x [] = x
acts_all t x (c ∷ cs) = acts_all t (acts t x (directive_of c)) cs

-- the line of a port that is found is rewritten
unfoldable pub write_at : Ledger → Option ℕ → (Line → Line) → Ledger
write_at l None change = l
write_at l (Some p) change = write l p (change (l p))

-- "a 147 in reply, or taken with Result 3, gives the delegation; a 144 with Result 1 or 2 reaches all commands, or .."
unfoldable pub message_entry : Tables → Ledger → List ℕ → List ℕ → Ledger
message_entry t l m reply =
    cond (eqb (kind_in reply) 147) (write_at l (port_in t reply) (λ x. with_delegation x (amount_in reply)))
    (cond (eqb (kind_in m) 147 && eqb (result_in m) 3) (write_at l (port_in t m) (λ x. with_delegation x (amount_in m)))
    (cond (eqb (kind_in m) 144 && (eqb (result_in m) 1 || eqb (result_in m) 2))
    (write_at l (port_in t m) (λ x. acts_all t x (acted_in reply (commands_in (drop 16 m)))))
    l))

-- "up, down (ending its flows), set delegation, join and leave as asked"
unfoldable pub entry : Tables → Ledger → Call → List ℕ → Ledger
entry t l (port_up p) reply = write l p (record { is_up = true; delegation = (l p).delegation; flows = (l p).flows })
entry t l (port_down p) reply = write l p (record { is_up = false; delegation = (l p).delegation; flows = [] })
entry t l (set_delegation p amount) reply = write l p (with_delegation (l p) amount)
entry t l (join p f space) reply = write l p (begins (l p) f t.white_cac)
entry t l (leave p f) reply = write l p (with_flows (l p) (without f (l p).flows))
entry t l (ask p required preferred space) reply = l
entry t l (message m space) reply = message_entry t l m reply

-- "Only number 0 changes it"
unfoldable pub entered : Tables → Ledger → Seen → Ledger
entered t l s = cond (eqb s.number 0) (entry t l s.call s.reply) l

-- all that a host saw, entered in turn
unfoldable pub ledger_from : Tables → Ledger → List Seen → Ledger
ledger_from t l [] = l
ledger_from t l (s ∷ ss) = ledger_from t (entered t l s) ss
