-- What a call on a card writes: nothing, or one kind of message with its arguments, which reads back as exactly
-- these: header, and the whole list of TLVs with their contents (CARD.md, "What the card writes"). Assumes nothing:
-- these are definitions; the statement is in Every.
use Rattle.std.specs.Prelude.{ℕ, ◌+◌, ◌≤◌, ◌<◌, ◌≡◌, List, [], ◌∷◌, ◌++◌, length, drop, Result, Ok, Err}
use Rattle.header.specs.Header.{header_in}
use Rattle.items.specs.Items.{Item, items_of, first_of}
use Rattle.fields.specs.declared.Request.{Request}
use Rattle.fields.specs.Fields.{request_in}
use Rattle.replies.specs.Replies.{reply_header}
use Rattle.flows.specs.declared.Flow.{Flow}
use Rattle.circuits.specs.Circuits.{id_at}
use Rattle.pool.specs.Pool.{committed_of}
use Rattle.card.specs.Cards.{Card, port_at}
use Rattle.rules.specs.Rules.{rules_of}
use Rattle.rules.specs.Named.{missing}
use Rattle.checks.specs.Table.{id_in, faults, table_of}
use Rattle.commands.specs.Commands.{ran_of}
use Rattle.control.specs.Control.{commands_in}
use Rattle.transfers.specs.Transfers.{reduced_to}
use Rattle.listing.specs.Listing.{rows_in_order}
use Rattle.replyback.specs.Says.{Says, Refuses, absent}
use Rattle.replyback.specs.Kinds.{Admits, Requests, RefusesPort, Fails, Carries, Lists}
use Rattle.demand3.specs.Calls.{Tables, Call}
use Rattle.demand3.specs.Calls.Call.{join, ask, message}

-- commands that all succeed on port p, one after the other, from the first card to the last
pub data AllRan (channels : List ℕ) (p : ℕ) : Card → List (List ℕ) → Card → Type 0 where
  none : {card : Card} → AllRan channels p card [] card
  more : {card last : Card} {c : List ℕ} {cs : List (List ℕ)} → (ran_of channels card p c).code ≡ 0
      → AllRan channels p (ran_of channels card p c).card cs last → AllRan channels p card (c ∷ cs) last

-- the TLVs of a message, and the figures of its Bandwidth-Request
abbrev pub tlvs_of : List ℕ → List ℕ
tlvs_of m = drop 16 m

abbrev pub figures_in : List ℕ → Request
figures_in m = request_in (first_of 0x0016 (items_of (tlvs_of m)))

module _ (t : Tables) (card : Card) where
  -- what the table says of a message
  abbrev pub verdict_on : List ℕ → Result ℕ ℕ
  verdict_on m = table_of t.ids card (header_in m) (tlvs_of m)

  -- the octets w, written with a call. A message that is begun has the card's present transaction number, and the
  -- circuit id of its port; what a reply says of the message m is read off m
  pub data Written : Call → List ℕ → Type 0 where
    nothing : {x : Call} → Written x []
    -- ---- begun by the host: Admission Control (145), Bandwidth Reallocation Request (146)
    admission : {p space : ℕ} {f : Flow} {w : List ℕ} → Admits w card.head.counter.number (id_at t.ids p) f → Written (join p f space) w
    reallocation : {p required preferred space : ℕ} {w : List ℕ} → Requests w card.head.counter.number (id_at t.ids p) required preferred
        → Written (ask p required preferred space) w
    -- ---- a row of the table: Generic Response (91), Failure
    type_unhandled : {m w : List ℕ} {space : ℕ} → verdict_on m ≡ Err 0x51 → Refuses w (header_in m) 0x51 [] → Written (message m space) w
    result_wrong : {m w : List ℕ} {space : ℕ} → verdict_on m ≡ Err 0x2 → Refuses w (header_in m) 0x2 [] → Written (message m space) w
    tlvs-broken : {m w : List ℕ} {space : ℕ} → verdict_on m ≡ Err 0x53 → Refuses w (header_in m) 0x53 [] → Written (message m space) w
    tlvs-missing : {m w : List ℕ} {space : ℕ} → verdict_on m ≡ Err 0x54
        → Refuses w (header_in m) 0x54 (absent (missing (rules_of (header_in m).kind) (items_of (tlvs_of m)))) → Written (message m space) w
    -- the TLV that is copied is one of the message: the first at fault
    tlv-at-fault : {m w : List ℕ} {space : ℕ} {i : Item} (before after : List Item) → verdict_on m ≡ Err 0x55
        → items_of (tlvs_of m) ≡ before ++ (i ∷ after) → faults (header_in m).kind (tlvs_of m) ≡ i ∷ after
        → Refuses w (header_in m) 0x55 (i ∷ []) → Written (message m space) w
    port_unknown : {m w : List ℕ} {space : ℕ} → verdict_on m ≡ Err 0x500 → RefusesPort w (header_in m) 0x500 (id_in (tlvs_of m)) → Written (message m space) w
    port_down_lem : {m w : List ℕ} {space : ℕ} → verdict_on m ≡ Err 0x6 → RefusesPort w (header_in m) 0x6 (id_in (tlvs_of m)) → Written (message m space) w
    -- ---- past the table, on port p
    -- 144: all commands succeed, or those before c, and c fails
    succeeded : {m w : List ℕ} {space p : ℕ} {last : Card} → verdict_on m ≡ Ok p → (header_in m).kind ≡ 144 → (header_in m).result ≡ 2
        → AllRan t.channels p card (commands_in (tlvs_of m)) last
        → Says w (reply_header (header_in m) 91 3 0) [] → Written (message m space) w
    failed : {m w c : List ℕ} {space p : ℕ} {last : Card} (before after : List (List ℕ)) → verdict_on m ≡ Ok p → (header_in m).kind ≡ 144
        → commands_in (tlvs_of m) ≡ before ++ (c ∷ after) → AllRan t.channels p card before last
        → ((ran_of t.channels last p c).code ≡ 0 → ⊥)
        → Fails w (header_in m) (ran_of t.channels last p c).code (id_at t.ids p) (length before + 1) c → Written (message m space) w
    -- 146: Bandwidth Transfer (147). Failure carries the present delegation, Success the new one
    more_preferred : {m w : List ℕ} {space p : ℕ} → verdict_on m ≡ Ok p → (header_in m).kind ≡ 146
        → (figures_in m).required < (figures_in m).preferred
        → Carries w (reply_header (header_in m) 147 4 0x67) (id_at t.ids p) (port_at card p).delegation → Written (message m space) w
    under_committed : {m w : List ℕ} {space p : ℕ} → verdict_on m ≡ Ok p → (header_in m).kind ≡ 146
        → (figures_in m).required < committed_of t.channels card.pool p
        → Carries w (reply_header (header_in m) 147 4 0) (id_at t.ids p) (port_at card p).delegation → Written (message m space) w
    reduced : {m w : List ℕ} {space p : ℕ} → verdict_on m ≡ Ok p → (header_in m).kind ≡ 146
        → (figures_in m).preferred ≤ (figures_in m).required → committed_of t.channels card.pool p ≤ (figures_in m).required
        → Carries w (reply_header (header_in m) 147 3 0) (id_at t.ids p) (reduced_to t.channels card p (figures_in m).preferred)
        → Written (message m space) w
    -- 148: the delegation. 149: the flows in order
    delegation : {m w : List ℕ} {space p : ℕ} → verdict_on m ≡ Ok p → (header_in m).kind ≡ 148
        → Carries w (reply_header (header_in m) 148 3 0) (id_at t.ids p) (port_at card p).delegation → Written (message m space) w
    flows : {m w : List ℕ} {space p : ℕ} → verdict_on m ≡ Ok p → (header_in m).kind ≡ 149
        → Lists w (reply_header (header_in m) 149 3 0) (id_at t.ids p) t.channels (rows_in_order t.channels card.pool p)
        → Written (message m space) w
