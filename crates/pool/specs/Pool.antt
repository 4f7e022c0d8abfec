-- The 512 flow records (CARD.md, "Records and room"). Assumes nothing: these are definitions.
-- A figure that a function reads off lent maps is defined on the maps (`count_in owner`), and of a pool it is that of
-- its maps.
use Rattle.std.specs.Prelude.{ℕ, ◌-◌, ◌≡◌, Bool, true, false, cond, ◌&&◌, ◌||◌, List, length, get_or, set, take, replicate, eqb, ltb, Option, Some, None}
use Rattle.flows.specs.declared.Flow.{Flow}
use Rattle.channels.specs.Channels.{rate_at, is_row}
use Rattle.rows.specs.Rows.{first_row, NextWith}
use Rattle.sums.specs.Sums.{sum_to, map_to, pick_to}
use Rattle.octets.specs.Writing.{over}
use Rattle.pool.specs.declared.Pool.{Pool}
use Rattle.pool.specs.declared.Rows.{Rows}
use Rattle.pool.specs.declared.FlowState.{FlowState}

-- ---- a port's records, and sums over them

-- record i is port p's
abbrev pub is_of : List ℕ → ℕ → ℕ → Bool
is_of owner p i = eqb (get_or owner i 0) p

-- record r is the first of port p's from record `from` on, or r is 512 where there is none
abbrev pub Next : List ℕ → ℕ → ℕ → ℕ → Type 0
Next owner p from r = NextWith (λ i. get_or owner i 0) p 512 from r

-- the numbers of port p's records, in order
unfoldable pub records_in : List ℕ → ℕ → List ℕ
records_in owner p = pick_to 512 (is_of owner p) (λ i. i)

-- the sum over port p's records of what f gives for each; shut, so that 512 terms are never written out
unfoldable pub sum_over : List ℕ → ℕ → (ℕ → ℕ) → ℕ
sum_over owner p f = sum_to 512 (λ i. cond (is_of owner p i) (f i) 0)

-- the same, where w weighs a record by its channel, whether it is charged, and its accounting
abbrev pub record_sum : Pool → ℕ → (ℕ → Bool → ℕ → ℕ) → ℕ
record_sum pool p w = sum_over pool.owner p (λ i. w (get_or pool.channel i 0) (get_or pool.charged i false) (get_or pool.accounting i 0))

-- a weight that does not ask for the accounting
abbrev pub plain : (ℕ → Bool → ℕ) → ℕ → Bool → ℕ → ℕ
plain w k c a = w k c

-- every figure of a port is this sum, with a weight of its own
abbrev pub pool_sum : Pool → ℕ → (ℕ → Bool → ℕ) → ℕ
pool_sum pool p w = record_sum pool p (plain w)

-- ---- figures

-- how many flows the port has
abbrev pub count_in : List ℕ → ℕ → ℕ
count_in owner p = sum_over owner p (λ i. 1)

-- the port's committed amount: the rates of its charged flows
abbrev pub committed_in : List ℕ → List ℕ → List ℕ → List Bool → ℕ → ℕ
committed_in table owner channel charged p = sum_over owner p (λ i. cond (get_or charged i false) (rate_at table (get_or channel i 0)) 0)

-- how many of the port's records hold a channel that is selected
abbrev pub holds_where : List ℕ → List ℕ → ℕ → (ℕ → Bool) → ℕ
holds_where owner channel p sel = sum_over owner p (λ i. cond (sel (get_or channel i 0)) 1 0)

-- the port has a flow of a selected channel
abbrev pub active_where : List ℕ → List ℕ → ℕ → (ℕ → Bool) → Bool
active_where owner channel p sel = ltb 0 (holds_where owner channel p sel)

-- of channel k: on cards that calls reach, 0 or 1
abbrev pub holds_in : List ℕ → List ℕ → ℕ → ℕ → ℕ
holds_in owner channel p k = holds_where owner channel p (λ j. eqb j k)

-- the port has the flow of channel k
abbrev pub active_in : List ℕ → List ℕ → ℕ → ℕ → Bool
active_in owner channel p k = active_where owner channel p (λ j. eqb j k)

-- "A flow beyond a port's fourth is an extra": the extras of all ports
abbrev pub extras_in : List ℕ → ℕ
extras_in owner = sum_to 64 (λ p. count_in owner p - 4)

-- "Room exists when the port has under 4 flows, or under 16 while extras over all ports are under 256"
abbrev pub room_for : ℕ → ℕ → Bool
room_for n e = ltb n 4 || (ltb n 16 && ltb e 256)

-- a record is free where its owner is this number, which is no port's
abbrev pub free : ℕ
free = 255

abbrev pub or_size : Option ℕ → ℕ
or_size (Some i) = i
or_size None = 512

-- the first free record, or 512 where none is. Which free record is taken is the program's choice; `pool-filled` and
-- `pool-filled_other` (proofs/Pools.antt) say what every choice has in common
unfoldable pub free_in : List ℕ → ℕ
free_in owner = or_size (first_row 512 (is_of owner free))

-- room by the rule, and a free record. On cards that calls reach the second follows from the first (`room_free`); it makes the
-- definition total
unfoldable pub room_in : List ℕ → ℕ → Bool
room_in owner p = room_for (count_in owner p) (extras_in owner) && ltb (free_in owner) 512

-- the channels of the port's flows, in the order of the records
unfoldable pub rows_in : List ℕ → List ℕ → ℕ → List ℕ
rows_in owner channel p = pick_to 512 (is_of owner p) (λ i. get_or channel i 0)

-- at most 16 of them, then zeros: on cards that calls reach no port has more, so that nothing is cut
unfoldable pub as_rows : List ℕ → Rows
as_rows ks = record { count = length (take 16 ks); rows = over (take 16 ks) (replicate 16 0) }

-- record i is port p's, and its channel is k
abbrev pub is_held : List ℕ → List ℕ → ℕ → ℕ → ℕ → Bool
is_held owner channel p k i = is_of owner p i && eqb (get_or channel i 0) k

abbrev pub no_state : FlowState
no_state = record { active = false; charged = false; accounting = 0 }

-- what a record says of its flow
abbrev pub state_at : List Bool → List ℕ → Option ℕ → FlowState
state_at charged accounting (Some i) = record { active = true; charged = get_or charged i false; accounting = get_or accounting i 0 }
state_at charged accounting None = no_state

-- what the port's flow of channel k has: what its first record of it says. On cards that calls reach there is one at most
unfoldable pub state_in : List ℕ → List ℕ → List Bool → List ℕ → ℕ → ℕ → FlowState
state_in owner channel charged accounting p k = state_at charged accounting (first_row 512 (is_held owner channel p k))

-- ---- the same of a pool

abbrev pub active_count : Pool → ℕ → ℕ
active_count pool p = count_in pool.owner p

abbrev pub committed_of : List ℕ → Pool → ℕ → ℕ
committed_of table pool p = committed_in table pool.owner pool.channel pool.charged p

abbrev pub holds_of : Pool → ℕ → ℕ → ℕ
holds_of pool p k = holds_in pool.owner pool.channel p k

abbrev pub is_active : Pool → ℕ → ℕ → Bool
is_active pool p k = active_in pool.owner pool.channel p k

abbrev pub state_of : Pool → ℕ → ℕ → FlowState
state_of pool p k = state_in pool.owner pool.channel pool.charged pool.accounting p k

-- the port has the flow with this address
abbrev pub has_flow : List ℕ → Pool → ℕ → Flow → Bool
has_flow table pool p f = active_where pool.owner pool.channel p (is_row table f)

abbrev pub extras_of : Pool → ℕ
extras_of pool = extras_in pool.owner

abbrev pub free_of : Pool → ℕ
free_of pool = free_in pool.owner

abbrev pub has_room : Pool → ℕ → Bool
has_room pool p = room_in pool.owner p

abbrev pub rows_of : Pool → ℕ → List ℕ
rows_of pool p = rows_in pool.owner pool.channel p

-- ---- pools

-- "512 flow records, all free at start"
unfoldable pub fresh_pool : Pool
fresh_pool = record { owner = replicate 512 free; channel = replicate 512 0; charged = replicate 512 false; accounting = replicate 512 0 }

-- record i filled with a flow of channel k at port p
abbrev pub filled : Pool → ℕ → ℕ → ℕ → Bool → ℕ → Pool
filled pool i p k c a = record {
  owner = set pool.owner i p;
  channel = set pool.channel i k;
  charged = set pool.charged i c;
  accounting = set pool.accounting i a;
}

-- a flow begins in the free record; with none free nothing is written, there being no record 512
unfoldable pub began : Pool → ℕ → ℕ → Bool → ℕ → Pool
began pool p k c a = filled pool (free_of pool) p k c a

abbrev pub with_owner : Pool → List ℕ → Pool
with_owner pool o = record { owner = o; channel = pool.channel; charged = pool.charged; accounting = pool.accounting }

abbrev pub with_accounting : Pool → List ℕ → Pool
with_accounting pool a = record { owner = pool.owner; channel = pool.channel; charged = pool.charged; accounting = a }

-- record i is port p's, with a channel that is selected
abbrev pub is_one : Pool → ℕ → (ℕ → Bool) → ℕ → Bool
is_one pool p sel i = is_of pool.owner p i && sel (get_or pool.channel i 0)

-- port p's flows of the selected channels end: their records are free, and nothing else is rewritten
unfoldable pub ended : Pool → ℕ → (ℕ → Bool) → Pool
ended pool p sel = with_owner pool (map_to 512 (λ i. cond (is_one pool p sel i) free (get_or pool.owner i 0)))

-- the flow with this address: of the channels whose row is the flow's
abbrev pub ended_flow : List ℕ → Pool → ℕ → Flow → Pool
ended_flow table pool p f = ended pool p (is_row table f)

-- every flow of the port
abbrev pub ended_all : Pool → ℕ → Pool
ended_all pool p = ended pool p (λ j. true)

-- "succeed and set accounting only": of port p's flow of channel k
unfoldable pub accounted : Pool → ℕ → ℕ → ℕ → Pool
accounted pool p k value = with_accounting pool (map_to 512 (λ i. cond (is_one pool p (λ j. eqb j k) i) value (get_or pool.accounting i 0)))

-- ---- the same of maps that are lent

-- the pool of four maps
abbrev pub pool_of : List ℕ → List ℕ → List Bool → List ℕ → Pool
pool_of owner channel charged accounting = record { owner = owner; channel = channel; charged = charged; accounting = accounting }

-- each map has its 512 records
pub record Whole (pool : Pool) : Type 0 where
  pub owner : length pool.owner ≡ 512
  pub channel : length pool.channel ≡ 512
  pub charged : length pool.charged ≡ 512
  pub accounting : length pool.accounting ≡ 512
