-- The tables, cards and calls of the starred cases: whole cards of 64 ports and 512 records. In every case port 0 is
-- the one that is spoken of. Assumes nothing: these are definitions.
use Rattle.std.specs.Prelude.{ℕ, suc, ◌+◌, ◌-◌, true, false, length, replicate}
use mathlib.Core.List.{List, [], ◌∷◌, ◌++◌, flat_map}
use Rattle.sums.specs.Sums.{map_to}
use Rattle.flows.specs.declared.Flow.{Flow}
use Rattle.header.specs.Header.{message_of}
use Rattle.writers.specs.Tlvs.{target_of, request_of}
use Rattle.replies.specs.Replies.{begin_header}
use Rattle.ports.specs.declared.Port.{Port}
use Rattle.pool.specs.declared.Pool.{Pool}
use Rattle.pool.specs.Pool.{free}
use Rattle.card.specs.Cards.{Card, with_pool}
use Rattle.demand3.specs.Calls.{Tables, Call, started_of}
use Rattle.demand3.specs.Calls.Call.{join, ask, message}

-- ---- tables

-- the circuit id of port p is the one octet p
unfoldable pub id_row : ℕ → List ℕ
id_row p = 1 ∷ p ∷ replicate 62 0

-- channel k is the IPv4 group 239.0.0.k, without a source
unfoldable pub group_at : ℕ → List ℕ
group_at k = (0xEF000000 + k) ∷ 0 ∷ 0 ∷ 0 ∷ []

-- the channels from k on, by their rates: family, sourced, rate, group, source
unfoldable pub channels_from : ℕ → List ℕ → List ℕ
channels_from k [] = []
channels_from k (rate ∷ more) = 1 ∷ 0 ∷ rate ∷ group_at k ++ replicate 4 0 ++ channels_from (suc k) more

-- channels 0 to 16 have rate 100; 17 to 21 have the five that follow
unfoldable pub rates : List ℕ
rates = replicate 17 100 ++ 1000 ∷ 1001 ∷ 1200 ∷ 1800 ∷ 500 ∷ []

-- 64 ports; one list entry, by which every IPv4 group is white; White-List-CAC and MRepCtl-CAC are on
unfoldable pub tables : Tables
tables =
    record {
      ids = flat_map id_row (map_to 64 (λ p. p));
      ports = 64;
      channels = channels_from 0 rates;
      channel_count = length rates;
      entries = 1 ∷ 1 ∷ 0 ∷ 0 ∷ replicate 8 0;
      entry_count = 1;
      white_cac = true;
      add_cac = true;
    }

-- ---- cards

abbrev pub with_ports : Card → List Port → Card
with_ports card ports = record { ports = ports; pool = card.pool; head = card.head; areas = card.areas }

-- a port that is up with its delegation, and has no open request
unfoldable pub up_with : ℕ → Port
up_with delegation = record { up = true; asking = false; delegation = delegation; required = 0; preferred = 0; transaction = 0 }

-- the owners and the channels of the records that are in use, where `held` has the channels of each port's flows, from port p on
unfoldable pub owners_from : ℕ → List (List ℕ) → List ℕ
owners_from p [] = []
owners_from p (ks ∷ held) = replicate (length ks) p ++ owners_from (suc p) held

unfoldable pub channels_in : List (List ℕ) → List ℕ
channels_in [] = []
channels_in (ks ∷ held) = ks ++ channels_in held

-- these flows, all of them charged; the other records are free
unfoldable pub pool_with : List (List ℕ) → Pool
pool_with held =
    record {
      owner = owners_from 0 held ++ replicate (512 - length (channels_in held)) free;
      channel = channels_in held ++ replicate (512 - length (channels_in held)) 0;
      charged = replicate (length (channels_in held)) true ++ replicate (512 - length (channels_in held)) false;
      accounting = replicate 512 0;
    }

-- a card as start gives it with the tables and the next transaction number, then every port up with this delegation, and these flows
unfoldable pub card_with : ℕ → List (List ℕ) → ℕ → Card
card_with delegation held next = with_pool (with_ports (started_of tables next).card (replicate 64 (up_with delegation))) (pool_with held)

-- n flows: channels 0 to n - 1
unfoldable pub many : ℕ → List ℕ
many n = map_to n (λ k. k)

-- "Delegation 4000, committed 3000": port 0 has flows of 1200 and 1800, port 1 one of 1200
unfoldable pub committed3000 : Card
committed3000 = card_with 4000 ((19 ∷ 20 ∷ []) ∷ (19 ∷ []) ∷ []) 1

-- "Delegation 6000, committed 3500": port 0 has flows of 1200, 1800 and 500, port 1 one of 1200
unfoldable pub committed3500 : ℕ → Card
committed3500 next = card_with 6000 ((19 ∷ 20 ∷ 21 ∷ []) ∷ (19 ∷ []) ∷ []) next

-- port 0 has n flows, so many of the next ports have 16, with 12 extras each, and the one after them has m
unfoldable pub crowded : ℕ → ℕ → ℕ → Card
crowded n full m = card_with 4000 (many n ∷ replicate full (many 16) ++ many m ∷ []) 1

-- ---- calls, of port 0, with a reply buffer of 4,608 octets

unfoldable pub group_flow : ℕ → Flow
group_flow k = record { family = 1; sourced = 0; group = group_at k; source = replicate 4 0 }

unfoldable pub join_call : ℕ → Call
join_call k = join 0 (group_flow k) 4608

unfoldable pub ask_call : ℕ → ℕ → Call
ask_call required preferred = ask 0 required preferred 4608

-- a Bandwidth Reallocation Request (146), Result 0, with port 0's circuit id and transaction 7
unfoldable pub request_call : ℕ → ℕ → Call
request_call required preferred = message (message_of (begin_header 146 7) (target_of (0 ∷ []) ++ request_of required preferred)) 4608
