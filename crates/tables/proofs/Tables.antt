-- What tables that start takes have, and how the checks search them.
--     unused_id, unused_channel    nothing is found before a row where no row before it is the same
--     Taken, tables-taken          what tables that start takes have, for every port, channel and entry
--     own-channel, own_port        in them a channel's flow is found at its row, and a port by its circuit id
-- Assumes nothing.
use Rattle.std.specs.Prelude.{is_none, Some}
use Prim.Native.Nat.{ℕ, ◌≤◌, ◌<◌, min}
use mathlib.Core.Path.{◌≡◌, ap, ◌∙◌}
use mathlib.Core.Bool.{Bool, true}
use mathlib.Core.List.{List, [], ◌∷◌}
use lib.Dec.{leb}
use native.Mathlib.Omega.{arith}
use borrow.Author.Tests.{leb-true}
use Rattle.octets.proofs.Tests.{each}
use Rattle.flows.specs.Words.{same}
use Rattle.flows.specs.Flows.{same_flow, good_flow}
use Rattle.flows.specs.declared.Flow.{Flow}
use Rattle.flows.proofs.Same.{same_refl, same-flow_refl}
use Rattle.rows.specs.Rows.{first_row, none_of, rows_ok}
use Rattle.rows.proofs.Rows.{found_is, none-at, nothing-none, alone, rows_at}
use Rattle.channels.specs.Channels.{channel_at, rate_at, is_row, channel_of}
use Rattle.circuits.specs.Circuits.{id_length, id_at, has_id, port_of}
use Rattle.lists.specs.Lists.{entry_at}
use Rattle.tables.specs.Tables.{id_ok, channel_ok, entry_ok, entry_ok_at, tables_ok}

-- nothing is found among the rows before
before-row : (test : ℕ → Bool) (i rows : ℕ) → i ≤ rows → is_none (first_row (min i rows) test) ≡ none_of i test
before-row test i rows h = let e : min i rows ≡ i = omega arith in ap (λ (n : ℕ). is_none (first_row n test)) e ∙ nothing-none i test

pub unused_id : (ids id : List ℕ) (p : ℕ) → p ≤ 64 → is_none (port_of ids p id) ≡ none_of p (has_id ids id)
unfolding port_of
unused_id ids id p h = before-row (has_id ids id) p 64 h

pub unused_channel : (t : List ℕ) (f : Flow) (i : ℕ) → i ≤ 256 → is_none (channel_of t i f) ≡ none_of i (is_row t f)
unfolding channel_of
unused_channel t f i h = before-row (is_row t f) i 256 h

-- ---- what tables that start takes have
pub record Port (ids : List ℕ) (p : ℕ) : Type 0 where
  pub least : 1 ≤ id_length ids p
  pub most : id_length ids p ≤ 63
  pub new : none_of p (has_id ids (id_at ids p)) ≡ true

port_taken : (ids : List ℕ) (p : ℕ) → id_ok ids p ≡ true → Port ids p
unfolding id_ok
port_taken ids p e =
    let t = each (leb 1 (id_length ids p) ∷ leb (id_length ids p) 63 ∷ none_of p (has_id ids (id_at ids p)) ∷ []) e in
    record { least = leb-true 1 (id_length ids p) t.0; most = leb-true (id_length ids p) 63 t.1.0; new = t.1.1.0 }

pub record Channel (t : List ℕ) (i : ℕ) : Type 0 where
  pub least : 1 ≤ rate_at t i
  pub most : rate_at t i ≤ 10000000
  pub good : good_flow (channel_at t i) ≡ true
  pub new : none_of i (is_row t (channel_at t i)) ≡ true

channel-taken : (t : List ℕ) (i : ℕ) → channel_ok t i ≡ true → Channel t i
unfolding channel_ok
channel-taken t i e =
    let h = each (leb 1 (rate_at t i) ∷ leb (rate_at t i) 10000000 ∷ good_flow (channel_at t i) ∷ none_of i (is_row t (channel_at t i)) ∷ []) e in
    record { least = leb-true 1 (rate_at t i) h.0; most = leb-true (rate_at t i) 10000000 h.1.0; good = h.1.1.0; new = h.1.1.1.0 }

pub record Taken (ids : List ℕ) (ports : ℕ) (channels : List ℕ) (channel_count : ℕ) (entries : List ℕ) (entry_count : ℕ) : Type 0 where
  pub ports64 : ports ≤ 64
  pub port : (p : ℕ) → p < ports → Port ids p
  pub id-once : (p q : ℕ) → p < ports → q < ports → id_at ids p ≡ id_at ids q → p ≡ q
  pub channels256 : channel_count ≤ 256
  pub channel : (i : ℕ) → i < channel_count → Channel channels i
  pub channel-once : (i j : ℕ) → i < channel_count → j < channel_count → channel_at channels i ≡ channel_at channels j → i ≡ j
  pub entries128 : entry_count ≤ 128
  pub entry : (i : ℕ) → i < entry_count → entry_ok (entry_at entries i) ≡ true

module _ (ids : List ℕ) (ports : ℕ) (channels : List ℕ) (channel_count : ℕ) (entries : List ℕ) (entry_count : ℕ) where
  pub tables-taken : tables_ok ids ports channels channel_count entries entry_count ≡ true → Taken ids ports channels channel_count entries entry_count
  unfolding tables_ok
  tables-taken e =
      let t = each (rows_ok 64 ports (id_ok ids) ∷ rows_ok 256 channel_count (channel_ok channels) ∷ rows_ok 128 entry_count (entry_ok_at entries) ∷ []) e in
      let a = rows_at 64 ports (id_ok ids) t.0 in
      let b = rows_at 256 channel_count (channel_ok channels) t.1.0 in
      let d = rows_at 128 entry_count (entry_ok_at entries) t.1.1.0 in
      record {
        ports64 = a.0;
        port = λ p l. port_taken ids p (a.1 p l);
        id-once = alone (id_at ids) same same_refl ports (λ p l. (port_taken ids p (a.1 p l)).new);
        channels256 = b.0;
        channel = λ i l. channel-taken channels i (b.1 i l);
        channel-once = alone (channel_at channels) same_flow same-flow_refl channel_count (λ i l. (channel-taken channels i (b.1 i l)).new);
        entries128 = d.0;
        entry = d.1;
      }

  -- a listed channel's flow is found at its row, and a port by its circuit id
  pub own-channel : Taken ids ports channels channel_count entries entry_count → (i : ℕ) → i < channel_count → channel_of channels channel_count (channel_at channels i) ≡ Some i
  unfolding channel_of
  own-channel t i l =
      found_is (is_row channels (channel_at channels i)) (min channel_count 256) i
      (record {
        below = omega (arith, t.channels256);
        passes = same-flow_refl (channel_at channels i);
        first = none-at i (is_row channels (channel_at channels i)) (t.channel i l).new;
      })

  pub own_port : Taken ids ports channels channel_count entries entry_count → (p : ℕ) → p < ports → port_of ids ports (id_at ids p) ≡ Some p
  unfolding port_of
  own_port t p l =
      found_is (has_id ids (id_at ids p)) (min ports 64) p
      (record {
        below = omega (arith, t.ports64);
        passes = same_refl (id_at ids p);
        first = none-at p (has_id ids (id_at ids p)) (t.port p l).new;
      })
