-- How many octets the parts of the messages take. Assumes nothing.
use mathlib.Core.Path.{◌≡◌}
use mathlib.Core.List.{List}
use Prim.Native.Nat.{ℕ, ◌+◌, ◌*◌, ◌%◌, ◌≤◌}
use native.Mathlib.Omega.{arith}
use mathlib.Core.Bool.{Bool, true, false, cond}
use lib.Dec.{eqb}
use lib.ListN.{length, take, length-take}
use Rattle.flows.specs.Words.{octets_of}
use Rattle.flows.specs.Flows.{width}
use Rattle.flows.specs.declared.Flow.{Flow}
use Rattle.writers.specs.Tlvs.{command_of}
use Rattle.writers.proofs.Tlvs.{length-flow, length_holder}
use Rattle.flow_octets.specs.FlowOctets.{source_count, source_words, flow_tlv}
use Rattle.flow_octets.proofs.FlowOctets.{length-octets, width_le}

first-octets : (n : ℕ) (a : List ℕ) → length (octets_of (take n a)) ≤ 4 * n
first-octets n a = omega (arith, length-octets (take n a), length-take n a)

-- of the octets of a flow's TLV there are at most 40, in whole words
pub record Sized (f : Flow) : Type 0 where
  pub most : length (flow_tlv f) ≤ 40
  pub words : length (flow_tlv f) % 4 ≡ 0

source_words_le : (family sourced : ℕ) → source_words family sourced ≤ 4
unfolding source_words
source_words_le family sourced = go (eqb sourced 0)
  where
    go : (b : Bool) → cond b 0 (width family) ≤ 4
    go true = omega arith
    go false = width_le family

pub sized : (f : Flow) → Sized f
unfolding flow_tlv
sized f =
    let g = octets_of (take (width f.family) f.group) in
    let s = octets_of (take (source_words f.family f.sourced) f.source) in
    let l = length-flow (source_count f.sourced + 1) (f.family % 256) (source_count f.sourced) g s in
    let w = width_le f.family in
    let b = source_words_le f.family f.sourced in
    let hg = first-octets (width f.family) f.group in
    let hs = first-octets (source_words f.family f.sourced) f.source in
    record { most = omega arith; words = omega (arith, l) }

pub length-add : (f : Flow) → length (command_of 1 0 (flow_tlv f)) ≡ 8 + length (flow_tlv f)
unfolding command_of
length-add f = omega (arith, length_holder 0x0011 1 0 (flow_tlv f), (sized f).words)
