-- What the card writes passes the check of lengths and depth. Assumes nothing.
use mathlib.Core.Path.{◌≡◌, refl, sym, ap, ◌∙◌}
use mathlib.Core.List.{List, [], ◌++◌, append-nil}
use mathlib.Core.Bool.{Bool, true, false}
use Prim.Native.Nat.{ℕ, zero, suc}
use native.Mathlib.Omega.{arith}
use lib.ListN.{length, length-append}
use lib.Dec.{leb}
use borrow.Author.Tests.{le-leb}
use Rattle.octets.specs.Numbers.{oct8, oct16}
use Rattle.tlv.specs.Depth.{status_inside, inside_of, held_ok, inside_ok, list_ok}
use Rattle.tlv.proofs.Firsts.{first_end}
use Rattle.tlv.proofs.Depth.{all_end, inside_bare, list_deeper}
use Rattle.writers.specs.Tlvs.{tlv_of, bare_of, target_of, holder_of, status_of, command_of, flow_of, allocation_of, request_of, sequence_of}
use Rattle.readback.specs.Passes.{Stands, Passes}
use Rattle.readback.proofs.Tlv.{list_back}

none_passes : (d : ℕ) (b : Bool) → list_ok d b [] ≡ true
unfolding list_ok
none_passes zero b = refl
none_passes (suc d) b = all_end _ [] (first_end [] refl) refl

-- a TLV whose inside is in order
stands : (d : ℕ) (b : Bool) (t : ℕ) (c : List ℕ) → inside_ok (list_ok d) b t c ≡ true → Stands (suc d) b (tlv_of t c)
stands d b t c h r k = list_back t c r d b ∙ rw (h, k)

any_bare : (inner : Bool → List ℕ → Bool) (b : Bool) (t : ℕ) (c : List ℕ) → inside_ok inner false t c ≡ true → inside_ok inner b t c ≡ true
any_bare inner true t c h = inside_bare inner t c h
any_bare inner false t c h = h

copy_passes : (d : ℕ) (b : Bool) (t : ℕ) (c : List ℕ) → inside_ok (list_ok d) false t c ≡ true → Stands (suc d) b (tlv_of t c)
copy_passes d b t c h = stands d b t c (any_bare (list_ok d) b t c h)

bare_passes : (d t : ℕ) → Stands (suc d) true (bare_of t)
unfolding inside_ok inside_of held_ok
bare_passes d t = stands d true t [] refl

-- a TLV that stands alone
pub alone : (d : ℕ) (b : Bool) (w : List ℕ) → Stands d b w → list_ok d b w ≡ true
alone d b w f = ap (list_ok d b) (sym (append-nil w)) ∙ f [] (none_passes d b)

target_passes : (d : ℕ) (b : Bool) (id : List ℕ) → Stands (suc (suc d)) b (target_of id)
unfolding target_of inside_ok inside_of held_ok
target_passes d b id = copy_passes (suc d) b 0x1000 (tlv_of 0x0001 id) (alone (suc d) false (tlv_of 0x0001 id) (copy_passes d false 0x0001 id refl))

-- the TLVs of a Command, and of a Status-Info without a text, stand after 4 octets
module _ (d : ℕ) (b : Bool) (x y : ℕ) (inner : List ℕ) where
  four : leb 4 (length (oct8 x ++ oct8 y ++ oct16 0 ++ inner)) ≡ true
  unfolding oct8 oct16
  four = le-leb 4 (length (oct8 x ++ oct8 y ++ oct16 0 ++ inner)) (simp length-append (omega arith))

  command-passes : list_ok d false inner ≡ true → Stands (suc d) b (command_of x y inner)
  unfolding command_of holder_of inside_ok inside_of held_ok oct8 oct16
  command-passes h = copy_passes d b 0x0011 _ (rw four h)

  status-passes : list_ok d true inner ≡ true → Stands (suc d) b (holder_of 0x0106 x y inner)
  unfolding holder_of inside_ok inside_of status_inside held_ok oct8 oct16
  status-passes h = copy_passes d b 0x0106 _ (rw four h)

pub passes : Passes
unfolding status_of flow_of allocation_of request_of sequence_of inside_ok inside_of held_ok
passes =
    record {
      none = none_passes;
      bare = bare_passes;
      target = target_passes;
      status = λ d b kind inner. status-passes d b 0 kind inner;
      command = command-passes;
      allocation = λ d b amount. copy_passes d b 0x0015 _ refl;
      request = λ d b required preferred. copy_passes d b 0x0016 _ refl;
      sequence = λ d b n. copy_passes d b 0x0022 _ refl;
      flow = λ d b kind family count group sources. copy_passes d b 0x0019 _ refl;
      copy = copy_passes;
      deeper = list_deeper;
    }
