-- The fields of the TLVs that the card writes read back. Assumes nothing.
use mathlib.Core.Path.{◌≡◌, refl}
use mathlib.Core.List.{List, ◌++◌}
use mathlib.Core.Bool.{true}
use Prim.Native.Nat.{ℕ, ◌+◌, ◌*◌, ◌<◌}
use native.Mathlib.Omega.{arith}
use lib.ListN.{length, length-append}
use lib.Seq.{take_at, drop_at}
use borrow.Author.Tests.{lt-ltb, eq-eqb}
use Rattle.octets.specs.Numbers.{be16, be32, oct8, oct16, oct32}
use Rattle.octets.proofs.Tests.{every-by}
use Rattle.items.specs.Items.{of_type, count_of, first_of}
use Rattle.fields.specs.Fields.{circuit_ids, circuit_id, status_in, command_in, request_in, length_ok}
use Rattle.fields.specs.Flow.{width_of, length_agrees, flow_in, group_in, sources_in}
use Rattle.writers.specs.Tlvs.{tlv_of, target_of, holder_of, status_of, command_of, flow_of, allocation_of, request_of, sequence_of}
use Rattle.readback.specs.Reads.{ReadBack}
use Rattle.readback.proofs.Tlv.{items-last, reads}
use Rattle.readback.proofs.Message.{message_back}

module _ (id : List ℕ) where
  one-id : circuit_ids (tlv_of 0x0001 id) ≡ 1
  unfolding count_of of_type
  one-id = rw (items-last 0x0001 id)

  same_id : circuit_id (tlv_of 0x0001 id) ≡ id
  unfolding first_of of_type
  same_id = rw (items-last 0x0001 id)

module _ (x y : ℕ) where
  request-back : request_in (oct32 x ++ oct32 y) ≡ record { required = x; preferred = y }
  unfolding request_in oct32
  request-back =
      let a : be32 (oct32 x ++ oct32 y) 0 ≡ x = omega arith in
      let b : be32 (oct32 x ++ oct32 y) 4 ≡ y = omega arith in
      rw (a, b)

-- the content of a flow
abbrev flow_content : ℕ → ℕ → ℕ → List ℕ → List ℕ → List ℕ
flow_content kind family count group sources = oct8 kind ++ oct8 family ++ oct16 count ++ group ++ sources

module _ (kind family count : ℕ) (group sources : List ℕ) (known : 0 < width_of family)
    (lg : length group ≡ width_of family) (ls : length sources ≡ width_of family * count) where
  agrees_back : length_agrees family count (length (flow_content kind family count group sources)) ≡ true
  unfolding length_agrees oct8 oct16
  agrees_back =
      let l : length (flow_content kind family count group sources) ≡ 4 + length group + length sources = simp length-append (omega arith) in
      every-by _ (lt-ltb 0 (width_of family) known, (eq-eqb (length (flow_content kind family count group sources)) (4 + width_of family * (count + 1)) (omega arith), tt))

  flow-back : flow_in (flow_content kind family count group sources) ≡ record { kind = kind; family = family; count = count; agrees = true }
  unfolding flow_in oct8 oct16
  flow-back =
      let w : List ℕ = flow_content kind family count group sources in
      let n : be16 w 2 ≡ count = omega arith in
      rw (n, agrees_back)

  group-back : group_in (flow_content kind family count group sources) ≡ group
  unfolding oct8 oct16
  group-back = take_at group sources (width_of family) lg

  sources_back : sources_in (flow_content kind family count group sources) ≡ sources
  unfolding oct8 oct16
  sources_back = drop_at (oct8 kind ++ oct8 family ++ oct16 count ++ group) sources (4 + width_of family) (simp length-append (omega arith))

module _ (x y : ℕ) (inner : List ℕ) where
  command-back : command_in (oct8 x ++ oct8 y ++ oct16 0 ++ inner) ≡ record { code = x; accounting = y }
  unfolding command_in oct8 oct16
  command-back = refl

  status-back : status_in (oct8 x ++ oct8 y ++ oct16 0 ++ inner) ≡ record { kind = y; text = 0 }
  unfolding status_in oct8 oct16
  status-back = refl

pub read_back : ReadBack
unfolding target_of status_of command_of holder_of flow_of allocation_of request_of sequence_of length_ok oct8 oct16 oct32
read_back =
    record {
      message = message_back;
      tlv = λ t c. reads t c refl;
      target = λ id. reads 0x1000 (tlv_of 0x0001 id) (one-id id, same_id id, items-last 0x0001 id);
      status = λ kind inner. reads 0x0106 _ (status-back 0 kind inner, refl, refl);
      command = λ code accounting inner. reads 0x0011 _ (command-back code accounting inner, refl);
      allocation = λ amount. reads 0x0015 (oct32 amount) (refl, omega arith);
      request = λ required preferred. reads 0x0016 _ (refl, request-back required preferred);
      sequence = λ n. reads 0x0022 (oct32 n) (refl, omega arith);
      flow =
          λ kind family count group sources known lg ls.
          reads 0x0019 _ (
            flow-back kind family count group sources known lg ls,
            group-back kind family count group sources known lg ls,
            sources_back kind family count group sources known lg ls,
          );
    }
