-- A message that is written reads back. Assumes nothing.
use mathlib.Core.Path.{◌≡◌}
use mathlib.Core.List.{List}
use mathlib.Core.Bool.{true}
use Prim.Native.Nat.{ℕ, ◌%◌, ◌/◌, ◌<◌}
use native.Mathlib.Omega.{arith}
use lib.ListN.{length, drop}
use lib.Seq.{drop_at}
use borrow.Author.Tests.{le-leb, eq-eqb}
use Rattle.octets.specs.Numbers.{be16, be24, oct8, oct16, oct24}
use Rattle.octets.proofs.Tests.{every-by}
use Rattle.header.specs.declared.Header.{Header}
use Rattle.header.specs.Header.{usable, header_in, header_of, message_of}
use Rattle.header.proofs.Messages.{length_header, length-message}
use Rattle.readback.specs.Reads.{MessageBack}

module _ (h : Header) (body : List ℕ) where
  usable-back : usable (message_of h body) ≡ true
  unfolding usable message_of header_of oct8 oct16 oct24
  usable-back = every-by _ (omega (arith, le-leb, eq-eqb))

  header_back : h.result < 16 → h.code < 4096 → h.transaction < 16777216 → header_in (message_of h body) ≡ h
  unfolding header_in message_of header_of oct8 oct16 oct24
  header_back hr hc ht =
      let m : List ℕ = message_of h body in
      let r : be16 m 6 / 4096 ≡ h.result = omega arith in
      let c : be16 m 6 % 4096 ≡ h.code = omega arith in
      let t : be24 m 9 ≡ h.transaction = omega arith in
      rw (r, c, t)

  tlvs-back : drop 16 (message_of h body) ≡ body
  unfolding message_of
  tlvs-back = drop_at (header_of h (length body)) body 16 (length_header h (length body))

pub message_back : (h : Header) (body : List ℕ) → MessageBack h body
message_back h body =
    record { size = length-message h body; is_usable = usable-back h body; header = header_back h body; tlvs = tlvs-back h body }
