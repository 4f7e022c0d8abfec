-- The refusals of the table and of a failed command read back. Assumes nothing.
use mathlib.Core.Path.{◌≡◌, ap, ◌∙◌}
use mathlib.Core.List.{List, [], ◌∷◌, ◌++◌, append_assoc}
use mathlib.Core.Bool.{true, false}
use Prim.Native.Nat.{ℕ, ◌<◌}
use native.Mathlib.Omega.{arith}
use Rattle.header.specs.declared.Header.{Header}
use Rattle.tlv.specs.Depth.{inside_ok, list_ok}
use Rattle.items.specs.Items.{Item, item, items_of}
use Rattle.writers.specs.Tlvs.{tlv_of, target_of, sequence_of}
use Rattle.replies.specs.Replies.{refusal_of}
use Rattle.readback.proofs.Tlv.{items-none, items_back, items-last}
use Rattle.readback.proofs.Fields.{read_back}
use Rattle.readback.proofs.Checked.{passes, alone}
use Rattle.rules.specs.Rules.{rules_of}
use Rattle.rules.specs.Named.{missing, bares}
use Rattle.rules.proofs.Faults.{fault_tail}
use Rattle.checks.specs.Table.{id_in, copy_of, enclosed_of}
use Rattle.control.specs.Control.{commands_in, failure_of}
use Rattle.replyback.specs.Says.{Refuses, absent}
use Rattle.replyback.specs.Kinds.{RefusesPort, RowsBack, Fails}
use Rattle.replyback.proofs.Composed.{before, last, target_content, names, target-before, refused}
use Rattle.replyback.proofs.Received.{EachOk, insides_ok, one_ok}

-- ---- 0x54: a bare header of each missing type
bares-back : (ts : List ℕ) → items_of (bares ts) ≡ absent ts
unfolding bares absent
bares-back [] = items-none
bares-back (t ∷ ts) = items_back t [] (bares ts) ∙ ap (λ (js : List Item). item t [] ∷ js) (bares-back ts)

bares_pass : (ts : List ℕ) → list_ok 3 true (bares ts) ≡ true
unfolding bares
bares_pass [] = passes.none 3 true
bares_pass (t ∷ ts) = passes.bare 2 t (bares ts) (bares_pass ts)

module _ (h : Header) (s : List ℕ) (ht : h.transaction < 16777216) where
  -- 0x500, 0x6: the Target with the circuit id alone
  target_row : (code : ℕ) → code < 4096 → RefusesPort (refusal_of h code (target_of (id_in s))) h code (id_in s)
  target_row code hc =
      record {
        target = target_content (id_in s);
        refuses = refused h code (target_of (id_in s)) ht hc (last (read_back.target (id_in s))) (alone 3 true _ (passes.target 1 true (id_in s)));
        circuit = names (id_in s);
      }

  plain : (code : ℕ) → code < 4096 → Refuses (refusal_of h code []) h code []
  plain code hc = refused h code [] ht hc items-none (passes.none 3 true)

  pub rows_back : RowsBack h s
  unfolding enclosed_of copy_of
  rows_back =
      record {
        unhandled = plain 0x51 (omega arith);
        result = plain 0x2 (omega arith);
        broken = plain 0x53 (omega arith);
        missing =
            let ts : List ℕ = missing (rules_of h.kind) (items_of s) in
            refused h 0x54 (bares ts) ht (omega arith) (bares-back ts) (bares_pass ts);
        -- the copy of a TLV that passed the check stands one level deeper
        fault = λ i is hs e.
            let f = rw e at (fault_tail (rules_of h.kind) (EachOk (inside_ok (list_ok 2) false)) (λ i is h. h.1) [] (items_of s) (insides_ok 2 s hs)) in
            rw e (refused h 0x55 (tlv_of i.kind i.content) ht (omega arith) (items-last i.kind i.content)
            (alone 3 true _ (passes.copy 2 true i.kind i.content f.0)));
        unknown = target_row 0x500 (omega arith);
        down = target_row 0x6 (omega arith);
      }

  -- ---- a failed command
  module _ (code : ℕ) (id : List ℕ) (number : ℕ) (c : List ℕ) (front after : List (List ℕ)) (hc : code < 4096)
      (hs : list_ok 3 false s ≡ true) (e : commands_in s ≡ front ++ (c ∷ after)) where
    -- Target, and after it the two others
    abbrev parts : List ℕ
    parts = target_of id ++ (sequence_of number ++ tlv_of 0x0011 c)

    parts_are : target_of id ++ sequence_of number ++ tlv_of 0x0011 c ≡ parts
    parts_are = append_assoc (target_of id) (sequence_of number) (tlv_of 0x0011 c)

    parts_pass : list_ok 3 true parts ≡ true
    parts_pass =
        passes.target 1 true id _ (passes.sequence 2 true number _ (alone 3 true _ (passes.copy 2 true 0x0011 c
        (one_ok (inside_ok (list_ok 2) false) 0x0011 (items_of s) front c after (insides_ok 2 s hs) e))))

    pub failure_back : Fails (failure_of h code id number c) h code id number c
    unfolding failure_of
    failure_back =
        let q = read_back.sequence number in
        record {
          target = target_content id;
          sequence = q.content;
          refuses =
              refused h code (target_of id ++ sequence_of number ++ tlv_of 0x0011 c) ht hc
              (ap items_of parts_are ∙ target-before id _ (before q _ (items-last 0x0011 c)))
              (ap (list_ok 3 true) parts_are ∙ parts_pass);
          circuit = names id;
          fixed = q.fields.0;
          counts = q.fields.1;
        }
