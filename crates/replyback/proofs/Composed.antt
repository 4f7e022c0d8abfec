-- A message from its TLVs, and a refusal from the TLVs that it encloses: what each single TLV reads as is known, here they are put one
-- after the other. Assumes nothing.
use mathlib.Core.Path.{◌≡◌, sym, ap, ◌∙◌}
use mathlib.Core.List.{List, [], ◌∷◌, ◌++◌, append-nil}
use mathlib.Core.Bool.{Bool, true, false, cond, ◌||◌}
use Prim.Native.Nat.{ℕ, ◌<◌}
use native.Mathlib.Omega.{arith}
use lib.Dec.{eqb}
use Rattle.header.specs.declared.Header.{Header}
use Rattle.header.specs.Header.{message_of}
use Rattle.tlv.specs.Depth.{depth_of, list_ok}
use Rattle.items.specs.Items.{Item, item, items_of}
use Rattle.writers.specs.Tlvs.{target_of, status_of}
use Rattle.replies.specs.Replies.{reply_header, refusal_of}
use Rattle.readback.specs.Reads.{Reads}
use Rattle.readback.proofs.Tlv.{items-none}
use Rattle.readback.proofs.Fields.{read_back}
use Rattle.readback.proofs.Checked.{passes, alone}
use Rattle.replyback.specs.Says.{Says, Names, Refuses}

-- ---- a TLV before others, and one that stands last
module _ {w : List ℕ} {t : ℕ} {Fields : List ℕ → Type 0} (r : Reads w t Fields) where
  pub before : (rest : List ℕ) {is : List Item} → items_of rest ≡ is → items_of (w ++ rest) ≡ item t r.content ∷ is
  before rest e = r.stands rest ∙ ap (λ (js : List Item). item t r.content ∷ js) e

  pub last : items_of w ≡ item t r.content ∷ []
  last = ap items_of (sym (append-nil w)) ∙ before [] items-none

-- the content of a Target that was written
abbrev pub target_content : List ℕ → List ℕ
target_content id = (read_back.target id).content

pub names : (id : List ℕ) → Names (target_content id) id
names id = let f = (read_back.target id).fields in record { one = f.0; same = f.1; alone = f.2 }

pub target-before : (id rest : List ℕ) {is : List Item} → items_of rest ≡ is → items_of (target_of id ++ rest) ≡ item 0x1000 (target_content id) ∷ is
target-before id rest e = before (read_back.target id) rest e

-- ---- a message
pub says : (h : Header) (body : List ℕ) {is : List Item} → h.result < 16 → h.code < 4096 → h.transaction < 16777216
    → items_of body ≡ is → list_ok (depth_of h.result) false body ≡ true → Says (message_of h body) h is
says h body hr hc ht ei ep =
    let m = read_back.message h body in
    record {
      is_usable = m.is_usable;
      header = m.header hr hc ht;
      tlvs = ap items_of m.tlvs ∙ ei;
      passes = ap (list_ok (depth_of h.result) false) m.tlvs ∙ ep;
    }

-- what passes three deep passes whatever the Result
pub any_result : (result : ℕ) (body : List ℕ) → list_ok 3 false body ≡ true → list_ok (depth_of result) false body ≡ true
any_result result body h = go (eqb result 3 || eqb result 4)
  where
    go : (b : Bool) → list_ok (cond b 4 3) false body ≡ true
    go true = passes.deeper 3 false body h
    go false = h

-- ---- a refusal
pub refused : (h : Header) (code : ℕ) (inner : List ℕ) {is : List Item} → h.transaction < 16777216 → code < 4096
    → items_of inner ≡ is → list_ok 3 true inner ≡ true → Refuses (refusal_of h code inner) h code is
unfolding refusal_of
refused h code inner ht hc ei ep =
    let r = read_back.status h.kind inner in
    record {
      content = r.content;
      says = says (reply_header h 91 4 code) (status_of h.kind inner) (omega arith) hc ht (last r) (alone 4 false _ (passes.status 3 false h.kind inner ep));
      status = record { about = r.fields.0; text = r.fields.1; tlvs = ap items_of r.fields.2 ∙ ei };
    }
