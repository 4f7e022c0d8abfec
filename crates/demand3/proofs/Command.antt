-- One command of a 144 on an up port, on a card that agrees with a ledger.
--     carried_out_agrees   a command that succeeds acts as the ledger has it
--     carried_out_succeeds  exactly where the ledger says so; `carried_out_code` for what `directive_of` reads
--     acts_keep, all_keep  commands change a line's flows alone; acts-up, all_up: none brings a port down
-- Assumes nothing.
use Rattle.std.specs.Prelude.{Option, Some, None}
use Prim.Native.Nat.{ℕ, ◌<◌}
use mathlib.Core.Path.{◌≡◌, refl, sym, ap, subst, ◌∙◌}
use mathlib.Core.Bool.{Bool, true, false, cond, false≢true}
use mathlib.Core.List.{List, [], ◌∷◌}
use mathlib.Core.Logic.{◌⊎◌, inl, inr, ⊎_elim, ◌↔◌}
use native.Mathlib.Omega.{arith}
use lib.Dec.{eqb}
use borrow.Author.Tests.{eqb-true, eq-eqb}
use Rattle.flows.specs.declared.Flow.{Flow}
use Rattle.flows.specs.Flows.{good_flow}
use Rattle.flow_octets.specs.FlowOctets.{flow_formed, flow_named}
use Rattle.fields.specs.Fields.{command_in}
use Rattle.channels.specs.Channels.{channel_of}
use Rattle.pool.specs.Pool.{is_active, has_flow, began, ended_flow, accounted}
use Rattle.card.specs.Cards.{Card, with_pool}
use Rattle.joins.specs.Joins.{admit_number}
use Rattle.commands.specs.Commands.{Ran, fails, succeeds, add_new, add_row, delete_flow, carried_out}
use Rattle.commands.specs.Directives.{Directive, shape_ok, flow_content, flow_directive, directive_of}
use Rattle.commands.specs.Directives.Directive.{malformed, add, delete, delete_all}
use Rattle.demand3.specs.Calls.{Tables}
use Rattle.demand3.specs.Ledger.{Held, Line, Ledger, write, holds, without, with_flows, begins, acts, acts_all}
use Rattle.demand3.specs.Reads.{listed}
use Rattle.demand3.specs.Claim.{Starts, Succeeds}
use Rattle.demand3.proofs.Rows.{found, listed_at, unlisted_at, unlisted_held}
use Rattle.demand3.proofs.Agree.{Agree, agree_as, write-back}
use Rattle.demand3.proofs.Figures.{active_is, has_is}
use Rattle.demand3.proofs.Admit.{admits, admits_step, flow_ends, all_end, accounted_step}

-- ---- a command that is not well-formed has a result code of its own
abbrev pub Coded : Directive → Type 0
Coded (malformed code) = code ≡ 0 → ⊥
Coded (add f v) = Unit {0}
Coded (delete f) = Unit {0}
Coded delete_all = Unit {0}

coded_by : (b : Bool) (x y : Directive) → Coded x → Coded y → Coded (cond b x y)
coded_by true x y h g = h
coded_by false x y h g = g

pub directive_coded : (c : List ℕ) → Coded (directive_of c)
unfolding directive_of flow_directive
directive_coded c =
    coded_by (shape_ok c) _ (malformed 0x64)
    (coded_by (eqb (command_in c).code 3) delete_all _ tt
    (coded_by (flow_formed (flow_content c)) _ (malformed 0x55)
    (coded_by (good_flow (flow_named (flow_content c))) _ (malformed 0x65)
    (coded_by (eqb (command_in c).code 1) (add (flow_named (flow_content c)) (command_in c).accounting) (delete (flow_named (flow_content c))) tt tt)
    (λ e. omega arith))
    (λ e. omega arith)))
    (λ e. omega arith)

-- ---- commands change a line's flows alone: what reads no flows reads the same after them
module _ (t : Tables) {A : Type 0} (read : Line → A) (same : (x : Line) (hs : List Held) → read (with_flows x hs) ≡ read x) where
  pub acts_keep : (x : Line) (o : Directive) → read (acts t x o) ≡ read x
  unfolding acts
  acts_keep x (malformed code) = refl
  acts_keep x (add f v) = go (holds f x.flows)
    where
      go : (b : Bool) → read (cond b x (begins x f t.add_cac)) ≡ read x
      go true = refl
      go false = same x (record { flow = f; charged = t.add_cac } ∷ x.flows)
  acts_keep x (delete f) = same x (without f x.flows)
  acts_keep x delete_all = same x []

  pub all_keep : (x : Line) (cs : List (List ℕ)) → read (acts_all t x cs) ≡ read x
  unfolding acts_all
  all_keep x [] = refl
  all_keep x (c ∷ cs) = all_keep (acts t x (directive_of c)) cs ∙ acts_keep x (directive_of c)

-- so no command brings a port down
module _ (t : Tables) where
  pub acts-up : (x : Line) (o : Directive) → (acts t x o).is_up ≡ x.is_up
  acts-up = acts_keep t (λ x. x.is_up) (λ x hs. refl)

  pub all_up : (x : Line) (cs : List (List ℕ)) → (acts_all t x cs).is_up ≡ x.is_up
  all_up = all_keep t (λ x. x.is_up) (λ x hs. refl)

module _ (t : Tables) (card : Card) (l : Ledger) (a : Agree t card l) (p : ℕ) (port : p < 64) (up : (l p).is_up ≡ true) where
  kept : Agree t card (write l p (l p))
  kept = agree_as t (λ q. sym (write-back l p q)) a

  -- ---- Add
  module _ (f : Flow) (v : ℕ) where
    add-found : carried_out t.channels card p (add f v) ≡ add_row t.channels card p v (found t f)
    unfolding carried_out
    add-found = ap (λ (n : ℕ). add_row t.channels card p v (channel_of t.channels n f)) a.channels

    abbrev started : ℕ → Card
    started k = with_pool card (began card.pool p k card.head.add_cac v)

    module _ (k : ℕ) (e : found t f ≡ Some k) where
      new_agrees : holds f (l p).flows ≡ false → (add_new t.channels card p k v).code ≡ 0
          → Agree t (add_new t.channels card p k v).card (write l p (begins (l p) f t.add_cac))
      unfolding add_new
      new_agrees idle z = go (eqb (admit_number t.channels card card.head.add_cac p k) 0) refl z
        where
          go : (b : Bool) → eqb (admit_number t.channels card card.head.add_cac p k) 0 ≡ b → (cond {A = Ran} b (succeeds (started k)) (fails card 0x13)).code ≡ 0
              → Agree t (cond {A = Ran} b (succeeds (started k)) (fails card 0x13)).card (write l p (begins (l p) f t.add_cac))
          go true s z = admits_step t card l a p port f k e a.add v up idle (eqb-true (admit_number t.channels card card.head.add_cac p k) 0 s)
          go false s z = absurd (omega arith)

      new_succeeds : ((add_new t.channels card p k v).code ≡ 0) ↔ Starts t t.add_cac l p f
      unfolding add_new
      new_succeeds = (λ z. there (eqb (admit_number t.channels card card.head.add_cac p k) 0) refl z, back)
        where
          there : (b : Bool) → eqb (admit_number t.channels card card.head.add_cac p k) 0 ≡ b → (cond {A = Ran} b (succeeds (started k)) (fails card 0x13)).code ≡ 0
              → Starts t t.add_cac l p f
          there true s z = (admits t card l a p port f k e a.add).0 (eqb-true (admit_number t.channels card card.head.add_cac p k) 0 s)
          there false s z = absurd (omega arith)

          back : Starts t t.add_cac l p f → (add_new t.channels card p k v).code ≡ 0
          back s =
              ap (λ (b : Bool). (cond {A = Ran} b (succeeds (started k)) (fails card 0x13)).code)
              (eq-eqb (admit_number t.channels card card.head.add_cac p k) 0 ((admits t card l a p port f k e a.add).1 s))

    -- by whether the flow is held, which is whether it is active
    abbrev by_active : ℕ → Bool → Ran
    by_active k b = cond b (succeeds (with_pool card (accounted card.pool p k v))) (add_new t.channels card p k v)

    add-agrees : (r : Option ℕ) → found t f ≡ r → (add_row t.channels card p v r).code ≡ 0
        → Agree t (add_row t.channels card p v r).card (write l p (acts t (l p) (add f v)))
    unfolding add_row acts
    add-agrees None e z = absurd (omega arith)
    add-agrees (Some k) e z = go (is_active card.pool p k) (holds f (l p).flows) (active_is t card l a p port f k e) refl z
      where
        go : (b d : Bool) → b ≡ d → holds f (l p).flows ≡ d → (by_active k b).code ≡ 0 → Agree t (by_active k b).card (write l p (cond d (l p) (begins (l p) f t.add_cac)))
        go true true s h z = agree_as t (λ q. sym (write-back l p q)) (accounted_step t card l a p port k v)
        go false false s h z = new_agrees k e h z
        go true false s h z = absurd (false≢true (sym s))
        go false true s h z = absurd (false≢true s)

    add-succeeds : (r : Option ℕ) → found t f ≡ r
        → ((add_row t.channels card p v r).code ≡ 0) ↔ ((listed t f ≡ true) × ((holds f (l p).flows ≡ true) ⊎ Starts t t.add_cac l p f))
    unfolding add_row
    add-succeeds None e = (λ z. absurd (omega arith), λ s. absurd (false≢true (sym (unlisted_at t f e) ∙ s.0)))
    add-succeeds (Some k) e = go (is_active card.pool p k) (active_is t card l a p port f k e)
      where
        go : (b : Bool) → b ≡ holds f (l p).flows → ((by_active k b).code ≡ 0) ↔ ((listed t f ≡ true) × ((holds f (l p).flows ≡ true) ⊎ Starts t t.add_cac l p f))
        go true h = (λ z. (listed_at t f e, inl (sym h)), λ s. refl)
        go false h = (
          λ z. (listed_at t f e, inr ((new_succeeds k e).0 z)),
          λ s. ⊎_elim (λ (y : holds f (l p).flows ≡ true). absurd (false≢true (h ∙ y))) (λ (y : Starts t t.add_cac l p f). (new_succeeds k e).1 y) s.1,
        )

  -- ---- Delete
  module _ (f : Flow) where
    abbrev by_held : Bool → Ran
    by_held b = cond b (succeeds (with_pool card (ended_flow t.channels card.pool p f))) (fails card 0x66)

    delete-agrees : (delete_flow t.channels card p f).code ≡ 0
        → Agree t (delete_flow t.channels card p f).card (write l p (with_flows (l p) (without f (l p).flows)))
    unfolding delete_flow
    delete-agrees z = go (has_flow t.channels card.pool p f) z
      where
        go : (b : Bool) → (by_held b).code ≡ 0 → Agree t (by_held b).card (write l p (with_flows (l p) (without f (l p).flows)))
        go true z = flow_ends t card l a p port f
        go false z = absurd (omega arith)

    delete-succeeds : ((delete_flow t.channels card p f).code ≡ 0) ↔ (holds f (l p).flows ≡ true)
    unfolding delete_flow
    delete-succeeds = go (has_flow t.channels card.pool p f) (has_is t card l a p port f)
      where
        go : (b : Bool) → b ≡ holds f (l p).flows → ((by_held b).code ≡ 0) ↔ (holds f (l p).flows ≡ true)
        go true h = (λ z. sym h, λ s. refl)
        go false h = (λ z. absurd (omega arith), λ s. absurd (false≢true (h ∙ s)))

  -- ---- any command
  pub carried_out_agrees : (o : Directive) → (carried_out t.channels card p o).code ≡ 0 → Agree t (carried_out t.channels card p o).card (write l p (acts t (l p) o))
  unfolding carried_out acts
  carried_out_agrees (malformed code) z = kept
  carried_out_agrees (add f v) z =
      subst (λ (r : Ran). r.code ≡ 0 → Agree t r.card (write l p (acts t (l p) (add f v)))) (sym (add-found f v)) (add-agrees f v (found t f) refl) z
  carried_out_agrees (delete f) z = delete-agrees f z
  carried_out_agrees delete_all z = all_end t card l a p port

  pub carried_out_succeeds : (o : Directive) → Coded o → ((carried_out t.channels card p o).code ≡ 0) ↔ Succeeds t l p o
  unfolding carried_out Succeeds
  carried_out_succeeds (malformed code) c = (λ z. c z, λ s. absurd s)
  carried_out_succeeds (add f v) c = subst (λ (r : Ran). (r.code ≡ 0) ↔ Succeeds t l p (add f v)) (sym (add-found f v)) (add-succeeds f v (found t f) refl)
  carried_out_succeeds (delete f) c = delete-succeeds f
  carried_out_succeeds delete_all c = (λ z. tt, λ s. refl)

  -- and what is read off a Command's content
  pub carried_out_code : (c : List ℕ) → ((carried_out t.channels card p (directive_of c)).code ≡ 0) ↔ Succeeds t l p (directive_of c)
  carried_out_code c = carried_out_succeeds (directive_of c) (directive_coded c)
