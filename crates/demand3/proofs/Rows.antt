-- Held flows as rows of the channel table.
--     listed_by, listed_at, unlisted_at      a listed flow has a row
--     row_is, row-flow, rate_row             its row, the row's flow and rate
--     Tells, row_same, row_named             a choice of rows that tells a flow: its row, and the rows that are the flow's
--     length-sum, holds-sum, charges-sum     figures of a list of held flows as sums over it
--     unlisted_held                          a flow that is not listed is not held
--     without-sum, without-holds, without_listed, without_once, without_few, without-charges      those held but one flow
-- Assumes nothing.
use Rattle.std.specs.Prelude.{Option, Some, None, is_none}
use Prim.Native.Nat.{ℕ, ◌+◌, ◌≤◌}
use mathlib.Core.Path.{◌≡◌, refl, sym, ap, ap₂, ◌∙◌}
use mathlib.Core.Bool.{Bool, true, false, cond, not, ◌||◌, false≢true}
use mathlib.Core.List.{List, [], ◌∷◌}
use native.Mathlib.Nat.{zero-add}
use native.Mathlib.Omega.{arith}
use lib.ListN.{length}
use lib.Dec.{eqb, ltb}
use borrow.Author.Tests.{eqb-true, eq-eqb, lt-ltb}
use Rattle.octets.proofs.Tests.{same_by}
use Rattle.flows.specs.declared.Flow.{Flow}
use Rattle.flows.specs.Flows.{same_flow}
use Rattle.flows.proofs.Same.{same-flow_eq, same-flow_refl}
use Rattle.channels.specs.Channels.{channel_of, channel_at, rate_at, is_row}
use Rattle.channels.proofs.Channels.{channel-found}
use Rattle.sums.specs.Sums.{sum_by}
use Rattle.demand3.specs.Calls.{Tables}
use Rattle.demand3.specs.Ledger.{Held, Line, holds, without, with_flows}
use Rattle.demand3.specs.Reads.{listed, rate_by, rate_of}
use Rattle.demand3.specs.Claim.{charges, Once}

-- the row of a flow's channel; 256, which is no row, where it is not listed
unfoldable pub row_by : Option ℕ → ℕ
row_by (Some k) = k
row_by None = 256

unfoldable pub row_of : Tables → Flow → ℕ
row_of t f = row_by (channel_of t.channels t.channel_count f)

-- the sum over held flows, where w weighs a flow by its row and whether it is charged
unfoldable pub flow_sum : Tables → (ℕ → Bool → ℕ) → List Held → ℕ
flow_sum t w hs = sum_by (λ h. w (row_of t h.flow) h.charged) hs

-- each is listed
unfoldable pub AllListed : Tables → List Held → Type 0
AllListed t [] = Unit {0}
AllListed t (h ∷ hs) = (listed t h.flow ≡ true) × AllListed t hs

-- the weights of a port's figures: how many flows of a choice of rows, of row k, the rates that are charged
abbrev pub sel_weight : (ℕ → Bool) → ℕ → Bool → ℕ
sel_weight sel j c = cond (sel j) 1 0

abbrev pub row_weight : ℕ → ℕ → Bool → ℕ
row_weight k = sel_weight (λ j. eqb j k)

abbrev pub rate_weight : List ℕ → ℕ → Bool → ℕ
rate_weight channels k c = cond c (rate_at channels k) 0

-- what a held flow is charged
abbrev charge : Tables → Held → ℕ
charge t h = cond h.charged (rate_of t h.flow) 0

-- a weight but for the rows of a choice
abbrev pub besides : (ℕ → Bool) → (ℕ → Bool → ℕ) → ℕ → Bool → ℕ
besides sel w j c = cond (sel j) 0 (w j c)

module _ (t : Tables) where
  -- ---- one flow
  abbrev pub found : Flow → Option ℕ
  found f = channel_of t.channels t.channel_count f

  module _ (f : Flow) where
    pub listed_by : {C : Type 0} → listed t f ≡ true → ((k : ℕ) → found f ≡ Some k → C) → C
    unfolding listed
    listed_by {C} h go = at (found f) refl h
      where
        at : (r : Option ℕ) → found f ≡ r → not (is_none r) ≡ true → C
        at (Some k) e h = go k e
        at None e h = absurd (false≢true h)

    pub listed_at : {k : ℕ} → found f ≡ Some k → listed t f ≡ true
    unfolding listed
    listed_at e = ap (λ (r : Option ℕ). not (is_none r)) e

    pub unlisted_at : found f ≡ None → listed t f ≡ false
    unfolding listed
    unlisted_at e = ap (λ (r : Option ℕ). not (is_none r)) e

    pub row_is : {k : ℕ} → found f ≡ Some k → row_of t f ≡ k
    unfolding row_of row_by
    row_is e = ap row_by e

    pub row-flow : listed t f ≡ true → channel_at t.channels (row_of t f) ≡ f
    row-flow h = listed_by h (λ k e. ap (channel_at t.channels) (row_is e) ∙ (channel-found t.channels t.channel_count f e).is)

    pub rate_is : {k : ℕ} → found f ≡ Some k → rate_of t f ≡ rate_at t.channels k
    unfolding rate_of rate_by
    rate_is e = ap (rate_by t) e

    pub rate_row : listed t f ≡ true → rate_at t.channels (row_of t f) ≡ rate_of t f
    rate_row h = listed_by h (λ k e. ap (rate_at t.channels) (row_is e) ∙ sym (rate_is e))

  -- of listed flows, those with a row of the choice are f
  abbrev pub Tells : Flow → (ℕ → Bool) → Type 0
  Tells f sel = (g : Flow) → listed t g ≡ true → sel (row_of t g) ≡ same_flow g f

  module _ (f : Flow) where
    pub row_named : Tells f (is_row t.channels f)
    row_named g h = ap (λ (x : Flow). same_flow x f) (row-flow g h)

    pub row_same : (k : ℕ) → found f ≡ Some k → Tells f (λ j. eqb j k)
    unfolding row_of row_by
    row_same k e g h = same_by (eqb (row_of t g) k) (same_flow g f) there back
      where
        there : eqb (row_of t g) k ≡ true → same_flow g f ≡ true
        there s =
            listed_by g h (λ j d.
            let r : j ≡ k = sym (row_is g d) ∙ eqb-true (row_of t g) k s in
            let is : g ≡ f = sym (channel-found t.channels t.channel_count g d).is ∙ ap (channel_at t.channels) r ∙ (channel-found t.channels t.channel_count f e).is in
            ap (λ (x : Flow). same_flow x f) is ∙ same-flow_refl f)

        back : same_flow g f ≡ true → eqb (row_of t g) k ≡ true
        back s = eq-eqb (row_of t g) k (ap (row_of t) (same-flow_eq g f s) ∙ row_is f e)

  -- ---- figures of the flows held
  pub length-sum : (hs : List Held) → flow_sum t (λ k c. 1) hs ≡ length hs
  unfolding flow_sum sum_by
  length-sum [] = refl
  length-sum (h ∷ hs) = omega (arith, length-sum hs)

  pub charges-sum : (x : Line) → AllListed t x.flows → flow_sum t (rate_weight t.channels) x.flows ≡ charges t x
  unfolding flow_sum charges AllListed sum_by
  charges-sum x all = go x.flows all
    where
      go : (hs : List Held) → AllListed t hs → sum_by (λ h. rate_weight t.channels (row_of t h.flow) h.charged) hs ≡ sum_by (charge t) hs
      go [] a = refl
      go (h ∷ hs) a = ap₂ ◌+◌ (ap (λ (n : ℕ). cond h.charged n 0) (rate_row h.flow a.0)) (go hs a.1)

  pub unlisted_held : (f : Flow) → listed t f ≡ false → (hs : List Held) → AllListed t hs → holds f hs ≡ false
  unfolding holds AllListed
  unlisted_held f u [] a = refl
  unlisted_held f u (h ∷ hs) a = go (unlisted_held f u hs a.1) (same_flow h.flow f) refl
    where
      go : holds f hs ≡ false → (b : Bool) → same_flow h.flow f ≡ b → (b || holds f hs) ≡ false
      go ih true e = absurd (false≢true (sym u ∙ ap (listed t) (sym (same-flow_eq h.flow f e)) ∙ a.0))
      go ih false e = ih

  module _ (f : Flow) (sel : ℕ → Bool) (tells : Tells f sel) where
    pub holds-sum : (hs : List Held) → AllListed t hs → ltb 0 (flow_sum t (sel_weight sel) hs) ≡ holds f hs
    unfolding flow_sum holds AllListed sum_by
    holds-sum [] a = refl
    holds-sum (h ∷ hs) a = go (holds-sum hs a.1) (sel (row_of t h.flow)) (tells h.flow a.0)
      where
        go : ltb 0 (flow_sum t (sel_weight sel) hs) ≡ holds f hs → (b : Bool) → b ≡ same_flow h.flow f → ltb 0 (cond b 1 0 + flow_sum t (sel_weight sel) hs) ≡ (same_flow h.flow f || holds f hs)
        go ih true s = lt-ltb 0 (1 + flow_sum t (sel_weight sel) hs) (omega arith) ∙ ap (λ (b : Bool). b || holds f hs) s
        go ih false s = ap (ltb 0) (zero-add (flow_sum t (sel_weight sel) hs)) ∙ ih ∙ ap (λ (b : Bool). b || holds f hs) s

    pub without-sum : (w : ℕ → Bool → ℕ) (hs : List Held) → AllListed t hs → flow_sum t w (without f hs) ≡ flow_sum t (besides sel w) hs
    unfolding flow_sum without AllListed sum_by
    without-sum w [] a = refl
    without-sum w (h ∷ hs) a = go (without-sum w hs a.1) (same_flow h.flow f) (tells h.flow a.0)
      where
        go : flow_sum t w (without f hs) ≡ flow_sum t (besides sel w) hs → (b : Bool) → sel (row_of t h.flow) ≡ b
            → flow_sum t w (cond b (without f hs) (h ∷ without f hs)) ≡ cond (sel (row_of t h.flow)) 0 (w (row_of t h.flow) h.charged) + flow_sum t (besides sel w) hs
        go ih true s = rw s (ih ∙ sym (zero-add (flow_sum t (besides sel w) hs)))
        go ih false s = rw s (ap (λ (n : ℕ). w (row_of t h.flow) h.charged + n) ih)

  -- ---- those held but one flow
  module _ (f : Flow) where
    pub without-holds : (g : Flow) (hs : List Held) → holds g hs ≡ false → holds g (without f hs) ≡ false
    unfolding holds without
    without-holds g [] n = refl
    without-holds g (h ∷ hs) n = go (same_flow h.flow g) refl (same_flow h.flow f) (without-holds g hs) n
      where
        go : (b : Bool) → same_flow h.flow g ≡ b → (d : Bool) → (holds g hs ≡ false → holds g (without f hs) ≡ false) → (b || holds g hs) ≡ false
            → holds g (cond d (without f hs) (h ∷ without f hs)) ≡ false
        go true s d ih n = absurd (false≢true (sym n))
        go false s true ih n = ih n
        go false s false ih n = rw s (ih n)

    pub without_listed : (hs : List Held) → AllListed t hs → AllListed t (without f hs)
    unfolding without AllListed
    without_listed [] a = tt
    without_listed (h ∷ hs) a = go (without_listed hs a.1) (same_flow h.flow f)
      where
        go : AllListed t (without f hs) → (b : Bool) → AllListed t (cond b (without f hs) (h ∷ without f hs))
        go ih true = ih
        go ih false = (a.0, ih)

    pub without_once : (hs : List Held) → Once hs → Once (without f hs)
    unfolding without Once
    without_once [] a = tt
    without_once (h ∷ hs) a = go (without_once hs a.1) (same_flow h.flow f)
      where
        go : Once (without f hs) → (b : Bool) → Once (cond b (without f hs) (h ∷ without f hs))
        go ih true = ih
        go ih false = (without-holds h.flow hs a.0, ih)

    pub without_few : (hs : List Held) → length (without f hs) ≤ length hs
    unfolding without
    without_few [] = omega arith
    without_few (h ∷ hs) = go (same_flow h.flow f) (without_few hs)
      where
        go : (b : Bool) → length (without f hs) ≤ length hs → length (cond b (without f hs) (h ∷ without f hs)) ≤ length (h ∷ hs)
        go true ih = omega arith
        go false ih = omega arith

    pub without-charges : (x : Line) → charges t (with_flows x (without f x.flows)) ≤ charges t x
    unfolding charges without sum_by
    without-charges x = go x.flows
      where
        go : (hs : List Held) → sum_by (charge t) (without f hs) ≤ sum_by (charge t) hs
        go [] = omega arith
        go (h ∷ hs) = one (same_flow h.flow f) (go hs)
          where
            one : (b : Bool) → sum_by (charge t) (without f hs) ≤ sum_by (charge t) hs → sum_by (charge t) (cond b (without f hs) (h ∷ without f hs)) ≤ charge t h + sum_by (charge t) hs
            one true ih = omega arith
            one false ih = omega arith
