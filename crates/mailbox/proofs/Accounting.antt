-- A set that may be delivered is reported once for each receiver of its route.
use Rattle.std.proofs.Common.{◌≡◌, ◌≢◌, ◌<◌, ◌⊎◌, inl, inr, ◌==◌, ℕ, zero, suc, ◌+◌, Bool, true, false, cond, ◌||◌, List, [], ◌∷◌}
use Rattle.std.proofs.Common.{◌++◌, Option, Some, None, length, map, All, refl, sym, ap, subst, ◌∙◌, arith, eq-eqb, eqb-true}
use Rattle.std.specs.Prelude.{slice_get, count_by}
use Rattle.std.specs.List.{filter, flat_map, list_any}
use Rattle.std.proofs.lemmas.List.Elements.{All-nil, All-cons, All-head, All-tail}
use Rattle.std.proofs.lemmas.List.Sums.{sum_by-cons}
use Rattle.answered_sets.specs.Judged.{PlacedValue, all_sets}
use Rattle.partner_setup.specs.Setup.{SetupValue}
use Rattle.partner_setup.specs.Sound.{AreApart, AreWithin}
use Rattle.partner_setup.proofs.ForAbove.{targets_apart, targets_within}
use Rattle.partner_setup.specs.declared.partner.Partner.{Partner}
use Rattle.x12_segs.specs.Words.{element_of}
use Rattle.mailbox.specs.Accounted.{IsAccounted, SetsAreAccounted, is_held_for, receivers_of}
use Rattle.mailbox.specs.Deliveries.{is_blocked, is_deliverable, is_delivered_to, is_delivery_to}
use Rattle.mailbox.specs.Deliveries.{outcome_at, outcome_by, outcomes, outcomes_on}
use Rattle.mailbox.specs.Delivering.{one_where}
use Rattle.mailbox.specs.declared.outcome.Outcome.{Outcome}
use Rattle.mailbox.specs.declared.outcome.Outcome.TheVariants.{DeliveredTo, HeldForDelimiter, HeldForRoute}
use Rattle.mailbox.proofs.Replacing.{there_is}

-- how often outcomes report a set to a partner
abbrev told : (p : PlacedValue) (q : ℕ) → List Outcome → ℕ
told p q os = length (one_where (list_any (is_delivery_to q) os) p) + count_by (is_held_for q) os

held_cons : (q : ℕ) (o : Outcome) (os : List Outcome)
    → count_by (is_held_for q) (o ∷ os) ≡ cond (is_held_for q o) 1 0 + count_by (is_held_for q) os
held_cons q o os = sum_by-cons (λ (x : Outcome). cond (is_held_for q x) 1 0) o os

-- an outcome that doesn't speak of a partner
abbrev Passes : (q : ℕ) → Outcome → Type 0
Passes q o = (is_delivery_to q o ≡ false) × (is_held_for q o ≡ false)

told_past : (p : PlacedValue) (q : ℕ) (o : Outcome) (os : List Outcome) → Passes q o → told p q (o ∷ os) ≡ told p q os
told_past p q o os past =
    let none : 0 + count_by (is_held_for q) os ≡ count_by (is_held_for q) os = omega arith in
    ap (λ (n : ℕ). length (one_where (list_any (is_delivery_to q) (o ∷ os)) p) + n)
    (held_cons q o os ∙ ap (λ (b : Bool). cond b 1 0 + count_by (is_held_for q) os) past.1 ∙ none)
    ∙ ap (λ (b : Bool). length (one_where (b || list_any (is_delivery_to q) os) p) + count_by (is_held_for q) os) past.0

no_number : (t q : ℕ) → t ≢ q → (b : Bool) → (t == q) ≡ b → (t == q) ≡ false
no_number t q ne true is = absurd (ne (eqb-true t q is))
no_number t q ne false is = is

-- the outcome for another receiver
other_passes : (setup : SetupValue) (p : PlacedValue) (q t : ℕ) → t ≢ q → Passes q (outcome_at setup p t)
other_passes setup p q t ne = by_partner (slice_get setup.partners t)
  where
    other : (t == q) ≡ false
    other = no_number t q ne (t == q) refl

    by_block : (b : Bool) → Passes q (cond b (HeldForDelimiter t) (DeliveredTo t))
    by_block true = (refl, other)
    by_block false = (other, refl)

    by_partner : (partner : Option Partner) → Passes q (outcome_by partner p t)
    by_partner None = (refl, refl)
    by_partner (Some partner) = by_block (is_blocked partner.delims p)

-- the outcome for a receiver that is there
here : (setup : SetupValue) (p : PlacedValue) (t : ℕ) → t < length setup.partners
    → (outcome_at setup p t ≡ DeliveredTo t) ⊎ (outcome_at setup p t ≡ HeldForDelimiter t)
here setup p t within =
    let had = there_is setup.partners t within in
    subst (λ (o : Option Partner). (outcome_by o p t ≡ DeliveredTo t) ⊎ (outcome_by o p t ≡ HeldForDelimiter t)) (sym had.1)
    (by_block (is_blocked had.0.delims p))
  where
    by_block : (b : Bool) → (cond b (HeldForDelimiter t) (DeliveredTo t) ≡ DeliveredTo t)
        ⊎ (cond b (HeldForDelimiter t) (DeliveredTo t) ≡ HeldForDelimiter t)
    by_block true = inr refl
    by_block false = inl refl

-- outcomes for others
all_pass : (setup : SetupValue) (p : PlacedValue) (q : ℕ) (ts : List ℕ) → All (λ (t : ℕ). t ≢ q) ts
    → (list_any (is_delivery_to q) (map (outcome_at setup p) ts) ≡ false)
    × (count_by (is_held_for q) (map (outcome_at setup p) ts) ≡ 0)
all_pass setup p q [] apart = (refl, refl)
all_pass setup p q (t ∷ ts) apart =
    let past = other_passes setup p q t (All-head (λ (s : ℕ). s ≢ q) t ts apart) in
    let rest = all_pass setup p q ts (All-tail (λ (s : ℕ). s ≢ q) t ts apart) in (
      ap (λ (b : Bool). b || list_any (is_delivery_to q) (map (outcome_at setup p) ts)) past.0 ∙ rest.0,
      held_cons q (outcome_at setup p t) (map (outcome_at setup p) ts)
          ∙ ap (λ (b : Bool). cond b 1 0 + count_by (is_held_for q) (map (outcome_at setup p) ts)) past.1
          ∙ ap (λ (n : ℕ). 0 + n) rest.1,
    )

-- the first receiver, whom no other outcome speaks of
first_told : (setup : SetupValue) (p : PlacedValue) (t : ℕ) (ts : List ℕ) → t < length setup.partners → All (λ (s : ℕ). s ≢ t) ts
    → told p t (map (outcome_at setup p) (t ∷ ts)) ≡ 1
first_told setup p t ts within apart = by (here setup p t within)
  where
    os : List Outcome
    os = map (outcome_at setup p) ts

    rest : (list_any (is_delivery_to t) os ≡ false) × (count_by (is_held_for t) os ≡ 0)
    rest = all_pass setup p t ts apart

    same : (t == t) ≡ true
    same = eq-eqb t t refl

    by_bits : (a b c : Bool) (n : ℕ) → (a ≡ true) × (b ≡ false) ⊎ (a ≡ false) × (b ≡ true) → c ≡ false → n ≡ 0
        → length (one_where (a || c) p) + (cond b 1 0 + n) ≡ 1
    by_bits a b c n (inl one) none zeros =
        ap (λ (m : ℕ). length (one_where (a || c) p) + (cond b 1 0 + m)) zeros
        ∙ ap (λ (x : Bool). length (one_where (x || c) p) + (cond b 1 0 + 0)) one.0
        ∙ ap (λ (x : Bool). 1 + (cond x 1 0 + 0)) one.1
    by_bits a b c n (inr one) none zeros =
        ap (λ (m : ℕ). length (one_where (a || c) p) + (cond b 1 0 + m)) zeros
        ∙ ap (λ (x : Bool). length (one_where (x || c) p) + (cond b 1 0 + 0)) one.0
        ∙ ap (λ (x : Bool). length (one_where x p) + (cond b 1 0 + 0)) none
        ∙ ap (λ (x : Bool). 0 + (cond x 1 0 + 0)) one.1

    by : (outcome_at setup p t ≡ DeliveredTo t) ⊎ (outcome_at setup p t ≡ HeldForDelimiter t)
        → told p t (outcome_at setup p t ∷ os) ≡ 1
    by (inl is) =
        ap (λ (n : ℕ). length (one_where (list_any (is_delivery_to t) (outcome_at setup p t ∷ os)) p) + n)
        (held_cons t (outcome_at setup p t) os)
        ∙ by_bits (is_delivery_to t (outcome_at setup p t)) (is_held_for t (outcome_at setup p t)) (list_any (is_delivery_to t) os)
        (count_by (is_held_for t) os) (inl (ap (is_delivery_to t) is ∙ same, ap (is_held_for t) is)) rest.0 rest.1
    by (inr is) =
        ap (λ (n : ℕ). length (one_where (list_any (is_delivery_to t) (outcome_at setup p t ∷ os)) p) + n)
        (held_cons t (outcome_at setup p t) os)
        ∙ by_bits (is_delivery_to t (outcome_at setup p t)) (is_held_for t (outcome_at setup p t)) (list_any (is_delivery_to t) os)
        (count_by (is_held_for t) os) (inr (ap (is_delivery_to t) is, ap (is_held_for t) is ∙ same)) rest.0 rest.1

-- lists in which no number stands twice
flipped : (t : ℕ) (ts : List ℕ) → AreApart (t ∷ ts) → All (λ (s : ℕ). s ≢ t) ts
flipped t ts apart = λ k d within e. apart zero (suc k) d (omega arith) (omega (arith, within)) (sym e)

behind_first : (t : ℕ) (ts : List ℕ) → AreApart (t ∷ ts) → AreApart ts
behind_first t ts apart = λ i j d less within. apart (suc i) (suc j) d (omega (arith, less)) (omega (arith, within))

-- each further receiver, as without the first
further_told : (setup : SetupValue) (p : PlacedValue) (t : ℕ) (os : List ℕ) (ts : List ℕ) → All (λ (s : ℕ). s ≢ t) ts
    → All (λ (q : ℕ). told p q (map (outcome_at setup p) os) ≡ 1) ts
    → All (λ (q : ℕ). told p q (map (outcome_at setup p) (t ∷ os)) ≡ 1) ts
further_told setup p t os [] apart had = All-nil (λ (q : ℕ). told p q (map (outcome_at setup p) (t ∷ os)) ≡ 1)
further_told setup p t os (s ∷ ts) apart had =
    All-cons (λ (q : ℕ). told p q (map (outcome_at setup p) (t ∷ os)) ≡ 1) s ts
    (told_past p s (outcome_at setup p t) (map (outcome_at setup p) os)
    (other_passes setup p s t (λ e. All-head (λ (r : ℕ). r ≢ t) s ts apart (sym e)))
    ∙ All-head (λ (q : ℕ). told p q (map (outcome_at setup p) os) ≡ 1) s ts had)
    (further_told setup p t os ts (All-tail (λ (r : ℕ). r ≢ t) s ts apart)
    (All-tail (λ (q : ℕ). told p q (map (outcome_at setup p) os) ≡ 1) s ts had))

each_told : (setup : SetupValue) (p : PlacedValue) (ts : List ℕ) → AreWithin (length setup.partners) ts → AreApart ts
    → All (λ (q : ℕ). told p q (map (outcome_at setup p) ts) ≡ 1) ts
each_told setup p [] within apart = All-nil (λ (q : ℕ). told p q (map (outcome_at setup p) []) ≡ 1)
each_told setup p (t ∷ ts) within apart =
    let others : All (λ (s : ℕ). s ≢ t) ts = flipped t ts apart in
    All-cons (λ (q : ℕ). told p q (map (outcome_at setup p) (t ∷ ts)) ≡ 1) t ts
    (first_told setup p t ts (All-head (λ (q : ℕ). q < length setup.partners) t ts within) others)
    (further_told setup p t ts ts others
    (each_told setup p ts (All-tail (λ (q : ℕ). q < length setup.partners) t ts within) (behind_first t ts apart)))

-- by the receivers of a route, of which there may be none
told_on : (setup : SetupValue) (p : PlacedValue) (ts : List ℕ) → AreWithin (length setup.partners) ts → AreApart ts
    → All (λ (q : ℕ). told p q (outcomes_on setup p ts) ≡ 1) ts
told_on setup p [] within apart = All-nil (λ (q : ℕ). told p q (outcomes_on setup p []) ≡ 1)
told_on setup p (t ∷ ts) within apart = each_told setup p (t ∷ ts) within apart

untold_on : (setup : SetupValue) (p : PlacedValue) (q : ℕ) (ts : List ℕ) → All (λ (t : ℕ). t ≢ q) ts
    → told p q (outcomes_on setup p ts) ≡ 0
untold_on setup p q [] apart = refl
untold_on setup p q (t ∷ ts) apart =
    let none = all_pass setup p q (t ∷ ts) apart in
    ap (λ (n : ℕ). length (one_where (list_any (is_delivery_to q) (map (outcome_at setup p) (t ∷ ts))) p) + n) none.1
    ∙ ap (λ (b : Bool). length (one_where b p) + 0) none.0

named : (setup : SetupValue) (p : PlacedValue) (t : ℕ) → t < length setup.partners → outcome_at setup p t ≢ HeldForRoute
named setup p t within = by (here setup p t within)
  where
    by : (outcome_at setup p t ≡ DeliveredTo t) ⊎ (outcome_at setup p t ≡ HeldForDelimiter t) → outcome_at setup p t ≢ HeldForRoute
    by (inl is) = λ e. let x : DeliveredTo t ≡ HeldForRoute = sym is ∙ e in cc
    by (inr is) = λ e. let x : HeldForDelimiter t ≡ HeldForRoute = sym is ∙ e in cc

all_named : (setup : SetupValue) (p : PlacedValue) (ts : List ℕ) → AreWithin (length setup.partners) ts
    → All (λ (o : Outcome). o ≢ HeldForRoute) (map (outcome_at setup p) ts)
all_named setup p [] within = All-nil (λ (o : Outcome). o ≢ HeldForRoute)
all_named setup p (t ∷ ts) within =
    All-cons (λ (o : Outcome). o ≢ HeldForRoute) (outcome_at setup p t) (map (outcome_at setup p) ts)
    (named setup p t (All-head (λ (q : ℕ). q < length setup.partners) t ts within))
    (all_named setup p ts (All-tail (λ (q : ℕ). q < length setup.partners) t ts within))

named_on : (setup : SetupValue) (p : PlacedValue) (ts : List ℕ) → AreWithin (length setup.partners) ts → 0 < length ts
    → All (λ (o : Outcome). o ≢ HeldForRoute) (outcomes_on setup p ts)
named_on setup p [] within some = absurd (omega (arith, some))
named_on setup p (t ∷ ts) within some = all_named setup p (t ∷ ts) within

-- a set that may be delivered
accounted : (setup : SetupValue) (p : PlacedValue) → AreWithin (length setup.partners) (receivers_of setup p)
    → AreApart (receivers_of setup p) → is_deliverable p ≡ true → IsAccounted setup p
accounted setup p within apart may = record {
  receivers = subst (λ (os : List Outcome). All (λ (q : ℕ). told p q os ≡ 1) (receivers_of setup p)) (sym all)
      (told_on setup p (receivers_of setup p) within apart);
  others = λ q none. ap (told p q) all ∙ untold_on setup p q (receivers_of setup p) none;
  routed = λ some. subst (λ (os : List Outcome). All (λ (o : Outcome). o ≢ HeldForRoute) os) (sym all)
      (named_on setup p (receivers_of setup p) within some);
  without_route = λ none. all ∙ ap (outcomes_on setup p) none;
}
  where
    all : outcomes setup p ≡ outcomes_on setup p (receivers_of setup p)
    all = ap (λ (b : Bool). let os : List Outcome = cond b (outcomes_on setup p (receivers_of setup p)) [] in os) may

-- a filter, set by set
one_by_one : (f : PlacedValue → Bool) (ps : List PlacedValue) → filter f ps ≡ flat_map (λ (p : PlacedValue). one_where (f p) p) ps
one_by_one f [] = refl
one_by_one f (p ∷ ps) = by (f p) (one_by_one f ps)
  where
    by : (b : Bool) → filter f ps ≡ flat_map (λ (q : PlacedValue). one_where (f q) q) ps
        → cond b (p ∷ filter f ps) (filter f ps) ≡ one_where b p ++ flat_map (λ (q : PlacedValue). one_where (f q) q) ps
    by true rest = ap (λ (qs : List PlacedValue). p ∷ qs) rest
    by false rest = rest

pub sets_are_accounted : SetsAreAccounted
sets_are_accounted setup sound = record {
  deliverable = λ p may. accounted setup p
      (targets_within (length setup.partners) setup.routes (element_of p.group.header 3) sound.routes)
      (targets_apart setup.routes (element_of p.group.header 3) sound.apart) may;
  others = λ p held. ap (λ (b : Bool). let os : List Outcome = cond b (outcomes_on setup p (receivers_of setup p)) [] in os) held;
  mailboxes = λ q xs. one_by_one (is_delivered_to setup q) (all_sets xs);
}
