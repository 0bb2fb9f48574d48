-- A set is delivered by one more of its outcomes.
use Rattle.std.proofs.Common.{◌≡◌, ◌<◌, ℕ, ◌==◌, Bool, true, false, cond, ◌||◌, List, [], ◌∷◌, ◌++◌, Option, Some, None, length, refl}
use Rattle.std.proofs.Common.{sym, ap, subst, ◌∙◌, append-nil, eqb-true, eq-eqb, true≢false}
use Rattle.std.specs.Prelude.{map, slice_get, slice_set}
use Rattle.std.specs.List.{All, list_any}
use Rattle.std.proofs.Math.Bool.{or-false, or_assoc}
use Rattle.std.proofs.lemmas.List.Elements.{All-cons, All-nil}
use Rattle.std.proofs.lemmas.Option.{slice_get_within}
use Rattle.answered_sets.specs.Judged.{PlacedValue}
use Rattle.partner_setup.specs.declared.partner.Partner.{Partner}
use Rattle.partner_setup.specs.Setup.{SetupValue, route_of}
use Rattle.x12_segs.specs.Words.{element_of}
use Rattle.mailbox.specs.declared.outcome.Outcome.{Outcome}
use Rattle.mailbox.specs.declared.outcome.Outcome.TheVariants.{DeliveredTo, HeldForDelimiter, HeldForRoute}
use Rattle.mailbox.specs.Deliveries.{is_blocked, is_deliverable, is_delivery_to, outcome_at, outcome_by, outcomes, outcomes_of, outcomes_on}
use Rattle.mailbox.specs.Delivering.{HasSent, IsForPlace, one_where}
use Rattle.mailbox.proofs.Replacing.{length_set, same_at, set_here, set_there, there_is}

abbrev pub Lists : Type 0
Lists = List (List PlacedValue)

-- whether a set is delivered to a partner by these outcomes
abbrev pub is_by : (q : ℕ) → List Outcome → Bool
is_by q os = list_any (is_delivery_to q) os

is_by_snoc : (q : ℕ) (os : List Outcome) (o : Outcome) → is_by q (os ++ o ∷ []) ≡ (is_by q os || is_delivery_to q o)
is_by_snoc q [] o = or-false (is_delivery_to q o)
is_by_snoc q (x ∷ os) o = ap (λ (b : Bool). is_delivery_to q x || b) (is_by_snoc q os o)
    ∙ sym (or_assoc (is_delivery_to q x) (is_by q os) (is_delivery_to q o))

-- nothing new by one outcome more
sent_as : (p : PlacedValue) (os : List Outcome) (o : Outcome) (a b : Lists) → ((q : ℕ) → is_by q os ≡ (is_by q os || is_delivery_to q o))
    → HasSent p os a b → HasSent p (os ++ o ∷ []) a b
sent_as p os o a b same sent = record {
  count = sent.count;
  each = λ q xs there. sent.each q xs there ∙ ap (λ (c : Bool). Some (xs ++ one_where c p)) (same q ∙ sym (is_by_snoc q os o));
}

-- a set that is held
pub sent_held : (p : PlacedValue) (os : List Outcome) (o : Outcome) (a b : Lists) → ((q : ℕ) → is_delivery_to q o ≡ false)
    → HasSent p os a b → HasSent p (os ++ o ∷ []) a b
sent_held p os o a b held sent = sent_as p os o a b
    (λ q. sym (or-false (is_by q os)) ∙ ap (λ (c : Bool). is_by q os || c) (sym (held q))) sent

-- a partner that has the set
pub sent_again : (p : PlacedValue) (os : List Outcome) (to : ℕ) (a b : Lists) → is_by to os ≡ true
    → HasSent p os a b → HasSent p (os ++ DeliveredTo to ∷ []) a b
sent_again p os to a b had sent = sent_as p os (DeliveredTo to) a b (λ q. by q (to == q) refl) sent
  where
    by : (q : ℕ) (c : Bool) → (to == q) ≡ c → is_by q os ≡ (is_by q os || is_delivery_to q (DeliveredTo to))
    by q true is =
        let has : is_by q os ≡ true = subst (λ (n : ℕ). is_by n os ≡ true) (eqb-true to q is) had in
        has ∙ sym (ap (λ (c : Bool). c || is_delivery_to q (DeliveredTo to)) has)
    by q false is = sym (or-false (is_by q os)) ∙ ap (λ (c : Bool). is_by q os || c) (sym is)

-- a partner that hasn't got it
pub sent_to : (p : PlacedValue) (os : List Outcome) (to : ℕ) (first a b : Lists) → to < length a → is_by to os ≡ false
    → ((xs : List PlacedValue) → slice_get a to ≡ Some xs → b ≡ slice_set a to (xs ++ p ∷ []))
    → HasSent p os first a → HasSent p (os ++ DeliveredTo to ∷ []) first b
sent_to p os to first a b within none made sent = record {
  count = ap (λ (ls : Lists). length ls) set ∙ length_set a to (had.0 ++ p ∷ []) ∙ sent.count;
  each = λ q xs there. by q xs there (to == q) refl;
}
  where
    had : (xs : List PlacedValue) × (slice_get a to ≡ Some xs)
    had = there_is a to within

    set : b ≡ slice_set a to (had.0 ++ p ∷ [])
    set = made had.0 had.1

    by : (q : ℕ) (xs : List PlacedValue) → slice_get first q ≡ Some xs → (c : Bool) → (to == q) ≡ c
        → slice_get b q ≡ Some (xs ++ one_where (is_by q (os ++ DeliveredTo to ∷ [])) p)
    by q xs there true same =
        let q_is : to ≡ q = eqb-true to q same in
        let before : is_by q os ≡ false = subst (λ (n : ℕ). is_by n os ≡ false) q_is none in
        let old : slice_get a q ≡ Some xs = sent.each q xs there
        ∙ ap (λ (c : Bool). Some (xs ++ one_where c p)) before ∙ ap (λ (ys : List PlacedValue). Some ys) (append-nil xs) in
        let here : slice_get a to ≡ Some xs = subst (λ (n : ℕ). slice_get a n ≡ Some xs) (sym q_is) old in
        let now : is_by q (os ++ DeliveredTo to ∷ []) ≡ true = is_by_snoc q os (DeliveredTo to)
        ∙ ap (λ (c : Bool). c || is_delivery_to q (DeliveredTo to)) before ∙ same in
        subst (λ (n : ℕ). slice_get b n ≡ Some (xs ++ p ∷ [])) q_is
        (ap (λ (ls : Lists). slice_get ls to) (made xs here) ∙ set_here a to xs (xs ++ p ∷ []) here)
        ∙ ap (λ (c : Bool). Some (xs ++ one_where c p)) (sym now)
    by q xs there false other =
        let now : is_by q (os ++ DeliveredTo to ∷ []) ≡ is_by q os = is_by_snoc q os (DeliveredTo to)
        ∙ ap (λ (c : Bool). is_by q os || c) other ∙ or-false (is_by q os) in
        ap (λ (ls : Lists). slice_get ls q) set
        ∙ set_there a to q (had.0 ++ p ∷ []) (λ e. true≢false (sym (eq-eqb to q e) ∙ other))
        ∙ sent.each q xs there ∙ ap (λ (c : Bool). Some (xs ++ one_where c p)) (sym now)

-- a delivery is to a partner of the setup
outcome_for : (setup : SetupValue) (p : PlacedValue) (to : ℕ) → IsForPlace (length setup.partners) (outcome_at setup p to)
outcome_for setup p to = by_partner (slice_get setup.partners to) refl
  where
    by_block : (b : Bool) → to < length setup.partners → IsForPlace (length setup.partners) (cond b (HeldForDelimiter to) (DeliveredTo to))
    by_block true within = tt
    by_block false within = within

    by_partner : (partner : Option Partner) → slice_get setup.partners to ≡ partner
        → IsForPlace (length setup.partners) (outcome_by partner p to)
    by_partner None is = tt
    by_partner (Some partner) is = by_block (is_blocked partner.delims p) (slice_get_within setup.partners to partner is)

each_for : (setup : SetupValue) (p : PlacedValue) (targets : List ℕ)
    → All (IsForPlace (length setup.partners)) (map (outcome_at setup p) targets)
each_for setup p [] = All-nil (IsForPlace (length setup.partners))
each_for setup p (to ∷ more) =
    All-cons (IsForPlace (length setup.partners)) (outcome_at setup p to) (map (outcome_at setup p) more) (outcome_for setup p to)
    (each_for setup p more)

pub all_for : (setup : SetupValue) (p : PlacedValue) → All (IsForPlace (length setup.partners)) (outcomes setup p)
all_for setup p = by (is_deliverable p)
  where
    on : (route : List ℕ) → All (IsForPlace (length setup.partners)) (outcomes_on setup p route)
    on [] = All-cons (IsForPlace (length setup.partners)) HeldForRoute [] tt (All-nil (IsForPlace (length setup.partners)))
    on (to ∷ more) = each_for setup p (to ∷ more)

    by : (b : Bool)
        → All (IsForPlace (length setup.partners)) (cond b (outcomes_on setup p (route_of setup (element_of p.group.header 3))) [])
    by true = on (route_of setup (element_of p.group.header 3))
    by false = All-nil (IsForPlace (length setup.partners))

-- the outcomes of one of sets
pub outcomes_there : (setup : SetupValue) (done more : List PlacedValue) (p : PlacedValue) (all : List PlacedValue)
    (found : List (List Outcome))
    → done ++ p ∷ more ≡ all → found ≡ outcomes_of setup all → slice_get found (length done) ≡ Some (outcomes setup p)
outcomes_there setup done more p all found split is =
    ap (λ (os : List (List Outcome)). slice_get os (length done)) (is ∙ ap (outcomes_of setup) (sym split)) ∙ here done
  where
    here : (ps : List PlacedValue) → slice_get (outcomes_of setup (ps ++ p ∷ more)) (length ps) ≡ Some (outcomes setup p)
    here [] = refl
    here (x ∷ ps) = here ps

pub same_outcomes : (setup : SetupValue) (done more : List PlacedValue) (p : PlacedValue) (all : List PlacedValue)
    (found : List (List Outcome)) (n : ℕ) (os : List Outcome) → done ++ p ∷ more ≡ all → found ≡ outcomes_of setup all → n ≡ length done
    → slice_get found n ≡ Some os → os ≡ outcomes setup p
same_outcomes setup done more p all found n os split is count there =
    same_at found found (length done) os (outcomes setup p) refl (subst (λ (k : ℕ). slice_get found k ≡ Some os) count there)
    (outcomes_there setup done more p all found split is)
