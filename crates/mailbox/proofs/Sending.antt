-- A set is delivered to one target more of its route.
use Rattle.std.proofs.Common.{◌≡◌, ℕ, ◌==◌, Bool, true, false, cond, ◌||◌, List, [], ◌∷◌, ◌++◌, Option, Some, None, refl}
use Rattle.std.proofs.Common.{sym, ap, ◌∙◌, eqb-true, eq-eqb, true≢false}
use Rattle.std.specs.Prelude.{slice_get}
use Rattle.std.specs.List.{list_any}
use Rattle.std.proofs.Math.Bool.{or-false, or_assoc}
use Rattle.partner_setup.specs.declared.partner.Partner.{Partner}
use Rattle.partner_setup.specs.Setup.{SetupValue}
use Rattle.mailbox.specs.declared.outcome.Outcome.TheVariants.{DeliveredTo, HeldForDelimiter}
use Rattle.mailbox.specs.Deliveries.{is_blocked, is_delivery_to, outcome_at, outcome_by}
use Rattle.mailbox.specs.Delivering.{is_sent_by}
use Rattle.answered_sets.specs.Judged.{PlacedValue}

abbrev pub Lists : Type 0
Lists = List (List PlacedValue)

pub sent_snoc : (setup : SetupValue) (p : PlacedValue) (q : ℕ) (ts : List ℕ) (t : ℕ)
    → is_sent_by setup p q (ts ++ t ∷ []) ≡ (is_sent_by setup p q ts || is_delivery_to q (outcome_at setup p t))
sent_snoc setup p q [] t = or-false (is_delivery_to q (outcome_at setup p t))
sent_snoc setup p q (s ∷ ts) t = ap (λ (b : Bool). is_delivery_to q (outcome_at setup p s) || b) (sent_snoc setup p q ts t)
    ∙ sym (or_assoc (is_delivery_to q (outcome_at setup p s)) (is_sent_by setup p q ts) (is_delivery_to q (outcome_at setup p t)))

-- an outcome for a target is no delivery to another
pub to_target : (setup : SetupValue) (p : PlacedValue) (q t : ℕ) → is_delivery_to q (outcome_at setup p t) ≡ true → t ≡ q
to_target setup p q t is = by_partner (slice_get setup.partners t) is
  where
    by_block : (partner : Partner) (b : Bool) → is_delivery_to q (cond b (HeldForDelimiter t) (DeliveredTo t)) ≡ true → t ≡ q
    by_block partner true is = cc
    by_block partner false is = eqb-true t q is

    by_partner : (partner : Option Partner) → is_delivery_to q (outcome_by partner p t) ≡ true → t ≡ q
    by_partner None is = cc
    by_partner (Some partner) is = by_block partner (is_blocked partner.delims p) is

-- what isn't the first is among the others
among_others : (s t : ℕ) (ts : List ℕ) (b c : Bool) → (s == t) ≡ b → list_any (λ (n : ℕ). n == t) (s ∷ ts) ≡ c → b ≡ false
    → list_any (λ (n : ℕ). n == t) ts ≡ c
among_others s t ts b c is any other = sym (ap (λ (d : Bool). d || list_any (λ (n : ℕ). n == t) ts) (is ∙ other)) ∙ any

-- who is no target yet has nothing
pub not_sent : (setup : SetupValue) (p : PlacedValue) (ts : List ℕ) (t : ℕ) → list_any (λ (s : ℕ). s == t) ts ≡ false
    → is_sent_by setup p t ts ≡ false
not_sent setup p [] t none = refl
not_sent setup p (s ∷ ts) t none =
    by (s == t) refl (λ other. not_sent setup p ts t (among_others s t ts (s == t) false refl none other))
  where
    by_delivery : (s == t) ≡ false → is_sent_by setup p t ts ≡ false → (b : Bool) → is_delivery_to t (outcome_at setup p s) ≡ b
        → is_sent_by setup p t (s ∷ ts) ≡ false
    by_delivery other rest true is = absurd (true≢false (sym (eq-eqb s t (to_target setup p t s is)) ∙ other))
    by_delivery other rest false is = ap (λ (b : Bool). b || is_sent_by setup p t ts) is ∙ rest

    by : (b : Bool) → (s == t) ≡ b → ((s == t) ≡ false → is_sent_by setup p t ts ≡ false) → is_sent_by setup p t (s ∷ ts) ≡ false
    by true same rest = absurd (true≢false (sym (ap (λ (b : Bool). b || list_any (λ (n : ℕ). n == t) ts) same) ∙ none))
    by false other rest = by_delivery other (rest other) (is_delivery_to t (outcome_at setup p s)) refl

-- what is delivered at a target is delivered to it
pub delivered_here : (setup : SetupValue) (p : PlacedValue) (t to : ℕ) → outcome_at setup p t ≡ DeliveredTo to → to ≡ t
delivered_here setup p t to is = by_partner (slice_get setup.partners t) is
  where
    by_block : (partner : Partner) (b : Bool) → cond b (HeldForDelimiter t) (DeliveredTo t) ≡ DeliveredTo to → to ≡ t
    by_block partner true is = cc
    by_block partner false is = cc

    by_partner : (partner : Option Partner) → outcome_by partner p t ≡ DeliveredTo to → to ≡ t
    by_partner None is = cc
    by_partner (Some partner) is = by_block partner (is_blocked partner.delims p) is
