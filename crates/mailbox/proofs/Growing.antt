-- The lists of delivered sets, with a receiver, a set, a group and an interchange more.
use Rattle.std.proofs.Common.{◌≡◌, ℕ, ◌+◌, Bool, true, false, cond, not, ◌&&◌, List, [], ◌∷◌, ◌++◌, Some, length}
use Rattle.std.proofs.Common.{replicate, refl, sym, ap, subst, ◌∙◌, arith, append_assoc, append-nil}
use Rattle.std.specs.Prelude.{slice_get}
use Rattle.std.specs.List.{filter, list_any}
use Rattle.std.proofs.Math.Bool.{and-false}
use Rattle.std.proofs.lemmas.List.{length-replicate}
use Rattle.std.proofs.lemmas.List.Elements.{filter-append}
use Rattle.x12_segs.specs.Words.{element_of}
use Rattle.env_index.specs.declared.entry.SetEnvelope.{SetEnvelope}
use Rattle.env_index.specs.Words.{GroupEntry}
use Rattle.partner_setup.specs.Setup.{SetupValue, route_of}
use Rattle.answered_sets.specs.declared.standing.GroupStanding.{GroupStanding}
use Rattle.mailbox.specs.Deliveries.{AreDelivered, is_not_rejected, is_deliverable, is_delivered_to, is_delivery_to, outcomes_on}
use Rattle.mailbox.specs.Delivering.{HasGrown, HasTaken, is_sent_by, is_group_deliverable}
use Rattle.answered_sets.specs.Judged.{JudgedValue, PlacedValue, all_sets, sets_of_groups_from, is_fa, is_refused, sets_from}
use Rattle.answered_sets.specs.Judged.{standing_at}
use Rattle.answered_sets.specs.Judged.{verdict_by_standing}
use Rattle.mailbox.proofs.Replacing.{get_replicated}

abbrev pub Lists : Type 0
Lists = List (List PlacedValue)

-- nothing is added
pub grown_none : (by : ℕ → List PlacedValue) (lists : Lists) → ((q : ℕ) → by q ≡ []) → HasGrown by lists lists
grown_none by lists none = record {
  count = refl;
  each = λ q xs there. there ∙ ap (λ (ys : List PlacedValue). Some ys) (sym (append-nil xs)
      ∙ ap (λ (ys : List PlacedValue). xs ++ ys) (sym (none q)));
}

-- added is what was said in other words
pub grown_as : (f g : ℕ → List PlacedValue) (a b : Lists) → ((q : ℕ) → f q ≡ g q) → HasGrown f a b → HasGrown g a b
grown_as f g a b same grown = record {
  count = grown.count;
  each = λ q xs there. grown.each q xs there ∙ ap (λ (ys : List PlacedValue). Some (xs ++ ys)) (same q);
}

-- one after the other
pub grown_twice : (f g : ℕ → List PlacedValue) (a b c : Lists) → HasGrown f a b → HasGrown g b c → HasGrown (λ q. f q ++ g q) a c
grown_twice f g a b c first second = record {
  count = second.count ∙ first.count;
  each = λ q xs there. second.each q (xs ++ f q) (first.each q xs there)
      ∙ ap (λ (ys : List PlacedValue). Some ys) (append_assoc xs (f q) (g q));
}

pub taken_none : (setup : SetupValue) (lists : Lists) → HasTaken setup [] lists lists
taken_none setup lists = grown_none (λ q. []) lists (λ q. refl)

pub taken_more : (setup : SetupValue) (ps qs : List PlacedValue) (a b c : Lists) → HasTaken setup ps a b → HasTaken setup qs b c
    → HasTaken setup (ps ++ qs) a c
taken_more setup ps qs a b c first second =
    grown_as _ _ a c (λ q. sym (filter-append (is_delivered_to setup q) ps qs)) (grown_twice _ _ a b c first second)

taken_as : (setup : SetupValue) (ps qs : List PlacedValue) (a b : Lists) → ps ≡ qs → HasTaken setup ps a b → HasTaken setup qs a b
taken_as setup ps qs a b same taken = subst (λ (xs : List PlacedValue). HasTaken setup xs a b) same taken

pub not_delivered : (setup : SetupValue) (q : ℕ) (p : PlacedValue) → is_deliverable p ≡ false → is_delivered_to setup q p ≡ false
not_delivered setup q p is =
    ap (λ (b : Bool). list_any (is_delivery_to q) (cond b (outcomes_on setup p (route_of setup (element_of p.group.header 3))) [])) is

and_assoc : (a b c d : Bool) → (a && b && c && d) ≡ (a && (b && c && d))
and_assoc true b c d = refl
and_assoc false b c d = refl

as_group : (p : PlacedValue)
    → is_deliverable p ≡ (is_not_rejected (verdict_by_standing p) && is_group_deliverable p.interchange p.standing p.group)
as_group p = and_assoc (is_not_rejected (verdict_by_standing p)) p.standing.clear (not (is_fa p.group)) (not (is_refused p.interchange))

pub by_route : (setup : SetupValue) (q : ℕ) (p : PlacedValue) (route : List ℕ)
    → is_sent_by setup p q route ≡ list_any (is_delivery_to q) (outcomes_on setup p route)
by_route setup q p [] = refl
by_route setup q p (t ∷ ts) = refl

-- a set of a group that no set may leave
pub nothing_leaves : (setup : SetupValue) (q : ℕ) (x : JudgedValue) (g : GroupEntry) (standing : GroupStanding) (n : ℕ)
    (sets : List SetEnvelope)
    → is_group_deliverable x standing g ≡ false → filter (is_delivered_to setup q) (sets_from x g standing n sets) ≡ []
nothing_leaves setup q x g standing n [] stay = refl
nothing_leaves setup q x g standing n (set ∷ sets) stay =
    let p : PlacedValue = record { interchange = x; group = g; standing = standing; index = n; set = set } in
    ap (λ (b : Bool). cond b (p ∷ filter (is_delivered_to setup q) (sets_from x g standing (n + 1) sets))
    (filter (is_delivered_to setup q) (sets_from x g standing (n + 1) sets)))
    (not_delivered setup q p (as_group p ∙ ap (λ (b : Bool). is_not_rejected (verdict_by_standing p) && b) stay
    ∙ and-false (is_not_rejected (verdict_by_standing p))))
    ∙ nothing_leaves setup q x g standing (n + 1) sets stay

pub sets_snoc : (x : JudgedValue) (g : GroupEntry) (standing : GroupStanding) (n m : ℕ) (sets : List SetEnvelope) (set : SetEnvelope)
    → n + length sets ≡ m → sets_from x g standing n (sets ++ set ∷ [])
    ≡ sets_from x g standing n sets ++ (record { interchange = x; group = g; standing = standing; index = m; set = set }) ∷ []
sets_snoc x g standing n m [] set is = ap (λ (k : ℕ). let p : PlacedValue = record {
  interchange = x;
  group = g;
  standing = standing;
  index = k;
  set = set;
} in p ∷ []) (omega (arith, is))
sets_snoc x g standing n m (s ∷ sets) set is = ap (λ (ps : List PlacedValue). let p : PlacedValue = record {
  interchange = x;
  group = g;
  standing = standing;
  index = n;
  set = s;
} in p ∷ ps) (sets_snoc x g standing (n + 1) m sets set (omega (arith, is)))

pub groups_snoc : (x : JudgedValue) (n m : ℕ) (groups : List GroupEntry) (g : GroupEntry) → n + length groups ≡ m
    → sets_of_groups_from x n (groups ++ g ∷ []) ≡ sets_of_groups_from x n groups ++ sets_from x g (standing_at x.standings m) 0 g.sets
groups_snoc x n m [] g is = append-nil _ ∙ ap (λ (k : ℕ). sets_from x g (standing_at x.standings k) 0 g.sets) (omega (arith, is))
groups_snoc x n m (h ∷ groups) g is =
    ap (λ (ps : List PlacedValue). sets_from x h (standing_at x.standings n) 0 h.sets ++ ps)
    (groups_snoc x (n + 1) m groups g (omega (arith, is)))
    ∙ sym (append_assoc (sets_from x h (standing_at x.standings n) 0 h.sets) (sets_of_groups_from x (n + 1) groups)
    (sets_from x g (standing_at x.standings m) 0 g.sets))

-- lists that began empty
pub all_delivered : (setup : SetupValue) (xs : List JudgedValue) (first lists : Lists) → first ≡ replicate (length setup.partners) []
    → HasTaken setup (all_sets xs) first lists → AreDelivered setup xs lists
all_delivered setup xs first lists is taken = record {
  count = taken.count ∙ ap (λ (ls : Lists). length ls) is ∙ length-replicate (length setup.partners) [];
  each = λ q within. taken.each q [] (ap (λ (ls : Lists). slice_get ls q) is ∙ get_replicated (length setup.partners) q [] within);
}
