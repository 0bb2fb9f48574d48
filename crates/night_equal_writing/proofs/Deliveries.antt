-- Which sets are delivered to whom.
use Rattle.std.proofs.Common.{◌≡◌, ℕ, ◌+◌, ◌-◌, List, [], ◌∷◌, ◌++◌, map, Bool, true, false, ◌&&◌, not, Option, Some, None, refl, sym, ap}
use Rattle.std.proofs.Common.{◌∙◌, subst}
use Rattle.std.proofs.Math.Path.{fun_ext}
use Rattle.std.proofs.lemmas.List.{map-append}
use Rattle.std.specs.Prelude.{if◌then◌else◌, codes, flat_map, filter, slice_get, find, bytes_eq}
use Rattle.std.specs.Option.{option_map_or}
use Rattle.std.specs.List.{AllZip, list_any}
use Rattle.x12_segs.specs.Words.{element_of}
use Rattle.guide_tree.specs.Tree.{GuideTree}
use Rattle.hub_kinds.specs.declared.set_codes.Verdict.{Verdict}
use Rattle.hub_kinds.specs.declared.set_codes.Verdict.TheVariants as ik501
use Rattle.partner_setup.specs.declared.partner.Partner.{Partner}
use Rattle.partner_setup.specs.declared.partner.Route.{Route}
use Rattle.partner_setup.specs.Setup as old_setup
use Rattle.partner_setup.specs.Setup.{SetupValue}
use Rattle.answered_sets.specs.Judged.{JudgedValue, PlacedValue, all_sets, is_fa, is_refused, verdict_by_standing}
use Rattle.mailbox.specs.declared.outcome.Outcome.TheVariants.{DeliveredTo, HeldForDelimiter}
use Rattle.mailbox.specs.Deliveries as old
use Rattle.night_definition.specs.Segments.{Elements, element}
use Rattle.night_definition.specs.Setup as room_setups
use Rattle.night_definition.specs.Answers.{Answer, AnsweredGroup, Answered, is_rejected}
use Rattle.night_definition.specs.Deliveries as room
use Rattle.night_definition.specs.Deliveries.{Sent, delivered, held_for_delimiter, held_for_route, sent}
use Rattle.night_equal_writing.specs.Deliveries.{room_setup, now, IsSeen, IsSeenIn, all_sent, open_sets, DeliveriesAreOne}
use Rattle.night_equal_writing.proofs.Answers.{filtered}
use Rattle.night_equal_writing.proofs.Blocked.{any_map, blocked_is}
use Rattle.night_equal_writing.proofs.DeliveredTexts.{text_is}

-- the receivers of a route
route_is : (routes : List Route) (code : List ℕ)
    → option_map_or (λ (r : Route). r.to) (find (λ (r : Route). bytes_eq r.code code) routes) [] ≡ old_setup.targets_in routes code
route_is [] code = refl
route_is (r ∷ routes) code = by (bytes_eq r.code code) (route_is routes code)
  where
    by : (t : Bool) → option_map_or (λ (r : Route). r.to) (find (λ (r : Route). bytes_eq r.code code) routes) []
        ≡ old_setup.targets_in routes code
        → option_map_or (λ (r : Route). r.to) (if t then Some r else find (λ (r : Route). bytes_eq r.code code) routes) []
        ≡ (if t then r.to else old_setup.targets_in routes code)
    by true more = refl
    by false more = more

outcome_is : (setup : SetupValue) (guides : List GuideTree) (p : PlacedValue) (s : Sent) → IsSeen p s → (to : ℕ)
    → now (room.outcome_at (room_setup setup guides) s to) ≡ old.outcome_at setup p to
outcome_is setup guides p s is to = by (slice_get setup.partners to)
  where
    held : (t : Bool) → now (if t then held_for_delimiter to else delivered to) ≡ (if t then HeldForDelimiter to else DeliveredTo to)
    held true = refl
    held false = refl

    by : (o : Option Partner)
        → now (option_map_or (λ (p : Partner). if room.is_blocked p.delims s then held_for_delimiter to
        else delivered to) o held_for_route)
        ≡ old.outcome_by o p to
    by None = refl
    by (Some partner) =
        held (room.is_blocked partner.delims s) ∙ ap (λ t. if t then HeldForDelimiter to else DeliveredTo to)
        (blocked_is partner.delims p s is)

on_are : (setup : SetupValue) (guides : List GuideTree) (p : PlacedValue) (s : Sent) → IsSeen p s → (route : List ℕ)
    → map now (room.outcomes_on (room_setup setup guides) s route) ≡ old.outcomes_on setup p route
on_are setup guides p s is [] = refl
on_are setup guides p s is (to ∷ more) = all (to ∷ more)
  where
    all : (list : List ℕ) → map now (map (room.outcome_at (room_setup setup guides) s) list) ≡ map (old.outcome_at setup p) list
    all [] = refl
    all (to ∷ more) = ap (λ o. o ∷ map now (map (room.outcome_at (room_setup setup guides) s) more)) (outcome_is setup guides p s is to)
        ∙ ap (λ r. old.outcome_at setup p to ∷ r) (all more)

not_rejected : (v : Verdict) → not (is_rejected v) ≡ old.is_not_rejected v
not_rejected ik501.Accepted = refl
not_rejected ik501.AcceptedWithErrors = refl
not_rejected ik501.Rejected = refl

and_not : (a b c d : Bool) → d ≡ false → (a && b && c) ≡ (a && b && c && not d)
and_not true true true d e = sym (ap not e)
and_not true true false d e = refl
and_not true false c d e = refl
and_not false b c d e = refl

never : (a b c d e : Bool) → (a && b && false) ≡ (c && d && false && e)
never true true true true e = refl
never true true true false e = refl
never true true false d e = refl
never true false true true e = refl
never true false true false e = refl
never true false false d e = refl
never false b true true e = refl
never false b true false e = refl
never false b false d e = refl

pub deliverable_is : (p : PlacedValue) (g : AnsweredGroup) (s : Sent) → IsSeenIn p g s
    → room.is_deliverable g s.answer ≡ old.is_deliverable p
deliverable_is p g s is =
    ap (λ t. not (is_rejected s.answer.verdict) && room.has_no_code g.codes && not t) is.fa ∙ by (is_fa p.group) refl
  where
    by : (t : Bool) → is_fa p.group ≡ t
        → (not (is_rejected s.answer.verdict) && room.has_no_code g.codes && not t)
        ≡ (old.is_not_rejected (verdict_by_standing p) && p.standing.clear && not t && not (is_refused p.interchange))
    by true e =
        never (not (is_rejected s.answer.verdict)) (room.has_no_code g.codes)
        (old.is_not_rejected (verdict_by_standing p)) p.standing.clear
        (not (is_refused p.interchange))
    by false e =
        ap (λ t. t && room.has_no_code g.codes && true) (not_rejected s.answer.verdict ∙ ap old.is_not_rejected (is.verdict e))
        ∙ ap (λ t. old.is_not_rejected (verdict_by_standing p) && t && true) (is.clear e)
        ∙ and_not (old.is_not_rejected (verdict_by_standing p)) p.standing.clear true (is_refused p.interchange) is.judged

pub outcomes_are : (setup : SetupValue) (guides : List GuideTree) (p : PlacedValue) (g : AnsweredGroup) (s : Sent) → IsSeenIn p g s
    → map now (room.outcomes (room_setup setup guides) g s) ≡ old.outcomes setup p
outcomes_are setup guides p g s is =
    chosen (room.is_deliverable g s.answer) (room.outcomes_on (room_setup setup guides) s
    (room_setups.route_of (room_setup setup guides) (element 3 s.gs)))
    ∙ ap (λ t. if t then map now (room.outcomes_on (room_setup setup guides) s
    (room_setups.route_of (room_setup setup guides) (element 3 s.gs))) else [])
    (deliverable_is p g s is)
    ∙ ap (λ r. if old.is_deliverable p then r else [])
    (on_are setup guides p s is.set (room_setups.route_of (room_setup setup guides) (element 3 s.gs))
    ∙ ap (old.outcomes_on setup p) (route_is setup.routes (element 3 s.gs))
    ∙ ap (λ (gs : Elements). old.outcomes_on setup p (old_setup.route_of setup (element 3 gs))) is.set.gs)
  where
    chosen : (t : Bool) (os : List room.Outcome) → map now (if t then os else []) ≡ (if t then map now os else [])
    chosen true os = refl
    chosen false os = refl

-- to a partner
kind_is : (partner : ℕ) (o : room.Outcome) → old.is_delivery_to partner (now o) ≡ room.is_delivered_to partner o
kind_is partner (delivered to) = refl
kind_is partner (held_for_delimiter to) = refl
kind_is partner held_for_route = refl

abbrev pub goes : SetupValue → List GuideTree → (partner : ℕ) → AnsweredGroup → Sent → Bool
goes setup guides partner g s = list_any (room.is_delivered_to partner) (room.outcomes (room_setup setup guides) g s)

pub goes_is : (setup : SetupValue) (guides : List GuideTree) (partner : ℕ) (p : PlacedValue) (x : AnsweredGroup × Sent) → IsSeenIn p x.0 x.1
    → old.is_delivered_to setup partner p ≡ goes setup guides partner x.0 x.1
goes_is setup guides partner p x is =
    sym (ap (list_any (old.is_delivery_to partner)) (outcomes_are setup guides p x.0 x.1 is))
    ∙ any_map (old.is_delivery_to partner) now (room.outcomes (room_setup setup guides) x.0 x.1)
    ∙ ap (λ (h : room.Outcome → Bool). list_any h (room.outcomes (room_setup setup guides) x.0 x.1)) (fun_ext (kind_is partner))

filter_append : {A : Type 0} (q : A → Bool) (xs ys : List A) → filter q (xs ++ ys) ≡ filter q xs ++ filter q ys
filter_append q [] ys = refl
filter_append {A} q (x ∷ xs) ys = by (q x) (filter_append q xs ys)
  where
    by : (t : Bool) → filter q (xs ++ ys) ≡ filter q xs ++ filter q ys
        → (if t then x ∷ filter q (xs ++ ys) else filter q (xs ++ ys)) ≡ (if t then x ∷ filter q xs else filter q xs) ++ filter q ys
    by true more = ap (λ r. x ∷ r) more
    by false more = more

flat_filter : {A B C : Type 0} (h : B → C) (q : B → Bool) (f : A → List B) (xs : List A)
    → map h (filter q (flat_map f xs)) ≡ flat_map (λ x. map h (filter q (f x))) xs
flat_filter h q f [] = refl
flat_filter h q f (x ∷ xs) =
    ap (map h) (filter_append q (f x) (flat_map f xs))
    ∙ map-append h (filter q (f x)) (filter q (flat_map f xs))
    ∙ ap (λ r. map h (filter q (f x)) ++ r) (flat_filter h q f xs)

paired : (q : AnsweredGroup → Sent → Bool) (g : AnsweredGroup) (f : Answer → Sent) (answers : List Answer)
    → map (λ (x : AnsweredGroup × Sent). x.1) (filter (λ (x : AnsweredGroup × Sent). q x.0 x.1) (map (λ a. (g, f a)) answers))
    ≡ filter (q g) (map f answers)
paired q g f [] = refl
paired q g f (a ∷ answers) = by (q g (f a)) (paired q g f answers)
  where
    by : (t : Bool)
        → map (λ (x : AnsweredGroup × Sent). x.1) (filter (λ (x : AnsweredGroup × Sent). q x.0 x.1) (map (λ a. (g, f a)) answers))
        ≡ filter (q g) (map f answers)
        → map (λ (x : AnsweredGroup × Sent). x.1) (if t
        then (g, f a) ∷ filter (λ (x : AnsweredGroup × Sent). q x.0 x.1) (map (λ a. (g, f a)) answers)
        else filter (λ (x : AnsweredGroup × Sent). q x.0 x.1) (map (λ a. (g, f a)) answers))
        ≡ (if t then f a ∷ filter (q g) (map f answers) else filter (q g) (map f answers))
    by true more = ap (λ r. f a ∷ r) more
    by false more = more

delivered_is : (q : AnsweredGroup → Sent → Bool) (xs : List Answered)
    → map (λ (x : AnsweredGroup × Sent). x.1) (filter (λ (x : AnsweredGroup × Sent). q x.0 x.1) (all_sent xs))
    ≡ flat_map (λ (x : Answered). flat_map (λ (g : AnsweredGroup). filter (q g) (map (sent x g) g.answers)) x.groups) xs
delivered_is q xs =
    let h : AnsweredGroup × Sent → Sent = λ (x : AnsweredGroup × Sent). x.1 in
    let t : AnsweredGroup × Sent → Bool = λ (x : AnsweredGroup × Sent). q x.0 x.1 in
    flat_filter h t (λ (x : Answered). flat_map (λ (g : AnsweredGroup). map (λ (a : Answer). (g, sent x g a)) g.answers) x.groups) xs
    ∙ ap (λ (f : Answered → List Sent). flat_map f xs) (fun_ext (λ (x : Answered).
    flat_filter h t (λ (g : AnsweredGroup). map (λ (a : Answer). (g, sent x g a)) g.answers) x.groups
    ∙ ap (λ (f : AnsweredGroup → List Sent). flat_map f x.groups) (fun_ext (λ (g : AnsweredGroup). paired q g (sent x g) g.answers))))

pub alone_seen : (ps : List PlacedValue) (xs : List (AnsweredGroup × Sent))
    → AllZip (λ p (x : AnsweredGroup × Sent). IsSeenIn p x.0 x.1) ps xs
    → AllZip IsSeen ps (map (λ (x : AnsweredGroup × Sent). x.1) xs)
alone_seen [] [] zip = zip
alone_seen (p ∷ ps) [] zip = absurd zip
alone_seen [] (x ∷ xs) zip = absurd zip
alone_seen (p ∷ ps) (x ∷ xs) zip = (zip.0.set, alone_seen ps xs zip.1)

-- nothing of a refused interchange is delivered
and_none : (a b c : Bool) → (a && b && c && false) ≡ false
and_none true true true = refl
and_none true true false = refl
and_none true false c = refl
and_none false b c = refl

pub refused_none : (setup : SetupValue) (p : PlacedValue) → is_refused p.interchange ≡ true → old.outcomes setup p ≡ []
refused_none setup p refused =
    ap (λ t. if t then old.outcomes_on setup p (old_setup.route_of setup (element_of p.group.header 3)) else [])
    (ap (λ t. old.is_not_rejected (verdict_by_standing p) && p.standing.clear && not (is_fa p.group) && not t) refused
    ∙ and_none (old.is_not_rejected (verdict_by_standing p)) p.standing.clear (not (is_fa p.group)))

twice : {A : Type 0} (d r : A → Bool) → ((x : A) → r x ≡ true → d x ≡ false) → (xs : List A)
    → filter d (filter (λ x. not (r x)) xs) ≡ filter d xs
twice d r none [] = refl
twice {A} d r none (x ∷ xs) = by (r x) refl (twice d r none xs)
  where
    by : (t : Bool) → r x ≡ t → filter d (filter (λ x. not (r x)) xs) ≡ filter d xs
        → filter d (if not t then x ∷ filter (λ x. not (r x)) xs else filter (λ x. not (r x)) xs)
        ≡ (if d x then x ∷ filter d xs else filter d xs)
    by true e more = more ∙ sym (ap (λ t. if t then x ∷ filter d xs else filter d xs) (none x e))
    by false e more = ap (λ (r : List A). if d x then x ∷ r else r) more

open_goes : (setup : SetupValue) (partner : ℕ) (js : List JudgedValue)
    → filter (old.is_delivered_to setup partner) (open_sets js) ≡ old.delivered_to setup partner js
open_goes setup partner js =
    twice (old.is_delivered_to setup partner) (λ (p : PlacedValue). is_refused p.interchange)
    (λ p refused. ap (list_any (old.is_delivery_to partner)) (refused_none setup p refused)) (all_sets js)

pub to_is : (setup : SetupValue) (guides : List GuideTree) (partner : ℕ) (js : List JudgedValue) (xs : List Answered)
    → AllZip (λ p (x : AnsweredGroup × Sent). IsSeenIn p x.0 x.1) (open_sets js) (all_sent xs)
    → AllZip IsSeen (old.delivered_to setup partner js) (room.delivered_to (room_setup setup guides) partner xs)
to_is setup guides partner js xs zip =
    let q : AnsweredGroup → Sent → Bool = goes setup guides partner in
    let Seen : PlacedValue → AnsweredGroup × Sent → Type 0 = λ p (x : AnsweredGroup × Sent). IsSeenIn p x.0 x.1 in
    subst (λ (list : List PlacedValue). AllZip IsSeen list (room.delivered_to (room_setup setup guides) partner xs))
    (open_goes setup partner js)
    (subst (λ (list : List Sent). AllZip IsSeen (filter (old.is_delivered_to setup partner) (open_sets js)) list) (delivered_is q xs)
    (alone_seen (filter (old.is_delivered_to setup partner) (open_sets js))
    (filter (λ (x : AnsweredGroup × Sent). q x.0 x.1) (all_sent xs))
    (filtered Seen (old.is_delivered_to setup partner) (λ (x : AnsweredGroup × Sent). q x.0 x.1) (goes_is setup guides partner)
    (open_sets js) (all_sent xs) zip)))

pub deliveries_are_one : DeliveriesAreOne
deliveries_are_one = record {
  blocked = blocked_is;
  outcomes = outcomes_are;
  to = to_is;
  text = text_is;
}
