-- A setup that nothing is refused of is sound.
use Rattle.std.proofs.Common.{◌≡◌, ℕ, ◌+◌, ◌<◌, ◌≤◌, Bool, true, false, not, ◌&&◌, ◌||◌, nat_le, List, [], ◌∷◌, All, length, map}
use Rattle.std.proofs.Common.{Option, Some, None, zero, suc, is_none, cond, slice_get, option_and_then, refl, sym, ap}
use Rattle.std.proofs.Common.{option_map, subst, ◌∙◌, arith}
use Rattle.std.specs.List.{list_all, list_any, position_from}
use Rattle.std.specs.Option.{option_map_or, option_or}
use Rattle.std.specs.Str.{bytes_eq}
use Rattle.std.proofs.lemmas.Bool.{and_parts, eqb-false, false≢true, true≢false, leb-true, not-false, not-true, or_parts}
use Rattle.std.proofs.lemmas.List.{length-map}
use Rattle.std.proofs.lemmas.List.Elements.{All-nil, All-cons, All-head, All-tail}
use Rattle.hub_kinds.specs.Words.{is_word, has_twice, contains_text}
use Rattle.hub_kinds.specs.declared.counters.Counters.{Counters}
use Rattle.x12_bytes.specs.declared.delims.Delims.{Delims}
use Rattle.x12_write.specs.Undivided.{CanDivide}
use Rattle.guide_tree.specs.declared.rows.GuideRows.{GuideRows}
use Rattle.partner_setup.specs.Names.{and_some, place_from, place_of, places_of_texts}
use Rattle.partner_setup.specs.Setup.{counters_of, delims_or_none, first_counters, has_code, no_delims}
use Rattle.partner_setup.specs.Setup.{partner_of, route_by, row_of, setup_of, targets_in}
use Rattle.partner_setup.specs.SetupFaults as faults
use Rattle.partner_setup.specs.Sound.{AreApart, AreCounters, AreWithin, IsSoundPartner, IsSoundSetup, has_delimiters}
use Rattle.partner_setup.specs.declared.partner.Route.{Route}
use Rattle.partner_setup.specs.declared.rows.CounterRow.{CounterRow}
use Rattle.partner_setup.specs.declared.rows.PartnerRow.{PartnerRow}
use Rattle.partner_setup.specs.declared.rows.RouteRow.{RouteRow}
use Rattle.partner_setup.specs.declared.rows.SetupRows.{SetupRows}
use Rattle.partner_setup.specs.declared.setup_fault.IdOwner.TheVariants as owner
use Rattle.partner_setup.specs.declared.setup_fault.SetupFault.{SetupFault}
use Rattle.partner_setup.specs.declared.setup_fault.SetupFault.TheVariants as refusal
use Rattle.partner_setup.proofs.Apart.{none_apart, places_apart}
use Rattle.partner_setup.proofs.Marks.{ends, four, no_letter}

-- places, below the number of those among whom they stand
either : (b : Bool) (n k m : ℕ) (o : Option ℕ) → n < m → (o ≡ Some k → k < m) → cond b (Some n) o ≡ Some k → k < m
either true n k m o l h e = let is : n ≡ k = cc in omega (arith, is, l)
either false n k m o l h e = h e

pub place_below : (n : ℕ) (texts : List (List ℕ)) (text : List ℕ) (k : ℕ) → place_from n texts text ≡ Some k → k < n + length texts
place_below n [] text k e = absurd cc
place_below n (t ∷ ts) text k e = either (bytes_eq t text) n k (n + length (t ∷ ts)) (place_from (n + 1) ts text) (omega arith)
    (λ later. let l = place_below (n + 1) ts text k later in omega (arith, l)) e

all_some : (m : ℕ) (o : Option ℕ) (places : List ℕ) → ((k : ℕ) → o ≡ Some k → k < m) → AreWithin m places
    → AreWithin m (and_some o places)
all_some m None places h rest = rest
all_some m (Some k) places h rest = All-cons (λ (q : ℕ). q < m) k places (h k refl) rest

places_below : (texts names : List (List ℕ)) → AreWithin (length texts) (places_of_texts texts names)
places_below texts [] = All-nil (λ (q : ℕ). q < length texts)
places_below texts (name ∷ names) = all_some (length texts) (place_of texts name) (places_of_texts texts names)
    (λ k e. let l = place_below 0 texts name k e in omega (arith, l)) (places_below texts names)

pub places_within : {A : Type 0} (f : A → List ℕ) (rows : List A) (names : List (List ℕ))
    → AreWithin (length rows) (places_of_texts (map f rows) names)
places_within f rows names = subst (λ (n : ℕ). AreWithin n (places_of_texts (map f rows) names)) (length-map rows f)
    (places_below (map f rows) names)

-- delimiters
chosen : (b : Bool) (d : Delims) → is_none (cond b (Some d) None) ≡ false → (b ≡ true → has_delimiters d ≡ true)
    → has_delimiters (option_map_or (λ (x : Delims). x) (cond b (Some d) None) no_delims) ≡ true
chosen true d e h = h refl
chosen false d e h = absurd (true≢false e)

four_bytes : (e c r t : Option ℕ) → is_none (faults.delims_by e c r t) ≡ false
    → has_delimiters (option_map_or (λ (x : Delims). x) (faults.delims_by e c r t) no_delims) ≡ true
four_bytes None c r t h = absurd (true≢false h)
four_bytes (Some e) None r t h = absurd (true≢false h)
four_bytes (Some e) (Some c) None t h = absurd (true≢false h)
four_bytes (Some e) (Some c) (Some r) None h = absurd (true≢false h)
four_bytes (Some e) (Some c) (Some r) (Some t) h = chosen (faults.are_delimiters e c r t)
    (record { element = e; component = c; repetition = Some r; terminator = t }) h (λ is. is)

divide : (d : Delims) (o : Option ℕ)
    → option_map_or (λ (r : ℕ). faults.are_delimiters d.element d.component r d.terminator) o false ≡ true → CanDivide d
divide d None h = absurd (false≢true h)
divide d (Some r) h =
    let marks = four d.element d.component r d.terminator h in
    record {
      element = no_letter d.element (ends d.element marks.element);
      terminator = no_letter d.terminator marks.terminator;
      apart = eqb-false d.element d.terminator marks.element_terminator;
    }

-- counters
in_range : (n : ℕ) → faults.is_counter n ≡ true → (1 ≤ n) × (n ≤ 999999999)
in_range n h = let both = and_parts (nat_le 1 n) (nat_le n 999999999) h in
    (leb-true 1 n both.0, leb-true n 999999999 both.1)

all_in_range : (c : Counters) → faults.are_counters c ≡ true → AreCounters c
all_in_range c h =
    let three = and_parts (faults.is_counter c.interchange && faults.is_counter c.group) (faults.is_counter c.set) h in
    let two = and_parts (faults.is_counter c.interchange) (faults.is_counter c.group) three.0 in
    let i = in_range c.interchange two.0 in
    let g = in_range c.group two.1 in
    let s = in_range c.set three.1 in
    (i.0, i.1, g.0, g.1, s.0, s.1)

counted : (ps : List PartnerRow) (c : CounterRow) → faults.counts_for ps c ≡ true → AreCounters c.counters
counted ps c h = all_in_range c.counters
    (and_parts (faults.are_counters c.counters) (contains_text (map faults.name_of_row ps) c.partner) h).0

counted_at : (ps : List PartnerRow) (cs : List CounterRow) (k : ℕ) (c : CounterRow) → list_all (faults.counts_for ps) cs ≡ true
    → slice_get cs k ≡ Some c → AreCounters c.counters
counted_at ps [] k c h e = absurd cc
counted_at ps (x ∷ cs) zero c h e =
    let is : x ≡ c = cc in
    counted ps c (sym (ap (faults.counts_for ps) is) ∙ (and_parts (faults.counts_for ps x) (list_all (faults.counts_for ps) cs) h).0)
counted_at ps (x ∷ cs) (suc k) c h e = counted_at ps cs k c (and_parts (faults.counts_for ps x) (list_all (faults.counts_for ps) cs) h).1 e

counted_row : (ps : List PartnerRow) (cs : List CounterRow) (place : Option ℕ) (c : CounterRow)
    → list_all (faults.counts_for ps) cs ≡ true → option_and_then (slice_get cs) place ≡ Some c → AreCounters c.counters
counted_row ps cs None c h e = absurd cc
counted_row ps cs (Some k) c h e = counted_at ps cs k c h e

counted_or_first : (o : Option CounterRow) → ((c : CounterRow) → o ≡ Some c → AreCounters c.counters)
    → AreCounters (option_map_or (λ (c : CounterRow). c.counters) o first_counters)
counted_or_first None h = (omega arith, omega arith, omega arith, omega arith, omega arith, omega arith)
counted_or_first (Some c) h = h c refl

counters_sound : (ps : List PartnerRow) (cs : List CounterRow) (name : List ℕ) → list_all (faults.counts_for ps) cs ≡ true
    → AreCounters (counters_of cs name)
counters_sound ps cs name h = counted_or_first (row_of cs name)
    (λ c e. counted_row ps cs (place_of (map (λ (r : CounterRow). r.partner) cs) name) c h e)

-- partners
partner_sound : (ps : List PartnerRow) (cs : List CounterRow) (gs : List GuideRows) (p : PartnerRow)
    → list_all (faults.counts_for ps) cs ≡ true → is_none (faults.delims_of p) ≡ false → faults.has_ids p ≡ true
    → faults.is_cap p.cap ≡ true → IsSoundPartner (length gs) (partner_of cs gs p)
partner_sound ps cs gs p counts marks ids cap =
    let range = and_parts (nat_le 1 p.cap) (nat_le p.cap 99999) cap in
    let names = and_parts (is_word 1 20 p.name) (faults.are_ids p.qualifier p.id p.code) ids in
    let delims = four_bytes (faults.byte_of p.element) (faults.byte_of p.component) (faults.byte_of p.repetition)
    (faults.byte_of p.terminator) marks in
    record {
      cap_least = leb-true 1 p.cap range.0;
      cap_most = leb-true p.cap 99999 range.1;
      counters = counters_sound ps cs p.name counts;
      delims = delims;
      divides = divide (delims_or_none p) (delims_or_none p).repetition delims;
      name = names.0;
      ids = names.1;
      guides = places_within faults.guide_name gs p.guides;
    }

partners_sound : (ps : List PartnerRow) (cs : List CounterRow) (gs : List GuideRows) (rows : List PartnerRow)
    → list_all (faults.counts_for ps) cs ≡ true → list_any (λ (p : PartnerRow). is_none (faults.delims_of p)) rows ≡ false
    → list_all faults.has_ids rows ≡ true → list_all (λ (p : PartnerRow). faults.is_cap p.cap) rows ≡ true
    → All (IsSoundPartner (length gs)) (map (partner_of cs gs) rows)
partners_sound ps cs gs [] counts marks ids caps = All-nil (IsSoundPartner (length gs))
partners_sound ps cs gs (p ∷ rows) counts marks ids caps =
    let m = or_parts (is_none (faults.delims_of p)) (list_any (λ (q : PartnerRow). is_none (faults.delims_of q)) rows) marks in
    let i = and_parts (faults.has_ids p) (list_all faults.has_ids rows) ids in
    let c = and_parts (faults.is_cap p.cap) (list_all (λ (q : PartnerRow). faults.is_cap q.cap) rows) caps in
    All-cons (IsSoundPartner (length gs)) (partner_of cs gs p) (map (partner_of cs gs) rows)
    (partner_sound ps cs gs p counts m.0 i.0 c.0) (partners_sound ps cs gs rows counts m.1 i.1 c.1)

-- routes
route_sound : (count : ℕ) (ps : List PartnerRow) → count ≡ length ps → (r : RouteRow) → AreWithin count (route_by ps r).to
route_sound count ps is r = subst (λ (n : ℕ). AreWithin n (route_by ps r).to) (sym is)
    (places_within faults.name_of_row ps r.to)

routes_sound : (count : ℕ) (ps : List PartnerRow) → count ≡ length ps → (rows : List RouteRow)
    → All (λ (r : Route). AreWithin count r.to) (map (route_by ps) rows)
routes_sound count ps is [] = All-nil (λ (r : Route). AreWithin count r.to)
routes_sound count ps is (r ∷ rows) = All-cons (λ (x : Route). AreWithin count x.to) (route_by ps r) (map (route_by ps) rows)
    (route_sound count ps is r) (routes_sound count ps is rows)

route_apart : (ps : List PartnerRow) (r : RouteRow) → faults.is_route ps r ≡ true → AreApart (route_by ps r).to
route_apart ps r h =
    let names = map faults.name_of_row ps in
    let targets = (and_parts (faults.is_id 2 15 r.code) (faults.are_targets ps r.to) h).1 in
    let once = (and_parts (list_all (contains_text names) r.to) (not (has_twice faults.by_name r.to)) targets).1 in
    places_apart names r.to (not-true (has_twice faults.by_name r.to) once)

routes_apart : (ps : List PartnerRow) (rows : List RouteRow) → list_all (faults.is_route ps) rows ≡ true
    → All (λ (r : Route). AreApart r.to) (map (route_by ps) rows)
routes_apart ps [] h = All-nil (λ (r : Route). AreApart r.to)
routes_apart ps (r ∷ rows) h =
    let parts = and_parts (faults.is_route ps r) (list_all (faults.is_route ps) rows) h in
    All-cons (λ (x : Route). AreApart x.to) (route_by ps r) (map (route_by ps) rows)
    (route_apart ps r parts.0) (routes_apart ps rows parts.1)

unrefused : {A : Type 0} (f : A → SetupFault) (place : Option A) (o : Option SetupFault)
    → option_or (option_map f place) o ≡ None → (place ≡ None) × (o ≡ None)
unrefused f None o e = (refl, e)
unrefused f (Some x) o e = absurd cc

last_unrefused : {A : Type 0} (f : A → SetupFault) (place : Option A) → option_map f place ≡ None → place ≡ None
last_unrefused f None e = refl
last_unrefused f (Some x) e = absurd cc

neither : (a b : Option ℕ) → faults.lesser_place a b ≡ None → (a ≡ None) × (b ≡ None)
neither None b e = (refl, e)
neither (Some m) None e = absurd cc
neither (Some m) (Some n) e = absurd cc

no_row : (b : Bool) (n : ℕ) (o : Option ℕ) → cond b (Some n) o ≡ None → (b ≡ false) × (o ≡ None)
no_row true n o e = absurd cc
no_row false n o e = (refl, e)

-- no row is so
none_so : {A : Type 0} (test : A → Bool) (n : ℕ) (rows : List A) → position_from test n rows ≡ None → list_any test rows ≡ false
none_so test n [] e = refl
none_so test n (x ∷ rows) e =
    let parts = no_row (test x) n (position_from test (n + 1) rows) e in
    ap (λ (b : Bool). b || list_any test rows) parts.0 ∙ none_so test (n + 1) rows parts.1

-- each row is so
all_so : {A : Type 0} (test : A → Bool) (n : ℕ) (rows : List A) → position_from (λ (x : A). not (test x)) n rows ≡ None
    → list_all test rows ≡ true
all_so test n [] e = refl
all_so test n (x ∷ rows) e =
    let parts = no_row (not (test x)) n (position_from (λ y. not (test y)) (n + 1) rows) e in
    ap (λ (b : Bool). b && list_all test rows) (not-false (test x) parts.0) ∙ all_so test (n + 1) rows parts.1

owned : (b : Bool) (place : Option ℕ) → cond b (option_map owner.Partner place) (Some owner.Hub) ≡ None → (b ≡ true) × (place ≡ None)
owned true None e = (refl, refl)
owned true (Some p) e = absurd cc
owned false place e = absurd cc

pub sound : (rows : SetupRows) (cs : List CounterRow) (gs : List GuideRows) → faults.first_fault rows cs gs ≡ None
    → IsSoundSetup (setup_of rows cs gs)
sound rows cs gs e =
    let ps = rows.partners in
    let same = unrefused refusal.SamePartner (faults.same_partner ps) _ e in
    let marks = unrefused refusal.BadDelimiters (faults.bad_delimiters ps) _ same.1 in
    let ids = unrefused refusal.BadId (faults.bad_id rows) _ marks.1 in
    let guides = unrefused refusal.BadGuides (faults.bad_guides ps gs) _ ids.1 in
    let routes = unrefused refusal.BadRoute (faults.bad_route ps rows.routes) _ guides.1 in
    let counts = unrefused refusal.BadCounter (faults.bad_counter ps cs) _ routes.1 in
    let caps = last_unrefused refusal.BadCap (faults.bad_cap ps) counts.1 in
    let id_parts = owned (faults.are_ids rows.hub.qualifier rows.hub.id rows.hub.code)
    (faults.first_row (λ (p : PartnerRow). not (faults.has_ids p)) ps) ids.0 in
    let all_count = all_so (faults.counts_for ps) 0 cs (neither (faults.first_row (λ (c : CounterRow). not (faults.counts_for ps c)) cs)
    (faults.first_twin (λ (c : CounterRow). faults.by_name c.partner) cs) counts.0).0 in
    let all_routes = all_so (faults.is_route ps) 0 rows.routes
    (neither (faults.first_row (λ (r : RouteRow). not (faults.is_route ps r)) rows.routes)
    (faults.first_twin (λ (r : RouteRow). faults.by_name r.code) rows.routes) routes.0).0 in
    record {
      hub = id_parts.0;
      partners = partners_sound ps cs gs ps all_count (none_so (λ (p : PartnerRow). is_none (faults.delims_of p)) 0 ps marks.0)
          (all_so faults.has_ids 0 ps id_parts.1) (all_so (λ (p : PartnerRow). faults.is_cap p.cap) 0 ps caps);
      routes = routes_sound (length (map (partner_of cs gs) ps)) ps (length-map ps (partner_of cs gs)) rows.routes;
      apart = routes_apart ps rows.routes all_routes;
    }

chosen_targets : (P : List ℕ → Type 0) (b : Bool) (xs ys : List ℕ) → P xs → P ys → P (cond b xs ys)
chosen_targets P true xs ys h k = h
chosen_targets P false xs ys h k = k

-- the targets of a code are those of one of the routes, or none
targets_have : (P : List ℕ → Type 0) (routes : List Route) (code : List ℕ) → P [] → All (λ (r : Route). P r.to) routes
    → P (targets_in routes code)
targets_have P [] code none h = none
targets_have P (r ∷ routes) code none h = chosen_targets P (has_code code r) r.to (targets_in routes code)
    (All-head (λ (x : Route). P x.to) r routes h)
    (targets_have P routes code none (All-tail (λ (x : Route). P x.to) r routes h))

pub targets_within : (count : ℕ) (routes : List Route) (code : List ℕ) → All (λ (r : Route). AreWithin count r.to) routes
    → AreWithin count (targets_in routes code)
targets_within count routes code h = targets_have (AreWithin count) routes code (All-nil (λ (q : ℕ). q < count)) h

pub targets_apart : (routes : List Route) (code : List ℕ) → All (λ (r : Route). AreApart r.to) routes
    → AreApart (targets_in routes code)
targets_apart routes code h = targets_have AreApart routes code none_apart h
