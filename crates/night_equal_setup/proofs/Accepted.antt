-- What is known of rows of which nothing is refused: each partner has delimiters and its guides are there, each route's receivers are.
use Rattle.std.proofs.Common.{◌≡◌, ℕ, ◌+◌, List, [], ◌∷◌, map, Bool, true, false, cond, not, ◌&&◌, Option, Some, None, is_none, is_some}
use Rattle.std.proofs.Common.{option_map, refl, sym, ap, ◌∙◌}
use Rattle.std.specs.List.{list_all, position_from}
use Rattle.std.specs.Option.{option_or}
use Rattle.hub_kinds.specs.Words.{contains_text, has_twice}
use Rattle.guide_tree.specs.declared.rows.GuideRows.{GuideRows}
use Rattle.partner_setup.specs.declared.rows.CounterRow.{CounterRow}
use Rattle.partner_setup.specs.declared.rows.PartnerRow.{PartnerRow}
use Rattle.partner_setup.specs.declared.rows.RouteRow.{RouteRow}
use Rattle.partner_setup.specs.declared.rows.SetupRows.{SetupRows}
use Rattle.partner_setup.specs.declared.setup_fault.GuidesOwner.TheVariants as guided
use Rattle.partner_setup.specs.declared.setup_fault.SetupFault.TheVariants as fault
use Rattle.partner_setup.specs.SetupFaults.{are_targets, bad_delimiters, bad_guides, bad_id, bad_route, by_name, delims_of}
use Rattle.partner_setup.specs.SetupFaults.{first_fault, first_row, first_twin, guide_name, guides_of, has_guides, is_id}
use Rattle.partner_setup.specs.SetupFaults.{is_route, lesser_place, name_of_row, purpose_key, same_partner}

-- a partner of a setup can be built
abbrev pub can_be_partner : List GuideRows → PartnerRow → Bool
can_be_partner guides p = is_some (delims_of p) && list_all (contains_text (map guide_name guides)) p.guides

abbrev pub can_be_route : List PartnerRow → RouteRow → Bool
can_be_route partners r = list_all (contains_text (map name_of_row partners)) r.to

-- neither of two faults
neither : {A : Type 0} (o p : Option A) → option_or o p ≡ None → (o ≡ None) × (p ≡ None)
neither None p e = (refl, e)
neither (Some x) p e = let no : Some x ≡ None = e in cc

of_none : {A B : Type 0} (f : A → B) (o : Option A) → option_map f o ≡ None → o ≡ None
of_none f None e = refl
of_none f (Some x) e = let no : Some (f x) ≡ None = e in cc

first_none : (a b : Option ℕ) → lesser_place a b ≡ None → a ≡ None
first_none None b e = refl
first_none (Some m) None e = let no : Some m ≡ None = e in cc
first_none (Some m) (Some n) e = let no : None ≡ lesser_place (Some m) (Some n) = sym e in cc

-- no row is so, and each is what it follows from that
all_by : {A : Type 0} (test good : A → Bool) (x : A) (xs : List A) (n : ℕ) (b : Bool) → test x ≡ b
    → (test x ≡ false → good x ≡ true) → cond b (Some n) (position_from test (n + 1) xs) ≡ None
    → (position_from test (n + 1) xs ≡ None → list_all good xs ≡ true) → (good x && list_all good xs) ≡ true
all_by test good x xs n true e this none more = let no : Some n ≡ None = none in cc
all_by test good x xs n false e this none more = ap (λ g. g && list_all good xs) (this e) ∙ more none

all_good : {A : Type 0} (test good : A → Bool) → ((x : A) → test x ≡ false → good x ≡ true) → (xs : List A) (n : ℕ)
    → position_from test n xs ≡ None → list_all good xs ≡ true
all_good test good this [] n none = refl
all_good test good this (x ∷ xs) n none =
    all_by test good x xs n (test x) refl (this x) none (λ more. all_good test good this xs (n + 1) more)

both_by : (s t u v : Bool) → (s && u) ≡ true → (t && v) ≡ true → (w : Bool) → (u ≡ true → v ≡ true → w ≡ true) → ((s && t) && w) ≡ true
both_by true true u v e h w more = more e h
both_by true false u v e h w more = let no : false ≡ true = h in cc
both_by false t u v e h w more = let no : false ≡ true = e in cc

all_both : {A : Type 0} (f g : A → Bool) (xs : List A) → list_all f xs ≡ true → list_all g xs ≡ true
    → list_all (λ x. f x && g x) xs ≡ true
all_both f g [] e h = refl
all_both f g (x ∷ xs) e h =
    both_by (f x) (g x) (list_all f xs) (list_all g xs) e h (list_all (λ y. f y && g y) xs) (λ d i. all_both f g xs d i)

is_there : {A : Type 0} (o : Option A) → is_none o ≡ false → is_some o ≡ true
is_there None e = let no : true ≡ false = e in cc
is_there (Some x) e = refl

front : (s t : Bool) → not (s && t) ≡ false → s ≡ true
front true t e = refl
front false t e = let no : true ≡ false = e in cc

behind : (s t : Bool) → not (s && t) ≡ false → t ≡ true
behind true true e = refl
behind true false e = let no : true ≡ false = e in cc
behind false t e = let no : true ≡ false = e in cc

before : (s t : Bool) → (s && t) ≡ true → s ≡ true
before true t e = refl
before false t e = let no : false ≡ true = e in cc

-- each fault of a setup is none
record AreNone (rows : SetupRows) (counters : List CounterRow) (guides : List GuideRows) : Type 0 where
  delimiters : bad_delimiters rows.partners ≡ None
  guides_there : bad_guides rows.partners guides ≡ None
  routes : bad_route rows.partners rows.routes ≡ None

are_none : (rows : SetupRows) (counters : List CounterRow) (guides : List GuideRows) → first_fault rows counters guides ≡ None
    → AreNone rows counters guides
are_none rows counters guides e =
    let one = neither (option_map fault.SamePartner (same_partner rows.partners)) _ e in
    let two = neither (option_map fault.BadDelimiters (bad_delimiters rows.partners)) _ one.1 in
    let three = neither (option_map fault.BadId (bad_id rows)) _ two.1 in
    let four = neither (option_map fault.BadGuides (bad_guides rows.partners guides)) _ three.1 in
    let five = neither (option_map fault.BadRoute (bad_route rows.partners rows.routes)) _ four.1 in
    record {
      delimiters = of_none fault.BadDelimiters _ two.0;
      guides_there = of_none fault.BadGuides _ four.0;
      routes = of_none fault.BadRoute _ five.0;
    }

pub partners_accepted : (rows : SetupRows) (counters : List CounterRow) (guides : List GuideRows)
    → first_fault rows counters guides ≡ None → list_all (can_be_partner guides) rows.partners ≡ true
partners_accepted rows counters guides e =
    let none : AreNone rows counters guides = are_none rows counters guides e in
    let there = neither (option_map guided.Partner (first_row (λ p. not (has_guides guides p)) rows.partners)) _ none.guides_there in
    all_both (λ p. is_some (delims_of p)) (λ (p : PartnerRow). list_all (contains_text (map guide_name guides)) p.guides) rows.partners
    (all_good (λ p. is_none (delims_of p)) (λ p. is_some (delims_of p)) (λ p f. is_there (delims_of p) f) rows.partners 0 none.delimiters)
    (all_good (λ p. not (has_guides guides p)) (λ (p : PartnerRow). list_all (contains_text (map guide_name guides)) p.guides)
    (λ p f. front (list_all (contains_text (map guide_name guides)) p.guides) (not (has_twice purpose_key (guides_of guides p))) f)
    rows.partners 0 (of_none guided.Partner _ there.0))

pub routes_accepted : (rows : SetupRows) (counters : List CounterRow) (guides : List GuideRows)
    → first_fault rows counters guides ≡ None → list_all (can_be_route rows.partners) rows.routes ≡ true
routes_accepted rows counters guides e =
    let none : AreNone rows counters guides = are_none rows counters guides e in
    all_good (λ r. not (is_route rows.partners r)) (can_be_route rows.partners)
    (λ r f. before (list_all (contains_text (map name_of_row rows.partners)) r.to) (not (has_twice by_name r.to))
    (behind (is_id 2 15 r.code) (are_targets rows.partners r.to) f)) rows.routes 0
    (first_none (first_row (λ r. not (is_route rows.partners r)) rows.routes) (first_twin (λ (r : RouteRow). by_name r.code) rows.routes)
    none.routes)
