-- What is counted group by group is what is counted of all interchanges.
use Rattle.std.proofs.Common.{ℕ, ◌≡◌, ◌+◌, ◌++◌, Bool, true, false, cond, List, [], ◌∷◌, length, refl, ap, sym, ◌∙◌, arith, length-append}
use Rattle.std.specs.Prelude.{◌&&◌}
use Rattle.std.specs.List.{sum_by, count_by, filter, flat_map}
use Rattle.std.proofs.lemmas.List.Concat.{flat_map-cons}
use Rattle.std.proofs.lemmas.List.Elements.{filter-append}
use Rattle.std.proofs.lemmas.List.Sums.{sum_by-append}
use Rattle.env_index.specs.Words.{GroupEntry}
use Rattle.env_index.specs.declared.entry.SetEnvelope.{SetEnvelope}
use Rattle.partner_setup.specs.Setup.{SetupValue}
use Rattle.answered_sets.specs.declared.standing.GroupStanding.{GroupStanding}
use Rattle.answered_sets.specs.Judged.{JudgedValue, PlacedValue, is_fa, is_refused, standing_at, sets_from, sets_of_groups_from, sets_of}
use Rattle.answered_sets.specs.Judged.{all_sets}
use Rattle.night_report.specs.Adding.{added, none, together, group_totals, interchange_totals, held_in, accepted_one, refused_one}
use Rattle.night_report.specs.Report.{ShownGroup, shown_from, groups_shown, counted_groups, is_counted}
use Rattle.night_report.specs.Report.{set_count, accepted_count, held_count, report_totals}
use Rattle.night_report.specs.declared.totals.Totals.{Totals}
use Rattle.night_report.proofs.Adding.{same, sum_by-cons, added_is, added_to_none}

-- what is counted of groups
groups_totals : SetupValue → List ShownGroup → Totals
groups_totals setup gs = record {
  interchanges = 0;
  refused = 0;
  groups = length (filter is_counted gs);
  sets = sum_by set_count (filter is_counted gs);
  accepted = sum_by accepted_count (filter is_counted gs);
  held = sum_by (held_in setup) gs;
}

one_group : (setup : SetupValue) (g : ShownGroup) (more : List ShownGroup) (fa : Bool) → is_fa g.group ≡ fa
    → groups_totals setup (g ∷ more) ≡ together (group_totals setup g) (groups_totals setup more)
unfolding groups_totals
one_group setup g more true is =
    rw (is, sum_by-cons (held_in setup) g more) (same _ _ refl refl (omega arith) (omega arith) (omega arith) refl)
one_group setup g more false is =
    let counted : List ShownGroup = filter is_counted more in
    rw (is, sum_by-cons (held_in setup) g more, sum_by-cons set_count g counted, sum_by-cons accepted_count g counted)
    (same _ _ refl refl (omega arith) refl refl refl)

groups_of_totals : (setup : SetupValue) (before : Totals) (gs : List ShownGroup)
    → added (group_totals setup) before gs ≡ together before (groups_totals setup gs)
unfolding groups_totals
groups_of_totals setup before gs =
    added_is (group_totals setup) (groups_totals setup) refl (λ g more. one_group setup g more (is_fa g.group) refl) before gs

-- the sets of a group, and of groups, that are held
held_in_groups : (setup : SetupValue) (x : JudgedValue) (n : ℕ) (gs : List GroupEntry)
    → sum_by (held_count setup) (sets_of_groups_from x n gs) ≡ sum_by (held_in setup) (shown_from x n gs)
held_in_groups setup x n [] = refl
held_in_groups setup x n (g ∷ gs) =
    let standing : GroupStanding = standing_at x.standings n in
    let shown : ShownGroup = record { interchange = x; group = g; standing = standing } in
    sum_by-append (held_count setup) (sets_from x g standing 0 g.sets) (sets_of_groups_from x (n + 1) gs)
    ∙ ap (λ (k : ℕ). held_in setup shown + k) (held_in_groups setup x (n + 1) gs)
    ∙ sym (sum_by-cons (held_in setup) shown (shown_from x (n + 1) gs))

no_more : (a b c : Bool) → (a && b && c && false) ≡ false
no_more true true true = refl
no_more true true false = refl
no_more true false true = refl
no_more true false false = refl
no_more false true true = refl
no_more false true false = refl
no_more false false true = refl
no_more false false false = refl

not_held : (setup : SetupValue) (p : PlacedValue) → is_refused p.interchange ≡ true → held_count setup p ≡ 0
not_held setup p refused = rw (refused, no_more) refl

none_of_sets : (setup : SetupValue) (x : JudgedValue) (g : GroupEntry) (standing : GroupStanding) (n : ℕ) (sets : List SetEnvelope)
    → is_refused x ≡ true → sum_by (held_count setup) (sets_from x g standing n sets) ≡ 0
none_of_sets setup x g standing n [] refused = refl
none_of_sets setup x g standing n (s ∷ sets) refused =
    let p : PlacedValue = record { interchange = x; group = g; standing = standing; index = n; set = s } in
    let first = not_held setup p refused in
    let rest = none_of_sets setup x g standing (n + 1) sets refused in
    sum_by-cons (held_count setup) p (sets_from x g standing (n + 1) sets) ∙ omega arith

none_of_groups : (setup : SetupValue) (x : JudgedValue) (n : ℕ) (gs : List GroupEntry) → is_refused x ≡ true
    → sum_by (held_count setup) (sets_of_groups_from x n gs) ≡ 0
none_of_groups setup x n [] refused = refl
none_of_groups setup x n (g ∷ gs) refused =
    let first = none_of_sets setup x g (standing_at x.standings n) 0 g.sets refused in
    let rest = none_of_groups setup x (n + 1) gs refused in
    sum_by-append (held_count setup) (sets_from x g (standing_at x.standings n) 0 g.sets) (sets_of_groups_from x (n + 1) gs) ∙ omega arith

-- what an interchange counts before its groups
counted-cons : (x : JudgedValue) (more : List JudgedValue)
    → counted_groups (x ∷ more) ≡ filter is_counted (groups_shown x) ++ counted_groups more
counted-cons x more =
    ap (filter is_counted) (flat_map-cons groups_shown x more) ∙ filter-append is_counted (groups_shown x) (flat_map groups_shown more)

held_shown : (setup : SetupValue) (x : JudgedValue) (refused : Bool) → is_refused x ≡ refused
    → sum_by (held_count setup) (sets_of x) ≡ sum_by (held_in setup) (groups_shown x)
held_shown setup x true is =
    rw is (none_of_groups setup x 0 x.interchange.content.groups is)
held_shown setup x false is =
    rw is (held_in_groups setup x 0 x.interchange.content.groups)

grow : (setup : SetupValue) (x : JudgedValue) (more : List JudgedValue) (one : Totals) → one.interchanges ≡ 1 → one.groups ≡ 0
    → one.sets ≡ 0 → one.accepted ≡ 0 → one.held ≡ 0 → one.refused ≡ cond (is_refused x) 1 0
    → interchange_totals setup x ≡ together one (groups_totals setup (groups_shown x))
    → report_totals setup (x ∷ more) ≡ together (interchange_totals setup x) (report_totals setup more)
unfolding groups_totals
grow setup x more one i g s a h r is =
    let shown : List ShownGroup = groups_shown x in
    let counted = counted-cons x more in
    let refused : count_by is_refused (x ∷ more) ≡ cond (is_refused x) 1 0 + count_by is_refused more =
    sum_by-cons (λ (y : JudgedValue). cond (is_refused y) 1 0) x more in
    let groups : length (counted_groups (x ∷ more)) ≡ length (filter is_counted shown) + length (counted_groups more) =
    ap length counted ∙ length-append (filter is_counted shown) (counted_groups more) in
    let sets : sum_by set_count (counted_groups (x ∷ more))
    ≡ sum_by set_count (filter is_counted shown) + sum_by set_count (counted_groups more) =
    ap (sum_by set_count) counted ∙ sum_by-append set_count (filter is_counted shown) (counted_groups more) in
    let accepted : sum_by accepted_count (counted_groups (x ∷ more))
    ≡ sum_by accepted_count (filter is_counted shown) + sum_by accepted_count (counted_groups more) =
    ap (sum_by accepted_count) counted ∙ sum_by-append accepted_count (filter is_counted shown) (counted_groups more) in
    let held : sum_by (held_count setup) (all_sets (x ∷ more))
    ≡ sum_by (held_in setup) shown + sum_by (held_count setup) (all_sets more) =
    ap (sum_by (held_count setup)) (flat_map-cons sets_of x more)
    ∙ sum_by-append (held_count setup) (sets_of x) (all_sets more)
    ∙ ap (λ (k : ℕ). k + sum_by (held_count setup) (all_sets more)) (held_shown setup x (is_refused x) refl) in
    same (report_totals setup (x ∷ more)) (together (together one (groups_totals setup shown)) (report_totals setup more)) (omega arith)
    (refused ∙ omega arith) (groups ∙ omega arith) (sets ∙ omega arith) (accepted ∙ omega arith) (held ∙ omega arith)
    ∙ ap (λ (t : Totals). together t (report_totals setup more)) (sym is)

one_more : (setup : SetupValue) (x : JudgedValue) (more : List JudgedValue) (refused : Bool) → is_refused x ≡ refused
    → report_totals setup (x ∷ more) ≡ together (interchange_totals setup x) (report_totals setup more)
unfolding groups_totals
one_more setup x more true is =
    grow setup x more refused_one refl refl refl refl refl (rw is refl) (rw is refl)
one_more setup x more false is =
    grow setup x more accepted_one refl refl refl refl refl (rw is refl)
    (rw is (groups_of_totals setup accepted_one (shown_from x 0 x.interchange.content.groups)))

-- what is counted interchange by interchange, is counted of all
pub totals_are_added : (setup : SetupValue) (xs : List JudgedValue) → added (interchange_totals setup) none xs ≡ report_totals setup xs
totals_are_added setup xs =
    added_to_none (interchange_totals setup) (report_totals setup) refl (λ x more. one_more setup x more (is_refused x) refl) xs
