-- The totals of a batch's report.
use Rattle.std.proofs.Common.{◌≡◌, ℕ, ◌+◌, Bool, true, false, cond, List, [], ◌∷◌, ◌++◌, length, map, refl, sym, ap}
use Rattle.std.proofs.Common.{◌∙◌}
use Rattle.std.specs.Prelude.{count_by, filter, sum_by}
use Rattle.std.specs.List.{All, flat_map}
use Rattle.std.proofs.lemmas.List.{length-append, length-map, map-append}
use Rattle.std.proofs.lemmas.Grind.{flat_map-append}
use Rattle.std.proofs.lemmas.List.Elements.{filter-append, All-cons, All-head, All-nil, All-tail}
use Rattle.std.proofs.lemmas.List.Sums.{sum_by-append, sum_by-cons}
use Rattle.partner_setup.specs.Setup.{SetupValue}
use Rattle.env_index.specs.Words.{GroupEntry}
use Rattle.mailbox.specs.Deliveries.{is_held}
use Rattle.answered_sets.specs.Judged.{JudgedValue, PlacedValue, all_sets, is_refused, sets_of, standing_at}
use Rattle.night_report.specs.Adding.{together}
use Rattle.night_report.specs.Report.{ShownGroup, accepted_count, counted_groups, groups_shown, held_count, is_counted, set_count}
use Rattle.night_report.specs.Report.{shown_from, report_totals}
use Rattle.night_report.specs.declared.totals.Totals.{Totals}
use Rattle.whole_interchanges.specs.Moved.{moved_group, moved_set}
use Rattle.night_stream.specs.MovedSets.{moved_judged, moved_placed}
use Rattle.night_stream.proofs.Placed.{all_sets_moved, outcomes_moved}
use Rattle.night_stream.specs.Within.{IsWithinText}

abbrev refusal : JudgedValue → ℕ
refusal x = cond (is_refused x) 1 0

abbrev made : ℕ → ℕ → ℕ → ℕ → ℕ → ℕ → Totals
made a b c d e f = record { interchanges = a; refused = b; groups = c; sets = d; accepted = e; held = f }

module _ (setup : SetupValue) (before behind : List ℕ) where
  abbrev by : ℕ
  by = length before

  abbrev judged : JudgedValue → JudgedValue
  judged x = moved_judged before behind x

  abbrev shown : ShownGroup → ShownGroup
  shown g = record { interchange = judged g.interchange; group = moved_group by g.group; standing = g.standing }

  shown_moved : (x : JudgedValue) (n : ℕ) (gs : List GroupEntry) → shown_from (judged x) n (map (moved_group by) gs)
      ≡ map shown (shown_from x n gs)
  shown_moved x n [] = refl
  shown_moved x n (g ∷ gs) =
      ap (λ (l : List ShownGroup). shown (record { interchange = x; group = g; standing = standing_at x.standings n }) ∷ l)
      (shown_moved x (n + 1) gs)

  groups_moved : (x : JudgedValue) → groups_shown (judged x) ≡ map shown (groups_shown x)
  groups_moved x = by_test (is_refused x)
    where
      by_test : (b : Bool) → cond b [] (shown_from (judged x) 0 (map (moved_group by) x.interchange.content.groups))
          ≡ map shown (cond b [] (shown_from x 0 x.interchange.content.groups))
      by_test true = refl
      by_test false = shown_moved x 0 x.interchange.content.groups

  all_groups_moved : (xs : List JudgedValue) → flat_map groups_shown (map judged xs) ≡ map shown (flat_map groups_shown xs)
  all_groups_moved [] = refl
  all_groups_moved (x ∷ xs) =
      ap (λ (l : List ShownGroup). l ++ flat_map groups_shown (map judged xs)) (groups_moved x)
      ∙ ap (λ (l : List ShownGroup). map shown (groups_shown x) ++ l) (all_groups_moved xs)
      ∙ sym (map-append shown (groups_shown x) (flat_map groups_shown xs))

  filter_moved : (gs : List ShownGroup) → filter is_counted (map shown gs) ≡ map shown (filter is_counted gs)
  filter_moved [] = refl
  filter_moved (g ∷ gs) =
      ap (λ (l : List ShownGroup). cond (is_counted g) (shown g ∷ l) l) (filter_moved gs) ∙ by_test (is_counted g)
    where
      by_test : (b : Bool) → cond b (shown g ∷ map shown (filter is_counted gs)) (map shown (filter is_counted gs))
          ≡ map shown (cond b (g ∷ filter is_counted gs) (filter is_counted gs))
      by_test true = refl
      by_test false = refl

  counted_moved : (xs : List JudgedValue) → counted_groups (map judged xs) ≡ map shown (counted_groups xs)
  counted_moved xs = ap (filter is_counted) (all_groups_moved xs) ∙ filter_moved (flat_map groups_shown xs)

  sum_moved : {A : Type 0} (f : A → ℕ) (g : A → A) (xs : List A) → All (λ x. f (g x) ≡ f x) xs → sum_by f (map g xs) ≡ sum_by f xs
  sum_moved f g [] all = refl
  sum_moved f g (x ∷ xs) all =
      sum_by-cons f (g x) (map g xs)
      ∙ ap (λ (n : ℕ). n + sum_by f (map g xs)) (All-head (λ x. f (g x) ≡ f x) x xs all)
      ∙ ap (λ (n : ℕ). f x + n) (sum_moved f g xs (All-tail (λ x. f (g x) ≡ f x) x xs all)) ∙ sym (sum_by-cons f x xs)

  each : {A : Type 0} (P : A → Type 0) → ((x : A) → P x) → (xs : List A) → All P xs
  each P so [] = All-nil P
  each P so (x ∷ xs) = All-cons P x xs (so x) (each P so xs)

  held_each : (ps : List PlacedValue) → All IsWithinText ps → All (λ p. held_count setup (moved_placed before behind p)
      ≡ held_count setup p) ps
  held_each [] all = All-nil (λ p. held_count setup (moved_placed before behind p) ≡ held_count setup p)
  held_each (p ∷ ps) all =
      All-cons (λ p. held_count setup (moved_placed before behind p) ≡ held_count setup p) p ps
      (ap (count_by is_held) (outcomes_moved before behind setup p (All-head IsWithinText p ps all)))
      (held_each ps (All-tail IsWithinText p ps all))

  pub totals_moved : (xs : List JudgedValue) → All IsWithinText (all_sets xs) → report_totals setup (map judged xs) ≡ report_totals setup xs
  totals_moved xs all =
      let gs : List ShownGroup = counted_groups xs in
      let refused : count_by is_refused (map judged xs) ≡ count_by is_refused xs =
      sum_moved refusal judged xs (each (λ x. refusal (judged x) ≡ refusal x) (λ x. refl) xs) in
      let sets : sum_by set_count (map shown gs) ≡ sum_by set_count gs =
      sum_moved set_count shown gs (each (λ g. set_count (shown g) ≡ set_count g) (λ g. length-map g.group.sets (moved_set by)) gs) in
      let accepted : sum_by accepted_count (map shown gs) ≡ sum_by accepted_count gs =
      sum_moved accepted_count shown gs (each (λ g. accepted_count (shown g) ≡ accepted_count g) (λ g. refl) gs) in
      let held : sum_by (held_count setup) (all_sets (map judged xs)) ≡ sum_by (held_count setup) (all_sets xs) =
      ap (sum_by (held_count setup)) (all_sets_moved before behind xs)
      ∙ sum_moved (held_count setup) (moved_placed before behind) (all_sets xs) (held_each (all_sets xs) all) in
      ap (λ (l : List ShownGroup). made (length (map judged xs)) (count_by is_refused (map judged xs)) (length l) (sum_by set_count l)
      (sum_by accepted_count l) (sum_by (held_count setup) (all_sets (map judged xs)))) (counted_moved xs)
      ∙ ap (λ (n : ℕ). made n (count_by is_refused (map judged xs)) (length (map shown gs)) (sum_by set_count (map shown gs))
      (sum_by accepted_count (map shown gs)) (sum_by (held_count setup) (all_sets (map judged xs)))) (length-map xs judged)
      ∙ ap (λ (n : ℕ). made (length xs) n (length (map shown gs)) (sum_by set_count (map shown gs)) (sum_by accepted_count (map shown gs))
      (sum_by (held_count setup) (all_sets (map judged xs)))) refused
      ∙ ap (λ (n : ℕ). made (length xs) (count_by is_refused xs) n (sum_by set_count (map shown gs)) (sum_by accepted_count (map shown gs))
      (sum_by (held_count setup) (all_sets (map judged xs)))) (length-map gs shown)
      ∙ ap (λ (n : ℕ). made (length xs) (count_by is_refused xs) (length gs) n (sum_by accepted_count (map shown gs))
      (sum_by (held_count setup) (all_sets (map judged xs)))) sets
      ∙ ap (λ (n : ℕ). made (length xs) (count_by is_refused xs) (length gs) (sum_by set_count gs) n
      (sum_by (held_count setup) (all_sets (map judged xs)))) accepted
      ∙ ap (made (length xs) (count_by is_refused xs) (length gs) (sum_by set_count gs) (sum_by accepted_count gs)) held
