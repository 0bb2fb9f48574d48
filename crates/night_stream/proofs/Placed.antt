-- A set of a batch is delivered and written as one of the whole text.
use Rattle.std.proofs.Common.{◌≡◌, ℕ, zero, suc, ◌+◌, ◌-◌, Bool, true, false, ◌||◌, cond, List, [], ◌∷◌, ◌++◌, Option}
use Rattle.std.proofs.Common.{Some, None}
use Rattle.std.proofs.Common.{length, map, option_map, take, drop, is_some, refl, sym, ap, ◌∙◌}
use Rattle.std.specs.Prelude.{filter, slice_get}
use Rattle.std.specs.List.{All, flat_map, list_any}
use Rattle.std.proofs.lemmas.List.{length-map, map-append, take-map}
use Rattle.std.proofs.lemmas.List.Elements.{All-head, All-tail}
use Rattle.x12_bytes.specs.declared.delims.Delims.{Delims}
use Rattle.x12_segs.specs.Words.{span_views, SegValue, element_of}
use Rattle.env_index.specs.declared.entry.SetEnvelope.{SetEnvelope}
use Rattle.env_index.specs.Words.{span_of, GroupEntry}
use Rattle.partner_setup.specs.Setup.{SetupValue, route_of}
use Rattle.partner_setup.specs.declared.partner.Partner.{Partner}
use Rattle.mailbox.specs.declared.outcome.Outcome.{Outcome}
use Rattle.mailbox.specs.declared.outcome.Outcome.TheVariants.{DeliveredTo, HeldForDelimiter}
use Rattle.answered_sets.specs.declared.standing.GroupStanding.{GroupStanding}
use Rattle.mailbox.specs.Deliveries.{delivered_to, inner_count, inner_in, is_blocked, is_deliverable, is_delivered_to, is_delivery_to}
use Rattle.mailbox.specs.Deliveries.{has_collision, kept_parts, outcome_at, outcome_by, outcomes, outcomes_on}
use Rattle.answered_sets.specs.Judged.{JudgedValue, PlacedValue, all_sets, delims_in, sets_of_groups_from, segments_in, sets_from, sets_of}
use Rattle.answered_sets.specs.Judged.{standing_at}
use Rattle.mailbox.specs.Mailbox.{inner_text, set_header_text, set_text, set_trailer_text}
use Rattle.whole_interchanges.specs.Moved.{moved_group, moved_set, moved_view}
use Rattle.whole_interchanges.proofs.ForAbove.{span_of_moved}
use Rattle.night_stream.specs.MovedSets.{moved_judged, moved_placed}
use Rattle.night_stream.specs.Within.{IsWithinText}
use Rattle.night_stream.proofs.Sets.{views_moved_in}

module _ (before behind : List ℕ) where
  abbrev moved : PlacedValue → PlacedValue
  moved p = moved_placed before behind p

  abbrev judged : JudgedValue → JudgedValue
  judged x = moved_judged before behind x

  abbrev by : ℕ
  by = length before

  segments_moved : (p : PlacedValue) → IsWithinText p → segments_in (moved p) ≡ map (moved_view by) (segments_in p)
  segments_moved p within =
      ap (span_views (before ++ (p.interchange.text ++ behind))) (span_of_moved by (delims_in p) p.set)
      ∙ views_moved_in before p.interchange.text behind (span_of (delims_in p) p.set) within

  count_moved : (p : PlacedValue) → inner_count (moved p) ≡ inner_count p
  count_moved p = by_trailer p.set.trailer
    where
      by_trailer : (t : Option SegValue) → cond (is_some (option_map (moved_view by) t)) (p.set.segments - 2) (p.set.segments - 1)
          ≡ cond (is_some t) (p.set.segments - 2) (p.set.segments - 1)
      by_trailer None = refl
      by_trailer (Some x) = refl

  drop_moved : (n : ℕ) (xs : List SegValue) → drop n (map (moved_view by) xs) ≡ map (moved_view by) (drop n xs)
  drop_moved zero xs = refl
  drop_moved (suc n) [] = refl
  drop_moved (suc n) (x ∷ xs) = drop_moved n xs

  inner_moved : (p : PlacedValue) → IsWithinText p → inner_in (moved p) ≡ map (moved_view by) (inner_in p)
  inner_moved p within =
      ap (λ (n : ℕ). take n (drop 1 (segments_in (moved p)))) (count_moved p)
      ∙ ap (λ (xs : List SegValue). take (inner_count p) (drop 1 xs)) (segments_moved p within)
      ∙ ap (take (inner_count p)) (drop_moved 1 (segments_in p)) ∙ take-map (moved_view by) (inner_count p) (drop 1 (segments_in p))

  texts_moved : (from to : Delims) (xs : List SegValue) → flat_map (inner_text from to) (map (moved_view by) xs)
      ≡ flat_map (inner_text from to) xs
  texts_moved from to [] = refl
  texts_moved from to (x ∷ xs) = ap (λ (t : List ℕ). inner_text from to x ++ t) (texts_moved from to xs)

  -- what is written of it is the same
  pub text_moved : (to : Delims) (p : PlacedValue) (n : ℕ) → IsWithinText p → set_text to (moved p) n ≡ set_text to p n
  text_moved to p n within =
      let write : List ℕ → ℕ
      → List ℕ = λ inner count. set_header_text (delims_in p) to p.set.header n ++ inner ++ set_trailer_text to (count + 2) n in
      ap (λ (xs : List SegValue). write (flat_map (inner_text (delims_in p) to) xs) (length xs)) (inner_moved p within)
      ∙ ap (λ (t : List ℕ). write t (length (map (moved_view by) (inner_in p)))) (texts_moved (delims_in p) to (inner_in p))
      ∙ ap (write (flat_map (inner_text (delims_in p) to) (inner_in p))) (length-map (inner_in p) (moved_view by))

  in_the_way_moved : (from to : Delims) (xs : List SegValue)
      → list_any (λ (seg : SegValue). has_collision from to seg.bytes) (map (moved_view by) xs)
      ≡ list_any (λ (seg : SegValue). has_collision from to seg.bytes) xs
  in_the_way_moved from to [] = refl
  in_the_way_moved from to (x ∷ xs) = ap (λ (b : Bool). has_collision from to x.bytes || b) (in_the_way_moved from to xs)

  blocked_moved : (to : Delims) (p : PlacedValue) → IsWithinText p → is_blocked to (moved p) ≡ is_blocked to p
  blocked_moved to p within =
      ap (λ (xs : List SegValue). list_any (has_collision (delims_in p) to) (kept_parts p.set.header)
      || list_any (λ (seg : SegValue). has_collision (delims_in p) to seg.bytes) xs) (inner_moved p within)
      ∙ ap (λ (b : Bool). list_any (has_collision (delims_in p) to) (kept_parts p.set.header) || b)
      (in_the_way_moved (delims_in p) to (inner_in p))

  outcome_moved : (setup : SetupValue) (p : PlacedValue) (to : ℕ) → IsWithinText p → outcome_at setup (moved p) to ≡ outcome_at setup p to
  outcome_moved setup p to within = by_partner (slice_get setup.partners to)
    where
      by_partner : (partner : Option Partner) → outcome_by partner (moved p) to ≡ outcome_by partner p to
      by_partner None = refl
      by_partner (Some partner) =
          ap (λ (b : Bool). cond b (HeldForDelimiter to)
          (DeliveredTo to)) (blocked_moved partner.delims p within)

  each_moved : (setup : SetupValue) (p : PlacedValue) (targets : List ℕ) → IsWithinText p
      → map (outcome_at setup (moved p)) targets ≡ map (outcome_at setup p) targets
  each_moved setup p [] within = refl
  each_moved setup p (to ∷ more) within =
      ap (λ (o : Outcome). o ∷ map (outcome_at setup (moved p)) more) (outcome_moved setup p to within)
      ∙ ap (λ (os : List Outcome). outcome_at setup p to ∷ os) (each_moved setup p more within)

  -- what becomes of it is the same
  pub outcomes_moved : (setup : SetupValue) (p : PlacedValue) → IsWithinText p → outcomes setup (moved p) ≡ outcomes setup p
  outcomes_moved setup p within = ap
      (λ (os : List Outcome). cond (is_deliverable p) os []) (by_route (route_of setup (element_of p.group.header 3)))
    where
      by_route : (targets : List ℕ) → outcomes_on setup (moved p) targets ≡ outcomes_on setup p targets
      by_route [] = refl
      by_route (to ∷ more) = each_moved setup p (to ∷ more) within

  -- all sets, further on
  sets_from_moved : (x : JudgedValue) (g : GroupEntry) (standing : GroupStanding) (n : ℕ) (sets : List SetEnvelope)
      → sets_from (judged x) (moved_group by g) standing n (map (moved_set by) sets) ≡ map moved (sets_from x g standing n sets)
  sets_from_moved x g standing n [] = refl
  sets_from_moved x g standing n (set ∷ sets) =
      ap (λ (ps : List PlacedValue). moved (record { interchange = x; group = g; standing = standing; index = n; set = set }) ∷ ps)
      (sets_from_moved x g standing (n + 1) sets)

  groups_from_moved : (x : JudgedValue) (n : ℕ) (gs : List GroupEntry)
      → sets_of_groups_from (judged x) n (map (moved_group by) gs) ≡ map moved (sets_of_groups_from x n gs)
  groups_from_moved x n [] = refl
  groups_from_moved x n (g ∷ gs) =
      ap (λ (ps : List PlacedValue). ps ++ sets_of_groups_from (judged x) (n + 1) (map (moved_group by) gs))
      (sets_from_moved x g (standing_at x.standings n) 0 g.sets)
      ∙ ap (λ (ps : List PlacedValue). map moved (sets_from x g (standing_at x.standings n) 0 g.sets) ++ ps) (groups_from_moved x
      (n + 1) gs)
      ∙ sym (map-append moved (sets_from x g (standing_at x.standings n) 0 g.sets) (sets_of_groups_from x (n + 1) gs))

  pub all_sets_moved : (xs : List JudgedValue) → all_sets (map judged xs) ≡ map moved (all_sets xs)
  all_sets_moved [] = refl
  all_sets_moved (x ∷ xs) =
      ap (λ (ps : List PlacedValue). ps ++ all_sets (map judged xs)) (groups_from_moved x 0 x.interchange.content.groups)
      ∙ ap (λ (ps : List PlacedValue). map moved (sets_of x) ++ ps) (all_sets_moved xs)
      ∙ sym (map-append moved (sets_of x) (all_sets xs))

  filter_moved : (setup : SetupValue) (q : ℕ) (ps : List PlacedValue) → All IsWithinText ps
      → filter (is_delivered_to setup q) (map moved ps) ≡ map moved (filter (is_delivered_to setup q) ps)
  filter_moved setup q [] all = refl
  filter_moved setup q (p ∷ ps) all =
      let os = outcomes_moved setup p (All-head IsWithinText p ps all) in
      let same : is_delivered_to setup q (moved p) ≡ is_delivered_to setup q p =
      ap (list_any (is_delivery_to q)) os in
      ap (λ (b : Bool). cond b (moved p ∷ filter (is_delivered_to setup q) (map moved ps)) (filter (is_delivered_to setup q)
      (map moved ps))) same
      ∙ ap (λ (l : List PlacedValue). cond (is_delivered_to setup q p) (moved p ∷ l) l) (filter_moved setup q ps
      (All-tail IsWithinText p ps all))
      ∙ by_test (is_delivered_to setup q p) (filter (is_delivered_to setup q) ps)
    where
      by_test : (b : Bool) (l : List PlacedValue) → cond b (moved p ∷ map moved l) (map moved l) ≡ map moved (cond b (p ∷ l) l)
      by_test true l = refl
      by_test false l = refl

  -- the sets that are delivered to a partner, further on
  pub delivered_moved : (setup : SetupValue) (q : ℕ) (xs : List JudgedValue) → All IsWithinText (all_sets xs)
      → delivered_to setup q (map judged xs) ≡ map moved (delivered_to setup q xs)
  delivered_moved setup q xs all = ap (filter (is_delivered_to setup q)) (all_sets_moved xs) ∙ filter_moved setup q (all_sets xs) all
