-- What is reported of the sets of a group, by their outcomes.
use Rattle.std.proofs.Common.{◌≡◌, ℕ, suc, ◌+◌, ◌<◌, ◌≤◌, List, [], ◌∷◌, ◌++◌, drop, get_or, length, take, refl, ap, sym}
use Rattle.std.proofs.Common.{◌∙◌, append_assoc, arith}
use Rattle.std.proofs.lemmas.List.{drop_more, length-append, length-map, map-append}
use Rattle.std.proofs.Math.Seq.{drop-append_seam, take-append_seam}
use Rattle.std.specs.Prelude.{count_by, sum_by}
use Rattle.std.specs.List.{flat_map}
use Rattle.env_index.specs.declared.entry.SetEnvelope.{SetEnvelope}
use Rattle.partner_setup.specs.Setup.{SetupValue}
use Rattle.env_index.specs.Words.{GroupEntry}
use Rattle.answered_sets.specs.declared.standing.GroupStanding.{GroupStanding}
use Rattle.answered_sets.specs.Judged.{JudgedValue, PlacedValue, all_sets, sets_from, sets_of, sets_of_groups_from, standing_at}
use Rattle.mailbox.specs.declared.outcome.Outcome.{Outcome}
use Rattle.mailbox.specs.Deliveries.{is_held, outcomes, outcomes_of}
use Rattle.night_report.specs.Adding.{added, group_totals, held_in, shown_at, together}
use Rattle.night_report.specs.Report.{ShownGroup, group_lines, held_count, held_lines, outcome_line, placed_sets_in, shown_from}
use Rattle.night_report.specs.declared.totals.Totals.{Totals}
use Rattle.answered_sets.specs.Placed.{groups_in, no_group}
use Rattle.night_report.proofs.Adding.{sum_by-cons}

-- the held lines of sets with these outcomes, the first of them as set number n of its group
abbrev pub lines_from : SetupValue → (n : ℕ) → List (List Outcome) → List ℕ
lines_from setup n [] = []
lines_from setup n (os ∷ more) = flat_map (outcome_line setup n) os ++ lines_from setup (n + 1) more

-- how often they are held
abbrev pub held_from : List (List Outcome) → ℕ
held_from [] = 0
held_from (os ∷ more) = count_by is_held os + held_from more

module _ (setup : SetupValue) (g : ShownGroup) where
  abbrev the_sets : (n : ℕ) → List SetEnvelope → List PlacedValue
  the_sets n sets = sets_from g.interchange g.group g.standing n sets

  lines_are : (n : ℕ) (sets : List SetEnvelope)
      → lines_from setup (n + 1) (outcomes_of setup (the_sets n sets)) ≡ flat_map (held_lines setup) (the_sets n sets)
  lines_are n [] = refl
  lines_are n (set ∷ sets) =
      ap (λ (text : List ℕ). flat_map (outcome_line setup (n + 1)) (outcomes setup (record {
        interchange = g.interchange;
        group = g.group;
        standing = g.standing;
        index = n;
        set = set;
      })) ++ text) (lines_are (n + 1) sets)

  held_are : (n : ℕ) (sets : List SetEnvelope)
      → held_from (outcomes_of setup (the_sets n sets)) ≡ sum_by (held_count setup) (the_sets n sets)
  held_are n [] = refl
  held_are n (set ∷ sets) =
      let p : PlacedValue = record { interchange = g.interchange; group = g.group; standing = g.standing; index = n; set = set } in
      ap (λ (k : ℕ). held_count setup p + k) (held_are (n + 1) sets) ∙ sym (sum_by-cons (held_count setup) p (the_sets (n + 1) sets))

  pub lines_of_group : (os : List (List Outcome)) → os ≡ outcomes_of setup (placed_sets_in g)
      → lines_from setup 1 os ≡ flat_map (held_lines setup) (placed_sets_in g)
  lines_of_group os is = ap (lines_from setup 1) is ∙ lines_are 0 g.group.sets

  pub held_of_group : (os : List (List Outcome)) → os ≡ outcomes_of setup (placed_sets_in g) → held_from os ≡ held_in setup g
  held_of_group os is = ap held_from is ∙ held_are 0 g.group.sets

-- the first part of a list of two, and what is behind it
parts : {A : Type 0} (xs ys zs : List A) (n : ℕ) → zs ≡ xs ++ ys → n ≡ length xs
    → (n ≤ length zs) × (take n zs ≡ xs) × (drop n zs ≡ ys)
parts {A} xs ys zs n is count =
    let all : length zs ≡ length xs + length ys = ap (λ (l : List A). length l) is ∙ length-append xs ys in (
      omega (arith, all, count),
      ap (take n) is ∙ ap (λ (k : ℕ). take k (xs ++ ys)) count ∙ take-append_seam xs ys,
      ap (drop n) is ∙ ap (λ (k : ℕ). drop k (xs ++ ys)) count ∙ drop-append_seam xs ys,
    )

sets_counted : (x : JudgedValue) (g : GroupEntry) (standing : GroupStanding) (n : ℕ) (sets : List SetEnvelope)
    → length (sets_from x g standing n sets) ≡ length sets
sets_counted x g standing n [] = refl
sets_counted x g standing n (set ∷ sets) = ap suc (sets_counted x g standing (n + 1) sets)

module _ (x : JudgedValue) (n : ℕ) (d g : GroupEntry) where
  abbrev groups : List GroupEntry
  groups = x.interchange.content.groups

  abbrev here : List PlacedValue
  here = sets_from x g (standing_at x.standings n) 0 g.sets

  abbrev behind : List PlacedValue
  behind = sets_of_groups_from x (n + 1) (drop (n + 1) groups)

  -- the outcomes of the sets of a group, and of the groups after it
  pub group_parts : (setup : SetupValue) (left : List (List Outcome)) (count : ℕ) → n < length groups → g ≡ get_or groups n d
      → left ≡ outcomes_of setup (sets_of_groups_from x n (drop n groups)) → count ≡ length g.sets
      → (count ≤ length left) × (take count left ≡ outcomes_of setup here) × (drop count left ≡ outcomes_of setup behind)
  group_parts setup left count within is all counted = parts (outcomes_of setup here) (outcomes_of setup behind) left count
      (all ∙ ap (λ (gs : List GroupEntry). outcomes_of setup (sets_of_groups_from x n gs)) (drop_more groups n d within)
      ∙ ap (λ (h : GroupEntry). outcomes_of setup (sets_from x h (standing_at x.standings n) 0 h.sets ++ behind)) (sym is)
      ∙ map-append (outcomes setup) here behind)
      (counted ∙ sym (length-map here (outcomes setup) ∙ sets_counted x g (standing_at x.standings n) 0 g.sets))

  -- how many sets a group and the groups after it have
  pub groups_count : n < length groups → g ≡ get_or groups n d
      → length (sets_of_groups_from x n (drop n groups)) ≡ length g.sets + length behind
  groups_count within is =
      ap (λ (gs : List GroupEntry). length (sets_of_groups_from x n gs)) (drop_more groups n d within)
      ∙ ap (λ (h : GroupEntry). length (sets_from x h (standing_at x.standings n) 0 h.sets ++ behind)) (sym is)
      ∙ length-append here behind ∙ ap (λ (k : ℕ). k + length behind) (sets_counted x g (standing_at x.standings n) 0 g.sets)

-- the outcomes of the sets of an interchange, and of the interchanges after it
pub interchange_parts : (setup : SetupValue) (n : ℕ) (xs : List JudgedValue) (d x : JudgedValue) (left : List (List Outcome)) (count : ℕ)
    → n < length xs → x ≡ get_or xs n d → left ≡ outcomes_of setup (all_sets (drop n xs)) → count ≡ length (sets_of x)
    → (count ≤ length left) × (take count left ≡ outcomes_of setup (sets_of x))
    × (drop count left ≡ outcomes_of setup (all_sets (drop (n + 1) xs)))
interchange_parts setup n xs d x left count within is all counted =
    parts (outcomes_of setup (sets_of x)) (outcomes_of setup (all_sets (drop (n + 1) xs))) left count
    (all ∙ ap (λ (ys : List JudgedValue). outcomes_of setup (all_sets ys)) (drop_more xs n d within)
    ∙ ap (λ (y : JudgedValue). outcomes_of setup (sets_of y ++ all_sets (drop (n + 1) xs))) (sym is)
    ∙ map-append (outcomes setup) (sets_of x) (all_sets (drop (n + 1) xs)))
    (counted ∙ sym (length-map (sets_of x) (outcomes setup)))

-- an interchange has no more sets than there are outcomes left
pub sets_within : (setup : SetupValue) (n : ℕ) (xs : List JudgedValue) (d x : JudgedValue) (left : List (List Outcome))
    → n < length xs → x ≡ get_or xs n d → left ≡ outcomes_of setup (all_sets (drop n xs)) → length (sets_of x) ≤ length left
sets_within setup n xs d x left within is all = (interchange_parts setup n xs d x left (length (sets_of x)) within is all refl).0

-- what is reported of groups begins with the first of them
shown_more : (x : JudgedValue) (n : ℕ) → n < length (groups_in x)
    → shown_from x n (drop n (groups_in x)) ≡ shown_at x n ∷ shown_from x (n + 1) (drop (n + 1) (groups_in x))
shown_more x n within = ap (shown_from x n) (drop_more (groups_in x) n no_group within)

pub group_lines_on : (setup : SetupValue) (x : JudgedValue) (n : ℕ) (out new all : List ℕ) → n < length (groups_in x)
    → new ≡ out ++ group_lines setup (shown_at x n)
    → out ++ flat_map (group_lines setup) (shown_from x n (drop n (groups_in x))) ≡ all
    → new ++ flat_map (group_lines setup) (shown_from x (n + 1) (drop (n + 1) (groups_in x))) ≡ all
group_lines_on setup x n out new all within written before =
    let more : List ℕ = flat_map (group_lines setup) (shown_from x (n + 1) (drop (n + 1) (groups_in x))) in
    ap (λ (text : List ℕ). text ++ more) written ∙ append_assoc out (group_lines setup (shown_at x n)) more
    ∙ ap (λ (gs : List ShownGroup). out ++ flat_map (group_lines setup) gs) (sym (shown_more x n within)) ∙ before

pub group_totals_on : (setup : SetupValue) (x : JudgedValue) (n : ℕ) (before one now all : Totals) → n < length (groups_in x)
    → one ≡ group_totals setup (shown_at x n) → now ≡ together before one
    → added (group_totals setup) before (shown_from x n (drop n (groups_in x))) ≡ all
    → added (group_totals setup) now (shown_from x (n + 1) (drop (n + 1) (groups_in x))) ≡ all
group_totals_on setup x n before one now all within counted summed known =
    ap (λ (t : Totals). added (group_totals setup) t (shown_from x (n + 1) (drop (n + 1) (groups_in x))))
    (summed ∙ ap (together before) counted)
    ∙ ap (added (group_totals setup) before) (sym (shown_more x n within)) ∙ known
