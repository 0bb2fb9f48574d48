-- The lines of a batch's report.
use Rattle.std.proofs.Common.{◌≡◌, ℕ, suc, ◌+◌, Bool, true, false, cond, List, [], ◌∷◌, ◌++◌, length, map, refl, sym, ap}
use Rattle.std.proofs.Common.{◌∙◌, arith}
use Rattle.std.specs.Prelude.{◌&&◌, ◌||◌, Option, None, codes, is_some, nat_le, if◌then◌else◌}
use Rattle.std.specs.List.{All, flat_map}
use Rattle.std.specs.Str.{bytes_eq}
use Rattle.std.proofs.lemmas.List.{append_assoc, length-map}
use Rattle.std.proofs.lemmas.List.Elements.{All-cons, All-head, All-nil, All-tail}
use Rattle.x12_segs.specs.Words.{element_of}
use Rattle.env_index.specs.Words.{GroupEntry}
use Rattle.env_index.specs.declared.entry.SetEnvelope.{SetEnvelope}
use Rattle.x12_bytes.specs.Header.{field_of}
use Rattle.hub_kinds.specs.Words.{note_text}
use Rattle.partner_setup.specs.Setup.{SetupValue}
use Rattle.answered_sets.specs.declared.standing.GroupStanding.{GroupStanding}
use Rattle.answered_sets.specs.Answered.{is_repeatable, ta1_note}
use Rattle.answered_sets.specs.Judged.{JudgedValue, PlacedValue, all_sets, sets_of_groups_from, is_fa, is_refused, sets_from, sets_of}
use Rattle.answered_sets.specs.Judged.{standing_at}
use Rattle.night_report.specs.Lines.{answered_line, control_shown, fa_line, interchange_line, ta1_line}
use Rattle.night_report.specs.Report.{all_lines, answer_line, content_lines, first_line, group_line, group_lines, held_lines}
use Rattle.night_report.specs.Report.{interchange_lines}
use Rattle.night_report.specs.Report.{outcome_line, sender_name, shown_from}
use Rattle.whole_interchanges.specs.Moved.{moved_group, moved_set}
use Rattle.night_stream.specs.MovedSets.{moved_judged, moved_placed}
use Rattle.night_stream.proofs.Placed.{outcomes_moved}
use Rattle.night_stream.specs.Within.{IsWithinText}

all_before : (P : PlacedValue → Type 0) (xs ys : List PlacedValue) → All P (xs ++ ys) → All P xs
all_before P [] ys all = All-nil P
all_before P (x ∷ xs) ys all =
    All-cons P x xs (All-head P x (xs ++ ys) all) (all_before P xs ys (All-tail P x (xs ++ ys) all))

all_behind : (P : PlacedValue → Type 0) (xs ys : List PlacedValue) → All P (xs ++ ys) → All P ys
all_behind P [] ys all = all
all_behind P (x ∷ xs) ys all = all_behind P xs ys (All-tail P x (xs ++ ys) all)

pub sets_before : (P : PlacedValue → Type 0) (x : JudgedValue) (xs : List JudgedValue) → All P (all_sets (x ∷ xs)) → All P (sets_of x)
sets_before P x xs all = all_before P (sets_of x) (all_sets xs) all

pub sets_behind : (P : PlacedValue → Type 0) (x : JudgedValue) (xs : List JudgedValue) → All P (all_sets (x ∷ xs)) → All P (all_sets xs)
sets_behind P x xs all = all_behind P (sets_of x) (all_sets xs) all

-- the note of an interchange by its number of groups
abbrev by_count : JudgedValue → ℕ → Option (List ℕ)
by_count x n =
    if is_some x.sender && is_repeatable x.interchange.header
    && (is_some x.fault || (bytes_eq (field_of x.interchange.header 14) (codes "1") && nat_le 1 n))
    then note_text x.fault else None

module _ (setup : SetupValue) (before behind : List ℕ) where
  abbrev by : ℕ
  by = length before

  abbrev judged : JudgedValue → JudgedValue
  judged x = moved_judged before behind x

  held_moved : (p : PlacedValue) → IsWithinText p → held_lines setup (moved_placed before behind p) ≡ held_lines setup p
  held_moved p within = ap (flat_map (outcome_line setup (p.index + 1))) (outcomes_moved before behind setup p within)

  sets_lines_moved : (x : JudgedValue) (g : GroupEntry) (standing : GroupStanding) (n : ℕ) (sets : List SetEnvelope)
      → All IsWithinText (sets_from x g standing n sets)
      → flat_map (held_lines setup) (sets_from (judged x) (moved_group by g) standing n (map (moved_set by) sets))
      ≡ flat_map (held_lines setup) (sets_from x g standing n sets)
  sets_lines_moved x g standing n [] all = refl
  sets_lines_moved x g standing n (set ∷ sets) all =
      let p : PlacedValue = record { interchange = x; group = g; standing = standing; index = n; set = set } in
      let rest : List PlacedValue = sets_from x g standing (n + 1) sets in
      ap (λ (t : List ℕ). t ++ flat_map (held_lines setup) (sets_from (judged x) (moved_group by g) standing (n + 1) (map
      (moved_set by) sets)))
      (held_moved p (All-head IsWithinText p rest all))
      ∙ ap (λ (t : List ℕ). held_lines setup p ++ t) (sets_lines_moved x g standing (n + 1) sets (All-tail IsWithinText p rest all))

  line_moved : (g : GroupEntry) (standing : GroupStanding) → group_line (moved_group by g) standing ≡ group_line g standing
  line_moved g standing =
      ap (λ (n : ℕ). cond (is_fa g)
      (fa_line (element_of g.header 6) n)
      (answered_line (element_of g.header 1)
      (element_of g.header 6) standing.verdict n standing.accepted)) (length-map g.sets (moved_set by))

  groups_lines_moved : (x : JudgedValue) (n : ℕ) (gs : List GroupEntry) → All IsWithinText (sets_of_groups_from x n gs)
      → flat_map (group_lines setup) (shown_from (judged x) n (map (moved_group by) gs)) ≡ flat_map (group_lines setup) (shown_from x n gs)
  groups_lines_moved x n [] all = refl
  groups_lines_moved x n (g ∷ gs) all =
      let standing : GroupStanding = standing_at x.standings n in
      let sets : List PlacedValue = sets_from x g standing 0 g.sets in
      let rest : List ℕ = flat_map (group_lines setup) (shown_from (judged x) (n + 1) (map (moved_group by) gs)) in
      ap (λ (t : List ℕ). (t ++ flat_map (held_lines setup) (sets_from (judged x) (moved_group by g) standing 0 (map
      (moved_set by) g.sets))) ++ rest)
      (line_moved g standing)
      ∙ ap (λ (t : List ℕ). (group_line g standing ++ t) ++ rest)
      (sets_lines_moved x g standing 0 g.sets (all_before IsWithinText sets (sets_of_groups_from x (n + 1) gs) all))
      ∙ ap (λ (t : List ℕ). (group_line g standing ++ flat_map (held_lines setup) sets) ++ t)
      (groups_lines_moved x (n + 1) gs (all_behind IsWithinText sets (sets_of_groups_from x (n + 1) gs) all))

  content_moved : (x : JudgedValue) → All IsWithinText (sets_of x) → content_lines setup (judged x) ≡ content_lines setup x
  content_moved x all = by_test (is_refused x)
    where
      by_test : (b : Bool) → cond b [] (ta1_line x.interchange.content.ta1s
          ++ flat_map (group_lines setup) (cond b [] (shown_from (judged x) 0 (map (moved_group by) x.interchange.content.groups))))
          ≡ cond b [] (ta1_line x.interchange.content.ta1s
          ++ flat_map (group_lines setup) (cond b [] (shown_from x 0 x.interchange.content.groups)))
      by_test true = refl
      by_test false = ap (λ (t : List ℕ). ta1_line x.interchange.content.ta1s ++ t)
          (groups_lines_moved x 0 x.interchange.content.groups all)

  -- an interchange is answered as it is in its batch
  note_moved : (x : JudgedValue)
      → ta1_note (judged x).sender (judged x).fault (judged x).interchange ≡ ta1_note x.sender x.fault x.interchange
  note_moved x =
      ap (λ (n : ℕ). by_count x n) (length-map x.interchange.content.groups (moved_group by))

  -- the lines after its first
  abbrev rest_of : JudgedValue → List ℕ
  rest_of x = answer_line (ta1_note x.sender x.fault x.interchange) ++ content_lines setup x

  rest_moved : (x : JudgedValue) → All IsWithinText (sets_of x) → rest_of (judged x) ≡ rest_of x
  rest_moved x all =
      ap (λ (o : Option (List ℕ)). answer_line o ++ content_lines setup (judged x)) (note_moved x)
      ∙ ap (λ (t : List ℕ). answer_line (ta1_note x.sender x.fault x.interchange) ++ t) (content_moved x all)

  first_moved : (n : ℕ) (x : JudgedValue) → first_line setup 0 n (judged x) ≡ first_line setup by n x
  first_moved n x =
      ap (λ (start : ℕ). interchange_line n start (sender_name setup x.sender) (control_shown x.interchange.header) x.fault)
      (at_offset (by + x.interchange.start))
    where
      at_offset : (start : ℕ) → 0 + start ≡ start
      at_offset start = omega arith

  one_moved : (n : ℕ) (x : JudgedValue) → All IsWithinText (sets_of x)
      → interchange_lines setup 0 n (judged x) ≡ interchange_lines setup by n x
  one_moved n x all =
      append_assoc (first_line setup 0 n (judged x)) (answer_line (ta1_note (judged x).sender (judged x).fault (judged x).interchange))
      (content_lines setup (judged x))
      ∙ ap (λ (t : List ℕ). t ++ rest_of (judged x)) (first_moved n x)
      ∙ ap (λ (t : List ℕ). first_line setup by n x ++ t) (rest_moved x all)
      ∙ sym (append_assoc (first_line setup by n x) (answer_line (ta1_note x.sender x.fault x.interchange)) (content_lines setup x))

  pub lines_moved : (n : ℕ) (xs : List JudgedValue) → All IsWithinText (all_sets xs)
      → all_lines setup 0 n (map judged xs) ≡ all_lines setup by n xs
  lines_moved n [] all = refl
  lines_moved n (x ∷ xs) all =
      ap (λ (t : List ℕ). t ++ all_lines setup 0 (n + 1) (map judged xs)) (one_moved n x (sets_before IsWithinText x xs all))
      ∙ ap (λ (t : List ℕ). interchange_lines setup by n x ++ t) (lines_moved (n + 1) xs (sets_behind IsWithinText x xs all))
