-- Delivered sets that were written batch by batch.
use Rattle.std.proofs.Common.{◌≡◌, ℕ, suc, ◌+◌, Bool, true, false, cond, List, [], ◌∷◌, ◌++◌, length, map, refl, sym, ap, ◌∙◌, arith}
use Rattle.std.specs.Prelude.{filter}
use Rattle.std.specs.List.{All}
use Rattle.std.proofs.lemmas.List.{append_assoc}
use Rattle.std.proofs.lemmas.List.Elements.{filter-append, All-append, All-cons, All-head, All-nil, All-tail}
use Rattle.count_numbers.specs.Num.{num}
use Rattle.x12_bytes.specs.Header.{header_delims}
use Rattle.x12_segs.specs.Words.{IsSetSpan}
use Rattle.env_index.specs.declared.entry.SetEnvelope.{SetEnvelope}
use Rattle.env_index.specs.Words.{GroupEntry, HasSpans, span_of}
use Rattle.partner_setup.specs.declared.partner.Partner.{Partner}
use Rattle.partner_setup.specs.Setup.{SetupValue}
use Rattle.answered_sets.specs.declared.standing.GroupStanding.{GroupStanding}
use Rattle.mailbox.specs.Deliveries.{delivered_to, is_delivered_to}
use Rattle.answered_sets.specs.Judged.{JudgedValue, PlacedValue, all_sets, sets_of_groups_from, sets_from, sets_of, standing_at}
use Rattle.mailbox.specs.Numbered.{group_key_of}
use Rattle.set_answers.specs.CheckedText.{CheckedInterchange, judged}
use Rattle.night_stream.specs.MovedSets.{moved_placed}
use Rattle.mailbox.specs.Rendered.{RenderedValue, rendered, rendered_from}
use Rattle.night_stream.proofs.Placed.{text_moved}
use Rattle.night_stream.specs.Within.{IsWithinText}

pub rendered_joined : (partner : Partner) (k : ℕ) (xs ys : List PlacedValue)
    → rendered_from partner k (xs ++ ys) ≡ rendered_from partner k xs ++ rendered_from partner (k + length xs) ys
rendered_joined partner k [] ys = ap (λ (n : ℕ). rendered_from partner n ys) (let z : k ≡ k + 0 = omega arith in z)
rendered_joined partner k (x ∷ xs) ys =
    let further : k + 1 + length xs ≡ k + suc (length xs) = omega arith in
    ap (λ (l : List RenderedValue). rendered partner k x ∷ l) (rendered_joined partner (k + 1) xs ys
    ∙ ap (λ (n : ℕ). rendered_from partner (k + 1) xs ++ rendered_from partner n ys) further)

pub rendered_moved : (before behind : List ℕ) (partner : Partner) (k : ℕ) (xs : List PlacedValue) → All IsWithinText xs
    → rendered_from partner k (map (moved_placed before behind) xs) ≡ rendered_from partner k xs
rendered_moved before behind partner k [] all = refl
rendered_moved before behind partner k (x ∷ xs) all =
    ap (λ (t : List ℕ). (let r : RenderedValue = record { key = group_key_of x; text = t } in r)
    ∷ rendered_from partner (k + 1) (map (moved_placed before behind) xs))
    (text_moved before behind partner.delims x (num partner.counters.set k) (All-head IsWithinText x xs all))
    ∙ ap (λ (l : List RenderedValue). rendered partner k x ∷ l)
    (rendered_moved before behind partner (k + 1) xs (All-tail IsWithinText x xs all))

sets-append : (xs ys : List JudgedValue) → all_sets (xs ++ ys) ≡ all_sets xs ++ all_sets ys
sets-append [] ys = refl
sets-append (x ∷ xs) ys = ap (λ l. sets_of x ++ l) (sets-append xs ys) ∙ sym (append_assoc (sets_of x) (all_sets xs) (all_sets ys))

pub delivered_joined : (setup : SetupValue) (place : ℕ) (xs ys : List JudgedValue)
    → delivered_to setup place (xs ++ ys) ≡ delivered_to setup place xs ++ delivered_to setup place ys
delivered_joined setup place xs ys =
    ap (filter (is_delivered_to setup place)) (sets-append xs ys) ∙ filter-append (is_delivered_to setup place) (all_sets xs) (all_sets ys)

pub all_filtered : (P : PlacedValue → Type 0) (p : PlacedValue → Bool) (xs : List PlacedValue) → All P xs → All P (filter p xs)
all_filtered P p [] all = All-nil P
all_filtered P p (x ∷ xs) all = by_test (p x) (all_filtered P p xs (All-tail P x xs all))
  where
    by_test : (b : Bool) → All P (filter p xs) → All P (cond b (x ∷ filter p xs) (filter p xs))
    by_test true more = All-cons P x (filter p xs) (All-head P x xs all) more
    by_test false more = more

-- sets that have spans stand in their text
module _ (x : JudgedValue) where
  abbrev HasSpan : SetEnvelope → Type 0
  HasSpan set = IsSetSpan x.text (span_of (header_delims x.interchange.header) set)

  sets_within : (g : GroupEntry) (standing : GroupStanding) (n : ℕ) (sets : List SetEnvelope) → All HasSpan sets
      → All IsWithinText (sets_from x g standing n sets)
  sets_within g standing n [] all = All-nil IsWithinText
  sets_within g standing n (set ∷ sets) all =
      All-cons IsWithinText (record { interchange = x; group = g; standing = standing; index = n; set = set }) (sets_from x g standing
      (n + 1) sets)
      (All-head HasSpan set sets all).within (sets_within g standing (n + 1) sets (All-tail HasSpan set sets all))

  groups_within : (n : ℕ) (gs : List GroupEntry) → All (λ g. All HasSpan g.sets) gs → All IsWithinText (sets_of_groups_from x n gs)
  groups_within n [] all = All-nil IsWithinText
  groups_within n (g ∷ gs) all =
      All-append IsWithinText (sets_from x g (standing_at x.standings n) 0 g.sets) (sets_of_groups_from x (n + 1) gs)
      (sets_within g (standing_at x.standings n) 0 g.sets (All-head (λ g. All HasSpan g.sets) g gs all))
      (groups_within (n + 1) gs (All-tail (λ g. All HasSpan g.sets) g gs all))

pub all_within : (text : List ℕ) (known : List CheckedInterchange) → All (λ x. HasSpans text x.entry.interchange) known
    → All IsWithinText (all_sets (map (judged text) known))
all_within text [] all = All-nil IsWithinText
all_within text (x ∷ xs) all =
    All-append IsWithinText (sets_of (judged text x)) (all_sets (map (judged text) xs))
    (groups_within (judged text x) 0 x.entry.interchange.content.groups (All-head (λ x. HasSpans text x.entry.interchange) x xs all))
    (all_within text xs (All-tail (λ x. HasSpans text x.entry.interchange) x xs all))
