-- Acknowledgments don't say where an interchange stands.
use Rattle.std.proofs.Common.{◌≡◌, ℕ, ◌+◌, Bool, true, false, cond, List, [], ◌∷◌, ◌++◌, Some, None, length, map}
use Rattle.std.proofs.Common.{refl, sym, ap, ◌∙◌}
use Rattle.std.specs.Prelude.{◌&&◌, ◌||◌, codes, is_some, nat_le, if◌then◌else◌}
use Rattle.std.specs.Str.{bytes_eq}
use Rattle.std.proofs.lemmas.List.{length-map}
use Rattle.x12_bytes.specs.Header.{field_of}
use Rattle.hub_kinds.specs.Words.{note_text}
use Rattle.count_numbers.specs.Num.{num}
use Rattle.partner_setup.specs.declared.partner.Partner.{Partner}
use Rattle.partner_setup.specs.Envelopes.{envelope_to}
use Rattle.partner_setup.specs.Setup.{SetupValue}
use Rattle.answered_sets.specs.Answered.{is_repeatable}
use Rattle.whole_interchanges.specs.Moved.{moved_group}
use Rattle.set_answers.specs.Acknowledgments.{Acknowledgment, acknowledgment_text, acknowledgment_group_count}
use Rattle.set_answers.specs.CheckedText.{AreAcknowledgments, CheckedInterchange, SentValues, acknowledged_to, acknowledgment_of}
use Rattle.set_answers.specs.CheckedText.{acknowledgments_from, acknowledgments_to, groups_to, is_acknowledged_to, is_partner}
use Rattle.set_answers.specs.CheckedText.{recipient_by}
use Rattle.night_stream.specs.MovedAnswers.{moved_answered}

-- the acknowledgment of an interchange with so many groups
abbrev acknowledged_with : CheckedInterchange → ℕ → Acknowledgment
acknowledged_with x groups = record {
  header = x.entry.interchange.header;
  note = if is_some x.sender && is_repeatable x.entry.interchange.header
      && (is_some x.entry.fault || (bytes_eq (field_of x.entry.interchange.header 14) (codes "1") && nat_le 1 groups))
      then note_text x.entry.fault else None;
  groups = x.groups;
}

module _ (by : ℕ) where
  abbrev moved : CheckedInterchange → CheckedInterchange
  moved = moved_answered by

  same_acknowledgment : (x : CheckedInterchange) → acknowledgment_of (moved x) ≡ acknowledgment_of x
  same_acknowledgment x = ap (acknowledged_with x) (length-map x.entry.interchange.content.groups (moved_group by))

  module _ (place : ℕ) where
    -- what a partner is sent
    abbrev sent : List CheckedInterchange → List Acknowledgment
    sent xs = map acknowledgment_of (acknowledged_to place xs)

    same_recipient : (x : CheckedInterchange) → is_acknowledged_to place (moved x) ≡ is_acknowledged_to place x
    same_recipient x = ap (λ (a : Acknowledgment). is_partner place (recipient_by x.sender a)) (same_acknowledgment x)

    sent_moved : (xs : List CheckedInterchange) → sent (map moved xs) ≡ sent xs
    sent_moved [] = refl
    sent_moved (x ∷ xs) =
        ap (λ (b : Bool).
        map acknowledgment_of (cond b (moved x ∷ acknowledged_to place (map moved xs)) (acknowledged_to place (map moved xs))))
        (same_recipient x)
        ∙ by_test (is_acknowledged_to place x) (sent_moved xs)
      where
        by_test : (b : Bool) → sent (map moved xs) ≡ sent xs
            → map acknowledgment_of (cond b (moved x ∷ acknowledged_to place (map moved xs)) (acknowledged_to place (map moved xs)))
            ≡ map acknowledgment_of (cond b (x ∷ acknowledged_to place xs) (acknowledged_to place xs))
        by_test true same = ap (λ (a : Acknowledgment). a ∷ sent (map moved xs)) (same_acknowledgment x)
            ∙ ap (λ (more : List Acknowledgment). acknowledgment_of x ∷ more) same
        by_test false same = same

    sent_behind : (done xs : List CheckedInterchange) → sent (done ++ map moved xs) ≡ sent (done ++ xs)
    sent_behind [] xs = sent_moved xs
    sent_behind (d ∷ done) xs = by_test (is_acknowledged_to place d) (sent_behind done xs)
      where
        by_test : (b : Bool) → sent (done ++ map moved xs) ≡ sent (done ++ xs)
            → map acknowledgment_of
            (cond b (d ∷ acknowledged_to place (done ++ map moved xs)) (acknowledged_to place (done ++ map moved xs)))
            ≡ map acknowledgment_of (cond b (d ∷ acknowledged_to place (done ++ xs)) (acknowledged_to place (done ++ xs)))
        by_test true same = ap (λ (more : List Acknowledgment). acknowledgment_of d ∷ more) same
        by_test false same = same

-- what is sent follows from the acknowledgments alone
abbrev texts_from : SetupValue → Partner → (at : List ℕ) → (k g : ℕ) → List Acknowledgment → List ℕ
texts_from setup partner at k g [] = []
texts_from setup partner at k g (a ∷ more) =
    acknowledgment_text (envelope_to setup partner) at (num partner.counters.interchange k) (num partner.counters.group g) a
    ++ texts_from setup partner at (k + 1) (g + acknowledgment_group_count a) more

abbrev groups_among : List Acknowledgment → ℕ
groups_among [] = 0
groups_among (a ∷ more) = acknowledgment_group_count a + groups_among more

texts_told : (setup : SetupValue) (partner : Partner) (at : List ℕ) (k g : ℕ) (xs : List CheckedInterchange)
    → acknowledgments_from setup partner at k g xs ≡ texts_from setup partner at k g (map acknowledgment_of xs)
texts_told setup partner at k g [] = refl
texts_told setup partner at k g (x ∷ xs) =
    ap (λ (t : List ℕ). acknowledgment_text (envelope_to setup partner) at (num partner.counters.interchange k)
    (num partner.counters.group g) (acknowledgment_of x) ++ t)
    (texts_told setup partner at (k + 1) (g + acknowledgment_group_count (acknowledgment_of x)) xs)

groups_told : (xs : List CheckedInterchange) → groups_to xs ≡ groups_among (map acknowledgment_of xs)
groups_told [] = refl
groups_told (x ∷ xs) = ap (λ (n : ℕ). acknowledgment_group_count (acknowledgment_of x) + n) (groups_told xs)

module _ (setup : SetupValue) (at : List ℕ) (place : ℕ) (partner : Partner) where
  abbrev sent_by : List Acknowledgment → SentValues
  sent_by acknowledgments = record {
    text = texts_from setup partner at 0 0 acknowledgments;
    count = length acknowledgments;
    groups = groups_among acknowledgments;
  }

  all_told : (xs : List CheckedInterchange)
      → acknowledgments_to setup at xs place partner ≡ sent_by (map acknowledgment_of (acknowledged_to place xs))
  all_told xs =
      let kept : List CheckedInterchange = acknowledged_to place xs in
      let values : List ℕ → ℕ → ℕ → SentValues = λ t n m. record { text = t; count = n; groups = m } in
      ap (λ (t : List ℕ). values t (length kept) (groups_to kept)) (texts_told setup partner at 0 0 kept)
      ∙ ap (λ (n : ℕ). values (texts_from setup partner at 0 0 (map acknowledgment_of kept)) n (groups_to kept))
      (sym (length-map kept acknowledgment_of))
      ∙ ap (values (texts_from setup partner at 0 0 (map acknowledgment_of kept)) (length (map acknowledgment_of kept)))
      (groups_told kept)

pub filed_moved : (by : ℕ) (setup : SetupValue) (at : List ℕ) (done xs : List CheckedInterchange) (files : List SentValues)
    → AreAcknowledgments setup at (done ++ xs) files → AreAcknowledgments setup at (done ++ map (moved_answered by) xs) files
filed_moved by setup at done xs files are = record {
  count = are.count;
  each = λ place partner there. are.each place partner there
      ∙ ap (λ (s : SentValues). Some s)
      (all_told setup at place partner (done ++ xs)
      ∙ ap (sent_by setup at place partner) (sym (sent_behind by place done xs))
      ∙ sym (all_told setup at place partner (done ++ map (moved_answered by) xs)));
}
