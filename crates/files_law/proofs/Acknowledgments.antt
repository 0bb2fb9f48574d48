-- X12.5, interchange: an acknowledgment, as an interchange that is written.
use Rattle.std.proofs.Common.{◌≡◌, ℕ, ◌≤◌, Bool, true, List, [], ◌∷◌, ◌++◌, length, Option, Some, None, refl, sym, ap, subst, ◌∙◌, arith}
use Rattle.std.proofs.Common.{append_assoc, append-nil}
use Rattle.std.specs.Prelude.{◌&&◌, ◌==◌, codes, decimal, option_map}
use Rattle.std.specs.List.{All, flat_map, list_all}
use Rattle.std.specs.Char.{is_ascii_uppercase}
use Rattle.std.proofs.lemmas.Bool.{and_from}
use Rattle.std.proofs.lemmas.List.Elements.{All-cons, All-nil}
use Rattle.x12_bytes.specs.declared.delims.Delims.{Delims}
use Rattle.x12_segs.specs.Words.{part_or_empty}
use Rattle.x12_segs.specs.declared.kind.Kind.TheVariants.{Ta1}
use Rattle.hub_kinds.specs.Words.{is_number, is_word}
use Rattle.hub_kinds.specs.declared.interchange.InterchangeFault.{InterchangeFault}
use Rattle.moment.specs.Moment.{IsMoment}
use Rattle.x12_write.specs.declared.envelope.Envelope.{Envelope}
use Rattle.x12_write.specs.Group.{texts_in_row}
use Rattle.x12_write.specs.Header.{header_text}
use Rattle.x12_write.specs.Number.{padded_number}
use Rattle.x12_write.specs.Segment.{segment_text}
use Rattle.ack_999.specs.Interchange.{group_count, group_part, interchange_text, ta1_part}
use Rattle.ack_999.specs.ReadBack.{written_parts}
use Rattle.ack_999.specs.Ta1.{ta1_text}
use Rattle.env_index.specs.Words.{InterchangeEntry}
use Rattle.answered_sets.specs.Answered.{ta1_note}
use Rattle.partner_setup.specs.declared.partner.Partner.{Partner}
use Rattle.partner_setup.specs.Envelopes.{envelope_to}
use Rattle.partner_setup.specs.Setup.{SetupValue}
use Rattle.partner_setup.specs.SetupFaults.{are_ids}
use Rattle.partner_setup.specs.Sound.{IsSoundPartner}
use Rattle.partner_setup.proofs.ForAbove.{sendable}
use Rattle.night_law.proofs.ForAbove.{ge, gs, gs_elements, iea, readable_ge, readable_gs, readable_iea, readable_ta1, repeated, ta1}
use Rattle.night_law.proofs.ForAbove.{trimmed_at}
use Rattle.files_law.specs.Whole.{Elements, IsWholeGroup, IsWholeSet, Whole, WholeGroup, WholeSet, group_segments, is_gs, kind_by}
use Rattle.files_law.specs.Whole.{set_segments, whole_segments}
use Rattle.files_law.specs.Written.{BeginsOtherwise, IsWritten, Written, written_text}
use Rattle.files_law.proofs.Digits.{decimal_read}
use Rattle.files_law.proofs.Rows.{IsRow, both_rows, no_row, one_row}

-- a text is an interchange that is written, with no segment that begins as a header
pub record AsWritten (text : List ℕ) : Type 0 where
  pub w : Written
  pub is : written_text w ≡ text
  pub written : IsWritten w
  pub other : All BeginsOtherwise w.segments

-- TA1s, or none
pub record AreTa1s (d : Delims) (text : List ℕ) : Type 0 where
  pub es : List Elements
  pub row : IsRow d text es
  pub kinds : All (λ x. kind_by x ≡ Ta1) es

-- 999s
pub record AreReports (d : Delims) (reports : List (List ℕ)) : Type 0 where
  pub sets : List WholeSet
  pub row : IsRow d (texts_in_row reports) (flat_map set_segments sets)
  pub whole : All IsWholeSet sets

module _ (setup : SetupValue) (p : Partner) (count : ℕ) (hub_ids : are_ids setup.hub.qualifier setup.hub.id setup.hub.code ≡ true)
    (sound : IsSoundPartner count p) (at : List ℕ) (moment : IsMoment at) where
  abbrev d : Delims
  d = p.delims

  abbrev e : Envelope
  e = envelope_to setup p

  gs_row : (control : ℕ) → IsRow d (segment_text d (gs e at control).id (gs e at control).elements) (written_parts (gs e at control) ∷ [])
  gs_row control =
      one_row d (gs e at control) sound.divides (readable_gs setup p count hub_ids sound at moment control)
      (record { long = omega arith; other = refl })

  ge_row : (reports control : ℕ) → IsRow d (segment_text d (ge reports control).id (ge reports control).elements)
      (written_parts (ge reports control) ∷ [])
  ge_row reports control =
      one_row d (ge reports control) sound.divides (readable_ge setup p count hub_ids sound at moment reports control)
      (record { long = omega arith; other = refl })

  pub iea_row : (groups number : ℕ) → IsRow d (segment_text d (iea groups number).id (iea groups number).elements)
      (written_parts (iea groups number) ∷ [])
  iea_row groups number =
      one_row d (iea groups number) sound.divides (readable_iea setup p count hub_ids sound at moment groups number)
      (record { long = omega arith; other = refl })

  pub ta1_row : (sender : Option ℕ) (fault : Option InterchangeFault) (x : InterchangeEntry) (note : Option (List ℕ))
      → ta1_note sender fault x ≡ note → AreTa1s d (ta1_part (option_map (ta1_text d x.header) note))
  ta1_row sender fault x None is = record { es = []; row = no_row d; kinds = All-nil (λ x. kind_by x ≡ Ta1) }
  ta1_row sender fault x (Some note) is =
      let noted = repeated sender fault x note is in
      let one : Elements = written_parts (ta1 x.header note) in
      record {
        es = one ∷ [];
        row = one_row d (ta1 x.header note) sound.divides
            (readable_ta1 setup p count hub_ids sound at moment x.header note noted.control noted.day noted.time noted.said)
            (record { long = omega arith; other = refl });
        kinds = All-cons (λ x. kind_by x ≡ Ta1) one [] refl (All-nil (λ x. kind_by x ≡ Ta1));
      }

  abbrev one_group : (control : ℕ) → List (List ℕ) → List WholeSet → WholeGroup
  one_group control reports sets =
      record { header = written_parts (gs e at control); sets = sets; trailer = written_parts (ge (length reports) control) }

  abbrev groups_for : (control : ℕ) → List (List ℕ) → List WholeSet → List WholeGroup
  groups_for control [] sets = []
  groups_for control (report ∷ reports) sets = one_group control (report ∷ reports) sets ∷ []

  group_row : (control : ℕ) (reports : List (List ℕ)) (sets : List WholeSet) → IsRow d (texts_in_row reports) (flat_map set_segments sets)
      → IsRow d (group_part e at control reports) (flat_map group_segments (groups_for control reports sets))
  group_row control [] sets row = no_row d
  group_row control (report ∷ reports) sets row =
      let all : List (List ℕ) = report ∷ reports in
      let first : List ℕ = segment_text d (gs e at control).id (gs e at control).elements in
      let n : ℕ = length all in
      let last : List ℕ = segment_text d (ge n control).id (ge n control).elements in
      let inner : List Elements = flat_map set_segments sets in
      let front : Elements = written_parts (gs e at control) in
      let made : IsRow d ((first ++ texts_in_row all) ++ last) (group_segments (one_group control all sets)) =
      both_rows d (first ++ texts_in_row all) last (front ∷ inner) (written_parts (ge n control) ∷ [])
      (both_rows d first (texts_in_row all) (front ∷ []) inner (gs_row control) row) (ge_row n control) in
      subst (IsRow d (group_part e at control all)) (sym (append-nil (group_segments (one_group control all sets)))) made

  gs_is : (control : ℕ) → control ≤ 999999999 → is_gs (written_parts (gs e at control)) ≡ true
  gs_is control small =
      let f : List ℕ → List ℕ → List ℕ → Bool =
      λ a b c. (length a == 2) && list_all is_ascii_uppercase a && is_number 9 b && is_word 1 12 c in
      let els : List (List ℕ) = gs_elements e at control in
      let es : Elements = written_parts (gs e at control) in
      let fa : List ℕ = codes "FA" in
      ap (λ (a : List ℕ). f a (part_or_empty es 6) (part_or_empty es 8)) (trimmed_at els 0)
      ∙ ap (λ (b : List ℕ). f fa b (part_or_empty es 8)) (trimmed_at els 5)
      ∙ ap (λ (c : List ℕ). f fa (decimal control) c) (trimmed_at els 7)
      ∙ and_from ((length fa == 2) && list_all is_ascii_uppercase fa && is_number 9 (decimal control)) (is_word 1 12 (codes "005010X231"))
      (and_from ((length fa == 2) && list_all is_ascii_uppercase fa) (is_number 9 (decimal control)) refl
      (decimal_read 9 control (omega arith) (omega arith) (omega arith)).0) refl

  groups_whole : (control : ℕ) → control ≤ 999999999 → (reports : List (List ℕ)) (sets : List WholeSet) → All IsWholeSet sets
      → All IsWholeGroup (groups_for control reports sets)
  groups_whole control small [] sets all = All-nil IsWholeGroup
  groups_whole control small (report ∷ reports) sets all =
      All-cons IsWholeGroup (one_group control (report ∷ reports) sets) []
      (record { kind = refl; header = gs_is control small; sets = all; trailer = refl }) (All-nil IsWholeGroup)

  groups_counted : (control : ℕ) (reports : List (List ℕ)) (sets : List WholeSet)
      → group_count reports ≡ length (groups_for control reports sets)
  groups_counted control [] sets = refl
  groups_counted control (report ∷ reports) sets = refl

  groups_few : (reports : List (List ℕ)) → group_count reports ≤ 99999
  groups_few [] = omega arith
  groups_few (report ∷ reports) = omega arith

  -- an interchange with a TA1, or 999s, or both
  pub interchange_written : (number control : ℕ) → number ≤ 999999999 → control ≤ 999999999 → (answer : Option (List ℕ))
      (reports : List (List ℕ)) → AreTa1s d (ta1_part answer) → AreReports d reports
      → AsWritten (interchange_text e at number control answer reports)
  interchange_written number control nine small answer reports ta1s told =
      let head : List ℕ = header_text e at number in
      let n : ℕ = group_count reports in
      let end : List ℕ = segment_text d (iea n number).id (iea n number).elements in
      let group : List ℕ = group_part e at control reports in
      let groups : List WholeGroup = groups_for control reports told.sets in
      let whole : Whole = record { ta1s = ta1s.es; groups = groups; trailer = written_parts (iea n number) } in
      let els : List (List ℕ) = decimal n ∷ padded_number 9 number ∷ [] in
      let row : IsRow d (ta1_part answer ++ (group ++ end)) (whole_segments whole) =
      both_rows d (ta1_part answer) (group ++ end) ta1s.es (flat_map group_segments groups ++ written_parts (iea n number) ∷ []) ta1s.row
      (both_rows d group end (flat_map group_segments groups) (written_parts (iea n number) ∷ [])
      (group_row control reports told.sets told.row)
      (iea_row n number)) in
      let same : n ≡ length groups = groups_counted control reports told.sets in
      let few : n ≤ 99999 = groups_few reports in
      record {
        w = record { envelope = e; at = at; number = number; segments = row.segments; whole = whole };
        is = ap (λ (t : List ℕ). head ++ t) (sym row.is) ∙ sym (append_assoc head (ta1_part answer) (group ++ end))
            ∙ sym (append_assoc (head ++ ta1_part answer) group end);
        written = record {
          sendable = sendable count setup.hub p hub_ids sound;
          moment = moment;
          nine = nine;
          each = row.each;
          elements = row.elements;
          whole = record {
            ta1s = ta1s.kinds;
            groups = groups_whole control small reports told.sets told.whole;
            few = subst (λ (m : ℕ). m ≤ 99999) same few;
            kind = refl;
            counted = trimmed_at els 0 ∙ ap decimal same;
            numbered = trimmed_at els 1;
          };
        };
        other = row.other;
      }
