-- The bytes that report a set, and the 999 of a group.
use Rattle.std.proofs.Common.{◌≡◌, ◌↔◌, ℕ, Bool, true, false, ◌&&◌, List, [], ◌∷◌, ◌++◌, Option, map}
use Rattle.std.proofs.Common.{refl, sym, ap, ◌∙◌, arith, append-nil, true≢false}
use Rattle.std.specs.Prelude.{codes, slice_index_or, if◌then◌else◌}
use Rattle.std.specs.List.{flat_map, list_all}
use Rattle.std.specs.Str.{bytes_eq}
use Rattle.std.proofs.lemmas.List.Concat.{flat_map-append}
use Rattle.std.proofs.lemmas.List.Folds.{flat_map-map}
use Rattle.x12_bytes.specs.declared.delims.Delims.{Delims}
use Rattle.x12_segs.specs.Words.{SegValue}
use Rattle.x12_segs.specs.declared.set_span.SetSpan.{SetSpan}
use Rattle.x12_write.specs.Segment.{WrittenSegment, elements_text, segment, segment_text, trimmed}
use Rattle.hub_kinds.specs.Words.{set_code_text, verdict_text}
use Rattle.hub_kinds.specs.declared.answers.SetAnswer.{SetAnswer}
use Rattle.hub_kinds.specs.declared.fault.Fault.{Fault}
use Rattle.hub_kinds.specs.declared.set_codes.SetCode.{SetCode}
use Rattle.hub_kinds.specs.declared.set_codes.Verdict.{Verdict}
use Rattle.hub_kinds.specs.declared.set_codes.Verdict.TheVariants.{Accepted, AcceptedWithErrors, Rejected}
use Rattle.env_index.specs.Words.{span_of}
use Rattle.env_index.specs.declared.entry.SetEnvelope.{SetEnvelope}
use Rattle.guide_tree.specs.Words.{GuideTree}
use Rattle.set_check.specs.Checked.{Checked, guide_in, parts_in}
use Rattle.set_check.specs.SetParts.{SetParts, set_parts}
use Rattle.set_check.specs.Verdict.{tells_of_faults, tolerates, verdict_on}
use Rattle.ack_999.specs.Faults.{fault_segments, note_segment, notes, notes_text}
use Rattle.ack_999.specs.Report.{convention_text, set_response, set_text}
use Rattle.set_answers.specs.Answers.{IsSetAnswer, SentValue}
use Rattle.night_law.specs.Meets.{IsToldAccepted, Meets}
use Rattle.night_law.proofs.Accepted.{accepted_as_it_meets}
use Rattle.night_law.specs.Told.{IsSetTold, SaysAccepted, accepted_closing, set_closing, set_opening}
use Rattle.night_law.proofs.Headers.{HasHeader}

-- the text of a set is its AK2, its notes and its IK5
loop_parts : (d : Delims) (s : SetAnswer)
    → set_text d s ≡ segment_text d (codes "AK2") (s.identifier ∷ s.control ∷ convention_text s.convention ∷ [])
    ++ notes_text d (notes s.faults) ++ set_closing d s.verdict s.codes
loop_parts d s =
    let f : WrittenSegment → List ℕ = λ s. segment_text d s.id s.elements in
    let first : WrittenSegment = segment (codes "AK2") (s.identifier ∷ s.control ∷ convention_text s.convention ∷ []) in
    flat_map-append f (first ∷ fault_segments d s.faults) (set_response s ∷ [])
    ∙ ap (λ (t : List ℕ). (f first ++ flat_map f (fault_segments d s.faults)) ++ t) (append-nil (set_closing d s.verdict s.codes))
    ∙ ap (λ (t : List ℕ). (f first ++ t) ++ set_closing d s.verdict s.codes) (flat_map-map f (note_segment d) (notes s.faults))

-- an IK5 that begins with A has the verdict A
accepted_by_bytes : (d : Delims) (v : Verdict) (set_codes : List SetCode) → SaysAccepted d (set_closing d v set_codes)
    → verdict_text v ≡ codes "A"
accepted_by_bytes d Accepted set_codes says = refl
accepted_by_bytes d AcceptedWithErrors set_codes says =
    let bad : 69 ≡ 65 = ap (λ (t : List ℕ). slice_index_or t 4 0) says.1 in absurd (omega (arith, bad))
accepted_by_bytes d Rejected set_codes says =
    let bad : 82 ≡ 65 = ap (λ (t : List ℕ). slice_index_or t 4 0) says.1 in absurd (omega (arith, bad))

accepted_in_bytes : (d : Delims) (v : Verdict) (set_codes : List SetCode) → verdict_text v ≡ codes "A"
    → SaysAccepted d (set_closing d v set_codes)
accepted_in_bytes d Accepted set_codes is = (
  elements_text d.element (trimmed (map set_code_text set_codes)) ++ d.terminator ∷ [],
  refl,
)
accepted_in_bytes d AcceptedWithErrors set_codes is = absurd (true≢false (sym (ap (λ (t : List ℕ). bytes_eq t (codes "A")) is)))
accepted_in_bytes d Rejected set_codes is = absurd (true≢false (sym (ap (λ (t : List ℕ). bytes_eq t (codes "A")) is)))

no_other : (b : Bool) → verdict_text (if b then AcceptedWithErrors else Rejected) ≡ codes "A" → ⊥
no_other true is = absurd (true≢false (sym (ap (λ (t : List ℕ). bytes_eq t (codes "A")) is)))
no_other false is = absurd (true≢false (sym (ap (λ (t : List ℕ). bytes_eq t (codes "A")) is)))

-- an accepted set has neither fault nor code
nothing_found : (guide : Option GuideTree) (faults : List Fault) (set_codes : List SetCode)
    → verdict_text (verdict_on guide faults set_codes) ≡ codes "A" → (faults ≡ []) × (set_codes ≡ [])
nothing_found guide [] [] is = (refl, refl)
nothing_found guide [] (c ∷ cs) is = absurd (no_other (list_all tells_of_faults (c ∷ cs) && list_all (tolerates guide) []) is)
nothing_found guide (f ∷ fs) cs is = absurd (no_other (list_all tells_of_faults cs && list_all (tolerates guide) (f ∷ fs)) is)

-- and then its loop is AK2 and IK5 with A alone
clean_loop : (d : Delims) (st : SegValue) (faults : List Fault) (v : Verdict) (set_codes : List SetCode) → verdict_text v ≡ codes "A"
    → faults ≡ [] → set_codes ≡ []
    → set_opening d st ++ notes_text d (notes faults) ++ set_closing d v set_codes ≡ set_opening d st ++ accepted_closing d
clean_loop d st faults v set_codes is none no_code =
    ap (λ (fs : List Fault). set_opening d st ++ notes_text d (notes fs) ++ set_closing d v set_codes) none
    ∙ ap (λ (cs : List SetCode). set_opening d st ++ [] ++ set_closing d v cs) no_code
    ∙ ap (λ (t : List ℕ). set_opening d st ++ [] ++ segment_text d (codes "IK5") (t ∷ [])) is
    ∙ ap (λ (t : List ℕ). t ++ accepted_closing d) (append-nil (set_opening d st))

pub set_told : (d : Delims) (sent : SentValue) (gs : SegValue) (before : List SetEnvelope) (set : SetEnvelope) (answer : SetAnswer)
    → HasHeader sent.text sent.delims set → IsSetAnswer sent gs before set answer → IsSetTold d sent gs before set (set_text d answer)
set_told d sent gs before set answer header is =
    let c : Checked = is.checked in
    let there : SetParts = set_parts sent.text (span_of sent.delims set) in
    let parts : parts_in c ≡ there =
    ap (λ (t : List ℕ). set_parts t c.span) is.text ∙ ap (λ (s : SetSpan). set_parts sent.text s) is.span in
    let opening : segment_text d (codes "AK2") (answer.identifier ∷ answer.control ∷ convention_text answer.convention ∷ [])
    ≡ set_opening d set.header =
    ap (λ (a : SetAnswer). segment_text d (codes "AK2") (a.identifier ∷ a.control ∷ convention_text a.convention ∷ [])) is.is
    ∙ ap (λ (p : SetParts). set_opening d p.header) parts ∙ ap (set_opening d) header in
    let loop : set_text d answer
    ≡ set_opening d set.header ++ notes_text d (notes answer.faults) ++ set_closing d answer.verdict answer.codes =
    loop_parts d answer
    ∙ ap (λ (t : List ℕ). t ++ notes_text d (notes answer.faults) ++ set_closing d answer.verdict answer.codes) opening in
    let law : IsToldAccepted answer ↔ Meets sent gs before set = accepted_as_it_meets sent gs before set answer is in
    record {
      answer = answer;
      answered = is;
      is = loop;
      accepted = (
        λ says. law.0 (accepted_by_bytes d answer.verdict answer.codes says),
        λ meets. accepted_in_bytes d answer.verdict answer.codes (law.1 meets),
      );
      clean = λ meets.
          let verdict : verdict_text answer.verdict ≡ codes "A" = law.1 meets in
          let judged = sym (ap (λ (a : SetAnswer). verdict_text a.verdict) is.is) ∙ verdict in
          let found = nothing_found (guide_in c) c.faults _ judged in
          loop ∙ clean_loop d set.header answer.faults answer.verdict answer.codes verdict
          (ap (λ (a : SetAnswer). a.faults) is.is ∙ found.0) (ap (λ (a : SetAnswer). a.codes) is.is ∙ found.1);
    }
