-- No segment of an acknowledgment holds a delimiter.
use Rattle.std.proofs.Common.{◌≡◌, ℕ, ◌+◌, Bool, true, false, List, [], ◌∷◌, ◌++◌, length, map, refl, arith}
use Rattle.std.specs.Prelude.{All, decimal, codes, if◌then◌else◌}
use Rattle.std.specs.List.{flat_map}
use Rattle.std.proofs.lemmas.List.Elements.{All-from_recursion, All-nil, All-cons, All-head, All-tail, All-append}
use Rattle.x12_bytes.specs.declared.delims.Delims.{Delims}
use Rattle.hub_kinds.specs.declared.answers.GroupAnswer.{GroupAnswer}
use Rattle.hub_kinds.specs.declared.answers.SetAnswer.{SetAnswer}
use Rattle.hub_kinds.specs.Words.{set_code_text, group_code_text, verdict_text, group_verdict_text}
use Rattle.ack_999.specs.declared.totals.Totals.{Totals}
use Rattle.ack_999.specs.Faults.{fault_segments}
use Rattle.ack_999.specs.Group.{totals_of, received_sets}
use Rattle.x12_write.specs.Number.{set_number}
use Rattle.ack_999.specs.ReadBack.{IsQuotable, IsQuotableFault}
use Rattle.x12_write.specs.Undivided.{CanDivide, IsUndivided}
use Rattle.ack_999.specs.Report.{head_segments, convention_text, set_segments, shows_sets, set_loops, listed_sets, accepted_sets}
use Rattle.ack_999.specs.Report.{group_response, set_trailer, segments_999}
use Rattle.x12_write.specs.Segment.{WrittenSegment, segment}
use Rattle.ack_999.proofs.Plain.{plain-set_code_text}
use Rattle.x12_write.proofs.ForAbove.{is_plain, plain-undivided, decimal-undivided, set_number-undivided}
use Rattle.ack_999.proofs.Plain.{plain-group_code_text, plain-verdict_text, plain-group_verdict_text, plain-convention_text}
use Rattle.ack_999.proofs.ReadBack.{IsReadable}
use Rattle.ack_999.proofs.ReadableFaults.{readable, readable-faults}

-- a list of codes
undivided-codes : {C : Type 0} (d : Delims) → CanDivide d → (text : C → List ℕ) → ((c : C) → is_plain (text c) ≡ true)
    → (codes : List C) → All (IsUndivided d) (map text codes)
undivided-codes d can text plain [] = All-nil (IsUndivided d)
undivided-codes d can text plain (c ∷ cs) =
    All-cons (IsUndivided d) (text c) (map text cs) (plain-undivided d can (text c) (plain c)) (undivided-codes d can text plain cs)

readable-head : (d : Delims) (g : GroupAnswer) (n : ℕ) → CanDivide d → IsUndivided d g.functional_id
    → IsUndivided d g.control → IsUndivided d g.version → All (IsReadable d) (head_segments g n)
readable-head d g n can functional_id control version =
    let P : List ℕ → Type 0 = IsUndivided d in
    let st : List (List ℕ) = codes "999" ∷ set_number n ∷ codes "005010X231" ∷ [] in
    let ak1 : List (List ℕ) = g.functional_id ∷ g.control ∷ g.version ∷ [] in
    let st_all : All P st =
    All-from_recursion P st (
      plain-undivided d can (codes "999") refl,
      (set_number-undivided d can n, (plain-undivided d can (codes "005010X231") refl, tt)),
    ) in
    let ak1_all : All P ak1 = All-from_recursion P ak1 (functional_id, (control, (version, tt))) in
    All-from_recursion (IsReadable d) (head_segments g n)
    (readable d can (codes "ST") st (omega arith) refl refl st_all, (readable d can (codes "AK1") ak1 (omega arith) refl refl ak1_all, tt))

readable-set : (d : Delims) (s : SetAnswer) → CanDivide d → IsUndivided d s.identifier → IsUndivided d s.control
    → All (IsQuotableFault d) s.faults → All (IsReadable d) (set_segments d s)
readable-set d s can identifier control faults =
    let P : List ℕ → Type 0 = IsUndivided d in
    let ak2 : List (List ℕ) = s.identifier ∷ s.control ∷ convention_text s.convention ∷ [] in
    let ik5 : List (List ℕ) = verdict_text s.verdict ∷ map set_code_text s.codes in
    let ak2_all : All P ak2 =
    All-from_recursion P ak2
    (identifier, (control, (plain-undivided d can (convention_text s.convention) (plain-convention_text s.convention), tt))) in
    let ik5_all : All P ik5 =
    All-cons P (verdict_text s.verdict) (map set_code_text s.codes)
    (plain-undivided d can (verdict_text s.verdict) (plain-verdict_text s.verdict))
    (undivided-codes d can set_code_text plain-set_code_text s.codes) in
    let last : List WrittenSegment = segment (codes "IK5") ik5 ∷ [] in
    let last_all : All (IsReadable d) last =
    All-from_recursion (IsReadable d) last (readable d can (codes "IK5") ik5 (omega arith) refl refl ik5_all, tt) in
    All-cons (IsReadable d) (segment (codes "AK2") ak2) (fault_segments d s.faults ++ last)
    (readable d can (codes "AK2") ak2 (omega arith) refl refl ak2_all)
    (All-append (IsReadable d) (fault_segments d s.faults) last (readable-faults d s.faults can faults) last_all)

readable-sets : (d : Delims) (sets : List SetAnswer) → CanDivide d → All (λ s. IsUndivided d s.identifier) sets
    → All (λ s. IsUndivided d s.control) sets → All (λ s. All (IsQuotableFault d) s.faults) sets
    → All (IsReadable d) (flat_map (set_segments d) sets)
readable-sets d [] can identifiers controls faults = All-nil (IsReadable d)
readable-sets d (s ∷ sets) can identifiers controls faults =
    All-append (IsReadable d) (set_segments d s) (flat_map (set_segments d) sets)
    (readable-set d s can
    (All-head (λ s. IsUndivided d s.identifier) s sets identifiers) (All-head (λ s. IsUndivided d s.control) s sets controls)
    (All-head (λ s. All (IsQuotableFault d) s.faults) s sets faults))
    (readable-sets d sets can
    (All-tail (λ s. IsUndivided d s.identifier) s sets identifiers) (All-tail (λ s. IsUndivided d s.control) s sets controls)
    (All-tail (λ s. All (IsQuotableFault d) s.faults) s sets faults))

readable-loops : (d : Delims) (sets : List SetAnswer) (b : Bool) → All (IsReadable d) (flat_map (set_segments d) sets)
    → All (IsReadable d) (if b then flat_map (set_segments d) sets else [])
readable-loops d sets true all = all
readable-loops d sets false all = All-nil (IsReadable d)

readable-response : (d : Delims) (g : GroupAnswer) (t : Totals) → CanDivide d → IsReadable d (group_response g t)
readable-response d g t can =
    let P : List ℕ → Type 0 = IsUndivided d in
    let front : List (List ℕ) =
    group_verdict_text g.verdict ∷ decimal (listed_sets g.listed t) ∷ decimal (received_sets t) ∷ decimal (accepted_sets g.codes t) ∷ [] in
    let front_all : All P front =
    All-from_recursion P front (
      plain-undivided d can (group_verdict_text g.verdict) (plain-group_verdict_text g.verdict),
      (
        decimal-undivided d can (listed_sets g.listed t),
        (
          decimal-undivided d can (received_sets t),
          (decimal-undivided d can (accepted_sets g.codes t), tt),
        ),
      ),
    ) in
    readable d can (codes "AK9") (front ++ map group_code_text g.codes) (omega arith) refl refl
    (All-append P front (map group_code_text g.codes) front_all (undivided-codes d can group_code_text plain-group_code_text g.codes))

readable-trailer : (d : Delims) (count n : ℕ) → CanDivide d → IsReadable d (set_trailer count n)
readable-trailer d count n can =
    let P : List ℕ → Type 0 = IsUndivided d in
    let se : List (List ℕ) = decimal count ∷ set_number n ∷ [] in
    readable d can (codes "SE") se (omega arith) refl refl
    (All-from_recursion P se (decimal-undivided d can count, (set_number-undivided d can n, tt)))

-- all segments of an acknowledgment
pub readable-999 : (d : Delims) (g : GroupAnswer) (sets : List SetAnswer) (n : ℕ) → CanDivide d → IsQuotable d g sets
    → All (IsReadable d) (segments_999 d g sets n)
readable-999 d g sets n can quotable =
    let t : Totals = totals_of sets in
    let inner : List WrittenSegment = head_segments g n ++ set_loops d g sets ++ group_response g t ∷ [] in
    let loops = readable-loops d sets (shows_sets g.codes)
    (readable-sets d sets can quotable.identifiers quotable.controls quotable.faults) in
    let front =
    All-append (IsReadable d) (head_segments g n) (set_loops d g sets)
    (readable-head d g n can quotable.functional_id quotable.control quotable.version) loops in
    All-append (IsReadable d) inner (set_trailer (length inner + 1) n ∷ [])
    (All-append (IsReadable d) (head_segments g n ++ set_loops d g sets) (group_response g t ∷ []) front
    (All-cons (IsReadable d) (group_response g t) [] (readable-response d g t can) (All-nil (IsReadable d))))
    (All-cons (IsReadable d) (set_trailer (length inner + 1) n) [] (readable-trailer d (length inner + 1) n can) (All-nil (IsReadable d)))
