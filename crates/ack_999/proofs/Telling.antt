-- What is reported of faults, one fault after the other.
use Rattle.std.proofs.Common.{◌≡◌, ℕ, List, ◌++◌, ◌∷◌, ◌+◌, ◌<◌, length, ◌≤◌, drop, sym, ap, ◌∙◌, append_assoc, arith, get_or}
use Rattle.std.specs.Prelude.{Option, None}
use Rattle.std.proofs.lemmas.List.{append-nil, drop_all, drop_more, length-append}
use Rattle.std.proofs.lemmas.Grind.{flat_map-append}
use Rattle.std.proofs.lemmas.List.Folds.{flat_map-map}
use Rattle.x12_bytes.specs.declared.delims.Delims.{Delims}
use Rattle.hub_kinds.specs.declared.fault.Fault.{Fault}
use Rattle.ack_999.specs.Faults.{element_position, fault_segments, note_segment, notes_behind, notes_on, notes_text, written_note}
use Rattle.x12_write.specs.Segment.{segment_text, segments_text}

-- the notes are written as their segments
pub notes_text-is : (d : Delims) (faults : List Fault)
    → notes_text d (notes_behind None faults) ≡ segments_text d (fault_segments d faults)
notes_text-is d faults =
    sym (flat_map-map (λ s. segment_text d s.id s.elements) (note_segment d) (notes_behind None faults))

-- where no fault is left, all is reported
pub all_told : (d : Delims) (before : Option ℕ) (faults : List Fault) (i : ℕ) (old new : List ℕ) → length faults ≤ i
    → new ++ notes_text d (notes_behind before (drop i faults)) ≡ old ++ notes_text d (notes_behind None faults)
    → new ≡ old ++ segments_text d (fault_segments d faults)
all_told d before faults i old new none told =
    sym (append-nil new)
    ∙ ap (λ (left : List Fault). new ++ notes_text d (notes_behind before left)) (sym (drop_all i faults none))
    ∙ told ∙ ap (λ (s : List ℕ). old ++ s) (notes_text-is d faults)

-- what is reported of one fault more
pub told_more : (d : Delims) (before after : Option ℕ) (faults : List Fault) (i : ℕ) (f : Fault) (old new all : List ℕ)
    → i < length faults → f ≡ get_or faults i f → after ≡ element_position f → new ≡ old ++ notes_text d (notes_on before f)
    → old ++ notes_text d (notes_behind before (drop i faults)) ≡ all
    → new ++ notes_text d (notes_behind after (drop (i + 1) faults)) ≡ all
told_more d before after faults i f old new all l e a is told =
    let rest : List Fault = drop (i + 1) faults in
    ap (λ (o : Option ℕ). new ++ notes_text d (notes_behind o rest)) a
    ∙ ap (λ (s : List ℕ). s ++ notes_text d (notes_behind (element_position f) rest)) is
    ∙ append_assoc old (notes_text d (notes_on before f)) (notes_text d (notes_behind (element_position f) rest))
    ∙ ap (λ (s : List ℕ). old ++ s) (sym (flat_map-append (written_note d) (notes_on before f)
    (notes_behind (element_position f) rest)))
    ∙ ap (λ (fs : List Fault). old ++ notes_text d (notes_behind before fs))
    (ap (λ (x : Fault). x ∷ rest) e ∙ sym (drop_more faults i f l))
    ∙ told

-- how many are reported with those of one fault more
pub counted_more : (before after : Option ℕ) (faults : List Fault) (i : ℕ) (f : Fault) (old more all : ℕ)
    → i < length faults → f ≡ get_or faults i f → after ≡ element_position f → more ≡ length (notes_on before f)
    → old + length (notes_behind before (drop i faults)) ≡ all
    → old + more + length (notes_behind after (drop (i + 1) faults)) ≡ all
counted_more before after faults i f old more all l e a is told =
    let rest : List Fault = drop (i + 1) faults in
    let next : length (notes_behind after rest) ≡ length (notes_behind (element_position f) rest) =
    ap (λ (o : Option ℕ). length (notes_behind o rest)) a in
    let both : length (notes_behind before (drop i faults)) ≡ length (notes_on before f) + length (notes_behind (element_position f) rest) =
    ap (λ (fs : List Fault). length (notes_behind before fs)) (drop_more faults i f l ∙ ap (λ (x : Fault). x ∷ rest) (sym e))
    ∙ length-append (notes_on before f) (notes_behind (element_position f) rest) in
    omega (arith, next, both, is, told)
