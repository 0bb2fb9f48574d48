-- No segment that reports a fault holds a delimiter.
use Rattle.std.proofs.Common.{◌≡◌, ◌≢◌, ℕ, ◌<◌, Bool, true, false, List, [], ◌∷◌, ◌++◌, length, map, refl, arith, eq-eqb}
use Rattle.std.specs.Prelude.{All, IfSome, Option, Some, None, not, ◌||◌, ◌&&◌, ◌==◌, nat_le, take, codes, decimal, if◌then◌else◌}
use Rattle.std.specs.List.{list_all, prefix_len}
use Rattle.std.proofs.lemmas.List.Elements.{All-from_recursion, All-nil, All-cons, All-head, All-tail, All-append, All-take}
use Rattle.x12_bytes.specs.Bytes.{is_line_end}
use Rattle.x12_bytes.specs.declared.delims.Delims.{Delims}
use Rattle.hub_kinds.specs.declared.fault.Fault.{Fault}
use Rattle.hub_kinds.specs.declared.fault.ElemFault.{ElemFault}
use Rattle.hub_kinds.specs.Codes as code
use Rattle.ack_999.specs.Copy.{may_be_copied, copy_text}
use Rattle.x12_write.specs.Delimiters.{is_this, is_delimiter}
use Rattle.ack_999.specs.Faults.{Note, SegmentNote, ElementNote, id_text, code_shown, number_text, position_text, note_segment, notes_for}
use Rattle.ack_999.specs.Faults.{notes_on, notes_behind, element_position}
use Rattle.ack_999.specs.ReadBack.{IsQuotableElement, IsQuotableFault}
use Rattle.x12_write.specs.Undivided.{CanDivide, IsUndivided}
use Rattle.x12_write.specs.Segment.{segment, elements_text, trimmed}
use Rattle.ack_999.proofs.Plain.{plain-id_text, plain-segment_text, plain-element_text}
use Rattle.x12_write.proofs.ForAbove.{is_plain, both, plain-undivided, decimal-undivided}
use Rattle.ack_999.proofs.ReadBack.{IsReadable, trimmed-all}

-- a segment with elements that hold no delimiter
pub readable : (d : Delims) → CanDivide d → (id : List ℕ) (elements : List (List ℕ)) → 0 < length id
    → prefix_len is_line_end id ≡ 0 → is_plain id ≡ true → All (IsUndivided d) elements
    → IsReadable d (segment id elements)
readable d can id elements some first plain all =
    record { some = some; first = first; id = plain-undivided d can id plain; elements = all }

neither : (a b : Bool) → not (a || b) ≡ true → (not a ≡ true) × (not b ≡ true)
neither false false h = (refl, refl)
neither true b h = cc
neither false true h = cc

differs : (a b : ℕ) → not (a == b) ≡ true → a ≢ b
differs a b h e = let same : (a == b) ≡ true = eq-eqb a b e in let off = rw same at h in cc off

-- a byte that may be copied is no separator and no terminator
copied-apart : (d : Delims) (b : ℕ) → may_be_copied d b ≡ true → (b ≢ d.element) × (b ≢ d.terminator)
copied-apart d b may =
    let last = (both (nat_le 32 b && nat_le b 126) (not (is_delimiter d b)) may).1 in
    let three = (neither (b == d.element || b == d.component || b == d.terminator) (is_this d.repetition b) last).0 in
    let two = neither (b == d.element || b == d.component) (b == d.terminator) three in
    let one = neither (b == d.element) (b == d.component) two.0 in
    (differs b d.element one.0, differs b d.terminator two.1)

copied-undivided : (d : Delims) (text : List ℕ) → list_all (may_be_copied d) text ≡ true → IsUndivided d text
copied-undivided d [] all = All-nil (λ b. (b ≢ d.element) × (b ≢ d.terminator))
copied-undivided d (b ∷ bs) all =
    let parts = both (may_be_copied d b) (list_all (may_be_copied d) bs) all in
    All-cons (λ b. (b ≢ d.element) × (b ≢ d.terminator)) b bs (copied-apart d b parts.0) (copied-undivided d bs parts.1)

copy_text-undivided : (d : Delims) (text : List ℕ) → IsUndivided d (copy_text d text)
copy_text-undivided d text = judged (list_all (may_be_copied d) text) refl
  where
    judged : (b : Bool) → list_all (may_be_copied d) text ≡ b → IsUndivided d (if b then take 99 text else [])
    judged true all = All-take (λ b. (b ≢ d.element) × (b ≢ d.terminator)) 99 text (copied-undivided d text all)
    judged false all = All-nil (λ b. (b ≢ d.element) × (b ≢ d.terminator))

number_text-undivided : (d : Delims) (n : ℕ) → CanDivide d → IsUndivided d (number_text n)
number_text-undivided d n can = shown (n == 0)
  where
    shown : (b : Bool) → IsUndivided d (if b then [] else decimal n)
    shown true = All-nil (λ b. (b ≢ d.element) × (b ≢ d.terminator))
    shown false = decimal-undivided d can n

elements_text-undivided : (d : Delims) (c : ℕ) (parts : List (List ℕ)) → IsUndivided d (c ∷ [])
    → All (IsUndivided d) parts → IsUndivided d (elements_text c parts)
elements_text-undivided d c [] one all = All-nil (λ b. (b ≢ d.element) × (b ≢ d.terminator))
elements_text-undivided d c (x ∷ xs) one all =
    let P : ℕ → Type 0 = λ b. (b ≢ d.element) × (b ≢ d.terminator) in
    All-cons P c (x ++ elements_text c xs) (All-head P c [] one)
    (All-append P x (elements_text c xs) (All-head (IsUndivided d) x xs all)
    (elements_text-undivided d c xs one (All-tail (IsUndivided d) x xs all)))

position_text-undivided : (d : Delims) (e : ElemFault) → CanDivide d → IsUndivided d (d.component ∷ [])
    → IsUndivided d (position_text d.component e)
position_text-undivided d e can one =
    let P : ℕ → Type 0 = λ b. (b ≢ d.element) × (b ≢ d.terminator) in
    let numbers : List (List ℕ) = number_text e.component ∷ number_text e.repetition ∷ [] in
    let all : All (IsUndivided d) numbers =
    All-from_recursion (IsUndivided d) numbers (number_text-undivided d e.component can, (number_text-undivided d e.repetition can, tt)) in
    All-append P (decimal e.element) (elements_text d.component (trimmed numbers)) (decimal-undivided d can e.element)
    (elements_text-undivided d d.component (trimmed numbers) one (trimmed-all (IsUndivided d) numbers all))

readable-segment_note : (d : Delims) (f : Fault) → CanDivide d → IsQuotableFault d f
    → IsReadable d (note_segment d (SegmentNote f))
readable-segment_note d f can quotable =
    let P : List ℕ → Type 0 = IsUndivided d in
    let ik3 : List (List ℕ) = id_text f.id ∷ decimal f.position ∷ f.loop_id ∷ code.segment_code_text (code_shown f) ∷ [] in
    readable d can (codes "IK3") ik3 (omega arith) refl refl
    (All-from_recursion P ik3 (
      plain-undivided d can (id_text f.id) (plain-id_text f.id),
      (
        decimal-undivided d can f.position,
        (quotable.loop_id, (plain-undivided d can (code.segment_code_text (code_shown f)) (plain-segment_text (code_shown f)), tt)),
      ),
    ))

readable-element_note : (d : Delims) (e : ElemFault) → CanDivide d → IsQuotableElement d e
    → IsReadable d (note_segment d (ElementNote e))
readable-element_note d e can quotable =
    let P : List ℕ → Type 0 = IsUndivided d in
    let ik4 : List (List ℕ) = position_text d.component e ∷ e.reference ∷ code.element_code_text e.code ∷ copy_text d e.copy ∷ [] in
    readable d can (codes "IK4") ik4 (omega arith) refl refl
    (All-from_recursion P ik4 (
      position_text-undivided d e can quotable.separator,
      (
        quotable.reference,
        (plain-undivided d can (code.element_code_text e.code) (plain-element_text e.code), (copy_text-undivided d e.copy, tt)),
      ),
    ))

abbrev IsReadableNote : Delims → Note → Type 0
IsReadableNote d note = IsReadable d (note_segment d note)

-- the notes on an element fault, by whether an IK3 is there
opened : (d : Delims) (f : Fault) (e : ElemFault) (b : Bool) → IsReadableNote d (SegmentNote f)
    → All (IsReadableNote d) (ElementNote e ∷ [])
    → All (IsReadableNote d) ((if b then [] else SegmentNote f ∷ []) ++ ElementNote e ∷ [])
opened d f e true ik3 ik4 = ik4
opened d f e false ik3 ik4 = All-cons (IsReadableNote d) (SegmentNote f) (ElementNote e ∷ []) ik3 ik4

readable-notes_for : (d : Delims) (before : Option ℕ) (f : Fault) (elem : Option ElemFault) → CanDivide d
    → IsQuotableFault d f → IfSome elem (IsQuotableElement d) → All (IsReadableNote d) (notes_for before f elem)
readable-notes_for d before f None can quotable quoted =
    All-cons (IsReadableNote d) (SegmentNote f) [] (readable-segment_note d f can quotable) (All-nil (IsReadableNote d))
readable-notes_for d before f (Some e) can quotable quoted =
    opened d f e (is_this before f.position) (readable-segment_note d f can quotable)
    (All-cons (IsReadableNote d) (ElementNote e) [] (readable-element_note d e can quoted) (All-nil (IsReadableNote d)))

readable-notes_on : (d : Delims) (before : Option ℕ) (f : Fault) → CanDivide d → IsQuotableFault d f
    → All (IsReadableNote d) (notes_on before f)
readable-notes_on d before f can quotable = readable-notes_for d before f f.elem can quotable quotable.elem

readable-notes : (d : Delims) (before : Option ℕ) (faults : List Fault) → CanDivide d → All (IsQuotableFault d) faults
    → All (IsReadableNote d) (notes_behind before faults)
readable-notes d before [] can all = All-nil (IsReadableNote d)
readable-notes d before (f ∷ faults) can all =
    All-append (IsReadableNote d) (notes_on before f) (notes_behind (element_position f) faults)
    (readable-notes_on d before f can (All-head (IsQuotableFault d) f faults all))
    (readable-notes d (element_position f) faults can (All-tail (IsQuotableFault d) f faults all))

readable-map : (d : Delims) (list : List Note) → All (IsReadableNote d) list
    → All (IsReadable d) (map (note_segment d) list)
readable-map d [] all = All-nil (IsReadable d)
readable-map d (x ∷ xs) all =
    All-cons (IsReadable d) (note_segment d x) (map (note_segment d) xs)
    (All-head (IsReadableNote d) x xs all) (readable-map d xs (All-tail (IsReadableNote d) x xs all))

pub readable-faults : (d : Delims) (faults : List Fault) → CanDivide d → All (IsQuotableFault d) faults
    → All (IsReadable d) (map (note_segment d) (notes_behind None faults))
readable-faults d faults can all = readable-map d (notes_behind None faults) (readable-notes d None faults can all)
