-- Written segments, read again.
use Rattle.std.proofs.Common.{◌≡◌, ◌≢◌, ℕ, ◌+◌, ◌<◌, Bool, true, false, cond, List, [], ◌∷◌, ◌++◌, length, drop, map, refl, ap, ◌∙◌}
use Rattle.std.proofs.Common.{arith, append_assoc, append-nil, length-append, eq-eqb}
use Rattle.std.specs.Prelude.{All, ◌==◌, if◌then◌else◌}
use Rattle.std.specs.List.{prefix_len}
use Rattle.std.proofs.lemmas.List.{map-append}
use Rattle.std.proofs.lemmas.List.Splits.{slice_split_at, slice_split_none, length-slice_split}
use Rattle.std.proofs.lemmas.List.Elements.{All-nil, All-cons, All-head, All-tail, All-append, All-weaker}
use Rattle.std.proofs.lemmas.Bool.{false_from_ne_true, eqb-true}
use Rattle.x12_bytes.specs.Bytes.{is_line_end}
use Rattle.x12_bytes.specs.declared.delims.Delims.{Delims}
use Rattle.x12_segs.specs.Words.{parts, Seg, Segs, segs_of, part_at, views, view_of, elements_of}
use Rattle.x12_write.specs.Segment.{WrittenSegment, trimmed, before_rest, elements_text, segment_text, segments_text}
use Rattle.ack_999.specs.ReadBack.{written_parts}
use Rattle.x12_write.specs.Undivided.{IsUndivided}

-- nothing in a segment is taken for a delimiter, or passed over before it
pub record IsReadable (d : Delims) (s : WrittenSegment) : Type 0 where
  pub some : 0 < length s.id
  pub first : prefix_len is_line_end s.id ≡ 0
  pub id : IsUndivided d s.id
  pub elements : All (IsUndivided d) s.elements

-- no byte of a text is this one
abbrev Lacks : ℕ → List ℕ → Type 0
Lacks c text = All (λ b. (b == c) ≡ false) text

lacks-separator : (d : Delims) (text : List ℕ) → IsUndivided d text → Lacks d.element text
lacks-separator d text undivided =
    let P : ℕ → Type 0 = λ b. (b ≢ d.element) × (b ≢ d.terminator) in
    All-weaker P (λ b. (b == d.element)
    ≡ false) (λ (b : ℕ) (other : P b). false_from_ne_true (b == d.element) (λ h. other.0 (eqb-true b d.element h))) text undivided

lacks-terminator : (d : Delims) (text : List ℕ) → IsUndivided d text → Lacks d.terminator text
lacks-terminator d text undivided =
    let P : ℕ → Type 0 = λ b. (b ≢ d.element) × (b ≢ d.terminator) in
    All-weaker P (λ b. (b == d.terminator)
    ≡ false) (λ (b : ℕ) (other : P b). false_from_ne_true (b == d.terminator)
    (λ h. other.1 (eqb-true b d.terminator h))) text undivided

-- elements that lack the separator, after an id that does, are the parts
parts-elements : (e : ℕ) (id : List ℕ) (elements : List (List ℕ)) → Lacks e id → All (Lacks e) elements
    → parts e (id ++ elements_text e elements) ≡ id ∷ elements
parts-elements e id [] p q = ap (parts e) (append-nil id) ∙ slice_split_none (λ b. b == e) id p
parts-elements e id (x ∷ xs) p q =
    slice_split_at (λ b. b == e) id e (x ++ elements_text e xs) p (eq-eqb e e refl)
    ∙ ap (λ (list : List (List ℕ)). id ∷ list) (parts-elements e x xs (All-head (Lacks e) x xs q) (All-tail (Lacks e) x xs q))

-- leaving off the empty elements at the end keeps what all elements have
pub trimmed-all : (P : List ℕ → Type 0) (elements : List (List ℕ)) → All P elements → All P (trimmed elements)
trimmed-all P [] all = All-nil P
trimmed-all P (x ∷ xs) all = front x (trimmed xs) (All-head P x xs all) (trimmed-all P xs (All-tail P x xs all))
  where
    front : (x : List ℕ) (rest : List (List ℕ)) → P x → All P rest → All P (before_rest x rest)
    front [] [] p q = All-nil P
    front [] (y ∷ ys) p q = All-cons P [] (y ∷ ys) p q
    front (b ∷ bs) rest p q = All-cons P (b ∷ bs) rest p q

-- elements after their separators lack a terminator
elements_text-lacks : (e t : ℕ) (elements : List (List ℕ)) → e ≢ t → All (Lacks t) elements → Lacks t (elements_text e elements)
elements_text-lacks e t [] other all = All-nil (λ b. (b == t) ≡ false)
elements_text-lacks e t (x ∷ xs) other all =
    All-cons (λ b. (b == t) ≡ false) e (x ++ elements_text e xs) (false_from_ne_true (e == t) (λ h. other (eqb-true e t h)))
    (All-append (λ b. (b == t)
    ≡ false) x (elements_text e xs) (All-head (Lacks t) x xs all) (elements_text-lacks e t xs other (All-tail (Lacks t) x xs all)))

stays-zero : (b : Bool) (n m : ℕ) → cond b (1 + n) 0 ≡ 0 → cond b (1 + m) 0 ≡ 0
stays-zero true n m h = absurd (omega (arith, h))
stays-zero false n m h = refl

-- a text that begins with no line end, with more after it
prefix_len-behind : (p : ℕ → Bool) (xs ys : List ℕ) → 0 < length xs → prefix_len p xs ≡ 0 → prefix_len p (xs ++ ys) ≡ 0
prefix_len-behind p [] ys some none = absurd (omega (arith, some))
prefix_len-behind p (x ∷ xs) ys some none = stays-zero (p x) (prefix_len p xs) (prefix_len p (xs ++ ys)) none

chosen : {X Y : Type 0} (f : X → Y) (test : Bool) (x : X) → test ≡ false → map f (if test then [] else x ∷ []) ≡ f x ∷ []
chosen f true x off = cc
chosen f false x off = refl

-- such a part is one segment, whole
part_at-whole : (e place : ℕ) (body : List ℕ) → 0 < length body → prefix_len is_line_end body ≡ 0
    → map (λ seg. parts e seg.bytes) (part_at place body) ≡ parts e body ∷ []
part_at-whole e place body some none =
    let lead : ℕ = prefix_len is_line_end body in
    let not_all : (lead == length body)
    ≡ false = false_from_ne_true (lead == length body) (λ h. let same = eqb-true lead (length body) h in omega arith) in
    chosen (λ (seg : Seg). parts e seg.bytes) (lead == length body) (record { start = place + lead; bytes = drop lead body }) not_all
    ∙ ap (λ (k : ℕ). parts e (drop k body) ∷ []) none

segs_of-cons : (place : ℕ) (part : List ℕ) (list : List (List ℕ)) → 0 < length list
    → segs_of place (part ∷ list) ≡ part_at place part ++ segs_of (place + length part + 1) list
segs_of-cons place part [] some = absurd (omega (arith, some))
segs_of-cons place part (next ∷ more) some = refl

some-parts : (c : ℕ) (text : List ℕ) → 0 < length (parts c text)
some-parts c text = omega (arith, length-slice_split (λ b. b == c) text)

-- one written segment before other text is read first
read-first : (d : Delims) (s : WrittenSegment) (place : ℕ) (text : List ℕ) → d.element ≢ d.terminator → IsReadable d s
    → (next : ℕ) × (map (λ seg. parts d.element seg.bytes) (segs_of place (parts d.terminator (segment_text d s.id s.elements ++ text)))
    ≡ written_parts s ∷ map (λ seg. parts d.element seg.bytes) (segs_of next (parts d.terminator text)))
read-first d s place text other readable =
    let e : ℕ = d.element in
    let t : ℕ = d.terminator in
    let written : List (List ℕ) = trimmed s.elements in
    let body : List ℕ = s.id ++ elements_text e written in
    let P : List ℕ → Type 0 = IsUndivided d in
    let undivided : All P written = trimmed-all P s.elements readable.elements in
    let lacks_t : Lacks t body =
    All-append (λ b. (b == t) ≡ false) s.id (elements_text e written) (lacks-terminator d s.id readable.id)
    (elements_text-lacks e t written other (All-weaker P (Lacks t) (lacks-terminator d) written undivided)) in
    let split : parts t (segment_text d s.id s.elements ++ text) ≡ body ∷ parts t text =
    ap (parts t) (append_assoc body (t ∷ []) text) ∙ slice_split_at (λ b. b == t) body t text lacks_t (eq-eqb t t refl) in
    let some : 0 < length body = omega (arith, readable.some, length-append s.id (elements_text e written)) in
    let none : prefix_len is_line_end body
    ≡ 0 = prefix_len-behind is_line_end s.id (elements_text e written) readable.some readable.first in
    let f : Seg → List (List ℕ) = λ seg. parts e seg.bytes in
    let next : ℕ = place + length body + 1 in (
      next,
      ap (λ (list : List (List ℕ)). map f (segs_of place list)) split
          ∙ ap (map f) (segs_of-cons place body (parts t text) (some-parts t text))
          ∙ map-append f (part_at place body) (segs_of next (parts t text))
          ∙ ap (λ (list : List (List (List ℕ))). list ++ map f (segs_of next (parts t text))) (part_at-whole e place body some none)
          ∙ ap (λ (list : List (List ℕ)). list ∷ map f (segs_of next (parts t text)))
          (parts-elements e s.id written (lacks-separator d s.id readable.id)
          (All-weaker P (Lacks e) (lacks-separator d) written undivided)),
    )

-- all segments are read
read-all : (d : Delims) (segments : List WrittenSegment) (place : ℕ) → d.element ≢ d.terminator → All (IsReadable d) segments
    → map (λ seg. parts d.element seg.bytes) (segs_of place (parts d.terminator (segments_text d segments))) ≡ map written_parts segments
read-all d [] place other readable = refl
read-all d (s ∷ segments) place other readable =
    let first = read-first d s place (segments_text d segments) other (All-head (IsReadable d) s segments readable) in
    first.1 ∙ ap (λ (list : List (List (List ℕ))). written_parts s ∷ list)
    (read-all d segments first.0 other (All-tail (IsReadable d) s segments readable))

elements_of-views : (d : Delims) (segs : List Seg) → map elements_of (map (view_of d) segs) ≡ map (λ seg. parts d.element seg.bytes) segs
elements_of-views d [] = refl
elements_of-views d (seg ∷ segs) = ap (λ (list : List (List (List ℕ))). parts d.element seg.bytes ∷ list) (elements_of-views d segs)

-- written segments are read as they were written
pub segments_text-reads_back : (d : Delims) (segments : List WrittenSegment) → d.element ≢ d.terminator → All (IsReadable d) segments
    → map elements_of (views (segments_text d segments) d) ≡ map written_parts segments
segments_text-reads_back d segments other readable =
    elements_of-views d (Segs (segments_text d segments) d.terminator) ∙ read-all d segments 0 other readable
