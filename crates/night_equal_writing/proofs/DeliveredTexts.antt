-- The text of a delivered set.
use Rattle.std.proofs.Common.{◌≡◌, ℕ, ◌+◌, ◌-◌, List, [], ◌∷◌, ◌++◌, map, Bool, true, false, ◌||◌, length, refl, sym, ap, ◌∙◌}
use Rattle.std.proofs.Math.Path.{fun_ext}
use Rattle.std.proofs.lemmas.Bool.{eq-eqb}
use Rattle.std.proofs.lemmas.List.{length-map, append-nil, map-append}
use Rattle.std.proofs.lemmas.List.Folds.{flat_map-map}
use Rattle.std.proofs.lemmas.List.Splits.{join_with_byte-slice_split}
use Rattle.std.specs.Prelude.{◌==◌, if◌then◌else◌, codes, decimal, take, drop, flat_map, unwrap_or}
use Rattle.std.specs.List.{join_with_byte}
use Rattle.x12_bytes.specs.declared.delims.Delims.{Delims}
use Rattle.x12_segs.specs.Words.{Seg, SegValue, elements_of, view_of}
use Rattle.x12_write.specs.Delimiters as old_delims
use Rattle.x12_write.specs.Number.{set_number}
use Rattle.answered_sets.specs.Judged.{PlacedValue, delims_in}
use Rattle.mailbox.specs.Deliveries as old
use Rattle.mailbox.specs.Mailbox as old_box
use Rattle.night_definition.specs.Segments.{Elements, Segment, element}
use Rattle.night_definition.specs.Elements as room_elements
use Rattle.night_definition.specs.Written as room_written
use Rattle.night_definition.specs.Deliveries as room
use Rattle.night_definition.specs.Deliveries.{Sent, delivered}
use Rattle.night_equal_writing.specs.Deliveries.{IsSeen, IsPlain}
use Rattle.night_equal_writing.proofs.Texts.{segment_is}
use Rattle.night_equal_writing.proofs.Acknowledgments.{this_is, delimiter_is}
use Rattle.night_equal_writing.proofs.Blocked.{segs_in, inner_are}

-- the texts of delivered sets
mapped_is : (from to : Delims) (text : List ℕ) → room.mapped from to text ≡ old_box.mapped from to text
mapped_is from to text =
    ap (λ (h : ℕ → ℕ). map h text) (fun_ext (λ b. ap (λ t.
    if b == from.element then to.element
    else if b == from.component then to.component
    else if b == from.terminator then to.terminator
    else if t then unwrap_or to.repetition b
    else b) (this_is from.repetition b)))

abbrev byte_of : (from to : Delims) → ℕ → ℕ
byte_of from to b =
    if b == from.element then to.element
    else if b == from.component then to.component
    else if b == from.terminator then to.terminator
    else if room_elements.is_this from.repetition b then unwrap_or to.repetition b
    else b

left_alone : (e c t r : Bool) (x y z w b : ℕ) → (e || c || t || r) ≡ false
    → (if e then x else if c then y else if t then z else if r then w else b) ≡ b
left_alone false false false false x y z w b none = refl
left_alone true c t r x y z w b none = cc
left_alone false true t r x y z w b none = cc
left_alone false false true r x y z w b none = cc
left_alone false false false true x y z w b none = cc

alone : (from to : Delims) (b : ℕ) → old_delims.is_delimiter from b ≡ false → byte_of from to b ≡ b
alone from to b none =
    left_alone (b == from.element) (b == from.component) (b == from.terminator) (room_elements.is_this from.repetition b)
    to.element to.component to.terminator (unwrap_or to.repetition b) b (delimiter_is from b ∙ none)

separator_becomes : (from to : Delims) → byte_of from to from.element ≡ to.element
separator_becomes from to =
    ap (λ t. if t then to.element
    else if from.element == from.component then to.component
    else if from.element == from.terminator then to.terminator
    else if room_elements.is_this from.repetition from.element then unwrap_or to.repetition from.element
    else from.element) (eq-eqb from.element from.element refl)

letters : (from to : Delims) → old_delims.is_delimiter from 83 ≡ false → old_delims.is_delimiter from 84 ≡ false
    → room.mapped from to (codes "ST") ≡ codes "ST"
letters from to s t = ap (λ b. b ∷ byte_of from to 84 ∷ []) (alone from to 83 s) ∙ ap (λ b. 83 ∷ b ∷ []) (alone from to 84 t)

joined : (from to : Delims) (es : Elements) → room.elements_text from to es ≡ room.mapped from to (join_with_byte from.element es)
joined from to [] = refl
joined from to (x ∷ []) = append-nil (room.mapped from to x)
joined from to (x ∷ y ∷ ys) =
    ap (λ t. room.mapped from to x ++ to.element ∷ t) (joined from to (y ∷ ys))
    ∙ sym (ap (λ b. room.mapped from to x ++ b ∷ room.mapped from to (join_with_byte from.element (y ∷ ys))) (separator_becomes from to))
    ∙ sym (map-append (byte_of from to) x (from.element ∷ join_with_byte from.element (y ∷ ys)))

segment_text_is : (from to : Delims) (seg : Seg)
    → room.elements_text from to (elements_of (view_of from seg)) ++ to.terminator ∷ [] ≡ room.mapped from to seg.bytes
    ++ to.terminator ∷ []
segment_text_is from to seg =
    ap (λ t. t ++ to.terminator ∷ [])
    (joined from to (elements_of (view_of from seg)) ∙ ap (room.mapped from to) (join_with_byte-slice_split from.element seg.bytes))

inner_text_is : (from to : Delims) (segs : List Seg)
    → flat_map (λ (s : SegValue). room.elements_text from to (elements_of s) ++ to.terminator ∷ []) (map (view_of from) segs)
    ≡ flat_map (λ (s : SegValue). room.mapped from to s.bytes ++ to.terminator ∷ []) (map (view_of from) segs)
inner_text_is from to segs =
    flat_map-map (λ (s : SegValue). room.elements_text from to (elements_of s) ++ to.terminator ∷ []) (view_of from) segs
    ∙ ap (λ (h : Seg → List ℕ). flat_map h segs) (fun_ext (segment_text_is from to))
    ∙ sym (flat_map-map (λ (s : SegValue). room.mapped from to s.bytes ++ to.terminator ∷ []) (view_of from) segs)

-- a header, its bytes changed so
abbrev header_by : (m : List ℕ → List ℕ) → (to : Delims) → (n : ℕ) → Elements → List ℕ
header_by m to n st =
    codes "ST" ++ flat_map (λ e. to.element ∷ e) (map m (take 1 (drop 1 st)))
    ++ flat_map (λ e. to.element ∷ e) (set_number n ∷ [])
    ++ flat_map (λ e. to.element ∷ e) (map m (drop 2 (drop 1 st)))
    ++ to.terminator ∷ []

header_is : (from to : Delims) (n : ℕ) (st : Elements) → element 0 st ≡ codes "ST" → room.mapped from to (codes "ST") ≡ codes "ST"
    → (room.elements_text from to (take 2 st) ++ to.element ∷ set_number n
    ++ flat_map (λ e. to.element ∷ room.mapped from to e) (drop 3 st) ++ to.terminator ∷ [])
    ≡ header_by (room.mapped from to) to n st
header_is from to n [] id same = cc
header_is from to n (x ∷ rest) id same =
    let m : List ℕ → List ℕ = room.mapped from to in
    ap (λ t. m t ++ flat_map (λ e. to.element ∷ m e) (take 1 rest) ++ to.element ∷ set_number n
    ++ flat_map (λ e. to.element ∷ m e) (drop 2 rest) ++ to.terminator ∷ []) id
    ∙ ap (λ t. t ++ flat_map (λ e. to.element ∷ m e) (take 1 rest) ++ to.element ∷ set_number n
    ++ flat_map (λ e. to.element ∷ m e) (drop 2 rest) ++ to.terminator ∷ []) same
    ∙ ap (λ t. codes "ST" ++ t ++ to.element ∷ set_number n
    ++ flat_map (λ e. to.element ∷ m e) (drop 2 rest) ++ to.terminator ∷ []) (sym (flat_map-map (λ e. to.element ∷ e) m (take 1 rest)))
    ∙ ap (λ t. codes "ST" ++ flat_map (λ e. to.element ∷ e) (map m (take 1 rest)) ++ t
    ++ flat_map (λ e. to.element ∷ m e) (drop 2 rest) ++ to.terminator ∷ []) (sym (append-nil (to.element ∷ set_number n)))
    ∙ ap (λ t. codes "ST" ++ flat_map (λ e. to.element ∷ e) (map m (take 1 rest))
    ++ flat_map (λ e. to.element ∷ e) (set_number n ∷ [])
    ++ t ++ to.terminator ∷ []) (sym (flat_map-map (λ e. to.element ∷ e) m (drop 2 rest)))

abbrev text_by : (m : List ℕ → List ℕ) → (to : Delims) → (n : ℕ) → PlacedValue → List ℕ
text_by m to n p =
    header_by m to n (elements_of p.set.header) ++ flat_map (λ (s : SegValue). m s.bytes ++ to.terminator ∷ []) (old.inner_in p)
    ++ old_box.set_trailer_text to (length (old.inner_in p) + 2) n

pub text_is : (to : Delims) (control : ℕ) (p : PlacedValue) (s : Sent) → IsSeen p s → IsPlain p
    → room.set_text to control s ≡ old_box.set_text to p control
text_is to control p s is plain =
    let d : Delims = delims_in p in
    let st : Elements = elements_of p.set.header in
    let inner : List Segment = s.answer.set.inner in
    let els : Segment → Elements = λ (x : Segment). x.elements in
    let se : ℕ → List ℕ = λ k. room_written.segment_text to (codes "SE") (decimal (k + 2) ∷ set_number control ∷ []) in
    let head : Delims → Elements → List ℕ = λ d st. room.elements_text d to (take 2 st) ++ to.element ∷ set_number control
    ++ flat_map (λ e. to.element ∷ room.mapped d to e) (drop 3 st) ++ to.terminator ∷ [] in
    let body : Delims → List Segment → List ℕ = λ d inner. flat_map
    (λ (x : Segment). room.elements_text d to x.elements ++ to.terminator ∷ []) inner in
    ap (λ (d : Delims). head d s.answer.set.header.elements ++ body d inner ++ se (length inner)) is.delims
    ∙ ap (λ (st : Elements). head d st ++ body d inner ++ se (length inner)) is.st
    ∙ ap (λ t. t ++ body d inner ++ se (length inner)) (header_is d to control st plain.id (letters d to plain.s plain.t))
    ∙ ap (λ t. header_by (room.mapped d to) to control st ++ t ++ se (length inner))
    (sym (flat_map-map (λ (e : Elements). room.elements_text d to e ++ to.terminator ∷ []) els inner)
    ∙ ap (flat_map (λ (e : Elements). room.elements_text d to e ++ to.terminator ∷ [])) is.inner
    ∙ flat_map-map (λ (e : Elements). room.elements_text d to e ++ to.terminator ∷ []) elements_of (old.inner_in p)
    ∙ ap (flat_map (λ (s : SegValue). room.elements_text d to (elements_of s) ++ to.terminator ∷ [])) (inner_are p)
    ∙ inner_text_is d to (segs_in p)
    ∙ sym (ap (flat_map (λ (s : SegValue). room.mapped d to s.bytes ++ to.terminator ∷ [])) (inner_are p)))
    ∙ ap (λ t. header_by (room.mapped d to) to control st
    ++ flat_map (λ (s : SegValue). room.mapped d to s.bytes ++ to.terminator ∷ []) (old.inner_in p) ++ t)
    (ap se (sym (length-map inner els) ∙ ap length is.inner ∙ length-map (old.inner_in p) elements_of)
    ∙ segment_is to (codes "SE") (decimal (length (old.inner_in p) + 2) ∷ set_number control ∷ []))
    ∙ ap (λ (m : List ℕ → List ℕ). text_by m to control p) (fun_ext (mapped_is d to))
