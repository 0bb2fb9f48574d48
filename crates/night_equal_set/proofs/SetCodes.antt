-- The codes of a set, and its verdict.
use Rattle.std.proofs.Common.{◌≡◌, ℕ, ◌+◌, List, [], ◌∷◌, ◌++◌, length, Bool, true, false, ◌&&◌, ◌||◌, not, Option, Some, None, refl, sym}
use Rattle.std.proofs.Common.{ap, ◌∙◌, arith}
use Rattle.std.specs.Prelude.{◌==◌, IsTrue, bytes_eq, codes, if◌then◌else◌, is_some, is_none, option_map, take, nat_lt, map}
use Rattle.std.specs.List.{list_all, list_any}
use Rattle.std.specs.Option.{option_map_or}
use Rattle.std.proofs.lemmas.Bool.{false≢true}
use Rattle.std.proofs.lemmas.List.{length-map, append_assoc}
use Rattle.x12_bytes.specs.declared.delims.Delims.{Delims}
use Rattle.x12_segs.specs.Words.{SegValue, elements_of}
use Rattle.hub_kinds.specs.Words.{segment_code_text, element_code_text, segment_rank, element_rank}
use Rattle.hub_kinds.specs.declared.fault.Fault.{Fault}
use Rattle.hub_kinds.specs.declared.fault.ElemFault.{ElemFault}
use Rattle.hub_kinds.specs.declared.codes.SegmentCode.{SegmentCode}
use Rattle.hub_kinds.specs.declared.codes.SegmentCode.TheVariants as ik304
use Rattle.hub_kinds.specs.declared.codes.ElementCode.{ElementCode}
use Rattle.hub_kinds.specs.declared.codes.ElementCode.TheVariants as ik403
use Rattle.hub_kinds.specs.declared.set_codes.SetCode.{SetCode}
use Rattle.hub_kinds.specs.declared.set_codes.SetCode.TheVariants as ik502
use Rattle.hub_kinds.specs.declared.set_codes.Verdict.TheVariants.{Accepted, AcceptedWithErrors, Rejected}
use Rattle.guide_tree.specs.Tree.{GuideTree}
use Rattle.set_check.specs.SetParts.{SetParts, segments_of_set}
use Rattle.set_check.specs.Codes as old
use Rattle.set_check.specs.Verdict as old_verdict
use Rattle.night_definition.specs.Segments.{Segment, Elements, element}
use Rattle.night_definition.specs.Header.{number_of}
use Rattle.night_definition.specs.Envelopes.{Set}
use Rattle.night_definition.specs.Codes.{ik304_of, ik403_of}
use Rattle.night_definition.specs.Elements.{is_filled}
use Rattle.night_definition.specs.Sets as room
use Rattle.night_equal_set.specs.Parts.{IsThatSet}
use Rattle.night_equal_set.specs.SetCodes.{is_told, SetCodesAreOne, VerdictsAreOne}

-- each code's text is that of the table
pub segment_text : (c : SegmentCode) → (ik304_of c).0 ≡ segment_code_text c
segment_text ik304.UnrecognizedSegment = refl
segment_text ik304.UnexpectedSegment = refl
segment_text ik304.RequiredSegmentMissing = refl
segment_text ik304.LoopTooOften = refl
segment_text ik304.SegmentTooOften = refl
segment_text ik304.NotInSet = refl
segment_text ik304.OutOfSequence = refl
segment_text ik304.ElementErrors = refl
segment_text ik304.NotUsedPresent = refl
segment_text ik304.DependentMissing = refl
segment_text ik304.LoopTooSeldom = refl
segment_text ik304.SegmentTooSeldom = refl
segment_text ik304.DependentNotUsedPresent = refl

abbrev told : SegmentCode → Option ElemFault → List ℕ
told c e = option_map_or (λ (e : ElemFault). (ik403_of e.code).0) e (ik304_of c).0

element_guides : (c : ElementCode) → room.is_of_guides (ik403_of c).0 ≡ old.is_of_guides (element_code_text c)
element_guides ik403.RequiredMissing = refl
element_guides ik403.ConditionalMissing = refl
element_guides ik403.TooManyElements = refl
element_guides ik403.TooShort = refl
element_guides ik403.TooLong = refl
element_guides ik403.InvalidCharacter = refl
element_guides ik403.InvalidCode = refl
element_guides ik403.InvalidDate = refl
element_guides ik403.InvalidTime = refl
element_guides ik403.ExclusionViolated = refl
element_guides ik403.TooManyRepetitions = refl
element_guides ik403.TooManyComponents = refl
element_guides ik403.CodeNotUsed = refl
element_guides ik403.DependentMissing = refl
element_guides ik403.NotUsedPresent = refl
element_guides ik403.PatternFailure = refl
element_guides ik403.DependentNotUsedPresent = refl

segment_guides : (c : SegmentCode) → not (bytes_eq (segment_code_text c) (codes "8")) ≡ true
    → room.is_of_guides (ik304_of c).0 ≡ option_map_or old.is_of_guides (old.reported_by c None) false
segment_guides ik304.UnrecognizedSegment is = refl
segment_guides ik304.UnexpectedSegment is = refl
segment_guides ik304.RequiredSegmentMissing is = refl
segment_guides ik304.LoopTooOften is = refl
segment_guides ik304.SegmentTooOften is = refl
segment_guides ik304.NotInSet is = refl
segment_guides ik304.OutOfSequence is = refl
segment_guides ik304.ElementErrors is = absurd (false≢true is)
segment_guides ik304.NotUsedPresent is = refl
segment_guides ik304.DependentMissing is = refl
segment_guides ik304.LoopTooSeldom is = refl
segment_guides ik304.SegmentTooSeldom is = refl
segment_guides ik304.DependentNotUsedPresent is = refl

segment_standard : (c : SegmentCode) → not (bytes_eq (segment_code_text c) (codes "8")) ≡ true
    → not (room.is_of_guides (ik304_of c).0) ≡ option_map_or (λ c. not (old.is_of_guides c)) (old.reported_by c None) false
segment_standard ik304.UnrecognizedSegment is = refl
segment_standard ik304.UnexpectedSegment is = refl
segment_standard ik304.RequiredSegmentMissing is = refl
segment_standard ik304.LoopTooOften is = refl
segment_standard ik304.SegmentTooOften is = refl
segment_standard ik304.NotInSet is = refl
segment_standard ik304.OutOfSequence is = refl
segment_standard ik304.ElementErrors is = absurd (false≢true is)
segment_standard ik304.NotUsedPresent is = refl
segment_standard ik304.DependentMissing is = refl
segment_standard ik304.LoopTooSeldom is = refl
segment_standard ik304.SegmentTooSeldom is = refl
segment_standard ik304.DependentNotUsedPresent is = refl

guides : (c : SegmentCode) (e : Option ElemFault) → (is_some e || not (bytes_eq (segment_code_text c) (codes "8"))) ≡ true
    → room.is_of_guides (told c e) ≡ option_map_or old.is_of_guides (old.reported_by c e) false
guides c None is = segment_guides c is
guides c (Some e) is = element_guides e.code

standard : (c : SegmentCode) (e : Option ElemFault) → (is_some e || not (bytes_eq (segment_code_text c) (codes "8"))) ≡ true
    → not (room.is_of_guides (told c e)) ≡ option_map_or (λ c. not (old.is_of_guides c)) (old.reported_by c e) false
standard c None is = segment_standard c is
standard c (Some e) is = ap not (element_guides e.code)

front : (a b : Bool) → (a && b) ≡ true → a ≡ true
front a b is = grind arith

rest : (a b : Bool) → (a && b) ≡ true → b ≡ true
rest a b is = grind arith

any_is : (p q : Fault → Bool) → ((f : Fault) → is_told f ≡ true → p f ≡ q f) → (faults : List Fault) → list_all is_told faults ≡ true
    → list_any p faults ≡ list_any q faults
any_is p q same [] are = refl
any_is p q same (f ∷ faults) are =
    ap (λ b. b || list_any p faults) (same f (front (is_told f) (list_all is_told faults) are))
    ∙ ap (λ b. q f || b) (any_is p q same faults (rest (is_told f) (list_all is_told faults) are))

if_is : (b : Bool) (c : SetCode) → room.code_if b c ≡ old.code_if b c
if_is true c = refl
if_is false c = refl

count_is : (n : ℕ) (o : Option ℕ) → option_map_or (λ m. m == n) o false ≡ old.is_count n o
count_is n None = refl
count_is n (Some m) = refl

pub segment_rank_is : (c : SegmentCode) → (ik304_of c).1 ≡ segment_rank c
segment_rank_is ik304.UnrecognizedSegment = refl
segment_rank_is ik304.UnexpectedSegment = refl
segment_rank_is ik304.RequiredSegmentMissing = refl
segment_rank_is ik304.LoopTooOften = refl
segment_rank_is ik304.SegmentTooOften = refl
segment_rank_is ik304.NotInSet = refl
segment_rank_is ik304.OutOfSequence = refl
segment_rank_is ik304.ElementErrors = refl
segment_rank_is ik304.NotUsedPresent = refl
segment_rank_is ik304.DependentMissing = refl
segment_rank_is ik304.LoopTooSeldom = refl
segment_rank_is ik304.SegmentTooSeldom = refl
segment_rank_is ik304.DependentNotUsedPresent = refl

pub element_rank_is : (c : ElementCode) → (ik403_of c).1 ≡ element_rank c
element_rank_is ik403.RequiredMissing = refl
element_rank_is ik403.ConditionalMissing = refl
element_rank_is ik403.TooManyElements = refl
element_rank_is ik403.TooShort = refl
element_rank_is ik403.TooLong = refl
element_rank_is ik403.InvalidCharacter = refl
element_rank_is ik403.InvalidCode = refl
element_rank_is ik403.InvalidDate = refl
element_rank_is ik403.InvalidTime = refl
element_rank_is ik403.ExclusionViolated = refl
element_rank_is ik403.TooManyRepetitions = refl
element_rank_is ik403.TooManyComponents = refl
element_rank_is ik403.CodeNotUsed = refl
element_rank_is ik403.DependentMissing = refl
element_rank_is ik403.NotUsedPresent = refl
element_rank_is ik403.PatternFailure = refl
element_rank_is ik403.DependentNotUsedPresent = refl

tells : (c : SetCode) → room.reports_faults c ≡ old_verdict.tells_of_faults c
tells ik502.SegmentsInError = refl
tells ik502.ImplementationSegmentsInError = refl
tells ik502.NotSupported = refl
tells ik502.TrailerMissing = refl
tells ik502.ControlNumbersDiffer = refl
tells ik502.SegmentCountWrong = refl
tells ik502.ControlNumberInvalid = refl
tells ik502.ControlNumberNotUnique = refl
tells ik502.ConventionNotSupported = refl

segment_tolerated : (listed : List SegmentCode) (c : SegmentCode)
    → list_any (λ x. (ik304_of x).1 == (ik304_of c).1) listed ≡ old_verdict.lists_segment_code listed c
segment_tolerated [] c = refl
segment_tolerated (x ∷ listed) c =
    ap (λ n. n == (ik304_of c).1 || list_any (λ x. (ik304_of x).1 == (ik304_of c).1) listed) (segment_rank_is x)
    ∙ ap (λ n. segment_rank x == n || list_any (λ x. (ik304_of x).1 == (ik304_of c).1) listed) (segment_rank_is c)
    ∙ ap (λ b. segment_rank x == segment_rank c || b) (segment_tolerated listed c)

element_tolerated : (listed : List ElementCode) (c : ElementCode)
    → list_any (λ x. (ik403_of x).1 == (ik403_of c).1) listed ≡ old_verdict.lists_element_code listed c
element_tolerated [] c = refl
element_tolerated (x ∷ listed) c =
    ap (λ n. n == (ik403_of c).1 || list_any (λ x. (ik403_of x).1 == (ik403_of c).1) listed) (element_rank_is x)
    ∙ ap (λ n. element_rank x == n || list_any (λ x. (ik403_of x).1 == (ik403_of c).1) listed) (element_rank_is c)
    ∙ ap (λ b. element_rank x == element_rank c || b) (element_tolerated listed c)

tolerated_by : (g : GuideTree) (c : SegmentCode) (e : Option ElemFault)
    → option_map_or (λ (e : ElemFault). list_any (λ c. (ik403_of c).1 == (ik403_of e.code).1) g.head.tolerate_element) e
    (list_any (λ x. (ik304_of x).1 == (ik304_of c).1) g.head.tolerate_segment) ≡ old_verdict.tolerates_code g c e
tolerated_by g c None = segment_tolerated g.head.tolerate_segment c
tolerated_by g c (Some e) = element_tolerated g.head.tolerate_element e.code

tolerated : (guide : Option GuideTree) (f : Fault) → option_map_or (λ g. room.tolerates g f) guide false ≡ old_verdict.tolerates guide f
tolerated None f = refl
tolerated (Some g) f = tolerated_by g f.code f.elem

all_tolerated : (guide : Option GuideTree) (faults : List Fault)
    → list_all (λ f. option_map_or (λ g. room.tolerates g f) guide false) faults ≡ list_all (old_verdict.tolerates guide) faults
all_tolerated guide [] = refl
all_tolerated guide (f ∷ faults) =
    ap (λ b. b && list_all (λ f. option_map_or (λ g. room.tolerates g f) guide false) faults) (tolerated guide f)
    ∙ ap (λ b. old_verdict.tolerates guide f && b) (all_tolerated guide faults)

all_tell : (codes : List SetCode) → list_all room.reports_faults codes ≡ list_all old_verdict.tells_of_faults codes
all_tell [] = refl
all_tell (c ∷ codes) =
    ap (λ b. b && list_all room.reports_faults codes) (tells c) ∙ ap (λ b. old_verdict.tells_of_faults c && b) (all_tell codes)

last : (guide : Option GuideTree) (faults : List Fault) (codes : List SetCode)
    → (if list_all room.reports_faults codes && list_all (λ f. option_map_or (λ g. room.tolerates g f) guide false) faults
    then AcceptedWithErrors else Rejected)
    ≡ (if list_all old_verdict.tells_of_faults codes && list_all (old_verdict.tolerates guide) faults then AcceptedWithErrors
    else Rejected)
last guide faults codes =
    ap (λ b. if b && list_all (λ f. option_map_or (λ g. room.tolerates g f) guide false) faults then AcceptedWithErrors else Rejected)
    (all_tell codes)
    ∙ ap (λ b. if list_all old_verdict.tells_of_faults codes && b then AcceptedWithErrors else Rejected) (all_tolerated guide faults)

pub verdict : VerdictsAreOne
verdict guide [] [] = refl
verdict guide [] (c ∷ codes) = last guide [] (c ∷ codes)
verdict guide (f ∷ faults) codes = last guide (f ∷ faults) codes

absent : (u : Option Segment) → None ≡ option_map (λ (s : Segment). s.elements) u → u ≡ None
absent None is = refl
absent (Some u) is = absurd (false≢true (ap is_some is))

abbrev closed_codes : (control : List ℕ) (count : ℕ) (se : Elements) → List SetCode
closed_codes control count se =
    old.code_if (not (bytes_eq (element 2 se) control)) ik502.ControlNumbersDiffer
    ++ old.code_if (not (old.is_count count (number_of 10 (element 1 se)))) ik502.SegmentCountWrong

room_closed : (set : Set) (se : Segment)
    → (room.code_if (not (bytes_eq (element 2 se.elements) (room.control_of set))) ik502.ControlNumbersDiffer
    ++ room.code_if (not (room.is_counted set se.elements)) ik502.SegmentCountWrong)
    ≡ closed_codes (room.control_of set) (room.segment_count set) se.elements
room_closed set se =
    let differ : Bool = not (bytes_eq (element 2 se.elements) (room.control_of set)) in
    ap (λ xs. xs ++ room.code_if (not (room.is_counted set se.elements)) ik502.SegmentCountWrong)
    (if_is differ ik502.ControlNumbersDiffer)
    ∙ ap (λ xs. old.code_if differ ik502.ControlNumbersDiffer ++ xs)
    (if_is (not (room.is_counted set se.elements)) ik502.SegmentCountWrong
    ∙ ap (λ b. old.code_if (not b) ik502.SegmentCountWrong) (count_is (room.segment_count set) (number_of 10 (element 1 se.elements))))

abbrev room_trailer : Set → Option Segment → List SetCode
room_trailer set trailer =
    option_map_or (λ (se : Segment).
    room.code_if (not (bytes_eq (element 2 se.elements) (room.control_of set))) ik502.ControlNumbersDiffer
    ++ room.code_if (not (room.is_counted set se.elements)) ik502.SegmentCountWrong)
    trailer (ik502.TrailerMissing ∷ [])

abbrev old_trailer : (header : SegValue) (count : ℕ) (trailer : Option SegValue) → List SetCode
old_trailer header count trailer =
    old.code_if (is_none trailer) ik502.TrailerMissing
    ++ old.code_if (old.has_other_control header trailer) ik502.ControlNumbersDiffer
    ++ old.code_if (old.has_other_count count trailer) ik502.SegmentCountWrong

some_is : {A : Type 0} (x y : List A) → Some x ≡ Some y → x ≡ y
some_is x y is = ap (λ o. option_map_or (λ z. z) o x) is

trailer_is : (set : Set) (header : SegValue) (t : Option SegValue) (u : Option Segment)
    → elements_of header ≡ set.header.elements → option_map elements_of t ≡ option_map (λ (s : Segment). s.elements) u
    → room_trailer set u ≡ old_trailer header (room.segment_count set) t
trailer_is set header None None same are = refl
trailer_is set header None (Some u) same are = absurd (false≢true (ap is_some are))
trailer_is set header (Some t) None same are = absurd (false≢true (ap is_some (sym are)))
trailer_is set header (Some t) (Some u) same are =
    room_closed set u
    ∙ ap (λ se. closed_codes (room.control_of set) (room.segment_count set) se) (sym (some_is (elements_of t) u.elements are))
    ∙ ap (λ st. closed_codes (element 2 st) (room.segment_count set) (elements_of t)) (sym same)

trailers : {A B C : Type 0} (f : A → C) (g : B → C) (t : Option A) (u : Option B) → option_map f t ≡ option_map g u → is_some t
    ≡ is_some u
trailers f g t u are = sym (some_map f t) ∙ ap is_some are ∙ some_map g u
  where
    some_map : {D E : Type 0} (h : D → E) (o : Option D) → is_some (option_map h o) ≡ is_some o
    some_map h None = refl
    some_map h (Some x) = refl

sized : (parts : SetParts) (t : Option SegValue) (b : Bool) → is_some t ≡ b
    → segments_of_set (record parts { trailer = t }) ≡ length parts.body + (if b then 2 else 1)
sized parts None true is = absurd (false≢true is)
sized parts None false is = refl
sized parts (Some t) true is = refl
sized parts (Some t) false is = absurd (false≢true (sym is))

pub size_is : (d : Delims) (set : Set) (parts : SetParts) → IsThatSet d set parts → segments_of_set parts ≡ room.segment_count set
size_is d set parts is =
    sized parts parts.trailer (is_some set.trailer) (trailers elements_of
    (λ (s : Segment). s.elements) parts.trailer set.trailer is.trailer)
    ∙ ap (λ n. n + (if is_some set.trailer then 2 else 1)) (ap length is.body ∙ length-map set.inner (λ (s : Segment). s.elements))

other_is : (d : Delims) (o : Option (List ℕ)) (st03 : List ℕ)
    → option_map_or (λ own. is_filled d st03 && not (bytes_eq st03 own)) o false ≡ old.is_other d o st03
other_is d None st03 = refl
other_is d (Some own) st03 = refl

convention_is : (d : Delims) (guide : Option GuideTree) (set : Set) (header : SegValue) → elements_of header ≡ set.header.elements
    → header.delims ≡ d
    → option_map_or (λ g. room.has_other_convention d g set) guide false
    ≡ old.has_other_convention header.delims guide (element 3 (elements_of header))
convention_is d None set header same by = refl
convention_is d (Some g) set header same by =
    other_is d g.head.convention (element 3 set.header.elements)
    ∙ ap (λ st. old.is_other d g.head.convention (element 3 st)) (sym same)
    ∙ ap (λ e. old.is_other e g.head.convention (element 3 (elements_of header))) (sym by)

guideless : (guide : Option GuideTree) → room.code_if (is_none guide) ik502.NotSupported ≡ old.guide_codes guide
guideless None = refl
guideless (Some g) = refl

in_order : (a b c t s e v a' b' c' t' s' e' v' : List SetCode) → a ≡ a' → b ≡ b' → c ≡ c' → t ≡ t' → s ≡ s' → e ≡ e' → v ≡ v'
    → a ++ b ++ c ++ t ++ s ++ e ++ v ≡ a' ++ b' ++ c' ++ (t' ++ s') ++ e' ++ v'
in_order a b c t s e v a' b' c' t' s' e' v' pa pb pc pt ps pe pv =
    ap (λ x. x ++ b ++ c ++ t ++ s ++ e ++ v) pa ∙ ap (λ x. a' ++ x ++ c ++ t ++ s ++ e ++ v) pb
    ∙ ap (λ x. a' ++ b' ++ x ++ t ++ s ++ e ++ v) pc
    ∙ ap (λ x. a' ++ b' ++ c' ++ x ++ s ++ e ++ v) pt ∙ ap (λ x. a' ++ b' ++ c' ++ t' ++ x ++ e ++ v) ps
    ∙ ap (λ x. a' ++ b' ++ c' ++ t' ++ s' ++ x ++ v) pe ∙ ap (λ x. a' ++ b' ++ c' ++ t' ++ s' ++ e' ++ x) pv
    ∙ ap (λ x. x ++ e' ++ v') (append_assoc (a' ++ b' ++ c') t' s')

pub set_codes : SetCodesAreOne
set_codes guide d set parts faults earlier is told =
    let header : SegValue = parts.header in
    let standards : Bool = list_any (λ f. not (room.is_of_guides (room.reported_code f))) faults in
    let of_guides : Bool = list_any (λ f. room.is_of_guides (room.reported_code f)) faults in
    ap (take 5)
    (in_order (room.code_if standards ik502.SegmentsInError) (room.code_if of_guides ik502.ImplementationSegmentsInError)
    (room.code_if (is_none guide) ik502.NotSupported) (room.trailer_codes set)
    (room.code_if (nat_lt (length (room.control_of set)) 4) ik502.ControlNumberInvalid)
    (room.code_if earlier ik502.ControlNumberNotUnique)
    (room.code_if (option_map_or (λ g. room.has_other_convention d g set) guide false) ik502.ConventionNotSupported)
    _ _ _ _ _ _ _
    (if_is standards ik502.SegmentsInError ∙ ap (λ b. old.code_if b ik502.SegmentsInError)
    (any_is (λ f. not (room.is_of_guides (room.reported_code f))) (λ f. option_map_or (λ c. not (old.is_of_guides c))
    (old.reported f) false)
    (λ f is. standard f.code f.elem is) faults told))
    (if_is of_guides ik502.ImplementationSegmentsInError ∙ ap (λ b. old.code_if b ik502.ImplementationSegmentsInError)
    (any_is (λ f. room.is_of_guides (room.reported_code f)) (λ f. option_map_or old.is_of_guides (old.reported f) false)
    (λ f is. guides f.code f.elem is) faults told))
    (guideless guide)
    (trailer_is set header parts.trailer set.trailer is.header is.trailer
    ∙ ap (λ n. old_trailer header n parts.trailer) (sym (size_is d set parts is)))
    (if_is (nat_lt (length (room.control_of set)) 4) ik502.ControlNumberInvalid
    ∙ ap (λ st. old.code_if (nat_lt (length (element 2 st)) 4) ik502.ControlNumberInvalid) (sym is.header))
    (if_is earlier ik502.ControlNumberNotUnique)
    (if_is (option_map_or (λ g. room.has_other_convention d g set) guide false) ik502.ConventionNotSupported
    ∙ ap (λ b. old.code_if b ik502.ConventionNotSupported) (convention_is d guide set header is.header is.header_delims)))
