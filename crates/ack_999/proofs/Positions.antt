-- What is reported at each position.
use Rattle.std.proofs.Common.{◌≡◌, ℕ, Bool, true, false, List, [], ◌∷◌, ◌++◌, map, refl, sym, ap, ◌∙◌}
use Rattle.std.proofs.Common.{arith, append_assoc, eq-eqb}
use Rattle.std.proofs.Common.{Option, Some, None}
use Rattle.std.specs.Prelude.{◌==◌, nat_lt, is_some, filter, filter_map, ⊤, if◌then◌else◌}
use Rattle.std.specs.List.{AllByRecursion}
use Rattle.std.proofs.lemmas.Bool.{ne_eqb, ltb-true, ltb-false, le-ltb, eqb-true}
use Rattle.std.proofs.lemmas.List.Elements.{recursion_from_All}
use Rattle.std.proofs.lemmas.List.{map-append}
use Rattle.std.proofs.lemmas.List.Kept.{IsStrictlySortedBy-filter}
use Rattle.hub_kinds.specs.Words.{segment_rank, AreRising, key_of, order_by}
use Rattle.hub_kinds.specs.declared.codes.SegmentCode.TheVariants.{ElementErrors}
use Rattle.hub_kinds.specs.declared.fault.ElemFault.{ElemFault}
use Rattle.hub_kinds.specs.declared.fault.Fault.{Fault}
use Rattle.x12_write.specs.Delimiters.{is_this}
use Rattle.ack_999.specs.Faults.{Note, SegmentNote, ElementNote, notes_for, notes_on, notes_behind, notes, element_position, note_segment}
use Rattle.ack_999.specs.Rising.{is_of_element, rank_of, IsToldByElements, comes_before, comes_behind}
use Rattle.ack_999.specs.Rising.{is_below, is_at, is_above, segment_notes, element_notes, notes_at, TellsEachPosition}
use Rattle.ack_999.proofs.Thirds.{position-rises, rank-rises, rises-from, every, weaker, filter-passes, filter-keeps, filter-alike}
use Rattle.ack_999.proofs.Thirds.{thirds}

-- the position of the last fault, where that is an element fault
abbrev after : Option ℕ → List Fault → Option ℕ
after before [] = before
after before (f ∷ faults) = after (element_position f) faults

notes-append : (before : Option ℕ) (xs ys : List Fault)
    → notes_behind before (xs ++ ys) ≡ notes_behind before xs ++ notes_behind (after before xs) ys
notes-append before [] ys = refl
notes-append before (x ∷ xs) ys =
    ap (λ (l : List Note). notes_on before x ++ l) (notes-append (element_position x) xs ys)
    ∙ sym (append_assoc (notes_on before x) (notes_behind (element_position x) xs) (notes_behind (after (element_position x) xs) ys))

-- where the fault before is none of this position, it is as if there were none
fresh-one : (before : Option ℕ) (y : Fault) (elem : Option ElemFault) → is_this before y.position ≡ false
    → notes_for before y elem ≡ notes_for None y elem
fresh-one before y None apart = refl
fresh-one before y (Some e) apart = ap (λ (b : Bool). (if b then [] else SegmentNote y ∷ []) ++ ElementNote e ∷ []) apart

fresh : (before : Option ℕ) (ys : List Fault) → AllByRecursion (λ y. is_this before y.position ≡ false) ys
    → notes_behind before ys ≡ notes_behind None ys
fresh before [] apart = refl
fresh before (y ∷ ys) apart = ap (λ (l : List Note). l ++ notes_behind (element_position y) ys) (fresh-one before y y.elem apart.0)

position-apart : (f : Fault) (q : ℕ) → (f.position == q) ≡ false → is_this (element_position f) q ≡ false
position-apart f q apart = by f.elem refl
  where
    by : (o : Option ElemFault) → f.elem ≡ o → is_this (element_position f) q ≡ false
    by None is = rw is refl
    by (Some e) is = rw is apart

after-apart : (q : ℕ) (before : Option ℕ) (xs : List Fault) → is_this before q ≡ false → AllByRecursion (λ f. (f.position == q) ≡ false) xs
    → is_this (after before xs) q ≡ false
after-apart q before [] apart all = apart
after-apart q before (x ∷ xs) apart all = after-apart q (element_position x) xs (position-apart x q all.0) all.1

-- structural faults
structural-one : (before : Option ℕ) (f : Fault) → is_of_element f ≡ false
    → (notes_on before f ≡ SegmentNote f ∷ []) × (element_position f ≡ None)
structural-one before f none = by f.elem refl
  where
    by : (o : Option ElemFault) → f.elem ≡ o → (notes_on before f ≡ SegmentNote f ∷ []) × (element_position f ≡ None)
    by None is = rw is (refl, refl)
    by (Some e) is = let off = ap is_some is in cc (off, none)

structural : (before : Option ℕ) (xs : List Fault) → AllByRecursion (λ f. is_of_element f ≡ false) xs
    → notes_behind before xs ≡ segment_notes xs
structural before [] all = refl
structural before (x ∷ xs) all =
    ap (λ (l : List Note). l ++ notes_behind (element_position x) xs) (structural-one before x all.0).0
    ∙ ap (λ (l : List Note). SegmentNote x ∷ l) (structural (element_position x) xs all.1)

structural-after : (q : ℕ) (before : Option ℕ) (xs : List Fault) → is_this before q ≡ false
    → AllByRecursion (λ f. is_of_element f ≡ false) xs
    → is_this (after before xs) q ≡ false
structural-after q before [] apart all = apart
structural-after q before (x ∷ xs) apart all =
    structural-after q (element_position x) xs (ap (λ (o : Option ℕ). is_this o q) (structural-one before x all.0).1) all.1

-- element faults after one of their position
elements-more : (p : ℕ) (xs : List Fault) → AllByRecursion (λ f. is_of_element f ≡ true) xs → AllByRecursion (λ f. f.position ≡ p) xs
    → notes_behind (Some p) xs ≡ map (λ e. ElementNote e) (filter_map (λ g. g.elem) xs)
elements-more p [] all at = refl
elements-more p (x ∷ xs) all at = by x.elem refl (elements-more p xs all.1 at.1)
  where
    by : (o : Option ElemFault) → x.elem ≡ o → notes_behind (Some p) xs ≡ map (λ e. ElementNote e) (filter_map (λ g. g.elem) xs)
        → notes_behind (Some p) (x ∷ xs) ≡ map (λ e. ElementNote e) (filter_map (λ g. g.elem) (x ∷ xs))
    by None is rest = let off = ap is_some is in cc (off, all.0)
    by (Some e) is rest = rw (is, eq-eqb p x.position (sym at.0), at.0) (ap (λ (l : List Note). ElementNote e ∷ l) rest)

-- the first of them, after none of its position
element-one : (before : Option ℕ) (x : Fault) (e : ElemFault) → x.elem ≡ Some e → is_this before x.position ≡ false
    → (notes_on before x ≡ SegmentNote x ∷ ElementNote e ∷ []) × (element_position x ≡ Some x.position)
element-one before x e is apart = (
  ap (notes_for before x) is ∙ ap (λ (b : Bool). (if b then [] else SegmentNote x ∷ []) ++ ElementNote e ∷ []) apart,
  rw is refl,
)

shown-first : (x : Fault) (e : ElemFault) (xs : List Fault) → x.elem ≡ Some e
    → SegmentNote x ∷ ElementNote e ∷ map (λ e. ElementNote e) (filter_map (λ g. g.elem) xs) ≡ element_notes (x ∷ xs)
shown-first x e xs is = rw is refl

-- element faults of one position, after none of it
elements : (p : ℕ) (before : Option ℕ) (xs : List Fault) → is_this before p ≡ false → AllByRecursion (λ f. is_of_element f ≡ true) xs
    → AllByRecursion (λ f. f.position ≡ p) xs → notes_behind before xs ≡ element_notes xs
elements p before [] apart all at = refl
elements p before (x ∷ xs) apart all at = by x.elem refl
  where
    here : is_this before x.position ≡ false
    here = ap (is_this before) at.0 ∙ apart

    by : (o : Option ElemFault) → x.elem ≡ o → notes_behind before (x ∷ xs) ≡ element_notes (x ∷ xs)
    by None is = let off = ap is_some is in cc (off, all.0)
    by (Some e) is =
        let one = element-one before x e is here in
        ap (λ (l : List Note). l ++ notes_behind (element_position x) xs) one.0
        ∙ ap (λ (o : Option ℕ). SegmentNote x ∷ ElementNote e ∷ notes_behind o xs) (one.1 ∙ ap (λ (n : ℕ). Some n) at.0)
        ∙ ap (λ (l : List Note). SegmentNote x ∷ ElementNote e ∷ l) (elements-more p xs all.1 at.1)
        ∙ shown-first x e xs is

-- the faults of one position
at-one : (p : ℕ) (before : Option ℕ) (xs : List Fault) → is_this before p ≡ false → AreRising xs → AllByRecursion IsToldByElements xs
    → AllByRecursion (λ f. f.position ≡ p) xs → notes_behind before xs ≡ notes_at xs
at-one p before xs apart rising told at =
    let eight : ℕ = segment_rank ElementErrors in
    let first : List Fault = filter comes_before xs in
    let middle : List Fault = filter (λ f. rank_of f == eight) xs in
    let last : List Fault = filter comes_behind xs in
    let split : xs ≡ first ++ middle ++ last = thirds rank_of eight xs
    (rises-from rank_of (λ f. f.position ≡ p) (λ f g a b less. rank-rises p f g a b less) xs at rising) in
    let same : middle ≡ filter is_of_element xs =
    filter-alike (λ f. rank_of f == eight) is_of_element xs
    (weaker IsToldByElements (λ f. (rank_of f == eight) ≡ is_of_element f) (λ f h. sym h) xs told) in
    let none_first : AllByRecursion (λ f. is_of_element f ≡ false) first =
    both-ways comes_before first (filter-passes comes_before xs) (filter-keeps IsToldByElements comes_before xs told)
    (λ f h. ne_eqb (rank_of f) eight (λ e. let less = ltb-true (rank_of f) eight h in omega (arith, less, e))) in
    let none_last : AllByRecursion (λ f. is_of_element f ≡ false) last =
    both-ways comes_behind last (filter-passes comes_behind xs) (filter-keeps IsToldByElements comes_behind xs told)
    (λ f h. ne_eqb (rank_of f) eight (λ e. let less = ltb-true eight (rank_of f) h in omega (arith, less, e))) in
    let all_middle : AllByRecursion (λ f. is_of_element f ≡ true) (filter is_of_element xs) = filter-passes is_of_element xs in
    ap (notes_behind before) (split ∙ ap (λ (m : List Fault). first ++ m ++ last) same)
    ∙ notes-append before (first ++ filter is_of_element xs) last
    ∙ ap (λ (l : List Note). l ++ notes_behind (after before (first ++ filter is_of_element xs)) last)
    (notes-append before first (filter is_of_element xs))
    ∙ ap (λ (l : List Note). l ++ notes_behind (after before first) (filter is_of_element xs)
    ++ notes_behind (after before (first ++ filter is_of_element xs)) last) (structural before first none_first)
    ∙ ap (λ (l : List Note). segment_notes first ++ l ++ notes_behind (after before (first ++ filter is_of_element xs)) last)
    (elements p (after before first) (filter is_of_element xs) (structural-after p before first apart none_first) all_middle
    (filter-keeps (λ f. f.position ≡ p) is_of_element xs at))
    ∙ ap (λ (l : List Note). segment_notes first ++ element_notes (filter is_of_element xs) ++ l)
    (structural (after before (first ++ filter is_of_element xs)) last none_last)
  where
    both-ways : (t : Fault → Bool) (ys : List Fault) → AllByRecursion (λ f. t f ≡ true) ys → AllByRecursion IsToldByElements ys
        → ((f : Fault) → t f ≡ true → (rank_of f == segment_rank ElementErrors) ≡ false)
        → AllByRecursion (λ f. is_of_element f ≡ false) ys
    both-ways t [] passes told off = tt
    both-ways t (y ∷ ys) passes told off = (told.0 ∙ off y passes.0, both-ways t ys passes.1 told.1 off)

positions-of : (t : Fault → Bool) (p : ℕ) (xs : List Fault) → ((f : Fault) → t f ≡ true → (f.position == p) ≡ false)
    → AllByRecursion (λ f. (f.position == p) ≡ false) (filter t xs)
positions-of t p xs off = weaker (λ f. t f ≡ true) (λ f. (f.position == p) ≡ false) off (filter t xs) (filter-passes t xs)

-- no fault of one list has the position of one of another
apart-each : (p : ℕ) (xs ys : List Fault) → AllByRecursion (λ f. nat_lt p f.position ≡ false) xs
    → AllByRecursion (λ f. nat_lt p f.position ≡ true) ys → AllByRecursion (λ y. is_this (after None xs) y.position ≡ false) ys
apart-each p xs [] low high = tt
apart-each p xs (y ∷ ys) low high = (
  after-apart y.position None xs refl
      (weaker (λ f. nat_lt p f.position ≡ false) (λ f. (f.position == y.position) ≡ false)
      (λ f h. ne_eqb f.position y.position (λ e. let l = ltb-false p f.position h in let g = ltb-true p y.position high.0 in
      omega (arith, l, g, e))) xs low),
  apart-each p xs ys low high.1,
)

appended : (P : Fault → Type 0) (xs ys : List Fault) → AllByRecursion P xs → AllByRecursion P ys → AllByRecursion P (xs ++ ys)
appended P [] ys a b = b
appended P (x ∷ xs) ys a b = (a.0, appended P xs ys a.1 b)

-- for each position
notes-told : (faults : List Fault) → AreRising faults → AllByRecursion IsToldByElements faults → (p : ℕ)
    → notes faults ≡ notes (filter (is_below p) faults) ++ notes_at (filter (is_at p) faults) ++ notes (filter (is_above p) faults)
notes-told faults rising told p =
    let B : List Fault = filter (is_below p) faults in
    let A : List Fault = filter (is_at p) faults in
    let C : List Fault = filter (is_above p) faults in
    let split : faults ≡ B ++ A ++ C = thirds (λ f. f.position) p faults
    (rises-from (λ f. f.position) (λ _. ⊤) (λ f g _ _ less. position-rises f g less) faults (every faults) rising) in
    let at : AllByRecursion (λ f. f.position ≡ p) A =
    weaker (λ f. is_at p f ≡ true) (λ f. f.position ≡ p) (λ f h. eqb-true f.position p h) A (filter-passes (is_at p) faults) in
    let low_b : AllByRecursion (λ f. nat_lt p f.position ≡ false) B =
    weaker (λ f. is_below p f ≡ true) (λ f. nat_lt p f.position ≡ false)
    (λ f h. le-ltb p f.position (let l = ltb-true f.position p h in omega (arith, l))) B (filter-passes (is_below p) faults) in
    let low_a : AllByRecursion (λ f. nat_lt p f.position ≡ false) A =
    weaker (λ f. f.position ≡ p) (λ f. nat_lt p f.position ≡ false) (λ f e. le-ltb p f.position (omega (arith, e))) A at in
    let apart_b : is_this (after None B) p ≡ false = after-apart p None B refl (positions-of (is_below p) p faults
    (λ f h. ne_eqb f.position p (λ e. let l = ltb-true f.position p h in omega (arith, l, e)))) in
    let rest = fresh (after None (B ++ A)) C
    (apart-each p (B ++ A) C (appended (λ f. nat_lt p f.position ≡ false) B A low_b low_a) (filter-passes (is_above p) faults)) in
    ap notes split
    ∙ notes-append None (B ++ A) C
    ∙ ap (λ (l : List Note). l ++ notes_behind (after None (B ++ A)) C) (notes-append None B A)
    ∙ ap (λ (l : List Note). notes B ++ l ++ notes_behind (after None (B ++ A)) C)
    (at-one p (after None B) A apart_b (IsStrictlySortedBy-filter (order_by key_of) (is_at p) faults rising)
    (filter-keeps IsToldByElements (is_at p) faults told) at)
    ∙ ap (λ (l : List Note). notes B ++ notes_at A ++ l) rest

pub tells-each-position : TellsEachPosition
tells-each-position d faults rising told p =
    let B : List Note = notes (filter (is_below p) faults) in
    let A : List Note = notes_at (filter (is_at p) faults) in
    let C : List Note = notes (filter (is_above p) faults) in
    ap (map (note_segment d)) (notes-told faults rising (recursion_from_All IsToldByElements faults told) p)
    ∙ map-append (note_segment d) (B ++ A) C
    ∙ ap (λ l. l ++ map (note_segment d) C) (map-append (note_segment d) B A)
