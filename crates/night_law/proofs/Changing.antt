-- A text with the receiver's delimiters in the place of the sender's says what it said, where no byte is in the way.
use Rattle.std.proofs.Common.{◌≡◌, ℕ, Bool, true, false, ◌&&◌, ◌||◌, ◌==◌, not, List, [], ◌∷◌, Option, Some, None, map}
use Rattle.std.proofs.Common.{refl, sym, ap, ◌∙◌, eq-eqb, eqb-true}
use Rattle.std.specs.Prelude.{if◌then◌else◌, unwrap_or}
use Rattle.std.specs.List.{All, slice_split}
use Rattle.std.proofs.lemmas.Bool.{or_parts}
use Rattle.std.proofs.lemmas.List.Elements.{All-cons, All-nil, All-weaker}
use Rattle.std.proofs.lemmas.List.Splits.{slice_split_none}
use Rattle.x12_bytes.specs.declared.delims.Delims.{Delims}
use Rattle.x12_segs.specs.Words.{parts, components, occurrences}
use Rattle.x12_write.specs.Delimiters.{is_delimiter, is_this}
use Rattle.mailbox.specs.Deliveries.{collides}
use Rattle.mailbox.specs.Mailbox.{mapped, mapped_byte}
use Rattle.night_law.specs.SetsRead.{values_of_segment, said_in}
use Rattle.night_law.proofs.Splitting.{all_both, map_as, map_none, parts_all, parts_by_same, parts_changed, parts_lack}

-- delimiters that differ
pub record AreApart (d : Delims) : Type 0 where
  pub element_component : (d.element == d.component) ≡ false
  pub element_terminator : (d.element == d.terminator) ≡ false
  pub component_terminator : (d.component == d.terminator) ≡ false
  pub repetition_element : is_this d.repetition d.element ≡ false
  pub repetition_component : is_this d.repetition d.component ≡ false
  pub repetition_terminator : is_this d.repetition d.terminator ≡ false

-- one of four bytes in the place of another, or the byte itself
abbrev pub changed : (e c t r : Bool) → (E C T R b : ℕ) → ℕ
changed e c t r E C T R b = if e then E else if c then C else if t then T else if r then R else b

abbrev answer : (e c t r : Bool) → (E C T R b : Bool) → Bool
answer e c t r E C T R b = if e then E else if c then C else if t then T else if r then R else b

compared : (e c t r : Bool) (E C T R b x : ℕ) (E' C' T' R' : Bool) → (E == x) ≡ E' → (C == x) ≡ C' → (T == x) ≡ T' → (R == x) ≡ R'
    → ((((e || c) || t) || r) ≡ false → (b == x) ≡ false) → (changed e c t r E C T R b == x) ≡ answer e c t r E' C' T' R' false
compared true c t r E C T R b x E' C' T' R' he hc ht hr hb = he
compared false true t r E C T R b x E' C' T' R' he hc ht hr hb = hc
compared false false true r E C T R b x E' C' T' R' he hc ht hr hb = ht
compared false false false true E C T R b x E' C' T' R' he hc ht hr hb = hr
compared false false false false E C T R b x E' C' T' R' he hc ht hr hb = hb refl

first_one : (e c t r : Bool) → answer e c t r true false false false false ≡ e
first_one true c t r = refl
first_one false true t r = refl
first_one false false true r = refl
first_one false false false true = refl
first_one false false false false = refl

second_one : (e c t r : Bool) → (e ≡ true → c ≡ false) → answer e c t r false true false false false ≡ c
second_one true c t r ec = sym (ec refl)
second_one false true t r ec = refl
second_one false false true r ec = refl
second_one false false false true ec = refl
second_one false false false false ec = refl

third_one : (e c t r : Bool) → (e ≡ true → t ≡ false) → (c ≡ true → t ≡ false) → answer e c t r false false true false false ≡ t
third_one true c t r et ct = sym (et refl)
third_one false true t r et ct = sym (ct refl)
third_one false false true r et ct = refl
third_one false false false true et ct = refl
third_one false false false false et ct = refl

fourth_one : (e c t r : Bool) → (e ≡ true → r ≡ false) → (c ≡ true → r ≡ false) → (t ≡ true → r ≡ false)
    → answer e c t r false false false true false ≡ r
fourth_one true c t r er cr tr = sym (er refl)
fourth_one false true t r er cr tr = sym (cr refl)
fourth_one false false true r er cr tr = sym (tr refl)
fourth_one false false false true er cr tr = refl
fourth_one false false false false er cr tr = refl

unchanged : (e c t r : Bool) (E C T R b : ℕ) → e ≡ false → c ≡ false → t ≡ false → r ≡ false → changed e c t r E C T R b ≡ b
unchanged false false false false E C T R b he hc ht hr = refl
unchanged true c t r E C T R b he hc ht hr = cc
unchanged false true t r E C T R b he hc ht hr = cc
unchanged false false true r E C T R b he hc ht hr = cc
unchanged false false false true E C T R b he hc ht hr = cc

pub flipped : (a b : ℕ) → (a == b) ≡ (b == a)
flipped a b = by (a == b) (b == a) refl refl
  where
    by : (p q : Bool) → (a == b) ≡ p → (b == a) ≡ q → p ≡ q
    by true true is was = refl
    by false false is was = refl
    by true false is was = let same = eq-eqb b a (sym (eqb-true a b is)) in cc
    by false true is was = let same = eq-eqb a b (sym (eqb-true b a was)) in cc

nothing_divides : (text : List ℕ) → All (λ (b : ℕ). false ≡ false) text
nothing_divides [] = All-nil (λ (b : ℕ). false ≡ false)
nothing_divides (b ∷ text) = All-cons (λ (b : ℕ). false ≡ false) b text refl (nothing_divides text)

-- not in the way, and no delimiter there: none here
no_delimiter : (p q : Bool) → (not p && q) ≡ false → p ≡ false → q ≡ false
no_delimiter true q h off = cc
no_delimiter false q h off = h

module _ (from to : Delims) (r : ℕ) (has : to.repetition ≡ Some r) (apart_from : AreApart from) (apart_to : AreApart to) where
  abbrev pub fe : ℕ → Bool
  fe b = b == from.element

  abbrev pub fc : ℕ → Bool
  fc b = b == from.component

  abbrev pub ft : ℕ → Bool
  ft b = b == from.terminator

  abbrev pub fr : ℕ → Bool
  fr b = is_this from.repetition b

  abbrev pub m : ℕ → ℕ
  m b = mapped_byte from to b

  -- nothing in the way
  abbrev pub Free : ℕ → Type 0
  Free b = collides from to b ≡ false

  r_repetition : (x : ℕ) → is_this to.repetition x ≡ false → (r == x) ≡ false
  r_repetition x off = sym (ap (λ (o : Option ℕ). is_this o x) has) ∙ off

  pub with_r : (b : ℕ) → m b ≡ changed (fe b) (fc b) (ft b) (fr b) to.element to.component to.terminator r b
  with_r b = ap (λ (o : Option ℕ). changed (fe b) (fc b) (ft b) (fr b) to.element to.component to.terminator (unwrap_or o b) b) has

  -- a byte that is no delimiter of the sender is none of the receiver's
  none_of_to : (b : ℕ) → Free b → (((fe b || fc b) || ft b) || fr b) ≡ false → is_delimiter to b ≡ false
  none_of_to b free none = no_delimiter (is_delimiter from b) (is_delimiter to b) free none

  other_bytes : (b : ℕ) → Free b → (((fe b || fc b) || ft b) || fr b) ≡ false
      → ((b == to.element) ≡ false) × ((b == to.component) ≡ false) × ((b == to.terminator) ≡ false) × ((b == r) ≡ false)
  other_bytes b free none =
      let last = or_parts ((b == to.element || b == to.component) || b == to.terminator) (is_this to.repetition b)
      (none_of_to b free none) in
      let third = or_parts (b == to.element || b == to.component) (b == to.terminator) last.0 in
      let second = or_parts (b == to.element) (b == to.component) third.0 in
      (second.0, second.1, third.1, flipped b r ∙ r_repetition b last.1)

  -- one delimiter excludes another
  excludes : (b x : ℕ) (test : ℕ → Bool) → test x ≡ false → (b == x) ≡ true → test b ≡ false
  excludes b x test off is = ap test (eqb-true b x is) ∙ off

  pub to_element : (b : ℕ) → Free b → (m b == to.element) ≡ fe b
  to_element b free =
      ap (λ (x : ℕ). x == to.element) (with_r b)
      ∙ compared (fe b) (fc b) (ft b) (fr b) to.element to.component to.terminator r b to.element true false false false
      (eq-eqb to.element to.element refl) (flipped to.component to.element ∙ apart_to.element_component)
      (flipped to.terminator to.element ∙ apart_to.element_terminator) (r_repetition to.element apart_to.repetition_element)
      (λ none. (other_bytes b free none).0)
      ∙ first_one (fe b) (fc b) (ft b) (fr b)

  to_component : (b : ℕ) → Free b → (m b == to.component) ≡ fc b
  to_component b free =
      ap (λ (x : ℕ). x == to.component) (with_r b)
      ∙ compared (fe b) (fc b) (ft b) (fr b) to.element to.component to.terminator r b to.component false true false false
      apart_to.element_component (eq-eqb to.component to.component refl)
      (flipped to.terminator to.component ∙ apart_to.component_terminator) (r_repetition to.component apart_to.repetition_component)
      (λ none. (other_bytes b free none).1)
      ∙ second_one (fe b) (fc b) (ft b) (fr b) (excludes b from.element fc apart_from.element_component)

  pub to_terminator : (b : ℕ) → Free b → (m b == to.terminator) ≡ ft b
  to_terminator b free =
      ap (λ (x : ℕ). x == to.terminator) (with_r b)
      ∙ compared (fe b) (fc b) (ft b) (fr b) to.element to.component to.terminator r b to.terminator false false true false
      apart_to.element_terminator apart_to.component_terminator (eq-eqb to.terminator to.terminator refl)
      (r_repetition to.terminator apart_to.repetition_terminator)
      (λ none. (other_bytes b free none).2)
      ∙ third_one (fe b) (fc b) (ft b) (fr b) (excludes b from.element ft apart_from.element_terminator)
      (excludes b from.component ft apart_from.component_terminator)

  to_repetition : (b : ℕ) → Free b → (m b == r) ≡ fr b
  to_repetition b free =
      ap (λ (x : ℕ). x == r) (with_r b)
      ∙ compared (fe b) (fc b) (ft b) (fr b) to.element to.component to.terminator r b r false false false true
      (flipped to.element r ∙ r_repetition to.element apart_to.repetition_element)
      (flipped to.component r ∙ r_repetition to.component apart_to.repetition_component)
      (flipped to.terminator r ∙ r_repetition to.terminator apart_to.repetition_terminator) (eq-eqb r r refl)
      (λ none. (other_bytes b free none).3)
      ∙ fourth_one (fe b) (fc b) (ft b) (fr b) (excludes b from.element fr apart_from.repetition_element)
      (excludes b from.component fr apart_from.repetition_component) (excludes b from.terminator fr apart_from.repetition_terminator)

  -- a component is what it was
  abbrev pub Le : ℕ → Type 0
  Le b = fe b ≡ false

  abbrev pub Lc : ℕ → Type 0
  Lc b = fc b ≡ false

  abbrev pub Lt : ℕ → Type 0
  Lt b = ft b ≡ false

  abbrev pub Lr : ℕ → Type 0
  Lr b = fr b ≡ false

  abbrev pub Plain : ℕ → Type 0
  Plain b = Free b × (Le b × (Lt b × Lr b))

  abbrev pub InElement : ℕ → Type 0
  InElement b = Free b × (Le b × Lt b)

  component_kept : (text : List ℕ) → All (λ b. Plain b × Lc b) text → mapped from to text ≡ text
  component_kept text all =
      map_none m (λ b. Plain b × Lc b) (λ b is. unchanged (fe b) (fc b) (ft b) (fr b) to.element to.component to.terminator
      (unwrap_or to.repetition b) b is.0.1.0 is.1 is.0.1.1.0 is.0.1.1.1) text all

  occurrence_kept : (text : List ℕ) → All Plain text → components to (mapped from to text) ≡ components from text
  occurrence_kept text all =
      let each : List (List ℕ) = slice_split fc text in
      parts_changed (λ b. b == to.component) fc m text (All-weaker Plain (λ b. (m b == to.component) ≡ fc b) (λ b is. to_component b is.0)
      text all)
      ∙ map_none (mapped from to) (All (λ b. Plain b × Lc b)) component_kept each
      (All-weaker (λ part. All Plain part × All Lc part) (All (λ b. Plain b × Lc b))
      (λ part both. all_both Plain Lc part both.0 both.1) each
      (all_both (All Plain) (All Lc) each (parts_all Plain fc text all) (parts_lack fc text)))

  -- the occurrences, by whether the sender has a repetition separator
  occurrences_are : (text : List ℕ) → slice_split fr text ≡ occurrences from text
  occurrences_are text = by from.repetition
    where
      by : (o : Option ℕ) → slice_split (λ b. is_this o b) text ≡ occurrences (record from { repetition = o }) text
      by None = slice_split_none (λ b. false) text (nothing_divides text)
      by (Some q) = parts_by_same (λ b. q == b) (λ b. b == q) (λ b. flipped q b) text

  element_kept : (text : List ℕ) → All InElement text → said_in to (mapped from to text) ≡ said_in from text
  element_kept text all =
      let each : List (List ℕ) = slice_split fr text in
      let split : occurrences to (mapped from to text) ≡ map (mapped from to) each =
      ap (λ (o : Option ℕ). occurrences (record to { repetition = o }) (mapped from to text)) has
      ∙ parts_changed (λ b. b == r) fr m text (All-weaker InElement (λ b. (m b == r) ≡ fr b) (λ b is. to_repetition b is.0) text all) in
      ap (map (components to)) split
      ∙ map_as (components to) (mapped from to) (components from) (All Plain) occurrence_kept each
      (All-weaker (λ part. All InElement part × All Lr part) (All Plain) (λ part both.
      All-weaker (λ b. InElement b × Lr b) Plain (λ b is. (is.0.0, (is.0.1.0, (is.0.1.1, is.1)))) part
      (all_both InElement Lr part both.0 both.1)) each
      (all_both (All InElement) (All Lr) each (parts_all InElement fr text all) (parts_lack fr text)))
      ∙ ap (map (components from)) (occurrences_are text)

  pub elements_kept : (elements : List (List ℕ)) → All (All InElement) elements
      → values_of_segment to (map (mapped from to) elements) ≡ values_of_segment from elements
  elements_kept elements all = map_as (said_in to) (mapped from to) (said_in from) (All InElement) element_kept elements all

  -- a segment's
  abbrev pub InSegment : ℕ → Type 0
  InSegment b = Free b × Lt b

  pub elements_changed : (text : List ℕ) → All InSegment text
      → parts to.element (mapped from to text) ≡ map (mapped from to) (parts from.element text)
  elements_changed text all =
      parts_changed (λ b. b == to.element) fe m text
      (All-weaker InSegment (λ b. (m b == to.element) ≡ fe b) (λ b is. to_element b is.0) text all)

  pub in_elements : (text : List ℕ) → All InSegment text → All (All InElement) (parts from.element text)
  in_elements text all =
      let each : List (List ℕ) = parts from.element text in
      All-weaker (λ part. All InSegment part × All Le part) (All InElement) (λ part both.
      All-weaker (λ b. InSegment b × Le b) InElement (λ b is. (is.0.0, (is.1, is.0.1))) part
      (all_both InSegment Le part both.0 both.1)) each
      (all_both (All InSegment) (All Le) each (parts_all InSegment fe text all) (parts_lack fe text))

  pub segment_kept : (text : List ℕ) → All InSegment text
      → values_of_segment to (parts to.element (mapped from to text)) ≡ values_of_segment from (parts from.element text)
  segment_kept text all =
      ap (values_of_segment to) (elements_changed text all) ∙ elements_kept (parts from.element text) (in_elements text all)
