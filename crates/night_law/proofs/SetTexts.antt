-- A delivered set: the bytes of its segments, and what they say when they are read by the receiver's delimiters.
use Rattle.std.proofs.Common.{◌≡◌, ◌≢◌, ℕ, ◌+◌, ◌<◌, Bool, true, false, cond, ◌==◌, List, [], ◌∷◌, ◌++◌, length, map}
use Rattle.std.proofs.Common.{refl, sym, ap, ◌∙◌, arith, append-nil, eq-eqb, length-append}
use Rattle.std.specs.Char.{is_ascii_alphanumeric}
use Rattle.std.specs.List.{All, prefix_len}
use Rattle.std.proofs.lemmas.Bool.{false_from_ne_true}
use Rattle.std.proofs.lemmas.List.{length-map}
use Rattle.std.proofs.lemmas.List.Elements.{All-append, All-cons, All-head, All-map, All-nil, All-tail, All-weaker}
use Rattle.std.proofs.lemmas.List.Splits.{slice_split_at, slice_split_none}
use Rattle.std.proofs.lemmas.Slice.Eq.{bytes_eq-Decides}
use Rattle.x12_bytes.specs.Bytes.{is_line_end}
use Rattle.x12_bytes.specs.declared.delims.Delims.{Delims}
use Rattle.x12_segs.specs.Kinds.{kind_of}
use Rattle.x12_segs.specs.Words.{may_stand_in_set, kind_by_id, parts, SegValue, elements_of, id_of, part_or_empty}
use Rattle.x12_write.specs.Segment.{elements_text}
use Rattle.x12_write.specs.Undivided.{CanDivide}
use Rattle.mailbox.specs.Mailbox.{mapped, mapped_byte}
use Rattle.night_law.specs.SetsRead.{has_id, values_of_segment}
use Rattle.night_law.proofs.Bodies.{IsBody, Lacks}
use Rattle.night_law.proofs.Changing.{AreApart, changed, elements_kept, in_elements, segment_kept, to_element, to_terminator, with_r}
use Rattle.night_law.proofs.Changing as changing
use Rattle.night_law.proofs.Marked.{IsMarked}
use Rattle.night_law.proofs.SpanBytes.{IsRawView}
use Rattle.night_law.proofs.Splitting.{all_both}

-- an id and elements that lack the delimiters are the bytes of one segment, and are found again
pub record IsDivided (d : Delims) (id : List ℕ) (elements : List (List ℕ)) : Type 0 where
  pub some : 0 < length id
  pub first : prefix_len is_line_end id ≡ 0
  pub id_element : Lacks d.element id
  pub id_terminator : Lacks d.terminator id
  pub by_element : All (Lacks d.element) elements
  pub by_terminator : All (Lacks d.terminator) elements

abbrev pub body_of : Delims → (id : List ℕ) → List (List ℕ) → List ℕ
body_of d id elements = id ++ elements_text d.element elements

stays_zero : (b : Bool) (n m : ℕ) → cond b (1 + n) 0 ≡ 0 → cond b (1 + m) 0 ≡ 0
stays_zero true n m h = absurd (omega (arith, h))
stays_zero false n m h = refl

first_behind : (p : ℕ → Bool) (xs ys : List ℕ) → 0 < length xs → prefix_len p xs ≡ 0 → prefix_len p (xs ++ ys) ≡ 0
first_behind p [] ys some none = absurd (omega (arith, some))
first_behind p (x ∷ xs) ys some none = stays_zero (p x) (prefix_len p xs) (prefix_len p (xs ++ ys)) none

elements_lack : (e t : ℕ) (elements : List (List ℕ)) → (e == t) ≡ false → All (Lacks t) elements → Lacks t (elements_text e elements)
elements_lack e t [] other all = All-nil (λ b. (b == t) ≡ false)
elements_lack e t (x ∷ xs) other all =
    All-cons (λ b. (b == t) ≡ false) e (x ++ elements_text e xs) other
    (All-append (λ b. (b == t) ≡ false) x (elements_text e xs) (All-head (Lacks t) x xs all)
    (elements_lack e t xs other (All-tail (Lacks t) x xs all)))

pub divided_body : (d : Delims) (id : List ℕ) (elements : List (List ℕ)) → (d.element == d.terminator) ≡ false → IsDivided d id elements
    → IsBody d (body_of d id elements)
divided_body d id elements other is = record {
  some = omega (arith, is.some, length-append id (elements_text d.element elements));
  first = first_behind is_line_end id (elements_text d.element elements) is.some is.first;
  lacks = All-append (λ b. (b == d.terminator) ≡ false) id (elements_text d.element elements) is.id_terminator
      (elements_lack d.element d.terminator elements other is.by_terminator);
}

parts_found : (e : ℕ) (id : List ℕ) (elements : List (List ℕ)) → Lacks e id → All (Lacks e) elements
    → parts e (id ++ elements_text e elements) ≡ id ∷ elements
parts_found e id [] p q = ap (parts e) (append-nil id) ∙ slice_split_none (λ b. b == e) id p
parts_found e id (x ∷ xs) p q =
    slice_split_at (λ b. b == e) id e (x ++ elements_text e xs) p (eq-eqb e e refl)
    ∙ ap (λ (list : List (List ℕ)). id ∷ list) (parts_found e x xs (All-head (Lacks e) x xs q) (All-tail (Lacks e) x xs q))

pub divided_parts : (d : Delims) (id : List ℕ) (elements : List (List ℕ)) → IsDivided d id elements
    → parts d.element (body_of d id elements) ≡ id ∷ elements
divided_parts d id elements is = parts_found d.element id elements is.id_element is.by_element

-- a byte in the place of another isn't a line end
stays : (p : ℕ → Bool) (e c t r : Bool) (E C T R b : ℕ) → t ≡ false → p E ≡ false → p C ≡ false → p R ≡ false → p b ≡ false
    → p (changed e c t r E C T R b) ≡ false
stays p true c t r E C T R b off pe pc pr pb = pe
stays p false true t r E C T R b off pe pc pr pb = pc
stays p false false true r E C T R b off pe pc pr pb = cc
stays p false false false true E C T R b off pe pc pr pb = pr
stays p false false false false E C T R b off pe pc pr pb = pb

-- what is none of four bytes was there before
was_there : (e c t r : Bool) (E C T R b x : ℕ) → changed e c t r E C T R b ≡ x → E ≢ x → C ≢ x → T ≢ x → R ≢ x → b ≡ x
was_there true c t r E C T R b x is ne nc nt nr = absurd (ne is)
was_there false true t r E C T R b x is ne nc nt nr = absurd (nc is)
was_there false false true r E C T R b x is ne nc nt nr = absurd (nt is)
was_there false false false true E C T R b x is ne nc nt nr = absurd (nr is)
was_there false false false false E C T R b x is ne nc nt nr = is

first_off : (b : Bool) (n : ℕ) → cond b (1 + n) 0 ≡ 0 → b ≡ false
first_off true n h = absurd (omega (arith, h))
first_off false n h = refl

kind_is : (seg : SegValue) → kind_of seg ≡ kind_by_id (id_of seg)
unfolding kind_of
kind_is seg = refl

first_mapped : (f : List ℕ → List ℕ) → f [] ≡ [] → (xs : List (List ℕ)) → part_or_empty (map f xs) 0 ≡ f (part_or_empty xs 0)
first_mapped f none [] = sym none
first_mapped f none (x ∷ xs) = refl

module _ (from to : Delims) (is : IsMarked to) (can : CanDivide to) (apart : AreApart from) where
  abbrev Free : ℕ → Type 0
  Free = changing.Free from to is.r is.has apart is.apart

  abbrev m : ℕ → ℕ
  m b = mapped_byte from to b

  abbrev Lt : ℕ → Type 0
  Lt b = (b == from.terminator) ≡ false

  abbrev Le : ℕ → Type 0
  Le b = (b == from.element) ≡ false

  as_changed : (b : ℕ) → m b ≡ changed (b == from.element) (b == from.component) (b == from.terminator) (changing.fr from to is.r is.has
      apart is.apart b) to.element to.component to.terminator is.r b
  as_changed b = with_r from to is.r is.has apart is.apart b

  -- a segment between ST and SE
  inner_first : (bytes : List ℕ) → 0 < length bytes → prefix_len is_line_end bytes ≡ 0 → Lacks from.terminator bytes
      → prefix_len is_line_end (mapped from to bytes) ≡ 0
  inner_first [] some none lacks = absurd (omega (arith, some))
  inner_first (b ∷ bytes) some none lacks =
      let on : is_line_end b ≡ false = first_off (is_line_end b) (prefix_len is_line_end bytes) none in
      let off : is_line_end (m b) ≡ false =
      ap is_line_end (as_changed b)
      ∙ stays is_line_end (b == from.element) (b == from.component) (b == from.terminator)
      (changing.fr from to is.r is.has apart is.apart b) to.element to.component to.terminator is.r b (All-head Lt b bytes lacks)
      is.element_goes_on is.component_goes_on is.repetition_goes_on on in
      ap (λ (c : Bool). cond c (1 + prefix_len is_line_end (mapped from to bytes)) 0) off

  pub inner_body : (seg : SegValue) → IsRawView from seg → All Free seg.bytes → IsBody to (mapped from to seg.bytes)
  inner_body seg raw free = record {
    some = omega (arith, raw.1.some, length-map seg.bytes m);
    first = inner_first seg.bytes raw.1.some raw.1.first raw.1.lacks;
    lacks = All-map (λ b. (b == to.terminator) ≡ false) m seg.bytes (All-weaker (λ b. Free b × Lt b) (λ b. (m b == to.terminator) ≡ false)
        (λ b both. to_terminator from to is.r is.has apart is.apart b both.0 ∙ both.1) seg.bytes
        (all_both Free Lt seg.bytes free raw.1.lacks));
  }

  pub inner_said : (seg : SegValue) → IsRawView from seg → All Free seg.bytes
      → values_of_segment to (parts to.element (mapped from to seg.bytes)) ≡ values_of_segment from (elements_of seg)
  inner_said seg raw free =
      segment_kept from to is.r is.has apart is.apart seg.bytes (all_both Free Lt seg.bytes free raw.1.lacks)
      ∙ ap (λ (d : Delims). values_of_segment from (parts d.element seg.bytes)) (sym raw.0)

  -- its id names no ST and no SE
  not_letter : (x b : ℕ) → is_ascii_alphanumeric x ≡ false → is_ascii_alphanumeric b ≡ true → x ≢ b
  not_letter x b off on same = let alike = ap is_ascii_alphanumeric same in cc

  letter_was : (b x : ℕ) → is_ascii_alphanumeric x ≡ true → m b ≡ x → b ≡ x
  letter_was b x letter same =
      was_there (b == from.element) (b == from.component) (b == from.terminator) (changing.fr from to is.r is.has apart is.apart b)
      to.element to.component to.terminator is.r b x (sym (as_changed b) ∙ same) (not_letter to.element x can.element letter)
      (not_letter to.component x is.inside.element letter) (not_letter to.terminator x can.terminator letter)
      (not_letter is.r x is.inside.terminator letter)

  word_was : (text word : List ℕ) → All (λ b. is_ascii_alphanumeric b ≡ true) word → mapped from to text ≡ word → text ≡ word
  word_was [] [] letters same = refl
  word_was [] (w ∷ ws) letters same = cc
  word_was (b ∷ bs) [] letters same = cc
  word_was (b ∷ bs) (w ∷ ws) letters same =
      let P : ℕ → Type 0 = λ b. is_ascii_alphanumeric b ≡ true in
      let head : m b ≡ w = cc in
      let tail : mapped from to bs ≡ ws = cc in
      ap (λ (x : ℕ). x ∷ bs) (letter_was b w (All-head P w ws letters) head)
      ∙ ap (λ (xs : List ℕ). w ∷ xs) (word_was bs ws (All-tail P w ws letters) tail)

  pub inner_id : (seg : SegValue) (word : List ℕ) → IsRawView from seg → All Free seg.bytes
      → All (λ b. is_ascii_alphanumeric b ≡ true) word → may_stand_in_set (kind_by_id word) ≡ false → may_stand_in_set (kind_of seg) ≡ true
      → has_id (parts to.element (mapped from to seg.bytes)) word ≡ false
  inner_id seg word raw free letters control kind =
      let id : List ℕ = part_or_empty (parts from.element seg.bytes) 0 in
      let split : part_or_empty (parts to.element (mapped from to seg.bytes)) 0 ≡ mapped from to id =
      ap (λ (xs : List (List ℕ)). part_or_empty xs 0)
      (changing.elements_changed from to is.r is.has apart is.apart seg.bytes (all_both Free Lt seg.bytes free raw.1.lacks))
      ∙ first_mapped (mapped from to) refl (parts from.element seg.bytes) in
      let own : id_of seg ≡ id = ap (λ (d : Delims). part_or_empty (parts d.element seg.bytes) 0) raw.0 in
      false_from_ne_true (has_id (parts to.element (mapped from to seg.bytes)) word) (λ on.
      let same : part_or_empty (parts to.element (mapped from to seg.bytes)) 0 ≡ word =
      (bytes_eq-Decides (part_or_empty (parts to.element (mapped from to seg.bytes)) 0) word).0 on in
      let was : id ≡ word = word_was id word letters (sym split ∙ same) in
      let bad = ap (λ (x : List ℕ). may_stand_in_set (kind_by_id x)) (own ∙ was) in
      let good = ap may_stand_in_set (kind_is seg) in
      cc)

  -- elements that are kept
  abbrev InElement : ℕ → Type 0
  InElement b = Free b × (Le b × Lt b)

  pub kept_lack : (elements : List (List ℕ)) → All (All InElement) elements
      → All (Lacks to.element) (map (mapped from to) elements) × All (Lacks to.terminator) (map (mapped from to) elements)
  kept_lack elements all = (
    All-map (Lacks to.element) (mapped from to) elements (All-weaker (All InElement) (λ x. Lacks to.element (mapped from to x))
        (λ x in_x. All-map (λ b. (b == to.element) ≡ false) m x (All-weaker InElement (λ b. (m b == to.element) ≡ false)
        (λ b so. to_element from to is.r is.has apart is.apart b so.0 ∙ so.1.0) x in_x)) elements all),
    All-map (Lacks to.terminator) (mapped from to) elements (All-weaker (All InElement) (λ x. Lacks to.terminator (mapped from to x))
        (λ x in_x. All-map (λ b. (b == to.terminator) ≡ false) m x (All-weaker InElement (λ b. (m b == to.terminator) ≡ false)
        (λ b so. to_terminator from to is.r is.has apart is.apart b so.0 ∙ so.1.1) x in_x)) elements all),
  )

  pub kept_said : (elements : List (List ℕ)) → All (All InElement) elements
      → values_of_segment to (map (mapped from to) elements) ≡ values_of_segment from elements
  kept_said elements all = elements_kept from to is.r is.has apart is.apart elements all
