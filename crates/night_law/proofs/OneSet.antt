-- A delivered set, found in its text.
use Rattle.std.proofs.Common.{◌≡◌, ℕ, ◌+◌, ◌-◌, ◌<◌, Bool, true, false, ◌==◌, List, [], ◌∷◌, ◌++◌, None, length}
use Rattle.std.proofs.Common.{map}
use Rattle.std.proofs.Common.{take, drop, refl, sym, ap, subst, ◌∙◌, arith, append_assoc, append-nil, length-append}
use Rattle.std.specs.Prelude.{codes, decimal, replicate}
use Rattle.std.specs.Char.{is_ascii_alphanumeric}
use Rattle.std.specs.List.{All, flat_map, list_any}
use Rattle.std.proofs.lemmas.Bool.{or_parts}
use Rattle.std.proofs.lemmas.List.{drop-map, length-replicate, map-append, take-map}
use Rattle.std.proofs.lemmas.List.Concat.{flat_map-append}
use Rattle.std.proofs.lemmas.List.Elements.{All-append, All-cons, All-drop, All-from_recursion, All-map, All-nil, All-tail}
use Rattle.std.proofs.lemmas.List.Elements.{All-take}
use Rattle.std.proofs.lemmas.List.Elements.{All-weaker}
use Rattle.std.proofs.lemmas.List.Folds.{flat_map-map}
use Rattle.x12_bytes.specs.declared.delims.Delims.{Delims}
use Rattle.x12_segs.specs.Words.{may_stand_in_set, kind_of, parts, SegValue, elements_of, part_or_empty}
use Rattle.x12_write.specs.Number.{set_number}
use Rattle.x12_write.specs.Segment.{elements_text}
use Rattle.x12_write.specs.Undivided.{CanDivide, IsUndivided}
use Rattle.x12_write.proofs.ForAbove.{decimal-undivided, plain-undivided, set_number-undivided, trimmed-push_full}
use Rattle.mailbox.specs.Deliveries.{inner_in, is_blocked, collides, has_collision, kept_parts}
use Rattle.answered_sets.specs.Judged.{PlacedValue, delims_in}
use Rattle.mailbox.specs.Mailbox.{inner_text, mapped, set_header_text, set_text, set_trailer_text}
use Rattle.night_law.specs.SetsRead.{Said, Segments, header_said, plainly, values_of_segment, said_in, set_said, sets_read}
use Rattle.night_law.specs.SetsRead.{trailer_said}
use Rattle.night_law.proofs.Bodies.{IsBody, Lacks, bodies_text}
use Rattle.night_law.proofs.Changing.{AreApart}
use Rattle.night_law.proofs.Marked.{IsMarked, inner_delims, lacks_element, lacks_terminator, plainly_said}
use Rattle.night_law.proofs.SetTexts.{IsDivided, body_of, divided_body, divided_parts, inner_body, inner_id, inner_said}
use Rattle.night_law.proofs.SetTexts.{kept_lack, kept_said}
use Rattle.night_law.proofs.SpanBytes.{IsRawView, all_front}
use Rattle.night_law.proofs.Splitting.{all_both, map_as, parts_all, parts_lack}
use Rattle.night_law.proofs.Found.{IsBetween, IsMade, all_said, one_found}

none_any : {A : Type 0} (p : A → Bool) (xs : List A) → list_any p xs ≡ false → All (λ x. p x ≡ false) xs
none_any p [] none = All-nil (λ x. p x ≡ false)
none_any p (x ∷ xs) none =
    let both = or_parts (p x) (list_any p xs) none in All-cons (λ x. p x ≡ false) x xs both.0 (none_any p xs both.1)

-- a set that isn't blocked, read from its text
pub record IsFit (to : Delims) (p : PlacedValue) : Type 0 where
  pub apart : AreApart (delims_in p)
  pub header : IsRawView (delims_in p) p.set.header
  pub inner : All (IsRawView (delims_in p)) (inner_in p)
  pub kinds : All (λ seg. may_stand_in_set (kind_of seg) ≡ true) (inner_in p)
  pub free : is_blocked to p ≡ false

all_back : {A : Type 0} (P : A → Type 0) (xs ys : List A) → All P (xs ++ ys) → All P ys
all_back P [] ys all = all
all_back P (x ∷ xs) ys all = all_back P xs ys (All-tail P x (xs ++ ys) all)

module _ (to : Delims) (marked : IsMarked to) (can : CanDivide to) (p : PlacedValue) (fit : IsFit to p) (n : ℕ) where
  abbrev from : Delims
  from = delims_in p

  abbrev F : ℕ → Type 0
  F b = collides from to b ≡ false

  abbrev change : List ℕ → List ℕ
  change text = mapped from to text

  abbrev number : List ℕ
  number = set_number n

  abbrev es : List (List ℕ)
  es = elements_of p.set.header

  abbrev xs : List (List ℕ)
  xs = take 1 (drop 1 es)

  abbrev ys : List (List ℕ)
  ys = drop 2 (drop 1 es)

  abbrev inner : List SegValue
  inner = inner_in p

  free_both : (list_any (has_collision from to) (kept_parts p.set.header) ≡ false)
      × (list_any (λ seg. has_collision from to seg.bytes) inner ≡ false)
  free_both = or_parts (list_any (has_collision from to) (kept_parts p.set.header))
      (list_any (λ seg. has_collision from to seg.bytes) inner) fit.free

  kept_free : All (All F) (xs ++ ys)
  kept_free =
      All-tail (All F) (part_or_empty es 0) (xs ++ ys) (All-weaker (λ t. has_collision from to t ≡ false) (All F)
      (λ t off. none_any (collides from to) t off) (kept_parts p.set.header)
      (none_any (has_collision from to) (kept_parts p.set.header) free_both.0))

  inner_free : All (λ seg. All F seg.bytes) inner
  inner_free =
      All-weaker (λ (seg : SegValue). has_collision from to seg.bytes ≡ false) (λ seg. All F seg.bytes)
      (λ seg off. none_any (collides from to) seg.bytes off) inner
      (none_any (λ (seg : SegValue). has_collision from to seg.bytes) inner free_both.1)

  -- the elements of ST
  abbrev Lt : ℕ → Type 0
  Lt b = (b == from.terminator) ≡ false

  abbrev Le : ℕ → Type 0
  Le b = (b == from.element) ≡ false

  abbrev Kept : ℕ → Type 0
  Kept b = F b × (Le b × Lt b)

  elements_lack : All (All (λ b. Le b × Lt b)) es
  elements_lack =
      let bytes : List ℕ = p.set.header.bytes in
      let list : List (List ℕ) = parts from.element bytes in
      let all : All (All (λ b. Le b × Lt b)) list =
      All-weaker (λ x. All Le x × All Lt x) (All (λ b. Le b × Lt b)) (λ x both. all_both Le Lt x both.0 both.1) list
      (all_both (All Le) (All Lt) list (parts_lack (λ b. b == from.element) bytes)
      (parts_all Lt (λ b. b == from.element) bytes fit.header.1.lacks)) in
      subst (λ (d : Delims). All (All (λ b. Le b × Lt b)) (parts d.element bytes)) (sym fit.header.0) all

  kept_of : (list : List (List ℕ)) → All (All F) list → All (All (λ b. Le b × Lt b)) list → All (All Kept) list
  kept_of list free lack =
      All-weaker (λ x. All F x × All (λ b. Le b × Lt b) x) (All Kept) (λ x both. all_both F (λ b. Le b × Lt b) x both.0 both.1) list
      (all_both (All F) (All (λ b. Le b × Lt b)) list free lack)

  xs_kept : All (All Kept) xs
  xs_kept = kept_of xs (all_front (All F) xs ys kept_free)
      (All-take (All (λ b. Le b × Lt b)) 1 (drop 1 es) (All-drop (All (λ b. Le b × Lt b)) 1 es elements_lack))

  ys_kept : All (All Kept) ys
  ys_kept = kept_of ys (all_back (All F) xs ys kept_free)
      (All-drop (All (λ b. Le b × Lt b)) 2 (drop 1 es) (All-drop (All (λ b. Le b × Lt b)) 1 es elements_lack))

  -- ST
  abbrev pub st_elements : List (List ℕ)
  st_elements = map change xs ++ number ∷ map change ys

  abbrev st_body : List ℕ
  st_body = body_of to (codes "ST") st_elements

  number_undivided : IsUndivided to number
  number_undivided = set_number-undivided to can n

  all_divided : (c : ℕ) → Lacks c number → All (Lacks c) (map change xs) → All (Lacks c) (map change ys) → All (Lacks c) st_elements
  all_divided c here front back =
      All-append (Lacks c) (map change xs) (number ∷ map change ys) front (All-cons (Lacks c) number (map change ys) here back)

  pub st_divided : IsDivided to (codes "ST") st_elements
  st_divided =
      let id : IsUndivided to (codes "ST") = plain-undivided to can (codes "ST") refl in
      let front = kept_lack from to marked can fit.apart xs xs_kept in
      let back = kept_lack from to marked can fit.apart ys ys_kept in
      record {
        some = omega arith;
        first = refl;
        id_element = lacks_element to (codes "ST") id;
        id_terminator = lacks_terminator to (codes "ST") id;
        by_element = all_divided to.element (lacks_element to number number_undivided) front.0 back.0;
        by_terminator = all_divided to.terminator (lacks_terminator to number number_undivided) front.1 back.1;
      }

  st_text : set_header_text from to p.set.header n ≡ st_body ++ to.terminator ∷ []
  st_text =
      let e : ℕ = to.element in
      let st : List ℕ = codes "ST" in
      let a : List ℕ = elements_text e (map change xs) in
      let b : List ℕ = e ∷ number in
      let c : List ℕ = elements_text e (map change ys) in
      ap (λ (t : List ℕ). ((st ++ a) ++ t) ++ c ++ to.terminator ∷ []) (append-nil b)
      ∙ ap (λ (t : List ℕ). t ++ to.terminator ∷ []) (append_assoc (st ++ a) b c ∙ append_assoc st a (b ++ c)
      ∙ ap (λ (t : List ℕ). st ++ t) (sym (flat_map-append (λ (x : List ℕ). e ∷ x) (map change xs) (number ∷ map change ys))))

  -- texts of one component
  said_plainly : (text : List ℕ) → IsUndivided (inner_delims to marked.r) text → said_in to text ≡ plainly text
  said_plainly text undivided = plainly_said to marked text undivided

  number_said : said_in to number ≡ plainly number
  number_said = said_plainly number (set_number-undivided (inner_delims to marked.r) marked.inside n)

  st_said : values_of_segment to (codes "ST" ∷ st_elements) ≡ header_said (values_of_segment from es) n
  st_said =
      let id : List ℕ = codes "ST" in
      let f : List ℕ → Said = said_in to in
      let g : List ℕ → Said = said_in from in
      let front : map f (map change xs) ≡ take 1 (drop 1 (map g es)) =
      kept_said from to marked can fit.apart xs xs_kept ∙ sym (ap (take 1) (drop-map g 1 es) ∙ take-map g 1 (drop 1 es)) in
      let back : map f (map change ys) ≡ drop 2 (drop 1 (map g es)) =
      kept_said from to marked can fit.apart ys ys_kept ∙ sym (ap (drop 2) (drop-map g 1 es) ∙ drop-map g 2 (drop 1 es)) in
      ap (λ (s : Said). s ∷ map f st_elements)
      (said_plainly id (plain-undivided (inner_delims to marked.r) marked.inside id refl))
      ∙ ap (λ (ss : List Said). plainly id ∷ ss) (map-append f (map change xs) (number ∷ map change ys)
      ∙ ap (λ (ss : List Said). ss ++ f number ∷ map f (map change ys)) front
      ∙ ap (λ (s : Said). take 1 (drop 1 (map g es)) ++ s ∷ map f (map change ys)) number_said
      ∙ ap (λ (ss : List Said). take 1 (drop 1 (map g es)) ++ plainly number ∷ ss) back)

  -- SE
  abbrev count : ℕ
  count = length inner + 2

  abbrev pub se_elements : List (List ℕ)
  se_elements = decimal count ∷ number ∷ []

  abbrev pub se_body : List ℕ
  se_body = body_of to (codes "SE") se_elements

  pub se_divided : IsDivided to (codes "SE") se_elements
  se_divided =
      let id : IsUndivided to (codes "SE") = plain-undivided to can (codes "SE") refl in
      let both : All (IsUndivided to) se_elements = All-from_recursion (IsUndivided to) se_elements
      (decimal-undivided to can count, (number_undivided, tt)) in
      record {
        some = omega arith;
        first = refl;
        id_element = lacks_element to (codes "SE") id;
        id_terminator = lacks_terminator to (codes "SE") id;
        by_element = All-weaker (IsUndivided to) (Lacks to.element) (lacks_element to) se_elements both;
        by_terminator = All-weaker (IsUndivided to) (Lacks to.terminator) (lacks_terminator to) se_elements both;
      }

  number_some : 0 < length number
  number_some = omega (
    arith,
    length-append (replicate (4 - length (decimal n)) 48) (decimal n),
    length-replicate {A = ℕ} (4 - length (decimal n)) 48,
  )

  se_text : set_trailer_text to count n ≡ se_body ++ to.terminator ∷ []
  se_text =
      ap (λ (list : List (List ℕ)). body_of to (codes "SE") list ++ to.terminator ∷ [])
      (trimmed-push_full (decimal count ∷ []) number number_some)

  se_said : values_of_segment to (codes "SE" ∷ se_elements) ≡ trailer_said count n
  se_said =
      let id : List ℕ = codes "SE" in
      let total : List ℕ = decimal count in
      let f : List ℕ → Said = said_in to in
      ap (λ (s : Said). s ∷ f total ∷ f number ∷ []) (said_plainly id (plain-undivided (inner_delims to marked.r) marked.inside id refl))
      ∙ ap (λ (s : Said). plainly id ∷ s ∷ f number ∷ [])
      (said_plainly total (decimal-undivided (inner_delims to marked.r) marked.inside count))
      ∙ ap (λ (s : Said). plainly id ∷ plainly total ∷ s ∷ []) number_said

  -- what stands between them
  abbrev pub found_in : SegValue → List (List ℕ)
  found_in seg = parts to.element (change seg.bytes)

  abbrev pub inner_bodies : List (List ℕ)
  inner_bodies = map (λ (seg : SegValue). change seg.bytes) inner

  abbrev pub Inner : SegValue → Type 0
  Inner seg = IsRawView from seg × All F seg.bytes

  pub inner_all : All Inner inner
  inner_all = all_both (IsRawView from) (λ seg. All F seg.bytes) inner fit.inner inner_free

  inner_made : All (IsBody to) inner_bodies
  inner_made = All-map (IsBody to) (λ (seg : SegValue). change seg.bytes) inner
      (All-weaker Inner (λ seg. IsBody to (change seg.bytes)) (λ seg is. inner_body from to marked can fit.apart seg is.0 is.1) inner
      inner_all)

  inner_texts : flat_map (inner_text from to) inner ≡ bodies_text to inner_bodies
  inner_texts = sym (flat_map-map (λ (body : List ℕ). body ++ to.terminator ∷ []) (λ (seg : SegValue). change seg.bytes) inner)

  pub inner_found : map (parts to.element) inner_bodies ≡ map found_in inner
  inner_found = map_as (parts to.element) (λ (seg : SegValue). change seg.bytes) found_in Inner (λ seg is. refl) inner inner_all

  all_inner_said : map (values_of_segment to) (map found_in inner) ≡ map (λ (seg : SegValue). values_of_segment from
      (elements_of seg)) inner
  all_inner_said = map_as (values_of_segment to) found_in (λ (seg : SegValue). values_of_segment from (elements_of seg)) Inner
      (λ seg is. inner_said from to marked can fit.apart seg is.0 is.1) inner inner_all

  letters : (word : List ℕ) → Type 0
  letters word = All (λ b. is_ascii_alphanumeric b ≡ true) word

  inner_between : All IsBetween (map found_in inner)
  inner_between =
      let Both : SegValue → Type 0 = λ seg. Inner seg × (may_stand_in_set (kind_of seg) ≡ true) in
      let P : ℕ → Type 0 = λ b. is_ascii_alphanumeric b ≡ true in
      let st : All P (codes "ST") = All-from_recursion P (codes "ST") (refl, (refl, tt)) in
      let se : All P (codes "SE") = All-from_recursion P (codes "SE") (refl, (refl, tt)) in
      All-map IsBetween found_in inner (All-weaker Both (λ seg. IsBetween (found_in seg)) (λ seg is. (
        inner_id from to marked can fit.apart seg (codes "ST") is.0.0 is.0.1 st refl is.1,
        inner_id from to marked can fit.apart seg (codes "SE") is.0.0 is.0.1 se refl is.1,
      )) inner (all_both Inner (λ seg. may_stand_in_set (kind_of seg) ≡ true) inner inner_all fit.kinds))

  -- the whole set
  abbrev pub set_bodies : List (List ℕ)
  set_bodies = st_body ∷ (inner_bodies ++ se_body ∷ [])

  pub text_of_set : set_text to p n ≡ bodies_text to set_bodies
  text_of_set =
      let t : List ℕ = to.terminator ∷ [] in
      let between : List ℕ = bodies_text to inner_bodies in
      ap (λ (h : List ℕ). h ++ flat_map (inner_text from to) inner ++ set_trailer_text to count n) st_text
      ∙ ap (λ (i : List ℕ). (st_body ++ t) ++ i ++ set_trailer_text to count n) inner_texts
      ∙ ap (λ (s : List ℕ). (st_body ++ t) ++ between ++ s) (se_text ∙ sym (append-nil (se_body ++ t)))
      ∙ append_assoc (st_body ++ t) between ((se_body ++ t) ++ [])
      ∙ ap (λ (more : List ℕ). (st_body ++ t) ++ more)
      (sym (flat_map-append (λ (body : List ℕ). body ++ t) inner_bodies (se_body ∷ [])))

  pub set_all : All (IsBody to) set_bodies
  set_all = All-cons (IsBody to) st_body (inner_bodies ++ se_body ∷ [])
      (divided_body to (codes "ST") st_elements marked.apart.element_terminator st_divided)
      (All-append (IsBody to) inner_bodies (se_body ∷ []) inner_made (All-cons (IsBody to) se_body []
      (divided_body to (codes "SE") se_elements marked.apart.element_terminator se_divided) (All-nil (IsBody to))))

  set_found : (ss : Segments) → all_said to (sets_read None (map (parts to.element) set_bodies ++ ss))
      ≡ set_said p n ∷ all_said to (sets_read None ss)
  set_found ss =
      let st : List (List ℕ) = codes "ST" ∷ st_elements in
      let se : List (List ℕ) = codes "SE" ∷ se_elements in
      let here : Segments = map found_in inner in
      let f : Segments → List (List (List Said)) = λ segs. all_said to (sets_read None segs) in
      let behind : map (parts to.element) (inner_bodies ++ se_body ∷ []) ++ ss ≡ here ++ se ∷ ss =
      ap (λ (segs : Segments). segs ++ ss) (map-append (parts to.element) inner_bodies (se_body ∷ [])
      ∙ ap (λ (segs : Segments). segs ++ parts to.element se_body ∷ []) inner_found
      ∙ ap (λ (s : List (List ℕ)). here ++ s ∷ []) (divided_parts to (codes "SE") se_elements se_divided))
      ∙ append_assoc here (se ∷ []) ss in
      ap (λ (s : List (List ℕ)). f (s ∷ (map (parts to.element) (inner_bodies ++ se_body ∷ []) ++ ss)))
      (divided_parts to (codes "ST") st_elements st_divided)
      ∙ ap (λ (segs : Segments). f (st ∷ segs)) behind
      ∙ ap (all_said to) (one_found st se here ss refl refl refl inner_between)
      ∙ ap (λ (one : List (List Said)). one ∷ f ss) (
      ap (λ (s : List Said). s ∷ map (values_of_segment to) (here ++ se ∷ [])) st_said
      ∙ ap (λ (more : List (List Said)). header_said (values_of_segment from es) n ∷ more) (map-append (values_of_segment to) here (se ∷ [])
      ∙ ap (λ (more : List (List Said)). more ++ values_of_segment to se ∷ []) all_inner_said
      ∙ ap (λ (s : List Said). map (λ (seg : SegValue). values_of_segment from (elements_of seg)) inner ++ s ∷ []) se_said))

  pub set_made : IsMade to (set_text to p n) (set_said p n ∷ [])
  set_made = record { bodies = set_bodies; is = text_of_set; all = set_all; gives = set_found }
