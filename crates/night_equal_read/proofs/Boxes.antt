-- What a partner finds in its mailbox is what the definition delivers to it.
use Rattle.std.proofs.Common.{◌≡◌, ℕ, ◌+◌, ◌==◌, List, [], ◌∷◌, ◌++◌, map, take, drop, Bool, true, false, ◌||◌, Option, Some, None, length}
use Rattle.std.proofs.Common.{refl, sym, ap, ◌∙◌}
use Rattle.std.specs.Prelude.{All, codes, decimal}
use Rattle.std.specs.List.{AllZip}
use Rattle.std.proofs.lemmas.List.{length-map}
use Rattle.std.proofs.lemmas.List.Elements.{All-from_recursion, All-head, All-tail}
use Rattle.std.proofs.lemmas.List.Splits.{slice_split_none}
use Rattle.x12_bytes.specs.declared.delims.Delims.{Delims}
use Rattle.x12_segs.specs.Words.{SegValue, elements_of, part_or_empty, views}
use Rattle.x12_write.specs.Delimiters.{is_delimiter, is_this}
use Rattle.x12_write.specs.Number as old_number
use Rattle.count_numbers.specs.Num as old_num
use Rattle.guide_tree.specs.Tree.{GuideTree}
use Rattle.guide_tree.specs.View.{guide_of}
use Rattle.answered_sets.specs.Judged.{PlacedValue, delims_in}
use Rattle.mailbox.specs.Deliveries.{inner_in}
use Rattle.mailbox.specs.Numbered.{NumberedValue, numbered_from}
use Rattle.set_answers.specs.CheckedText.{CheckedInterchange}
use Rattle.night_batches.specs.Night.{sets_to, judgements}
use Rattle.night_law.specs.SetsRead as then
use Rattle.night_law.specs.SetsRead.{Said, Segments, said_in, set_said, sets_found, values_of_segment}
use Rattle.night_definition.specs.Header.{divided}
use Rattle.night_definition.specs.Segments.{Elements, Segment}
use Rattle.night_definition.specs.Elements.{numbered}
use Rattle.night_definition.specs.Written.{set_number}
use Rattle.night_definition.specs.Acknowledgments.{num}
use Rattle.night_definition.specs.Deliveries.{Sent, delivered_to}
use Rattle.night_definition.specs.Night.{answered_text}
use Rattle.night_definition.specs.ReadBack.{element_content, set_content, sets_after, text_content}
use Rattle.night_equal_text.specs.LookedUp.{seen_setup}
use Rattle.night_equal_writing.specs.Deliveries.{DeliveriesAreOne, IsPlain, IsSeen}
use Rattle.night_equal_writing.specs.Texts.{TextsAreOne}
use Rattle.night_equal_writing.proofs.ForAbove.{same_either}
use Rattle.night_equal_read.specs.Known.{IsKnownAs, KnownTextsAreOne}
use Rattle.night_equal_read.specs.Read.{BoxesAreRead}
use Rattle.night_equal.proofs.ForAbove.{segments_are}
use Rattle.night_equal_read.proofs.Segments.{content_is, sets_are}

-- two functions that agree, over a list
pub map_same : {A B : Type 0} (f g : A → B) → ((x : A) → f x ≡ g x) → (xs : List A) → map f xs ≡ map g xs
map_same f g same [] = refl
map_same {A} {B} f g same (x ∷ xs) = ap (λ (y : B). y ∷ map f xs) (same x) ∙ ap (λ (ys : List B). g x ∷ ys) (map_same f g same xs)

-- one function after another
pub map_twice : {A B C : Type 0} (f : B → C) (g : A → B) (xs : List A) → map f (map g xs) ≡ map (λ x. f (g x)) xs
map_twice f g [] = refl
map_twice {A} {B} {C} f g (x ∷ xs) = ap (λ (ys : List C). f (g x) ∷ ys) (map_twice f g xs)

contents_are : (d : Delims) (s : Elements) → map (element_content d) s ≡ values_of_segment d s
contents_are d s = map_same (element_content d) (said_in d) (content_is d) s

-- a text of S and T alone is one component
off_component : (e c t : Bool) (o : Bool) → (((e || c) || t) || o) ≡ false → c ≡ false
off_component false false t o off = refl
off_component false true t o off = cc
off_component true c t o off = cc

off_repetition : (e c t : Bool) (o : Bool) → (((e || c) || t) || o) ≡ false → o ≡ false
off_repetition false false false o off = off
off_repetition false false true o off = cc
off_repetition false true t o off = cc
off_repetition true c t o off = cc

module _ (d : Delims) (s : is_delimiter d 83 ≡ false) (t : is_delimiter d 84 ≡ false) where
  undivided : (by : ℕ) → (83 == by) ≡ false → (84 == by) ≡ false → divided by (codes "ST") ≡ codes "ST" ∷ []
  undivided by first second =
      slice_split_none (λ b. b == by) (codes "ST") (All-from_recursion (λ b. (b == by) ≡ false) (codes "ST") (first, (second, tt)))

  one_component : divided d.component (codes "ST") ≡ codes "ST" ∷ []
  one_component =
      undivided d.component
      (off_component (83 == d.element) (83 == d.component) (83 == d.terminator) (is_this d.repetition 83) s)
      (off_component (84 == d.element) (84 == d.component) (84 == d.terminator) (is_this d.repetition 84) t)

  pub st_content : element_content d (codes "ST") ≡ text_content (codes "ST")
  st_content = by d.repetition
      (off_repetition (83 == d.element) (83 == d.component) (83 == d.terminator) (is_this d.repetition 83) s)
      (off_repetition (84 == d.element) (84 == d.component) (84 == d.terminator) (is_this d.repetition 84) t)
    where
      by : (r : Option ℕ) → is_this r 83 ≡ false → is_this r 84 ≡ false
          → element_content (record d { repetition = r }) (codes "ST") ≡ text_content (codes "ST")
      by None first second = ap (λ (parts : List (List ℕ)). parts ∷ []) one_component
      by (Some r) first second =
          ap (map (divided d.component)) (undivided r (same_either 83 r ∙ first) (same_either 84 r ∙ second))
          ∙ ap (λ (parts : List (List ℕ)). parts ∷ []) one_component

-- ST as it is read, with ST02 anew
header_is : (d : Delims) (st : Elements) (n : List ℕ) → part_or_empty st 0 ≡ codes "ST"
    → element_content d (codes "ST") ≡ text_content (codes "ST")
    → (map (element_content d) (take 2 st) ++ text_content n ∷ map (element_content d) (drop 3 st))
    ≡ then.plainly (codes "ST") ∷ (take 1 (drop 1 (map (element_content d) st)) ++ then.plainly n
    ∷ drop 2 (drop 1 (map (element_content d) st)))
header_is d [] n id plain = cc
header_is d (e ∷ []) n id plain =
    ap (λ (x : Said). x ∷ text_content n ∷ []) (ap (element_content d) id ∙ plain)
header_is d (e ∷ f ∷ []) n id plain =
    ap (λ (x : Said). x ∷ element_content d f ∷ text_content n ∷ []) (ap (element_content d) id ∙ plain)
header_is d (e ∷ f ∷ g ∷ es) n id plain =
    ap (λ (x : Said). x ∷ element_content d f ∷ text_content n ∷ map (element_content d) es) (ap (element_content d) id ∙ plain)

abbrev trailer : (segments : ℕ) → (n : List ℕ) → List Said
trailer segments n = text_content (codes "SE") ∷ text_content (decimal segments) ∷ text_content n ∷ []

module _ (texts : TextsAreOne) (p : PlacedValue) (x : Sent) (seen : IsSeen p x) (plain : IsPlain p) (n : ℕ) where
  abbrev d : Delims
  d = delims_in p

  abbrev st : Elements
  st = elements_of p.set.header

  abbrev control : List ℕ
  control = old_number.set_number n

  inner_are : map (λ (y : Segment). map (element_content d) y.elements) x.answer.set.inner
      ≡ map (λ (y : SegValue). values_of_segment d (elements_of y)) (inner_in p)
  inner_are =
      sym (map_twice (map (element_content d)) (λ (y : Segment). y.elements) x.answer.set.inner)
      ∙ ap (map (map (element_content d))) seen.inner
      ∙ map_twice (map (element_content d)) elements_of (inner_in p)
      ∙ map_same (λ (y : SegValue). map (element_content d) (elements_of y)) (λ (y : SegValue). values_of_segment d (elements_of y))
      (λ y. contents_are d (elements_of y)) (inner_in p)

  inner_long : length x.answer.set.inner ≡ length (inner_in p)
  inner_long =
      sym (length-map x.answer.set.inner (λ (y : Segment). y.elements)) ∙ ap length seen.inner ∙ length-map (inner_in p) elements_of

  abbrev set_made : Delims → Elements → List (List Said) → ℕ → List ℕ → List (List Said)
  set_made e st inner long k =
      (map (element_content e) (take 2 st) ++ text_content k ∷ map (element_content e) (drop 3 st)) ∷ inner ++ trailer (long + 2) k ∷ []

  abbrev then_inner : List (List Said)
  then_inner = map (λ (y : SegValue). values_of_segment d (elements_of y)) (inner_in p)

  pub content_of_set : set_content n x ≡ set_said p n
  content_of_set =
      ap (λ e. set_made e x.answer.set.header.elements (map (λ (y : Segment). map (element_content e) y.elements) x.answer.set.inner)
      (length x.answer.set.inner) (set_number n)) seen.delims
      ∙ ap (λ s. set_made d s (map (λ (y : Segment). map (element_content d) y.elements) x.answer.set.inner)
      (length x.answer.set.inner) (set_number n)) seen.st
      ∙ ap (λ i. set_made d st i (length x.answer.set.inner) (set_number n)) inner_are
      ∙ ap (λ l. set_made d st then_inner l (set_number n)) inner_long
      ∙ ap (set_made d st then_inner (length (inner_in p))) (texts.number 4 n)
      ∙ ap (λ (h : List Said). h ∷ then_inner ++ trailer (length (inner_in p) + 2) control ∷ [])
      (header_is d st control plain.id (st_content d plain.s plain.t)
      ∙ ap (λ (l : List Said). then.plainly (codes "ST") ∷ (take 1 (drop 1 l) ++ then.plainly control ∷ drop 2 (drop 1 l)))
      (contents_are d st))

module _ (texts : TextsAreOne) (first : ℕ) where
  said_from : (k : ℕ) (ps : List PlacedValue) (xs : List Sent) → AllZip IsSeen ps xs → All IsPlain ps
      → map (λ (x : ℕ × Sent). set_content (num first x.0) x.1) (numbered k xs)
      ≡ map (λ (x : NumberedValue). set_said x.set (old_num.num first x.place)) (numbered_from k ps)
  said_from k [] [] zip plain = refl
  said_from k [] (x ∷ xs) zip plain = absurd zip
  said_from k (p ∷ ps) [] zip plain = absurd zip
  said_from k (p ∷ ps) (x ∷ xs) zip plain =
      let more : List (List (List Said)) = map (λ (x : ℕ × Sent). set_content (num first x.0) x.1) (numbered (k + 1) xs) in
      ap (λ n. set_content n x ∷ more) (texts.num first k)
      ∙ ap (λ (s : List (List Said)). s ∷ more)
      (content_of_set texts p x zip.0 (All-head IsPlain p ps plain) (old_num.num first k))
      ∙ ap (λ (ss : List (List (List Said))). set_said p (old_num.num first k) ∷ ss)
      (said_from (k + 1) ps xs zip.1 (All-tail IsPlain p ps plain))

pub boxes : KnownTextsAreOne → DeliveriesAreOne → TextsAreOne → BoxesAreRead
boxes knows deliveries texts text setup files read n p box at_p at_box =
    let known : List CheckedInterchange = read.known in
    let is : IsKnownAs text setup known = knows text setup known read.outside read.is_known in
    let d : Delims = p.delims in
    let guides : List GuideTree = map guide_of setup.guides in
    ap (λ (ss : Segments). map (map (map (element_content d))) (sets_after [] ss)) (segments_are d box)
    ∙ ap (map (map (map (element_content d)))) (sets_are (map elements_of (views box d)))
    ∙ map_same (map (map (element_content d))) (map (values_of_segment d))
    (λ set. map_same (map (element_content d)) (values_of_segment d) (contents_are d) set) (sets_found d box)
    ∙ read.each.each n p box at_p at_box
    ∙ sym (said_from texts p.counters.set 0 (sets_to text setup known n)
    (delivered_to (seen_setup setup) n (answered_text text (seen_setup setup)))
    (deliveries.to setup guides n (judgements text known) (answered_text text (seen_setup setup)) is.sets) (is.plain n))
