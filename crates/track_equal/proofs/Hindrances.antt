-- The byte that keeps a set from a receiver is the same, and so is its segment.
use Rattle.std.proofs.Common.{◌≡◌, ℕ, suc, ◌+◌, List, [], ◌∷◌, ◌++◌, map, Bool, true, false, ◌&&◌, ◌||◌, not, Option, Some, None, refl, sym}
use Rattle.std.proofs.Common.{ap, ◌∙◌, subst, arith}
use Rattle.std.proofs.Math.Path.{fun_ext}
use Rattle.std.proofs.lemmas.Bool.{eqb-true}
use Rattle.std.specs.Prelude.{◌==◌, if◌then◌else◌, find, flat_map, take, drop, decimal}
use Rattle.std.specs.List.{slice_split, onto_first, remove}
use Rattle.std.specs.Option.{option_map_or}
use Rattle.x12_bytes.specs.declared.delims.Delims.{Delims}
use Rattle.x12_segs.specs.Words.{Seg, SegValue, elements_of, view_of}
use Rattle.answered_sets.specs.Judged.{PlacedValue, delims_in}
use Rattle.mailbox.specs.Deliveries.{inner_in, collides, kept_parts}
use Rattle.night_definition.specs.Segments.{Elements, Segment, element}
use Rattle.night_definition.specs.Acknowledgments.{is_delimiter}
use Rattle.night_definition.specs.Deliveries.{Sent}
use Rattle.night_equal_writing.specs.Deliveries.{IsSeen}
use Rattle.night_equal_writing.proofs.ForAbove.{in_way, inner_are, own_is_none, segs_in}
use Rattle.track_table.specs.Hindrance as old
use Rattle.track_table.specs.declared.hindrance.Hindrance as layer
use Rattle.track_definition.specs.Hindrance as room

-- what is found in one list, or else in another
or_nothing : (o : Option ℕ) → old.byte_or o None ≡ o
or_nothing None = refl
or_nothing (Some b) = refl

or_again : (a b c : Option ℕ) → old.byte_or (old.byte_or a b) c ≡ old.byte_or a (old.byte_or b c)
or_again None b c = refl
or_again (Some x) b c = refl

found_here : (q : ℕ → Bool) (x : ℕ) (o : Option ℕ) → (if q x then Some x else o) ≡ old.byte_or (if q x then Some x else None) o
found_here q x o = by (q x)
  where
    by : (t : Bool) → (if t then Some x else o) ≡ old.byte_or (if t then Some x else None) o
    by true = refl
    by false = refl

find_append : (q : ℕ → Bool) (xs ys : List ℕ) → find q (xs ++ ys) ≡ old.byte_or (find q xs) (find q ys)
find_append q [] ys = refl
find_append q (x ∷ xs) ys = by (q x) (find_append q xs ys)
  where
    by : (t : Bool) → find q (xs ++ ys) ≡ old.byte_or (find q xs) (find q ys)
        → (if t then Some x else find q (xs ++ ys)) ≡ old.byte_or (if t then Some x else find q xs) (find q ys)
    by true more = refl
    by false more = more

-- what is found in texts, one after another
abbrev found_in : (ℕ → Bool) → List (List ℕ) → Option ℕ
found_in q texts = find q (flat_map (λ (t : List ℕ). t) texts)

found_cons : (q : ℕ → Bool) (t : List ℕ) (texts : List (List ℕ)) → found_in q (t ∷ texts) ≡ old.byte_or (find q t) (found_in q texts)
found_cons q t texts = find_append q t (flat_map (λ (t : List ℕ). t) texts)

found_append : (q : ℕ → Bool) (texts more : List (List ℕ)) → found_in q (texts ++ more)
    ≡ old.byte_or (found_in q texts) (found_in q more)
found_append q [] more = refl
found_append q (t ∷ texts) more =
    found_cons q t (texts ++ more) ∙ ap (old.byte_or (find q t)) (found_append q texts more)
    ∙ sym (or_again (find q t) (found_in q texts) (found_in q more))
    ∙ ap (λ (o : Option ℕ). old.byte_or o (found_in q more)) (sym (found_cons q t texts))

-- a byte of a text, looked for in its parts
onto_found : (q : ℕ → Bool) (x : ℕ) (texts : List (List ℕ)) → found_in q (onto_first x texts)
    ≡ (if q x then Some x else found_in q texts)
onto_found q x [] = refl
onto_found q x (t ∷ texts) = refl

parts_found : (q : ℕ → Bool) (c : ℕ) → q c ≡ false → (bytes : List ℕ) → found_in q (slice_split (λ b. b == c) bytes) ≡ find q bytes
parts_found q c none [] = refl
parts_found q c none (x ∷ xs) = by (x == c) refl (parts_found q c none xs)
  where
    by : (t : Bool) → (x == c) ≡ t → found_in q (slice_split (λ b. b == c) xs) ≡ find q xs
        → found_in q (if t then [] ∷ slice_split (λ b. b == c) xs else onto_first x (slice_split (λ b. b == c) xs))
        ≡ (if q x then Some x else find q xs)
    by true e more = more ∙ ap (λ t. if t then Some x else find q xs) (sym (ap q (eqb-true x c e) ∙ none))
    by false e more = onto_found q x (slice_split (λ b. b == c) xs) ∙ ap (λ (o : Option ℕ). if q x then Some x else o) more

-- of a header: all but its second element
parts_are : (from to : Delims) (texts : List (List ℕ)) → old.byte_in_parts from to texts ≡ found_in (collides from to) texts
parts_are from to [] = refl
parts_are from to (t ∷ texts) =
    ap (old.byte_or (old.byte_in_the_way from to t)) (parts_are from to texts) ∙ sym (found_cons (collides from to) t texts)

header_found : (q : ℕ → Bool) (st : Elements) → found_in q (take 2 st ++ drop 3 st) ≡ found_in q (element 0 st ∷ remove (drop 1 st) 1)
header_found q [] = refl
header_found q (a ∷ []) = refl
header_found q (a ∷ b ∷ []) = refl
header_found q (a ∷ b ∷ c ∷ st) = refl

-- where a byte is found, the number of its segment is one more than of those before it
abbrev pub seen : Option layer.Hindrance → Option room.Hindrance
seen None = None
seen (Some h) = Some (h.byte, h.before + 1)

here_is : (o : Option ℕ) (n : ℕ) (h : Option layer.Hindrance) → seen (old.here_or o n h) ≡ room.here_or (n + 1) o (seen h)
here_is None n h = refl
here_is (Some b) n h = refl

module _ (from to : Delims) where
  abbrev q : ℕ → Bool
  q = collides from to

  way : (λ (b : ℕ). is_delimiter to b && not (is_delimiter from b)) ≡ q
  way = fun_ext (in_way from to)

  byte_is : (es : Elements) → room.byte_in from to es ≡ found_in q es
  byte_is es = ap (λ (h : ℕ → Bool). found_in h es) way

  segment_is : (s : Seg) → room.byte_in from to (elements_of (view_of from s)) ≡ old.byte_in_the_way from to s.bytes
  segment_is s = byte_is (elements_of (view_of from s)) ∙ parts_found q from.element (own_is_none from to) s.bytes

  segments_are : (n : ℕ) (segs : List Seg)
      → seen (old.first_in from to n (map (view_of from) segs))
      ≡ room.first_in from to (n + 1) (map elements_of (map (view_of from) segs))
  segments_are n [] = refl
  segments_are n (s ∷ segs) =
      here_is (old.byte_in_the_way from to s.bytes) n (old.first_in from to (n + 1) (map (view_of from) segs))
      ∙ ap (λ (o : Option ℕ). room.here_or (n + 1) o (seen (old.first_in from to (n + 1) (map (view_of from) segs)))) (sym (segment_is s))
      ∙ ap (room.here_or (n + 1) (room.byte_in from to (elements_of (view_of from s)))) (segments_are (n + 1) segs)

pub hindrance_is : (to : Delims) (p : PlacedValue) (s : Sent) → IsSeen p s → seen (old.hindrance_to to p) ≡ room.hindrance_to to s
hindrance_is to p s is =
    let d : Delims = delims_in p in
    let st : Elements = elements_of p.set.header in
    let texts : List (List ℕ) = kept_parts p.set.header in
    here_is (old.byte_in_parts d to texts) 0 (old.first_in d to 1 (inner_in p))
    ∙ ap (λ (segs : List SegValue). room.here_or 1 (old.byte_in_parts d to texts) (seen (old.first_in d to 1 segs))) (inner_are p)
    ∙ ap (room.here_or 1 (old.byte_in_parts d to texts)) (segments_are d to 1 (segs_in p))
    ∙ ap (λ (segs : List SegValue). room.here_or 1 (old.byte_in_parts d to texts) (room.first_in d to 2 (map elements_of segs)))
    (sym (inner_are p))
    ∙ ap (λ (o : Option ℕ). room.here_or 1 o (room.first_in d to 2 (map elements_of (inner_in p))))
    (parts_are d to texts ∙ sym (header_found (collides d to) st) ∙ sym (byte_is d to (take 2 st ++ drop 3 st)))
    ∙ ap (λ (st : Elements). room.first_in d to 1 ((take 2 st ++ drop 3 st) ∷ map elements_of (inner_in p))) (sym is.st)
    ∙ ap (λ (es : List Elements). room.first_in d to 1
    ((take 2 s.answer.set.header.elements ++ drop 3 s.answer.set.header.elements) ∷ es)) (sym is.inner)
    ∙ ap (λ (d : Delims). room.first_in d to 1 ((take 2 s.answer.set.header.elements ++ drop 3 s.answer.set.header.elements)
    ∷ map (λ (x : Segment). x.elements) s.answer.set.inner)) (sym is.delims)

-- the fields that show it
pub cells_are : (o : Option layer.Hindrance)
    → Rattle.track_table.specs.Cells.hindrance_cells o
    ≡ option_map_or (λ (h : room.Hindrance). (h.0 ∷ []) ∷ decimal h.1 ∷ []) (seen o) ([] ∷ [] ∷ [])
cells_are None = refl
cells_are (Some h) = refl
