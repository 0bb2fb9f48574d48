-- Which delivered bytes are in the way of a receiver.
use Rattle.std.proofs.Common.{◌≡◌, ℕ, ◌+◌, ◌-◌, List, [], ◌∷◌, ◌++◌, map, Bool, true, false, ◌&&◌, ◌||◌, not, refl, sym, ap, ◌∙◌}
use Rattle.std.proofs.Math.Path.{fun_ext}
use Rattle.std.proofs.lemmas.Bool.{eqb-true, eq-eqb}
use Rattle.std.proofs.lemmas.List.{take-map, drop-map}
use Rattle.std.proofs.lemmas.List.Folds.{list_any-append}
use Rattle.std.specs.Prelude.{◌==◌, if◌then◌else◌, take, drop, flat_map}
use Rattle.std.specs.List.{list_any, slice_split, onto_first}
use Rattle.x12_bytes.specs.declared.delims.Delims.{Delims}
use Rattle.x12_segs.specs.Words.{Seg, SegValue, elements_of, view_of, span_segs}
use Rattle.x12_write.specs.Delimiters as old_delims
use Rattle.env_index.specs.Words.{span_of}
use Rattle.answered_sets.specs.Judged.{PlacedValue, delims_in}
use Rattle.mailbox.specs.Deliveries as old
use Rattle.night_definition.specs.Segments.{Elements, Segment, element}
use Rattle.night_definition.specs.Acknowledgments as room_acks
use Rattle.night_definition.specs.Deliveries as room
use Rattle.night_definition.specs.Deliveries.{Sent}
use Rattle.night_equal_writing.specs.Deliveries.{IsSeen}
use Rattle.night_equal_writing.proofs.Acknowledgments.{delimiter_is}

or_assoc : (a b c : Bool) → ((a || b) || c) ≡ (a || (b || c))
or_assoc true b c = refl
or_assoc false b c = refl

or_false : (a : Bool) → (a || false) ≡ a
or_false true = refl
or_false false = refl

-- a byte of a text, looked for in its parts
onto_any : (q : ℕ → Bool) (x : ℕ) (parts : List (List ℕ)) → list_any (list_any q) (onto_first x parts)
    ≡ (q x || list_any (list_any q) parts)
onto_any q x [] = or_false (q x || false) ∙ refl
onto_any q x (part ∷ parts) = or_assoc (q x) (list_any q part) (list_any (list_any q) parts)

parts_any : (q : ℕ → Bool) (c : ℕ) → q c ≡ false → (bytes : List ℕ) → list_any (list_any q) (slice_split (λ b. b == c) bytes)
    ≡ list_any q bytes
parts_any q c none [] = refl
parts_any q c none (x ∷ xs) = by (x == c) refl (parts_any q c none xs)
  where
    by : (t : Bool) → (x == c) ≡ t → list_any (list_any q) (slice_split (λ b. b == c) xs) ≡ list_any q xs
        → list_any (list_any q) (if t then [] ∷ slice_split (λ b. b == c) xs else onto_first x (slice_split (λ b. b == c) xs))
        ≡ (q x || list_any q xs)
    by true e more = more ∙ ap (λ t. t || list_any q xs) (sym (ap q (eqb-true x c e) ∙ none))
    by false e more = onto_any q x (slice_split (λ b. b == c) xs) ∙ ap (λ t. q x || t) more

swapped : (a b : Bool) → (a && not b) ≡ (not b && a)
swapped true true = refl
swapped true false = refl
swapped false true = refl
swapped false false = refl

pub in_way : (from to : Delims) (b : ℕ) → (room_acks.is_delimiter to b && not (room_acks.is_delimiter from b)) ≡ old.collides from to b
in_way from to b =
    swapped (room_acks.is_delimiter to b) (room_acks.is_delimiter from b)
    ∙ ap (λ t. not t && room_acks.is_delimiter to b) (delimiter_is from b)
    ∙ ap (λ t. not (old_delims.is_delimiter from b) && t) (delimiter_is to b)

pub own_is_none : (from to : Delims) → old.collides from to from.element ≡ false
own_is_none from to =
    ap (λ t. not (t || from.element == from.component || from.element == from.terminator
    || old_delims.is_this from.repetition from.element)
    && old_delims.is_delimiter to from.element) (eq-eqb from.element from.element refl)

-- ST: all but its second element
head_any : (q : List ℕ → Bool) → q [] ≡ false → (st : Elements)
    → list_any q (take 2 st ++ drop 3 st) ≡ list_any q (element 0 st ∷ Rattle.std.specs.List.remove (drop 1 st) 1)
head_any q none [] = sym (ap (λ t. t || false) none)
head_any q none (a ∷ []) = refl
head_any q none (a ∷ b ∷ []) = refl
head_any q none (a ∷ b ∷ c ∷ st) = refl

abbrev pub segs_in : PlacedValue → List Seg
segs_in p = take (old.inner_count p) (drop 1 (span_segs p.interchange.text (span_of (delims_in p) p.set)))

pub inner_are : (p : PlacedValue) → old.inner_in p ≡ map (view_of (delims_in p)) (segs_in p)
inner_are p =
    let segs : List Seg = span_segs p.interchange.text (span_of (delims_in p) p.set) in
    ap (take (old.inner_count p)) (drop-map (view_of (delims_in p)) 1 segs)
    ∙ take-map (view_of (delims_in p)) (old.inner_count p) (drop 1 segs)

flat_any : {A : Type 0} (q : List ℕ → Bool) (f : A → Elements) (xs : List A) → list_any q (flat_map f xs)
    ≡ list_any (λ x. list_any q (f x)) xs
flat_any q f [] = refl
flat_any q f (x ∷ xs) = list_any-append q (f x) (flat_map f xs) ∙ ap (λ t. list_any q (f x) || t) (flat_any q f xs)

pub any_map : {A B : Type 0} (q : B → Bool) (f : A → B) (xs : List A) → list_any q (map f xs) ≡ list_any (λ x. q (f x)) xs
any_map q f [] = refl
any_map q f (x ∷ xs) = ap (λ t. q (f x) || t) (any_map q f xs)

inner_any : (from to : Delims) (segs : List Seg)
    → list_any (λ (s : SegValue). list_any (old.has_collision from to) (elements_of s)) (map (view_of from) segs)
    ≡ list_any (λ (s : SegValue). old.has_collision from to s.bytes) (map (view_of from) segs)
inner_any from to segs =
    any_map (λ (s : SegValue). list_any (old.has_collision from to) (elements_of s)) (view_of from) segs
    ∙ ap (λ (h : Seg → Bool). list_any h segs) (fun_ext
    (λ s. parts_any (old.collides from to) from.element (own_is_none from to) s.bytes))
    ∙ sym (any_map (λ (s : SegValue). old.has_collision from to s.bytes) (view_of from) segs)

pub blocked_is : (to : Delims) (p : PlacedValue) (s : Sent) → IsSeen p s → room.is_blocked to s ≡ old.is_blocked to p
blocked_is to p s is =
    let d : Delims = delims_in p in
    let q : List ℕ → Bool = old.has_collision d to in
    let st : Elements = elements_of p.set.header in
    let inner : List Segment = s.answer.set.inner in
    ap (λ (d : Delims). list_any (λ e. list_any (λ b. room_acks.is_delimiter to b && not (room_acks.is_delimiter d b)) e)
    (take 2 s.answer.set.header.elements ++ drop 3 s.answer.set.header.elements
    ++ flat_map (λ (x : Segment). x.elements) inner)) is.delims
    ∙ ap (λ (h : ℕ → Bool). list_any (list_any h)
    (take 2 s.answer.set.header.elements ++ drop 3 s.answer.set.header.elements ++ flat_map (λ (x : Segment). x.elements) inner))
    (fun_ext (in_way d to))
    ∙ ap (λ (st : Elements). list_any q (take 2 st ++ drop 3 st ++ flat_map (λ (x : Segment). x.elements) inner)) is.st
    ∙ list_any-append q (take 2 st ++ drop 3 st) (flat_map (λ (x : Segment). x.elements) inner)
    ∙ ap (λ t. t || list_any q (flat_map (λ (x : Segment). x.elements) inner)) (head_any q refl st)
    ∙ ap (λ t. list_any q (old.kept_parts p.set.header) || t)
    (flat_any q (λ (x : Segment). x.elements) inner
    ∙ sym (any_map (list_any q) (λ (x : Segment). x.elements) inner)
    ∙ ap (list_any (list_any q)) is.inner
    ∙ any_map (list_any q) elements_of (old.inner_in p)
    ∙ ap (list_any (λ (s : SegValue). list_any q (elements_of s))) (inner_are p)
    ∙ inner_any d to (segs_in p)
    ∙ sym (ap (list_any (λ (s : SegValue). q s.bytes)) (inner_are p)))
