-- The sets of a text are those that stand in the spans of its index.
use Rattle.std.proofs.Common.{◌≡◌, ℕ, ◌+◌, ◌-◌, List, [], ◌∷◌, ◌++◌, map, true, Option, Some, None, length, get_or, take, refl, sym, ap}
use Rattle.std.proofs.Common.{subst, ◌∙◌, arith}
use Rattle.std.specs.Prelude.{option_map, is_some}
use Rattle.std.proofs.lemmas.List.{length-append, get_or-append-add}
use Rattle.std.proofs.lemmas.Option.{slice_get-get_or}
use Rattle.std.proofs.Math.Seq.{take-append_seam}
use Rattle.x12_bytes.specs.Header.{header_at, header_delims}
use Rattle.x12_bytes.specs.HeaderTest.{is_head}
use Rattle.x12_bytes.specs.declared.delims.Delims.{Delims}
use Rattle.x12_segs.specs.Words.{SegValue, elements_of}
use Rattle.env_index.specs.Words as then
use Rattle.env_index.specs.Summary.{groups_in}
use Rattle.env_index.proofs.ForAbove.{all_alone}
use Rattle.set_check.specs.SetParts.{parts_of, set_parts, inner_of, set_trailer_of}
use Rattle.night_definition.specs.Segments.{Segment}
use Rattle.night_definition.specs.Envelopes.{Read, nothing}
use Rattle.night_definition.specs.Interchanges.{Interchange, text_of}
use Rattle.night_equal_text.specs.Seen.{seen, set_of, with_members, with_body, content_of, IsSame, AreSame}
use Rattle.night_equal_text.specs.Spanned.{IsSetOf, AreSetsIn, AreGroupsIn, AreInterchangesIn}
use Rattle.night_equal_text.proofs.Walking.{texts_are_indexes}

elements_seen : (xs : List SegValue) → map (λ (s : Segment). s.elements) (map seen xs) ≡ map elements_of xs
elements_seen [] = refl
elements_seen (x ∷ xs) = ap (λ ys. elements_of x ∷ ys) (elements_seen xs)

front : (inner behind : List SegValue) (n : ℕ) → n ≡ length inner → take n (inner ++ behind) ≡ inner
front inner behind n is = ap (λ k. take k (inner ++ behind)) is ∙ take-append_seam inner behind

pub inner_is : (h : SegValue) (inner : List SegValue) (t : Option SegValue)
    → inner_of (is_some t) (h ∷ (inner ++ then.option_items t)) ≡ inner
inner_is h inner None =
    let long : length (inner ++ []) ≡ length inner = omega (arith, length-append inner []) in
    front inner [] (length (h ∷ (inner ++ [])) - 1) (omega (arith, long))
inner_is h inner (Some t) =
    let long : length (inner ++ t ∷ []) ≡ length inner + 1 = omega (arith, length-append inner (t ∷ [])) in
    front inner (t ∷ []) (length (h ∷ (inner ++ t ∷ [])) - 1 - 1) (omega (arith, long))

pub trailer_is : (h : SegValue) (inner : List SegValue) (t : Option SegValue)
    → set_trailer_of (is_some t) (h ∷ (inner ++ then.option_items t)) ≡ t
trailer_is h inner None = refl
trailer_is h inner (Some t) =
    let items : List SegValue = (h ∷ inner) ++ t ∷ [] in
    let long : length items ≡ length (h ∷ inner) + 1 = length-append (h ∷ inner) (t ∷ []) in
    let last : length items - 1 ≡ length (h ∷ inner) + 0 = omega (arith, long) in
    slice_get-get_or items (length items - 1) h (omega (arith, long))
    ∙ ap (λ k. Some (get_or items k h)) last ∙ ap Some (get_or-append-add (h ∷ inner) (t ∷ []) 0 h)

of_items : (d : Delims) (s : then.Set SegValue) → IsSetOf (set_of s) (parts_of d (is_some s.trailer) (then.set_items s))
of_items d s = record {
  header = refl;
  body = elements_seen s.inner ∙ sym (ap (map elements_of) (inner_is s.header s.inner s.trailer));
  trailer = sym (ap (option_map seen) (trailer_is s.header s.inner s.trailer));
}

in_span : (text : List ℕ) (d : Delims) (s : then.Set SegValue) → then.SetStandsAlone text d s
    → IsSetOf (set_of s) (set_parts text (then.span_of d (then.set_entry s)))
in_span text d s alone = subst (λ xs. IsSetOf (set_of s) (parts_of d (is_some s.trailer) xs)) (sym alone.segs) (of_items d s)

members_in : (text : List ℕ) (d : Delims) (ms : List (then.InGroup SegValue)) (r : Read) → AreSetsIn text d r.sets []
    → then.EachSet (then.SetStandsAlone text d) ms → AreSetsIn text d (with_members ms r).sets (then.sets_in ms)
members_in text d [] r none each = none
members_in text d (then.ASet s ∷ ms) r none each = (in_span text d s each.0, members_in text d ms r none each.1)
members_in text d (then.OutOfGroup x ∷ ms) r none each = members_in text d ms r none each

groups_keep : (ms : List (then.InGroup SegValue)) (r : Read) → (with_members ms r).groups ≡ r.groups
groups_keep [] r = refl
groups_keep (then.ASet s ∷ ms) r = groups_keep ms r
groups_keep (then.OutOfGroup x ∷ ms) r = groups_keep ms r

body_in : (text : List ℕ) (d : Delims) (ms : List (then.InBody SegValue)) (last : Read) → AreGroupsIn text d last.groups []
    → then.EachSetIn (then.SetStandsAlone text d) ms → AreGroupsIn text d (with_body ms last).groups (groups_in ms)
body_in text d [] last none each = none
body_in text d (then.ATa1 x ∷ ms) last none each = body_in text d ms last none each
body_in text d (then.OutOfBody x ∷ ms) last none each = body_in text d ms last none each
body_in text d (then.AGroup g ∷ ms) last none each =
    let behind : Read = with_body ms last in
    let start : Read = record behind { inner = []; se = None; sets = []; ge = option_map seen g.trailer } in (
      members_in text d g.members start tt each.0,
      subst (λ gs. AreGroupsIn text d gs (groups_in ms)) (sym (groups_keep g.members start)) (body_in text d ms last none each.1),
    )

one_in : (text : List ℕ) (x : Interchange) (e : then.InterchangeEntry) → IsSame text x e → is_head text e.start ≡ true
    → AreGroupsIn text x.delims x.content.groups e.content.groups
one_in text x e is head =
    let d : Delims = header_delims (header_at text e.start) in
    let groups : AreGroupsIn text d (content_of is.tree).groups (groups_in is.tree.members)
    = body_in text d is.tree.members (record nothing { iea = option_map seen is.tree.trailer }) tt
    (all_alone text e.start is.tree head is.derived) in
    subst (λ (y : Interchange). AreGroupsIn text y.delims y.content.groups e.content.groups) (sym is.same)
    (subst (λ (f : then.InterchangeEntry). AreGroupsIn text d (content_of is.tree).groups f.content.groups) (sym is.read) groups)

all_in : (text : List ℕ) (from : ℕ) (xs : List Interchange) (es : List then.IndexEntry) → AreSame text xs es
    → then.ChainFrom text from (then.extents_of es) → AreInterchangesIn text xs es
all_in text from [] [] same chain = tt
all_in text from [] (e ∷ es) same chain = absurd same
all_in text from (x ∷ xs) [] same chain = absurd same
all_in text from (x ∷ xs) (e ∷ es) same chain =
    (one_in text x e.interchange same.0 chain.0.head, all_in text e.interchange.end xs es same.1 chain.2)

pub sets_are_parts : (text : List ℕ) (index : then.IndexValue) → then.IsIndex text index
    → AreInterchangesIn text (text_of text).interchanges index.entries
sets_are_parts text index is =
    all_in text 0 (text_of text).interchanges index.entries (texts_are_indexes text index is).0 is.chain
