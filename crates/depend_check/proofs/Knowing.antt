-- The texts that uses of a slot have in an element, with one more segment; and whether they trigger a dependency.
use Rattle.std.proofs.Common.{◌≡◌, ℕ, Bool, true, false, ◌&&◌, ◌||◌, cond, List, [], ◌∷◌, ◌++◌, refl, sym, ap, ◌∙◌}
use Rattle.std.specs.BTreeSet.{BTreeSet, contains}
use Rattle.std.specs.Cmp.Lexicographic.{bytes_decides}
use Rattle.std.specs.List.{list_any}
use Rattle.std.specs.Ordering.{is_eq}
use Rattle.std.specs.Str.{bytes_eq}
use Rattle.std.proofs.lemmas.Bool.{and_parts, and_from}
use Rattle.std.proofs.lemmas.List.Folds.{list_any-append}
use Rattle.std.proofs.lemmas.Map.Text.{is_eq-slice_cmp}
use Rattle.hub_kinds.specs.Words.{by_text, contains_text}
use Rattle.guide_tree.specs.declared.rows.Dependency.{Dependency}
use Rattle.guide_tree.specs.Words.{element_at}
use Rattle.loop_match.specs.PlacedSegments.{PlacedSegment}
use Rattle.depend_check.specs.Dependencies.{is_use, is_trigger, is_dependency_triggered}
use Rattle.depend_check.specs.Uses.{has, has_text, KnowsTexts, HaveSameUses}
use Rattle.depend_check.proofs.Lists.{any_same, any_with, with_any, same_truth}
use denote.Ref.{Bor}

with_one : (own is known : Bool) → own ≡ true → cond is true known ≡ (known || ((own && is) || false))
with_one true true true e = refl
with_one true true false e = refl
with_one true false true e = refl
with_one true false false e = refl
with_one false is known e = cc

pub text_more : (old new : BTreeSet (Bor (List ℕ))) (own : Bor (List ℕ)) (label : List ℕ) (at : ℕ) (ps : List PlacedSegment)
    (p : PlacedSegment) → own.now ≡ element_at p.segment at → is_use label p ≡ true
    → ((q : Bor (List ℕ)) → contains by_text new q
    ≡ cond (is_eq (by_text own q)) true (contains by_text old q))
    → KnowsTexts old label at ps → KnowsTexts new label at (ps ++ p ∷ [])
text_more old new own label at ps p is used added knows = λ text.
    added (record own { now = text })
    ∙ ap (λ (b : Bool). cond b true (has old text)) (is_eq-slice_cmp own.now text)
    ∙ ap (cond (bytes_eq own.now text) true) (knows text)
    ∙ with_one (is_use label p) (bytes_eq own.now text) (list_any (has_text label at text) ps) used
    ∙ ap (λ (m : List ℕ). list_any (has_text label at text) ps || ((is_use label p && bytes_eq m text) || false)) is
    ∙ sym (list_any-append (has_text label at text) ps (p ∷ []))

equal_texts : (a b : List ℕ) → bytes_eq a b ≡ true → bytes_eq b a ≡ true
equal_texts a b h = (bytes_decides b a).1 (sym ((bytes_decides a b).0 h))

abbrev any_code : Dependency → List PlacedSegment → Bool
any_code d ps = list_any (λ code. list_any (has_text d.slot d.at code) ps) d.codes

from_codes : (d : Dependency) (ps : List PlacedSegment) → any_code d ps ≡ true → is_dependency_triggered d ps ≡ true
from_codes d ps h =
    let c = with_any (λ code. list_any (has_text d.slot d.at code) ps) d.codes h in
    let p = with_any (has_text d.slot d.at c.0) ps c.2 in
    let both = and_parts (is_use d.slot p.0) (bytes_eq (element_at p.0.segment d.at) c.0) p.2 in
    any_with (is_trigger d) ps p.0 p.1
    (and_from (is_use d.slot p.0) (contains_text d.codes (element_at p.0.segment d.at)) both.0
    (any_with (λ t. bytes_eq t (element_at p.0.segment d.at)) d.codes c.0 c.1 (equal_texts (element_at p.0.segment d.at) c.0 both.1)))

to_codes : (d : Dependency) (ps : List PlacedSegment) → is_dependency_triggered d ps ≡ true → any_code d ps ≡ true
to_codes d ps h =
    let p = with_any (is_trigger d) ps h in
    let both = and_parts (is_use d.slot p.0) (contains_text d.codes (element_at p.0.segment d.at)) p.2 in
    let c = with_any (λ t. bytes_eq t (element_at p.0.segment d.at)) d.codes both.1 in
    any_with (λ code. list_any (has_text d.slot d.at code) ps) d.codes c.0 c.1
    (any_with (has_text d.slot d.at c.0) ps p.0 p.1
    (and_from (is_use d.slot p.0) (bytes_eq (element_at p.0.segment d.at) c.0) both.0
    (equal_texts c.0 (element_at p.0.segment d.at) c.2)))

pub triggered_by : (texts : BTreeSet (Bor (List ℕ))) (d : Dependency) (ps : List PlacedSegment) → KnowsTexts texts d.slot d.at ps
    → list_any (has texts) d.codes ≡ is_dependency_triggered d ps
triggered_by texts d ps knows =
    any_same (has texts) (λ code. list_any (has_text d.slot d.at code) ps) d.codes knows
    ∙ same_truth (any_code d ps) (is_dependency_triggered d ps) (from_codes d ps) (to_codes d ps)

swapped : {A B : Type 0} (p : A → B → Bool) (xs : List A) (ys : List B) → list_any (λ a. list_any (p a) ys) xs ≡ true
    → list_any (λ b. list_any (λ a. p a b) xs) ys ≡ true
swapped p xs ys h =
    let a = with_any (λ a. list_any (p a) ys) xs h in
    let b = with_any (p a.0) ys a.2 in
    any_with (λ b. list_any (λ a. p a b) xs) ys b.0 b.1 (any_with (λ x. p x b.0) xs a.0 a.1 b.2)

-- a text of the set is a code exactly where a code is in the set
pub listed_either_way : (texts : BTreeSet (Bor (List ℕ))) (codes : List (List ℕ))
    → list_any (λ text. contains_text codes text.now) texts.keys ≡ list_any (has texts) codes
listed_either_way texts codes =
    same_truth _ _ (swapped (λ (t : Bor (List ℕ)) c. bytes_eq c t.now) texts.keys codes)
    (swapped (λ c (t : Bor (List ℕ)). bytes_eq c t.now) codes texts.keys)
    ∙ any_same _ (has texts) codes (λ c. any_same _ _ texts.keys (λ own. sym (is_eq-slice_cmp c own.now)))

-- the texts of a slot's uses are those of a list with the same uses
same_texts : (label : List ℕ) (at : ℕ) (text : List ℕ) (xs ys : List PlacedSegment) → HaveSameUses label xs ys
    → list_any (has_text label at text) xs ≡ true → list_any (has_text label at text) ys ≡ true
same_texts label at text xs ys same h =
    let p = with_any (has_text label at text) xs h in
    let used = (and_parts (is_use label p.0) (bytes_eq (element_at p.0.segment at) text) p.2).0 in
    any_with (has_text label at text) ys p.0 ((same p.0 used).0 p.1) p.2

pub known_of : (texts : BTreeSet (Bor (List ℕ))) (label : List ℕ) (at : ℕ) (xs ys : List PlacedSegment) → HaveSameUses label xs ys
    → KnowsTexts texts label at xs → KnowsTexts texts label at ys
known_of texts label at xs ys same knows = λ text.
    knows text
    ∙ same_truth (list_any (has_text label at text) xs) (list_any (has_text label at text) ys) (same_texts label at text xs ys same)
    (same_texts label at text ys xs (λ p u. ((same p u).1, (same p u).0)))
