-- The pieces of a text, one after another, are the text.
use Rattle.std.proofs.Common.{◌≡◌, ℕ, ◌+◌, ◌-◌, ◌≤◌, List, [], ◌∷◌, ◌++◌, take, drop, true, sym, ap, ◌∙◌, arith, append-nil}
use Rattle.std.specs.Prelude.{slice_range, nat_le}
use Rattle.std.specs.List.{flat_map, list_all}
use Rattle.std.proofs.Math.Seq.{take-add}
use Rattle.std.proofs.lemmas.List.{drop-drop, take_all}
use Rattle.std.proofs.lemmas.Bool.{and_parts, leb-true}
use Rattle.cut_plan.specs.Plan.{Plan, IsPlan, pieces_from, rises_from, all_up_to, PiecesAreTheText}

-- a stretch in two
pub range-split : {X : Type 0} (xs : List X) (a b c : ℕ) → a ≤ b → b ≤ c
    → slice_range xs a c ≡ slice_range xs a b ++ slice_range xs b c
range-split {X} xs a b c h k =
    let e : c - a ≡ (b - a) + (c - b) = omega arith in
    let f : a + (b - a) ≡ b = omega arith in
    ap (λ n. take n (drop a xs)) e
    ∙ take-add (b - a) (c - b) (drop a xs)
    ∙ ap (λ (r : List X). take (b - a) (drop a xs) ++ take (c - b) r) (drop-drop (b - a) a xs ∙ ap (λ n. drop n xs) f)

from_on : (text : List ℕ) (a : ℕ) (cs : List ℕ) (end : ℕ) → a ≤ end → rises_from a cs ≡ true → all_up_to end cs ≡ true
    → flat_map (λ p. slice_range text p.from p.to) (pieces_from a cs end) ≡ slice_range text a end
from_on text a [] end h r s = append-nil (slice_range text a end)
from_on text a (c ∷ cs) end h r s =
    let rises = and_parts (nat_le a c) (rises_from c cs) r in
    let inside = and_parts (nat_le c end) (list_all (λ d. nat_le d end) cs) s in
    let up : a ≤ c = leb-true a c rises.0 in
    let within : c ≤ end = leb-true c end inside.0 in
    ap (λ (l : List ℕ). slice_range text a c ++ l) (from_on text c cs end within rises.1 inside.1)
    ∙ sym (range-split text a c end up within)

pub whole : (plan : Plan) → IsPlan plan → PiecesAreTheText plan
whole plan is text long =
    from_on text 0 plan.places plan.text_len (omega arith) is.rises is.inside
    ∙ ap (λ n. take n text) (let e : plan.text_len - 0 ≡ plan.text_len = omega arith in e)
    ∙ take_all plan.text_len text (omega (arith, long))
