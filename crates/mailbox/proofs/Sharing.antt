-- What is written part by part is what is written of all.
use Rattle.std.proofs.Common.{◌≡◌, ℕ, ◌+◌, ◌-◌, ◌≤◌, List, [], ◌∷◌, ◌++◌, take, drop, length, map, map-id, refl, sym, ap, subst}
use Rattle.std.proofs.Common.{◌∙◌, arith, Err, IfOk, MatchResult, Ok, Result, Some}
use Rattle.std.proofs.lemmas.List.{drop-drop, drop-take, length-drop, length-take-le, take-append-drop, take-take, take_all}
use Rattle.std.proofs.lemmas.List.Elements.{All-cons, All-nil}
use Rattle.std.specs.List.{All, AllZip, flat_map, range_with_len}
use Rattle.std.specs.Prelude.{slice_get, slice_range}
use Rattle.job_pool.proofs.ForAbove.{gathered, numbered}
use Rattle.partner_setup.specs.declared.partner.Partner.{Partner}
use Rattle.answered_sets.specs.Judged.{PlacedValue}
use Rattle.mailbox.specs.Parts.{AreParts, rendered_part}
use Rattle.mailbox.specs.Rendered.{RenderedValue, rendered, rendered_from}
use Rattle.mailbox.specs.declared.parts.Part.{Part}

abbrev pub same : List RenderedValue → List RenderedValue
same sets = sets

rendered_joined : (partner : Partner) (k : ℕ) (xs ys : List PlacedValue)
    → rendered_from partner k (xs ++ ys) ≡ rendered_from partner k xs ++ rendered_from partner (k + length xs) ys
rendered_joined partner k [] ys = ap (λ (n : ℕ). rendered_from partner n ys) (omega arith)
rendered_joined partner k (x ∷ xs) ys =
    ap (λ (vs : List RenderedValue). rendered partner k x ∷ vs)
    (rendered_joined partner (k + 1) xs ys
    ∙ ap (λ (n : ℕ). rendered_from partner (k + 1) xs ++ rendered_from partner n ys) (omega arith))

slice_joined : (xs : List PlacedValue) (a b c : ℕ) → a ≤ b → b ≤ c → slice_range xs a c ≡ slice_range xs a b ++ slice_range xs b c
slice_joined xs a b c first second =
    let front : take (b - a) (take (c - a) (drop a xs)) ≡ slice_range xs a b =
    take-take (b - a) (c - a) (drop a xs) (omega (arith, first, second)) in
    let sum : c - a ≡ (b - a) + (c - b) = omega (arith, first, second) in
    let place : a + (b - a) ≡ b = omega (arith, first) in
    let behind : drop (b - a) (take (c - a) (drop a xs)) ≡ slice_range xs b c =
    ap (λ (n : ℕ). drop (b - a) (take n (drop a xs))) sum
    ∙ drop-take (b - a) (c - b) (drop a xs)
    ∙ ap (take (c - b)) (drop-drop (b - a) a xs ∙ ap (λ (n : ℕ). drop n xs) place) in
    sym (take-append-drop (b - a) (slice_range xs a c))
    ∙ ap (λ (l : List PlacedValue). l ++ drop (b - a) (slice_range xs a c)) front
    ∙ ap (λ (l : List PlacedValue). slice_range xs a b ++ l) behind

slice_size : (xs : List PlacedValue) (a b : ℕ) → a ≤ b → b ≤ length xs → length (slice_range xs a b) ≡ b - a
slice_size xs a b order within =
    length-take-le (b - a) (drop a xs) (omega (arith, order, within, length-drop a xs))

pub parts_rise : (from to : ℕ) (ps : List Part) → AreParts from to ps → from ≤ to
parts_rise from to [] parts = omega (arith, parts)
parts_rise from to (p ∷ ps) parts = omega (arith, parts.1, parts_rise p.to to ps parts.2)

parts_from : (partner : Partner) (k : ℕ) (xs : List PlacedValue) (from to : ℕ) (ps : List Part) → AreParts from to ps → to ≤ length xs
    → flat_map same (map (rendered_part partner k xs) ps) ≡ rendered_from partner (k + from) (slice_range xs from to)
parts_from partner k xs from to [] parts within =
    let none : to - from ≡ 0 = omega (arith, parts) in
    sym (ap (λ (n : ℕ). rendered_from partner (k + from) (take n (drop from xs))) none)
parts_from partner k xs from to (p ∷ ps) parts within =
    let later : p.to ≤ to = parts_rise p.to to ps parts.2 in
    let place : k + from + length (slice_range xs from p.to) ≡ k + p.to =
    omega (arith, slice_size xs from p.to parts.1 (omega (arith, later, within)), parts.1) in
    let rest : List RenderedValue = flat_map same (map (rendered_part partner k xs) ps) in
    ap (λ (a : ℕ). rendered_from partner (k + a) (slice_range xs a p.to) ++ rest) parts.0
    ∙ ap (λ (l : List RenderedValue). rendered_from partner (k + from) (slice_range xs from p.to) ++ l)
    (parts_from partner k xs p.to to ps parts.2 within)
    ∙ sym (ap (λ (n : ℕ). rendered_from partner (k + from) (slice_range xs from p.to)
    ++ rendered_from partner n (slice_range xs p.to to)) place)
    ∙ sym (rendered_joined partner (k + from) (slice_range xs from p.to) (slice_range xs p.to to))
    ∙ sym (ap (rendered_from partner (k + from)) (slice_joined xs from p.to to parts.1 later))

pub parts_make_all : (partner : Partner) (k : ℕ) (xs : List PlacedValue) (ps : List Part) → AreParts 0 (length xs) ps
    → flat_map same (map (rendered_part partner k xs) ps) ≡ rendered_from partner k xs
parts_make_all partner k xs ps parts =
    let zero : k + 0 ≡ k = omega arith in
    parts_from partner k xs 0 (length xs) ps parts (omega arith)
    ∙ ap (λ (n : ℕ). rendered_from partner n (slice_range xs 0 (length xs))) zero
    ∙ ap (λ (n : ℕ). rendered_from partner k (take n xs)) (omega arith)
    ∙ ap (rendered_from partner k) (take_all (length xs) xs (omega arith))

-- one part more
pub part_added : (from mid to : ℕ) (ps : List Part) (p : Part) → AreParts from mid ps → p.from ≡ mid → p.to ≡ to → mid ≤ to
    → AreParts from to (ps ++ p ∷ [])
part_added from mid to [] p parts its_from its_to order =
    (its_from ∙ sym parts, omega (arith, parts, its_to, order), its_to)
part_added from mid to (q ∷ ps) p parts its_from its_to order =
    (parts.0, parts.1, part_added q.to mid to ps p parts.2 its_from its_to order)

-- each lies in the list
pub parts_within : (from to : ℕ) (ps : List Part) → AreParts from to ps → All (λ (p : Part). (p.from ≤ p.to) × (p.to ≤ to)) ps
parts_within from to [] parts = All-nil (λ (p : Part). (p.from ≤ p.to) × (p.to ≤ to))
parts_within from to (p ∷ ps) parts =
    All-cons (λ (q : Part). (q.from ≤ q.to) × (q.to ≤ to)) p ps (
      omega (arith, parts.0, parts.1),
      parts_rise p.to to ps parts.2,
    ) (parts_within p.to to ps parts.2)

-- what was gathered of each part, in order
module _ (h : Part → List RenderedValue) where
  numbered_all : (a : ℕ) (ps : List Part) → numbered (λ (i : ℕ) (p : Part). h p) a ps ≡ map h ps
  numbered_all a [] = refl
  numbered_all a (p ∷ ps) = ap (λ (l : List (List RenderedValue)). h p ∷ l) (numbered_all (a + 1) ps)

  -- what a gathering answers
  pub gathering_gives : {V E F : Type 0} (items : V → List (List RenderedValue)) (ps : List Part)
      (rs : List (Result (List RenderedValue) E)) (r : Result V F) (Q : F → Type 0)
      → MatchResult r (λ v. (ys : List (List RenderedValue)) × (rs ≡ map Ok ys) × (items v ≡ ys)) Q
      → AllZip {B = Result (List RenderedValue) E}
      (λ i r. IfOk r (λ v. (p : Part) → slice_get ps i ≡ Some p → v ≡ h p)) (range_with_len 0 (length ps)) rs
      → IfOk r (λ v. items v ≡ map h ps)
  gathering_gives {V} {E} {F} items ps rs (Ok v) Q given made =
      given.2 ∙ sym (map-id given.0)
      ∙ gathered E (λ (i : ℕ) (p : Part). h p) (λ (v : List RenderedValue). v) ps rs given.0 given.1 made
      ∙ numbered_all 0 ps
  gathering_gives {V} {E} {F} items ps rs (Err e) Q given made = tt

pub part_pushed : (from mid to : ℕ) (old new : List Part) → new ≡ old ++ (let p : Part = record { from = mid; to = to } in p) ∷ []
    → AreParts from mid old → mid ≤ to → AreParts from to new
part_pushed from mid to old new is parts order =
    subst (AreParts from to) (sym is) (part_added from mid to old (record { from = mid; to = to }) parts refl refl order)
