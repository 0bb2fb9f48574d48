-- A guide that is looked for stands at or after the first of its key.
use Rattle.std.proofs.Common.{◌≡◌, inl, inr, ℕ, zero, suc, ◌+◌, List, [], ◌∷◌, Bool, true, false, Option, Some, None}
use Rattle.std.proofs.Common.{map, drop, refl, sym, ap, ◌∙◌, arith, find}
use Rattle.std.specs.Prelude.{slice_get, ◌&&◌, if◌then◌else◌}
use Rattle.std.specs.Str.{bytes_eq}
use Rattle.std.proofs.lemmas.Bool.{and_parts, false≢true}
use Rattle.std.proofs.lemmas.Option.{none-some}
use Rattle.std.proofs.lemmas.Slice.Eq.{bytes_eq-Decides}
use Rattle.guide_tree.specs.declared.rows.GuideRows.{GuideRows}
use Rattle.partner_setup.specs.Names.{and_some, place_from, those_at}
use Rattle.partner_setup.specs.Setup.{is_for_set}
use Rattle.set_findings.specs.Keys.{IsStart, guide_key, joined, key_at, key_by}

module _ (guides : List GuideRows) (group version set : List ℕ) where
  abbrev key : List ℕ
  key = joined group version set

  abbrev test : GuideRows → Bool
  test = is_for_set group version set

  same_key : (g : GuideRows) → test g ≡ true → guide_key g ≡ key
  same_key g h =
      let parts = and_parts (bytes_eq g.head.group group && bytes_eq g.head.version version) (bytes_eq g.head.set set) h in
      let two = and_parts (bytes_eq g.head.group group) (bytes_eq g.head.version version) parts.0 in
      let a : g.head.group ≡ group = (bytes_eq-Decides g.head.group group).0 two.0 in
      let b : g.head.version ≡ version = (bytes_eq-Decides g.head.version version).0 two.1 in
      let d : g.head.set ≡ set = (bytes_eq-Decides g.head.set set).0 parts.1 in
      cc

  not_for : (g : GuideRows) (b : Bool) → test g ≡ b → bytes_eq (guide_key g) key ≡ false → test g ≡ false
  not_for g true is other = absurd (false≢true (sym other ∙ (bytes_eq-Decides (guide_key g) key).1 (same_key g is)))
  not_for g false is other = is

  -- what has another key is passed over
  passed : (o : Option GuideRows) (gs : List GuideRows) → bytes_eq (key_by o) key ≡ false → find test (and_some o gs) ≡ find test gs
  passed None gs other = refl
  passed (Some g) gs other =
      ap (λ (b : Bool). if b then Some g else find test gs) (not_for g (test g) refl other)

  more_by : (n j : ℕ) (place : ℕ) (places : List ℕ) (b : Bool) → bytes_eq (key_at guides place) key ≡ b
      → (if b then Some n else place_from (n + 1) (map (key_at guides) places) key) ≡ Some (n + j)
      → ((i : ℕ) → place_from (n + 1) (map (key_at guides) places) key ≡ Some (n + 1 + i)
      → find test (those_at guides (drop i places)) ≡ find test (those_at guides places))
      → find test (those_at guides (drop j (place ∷ places))) ≡ find test (those_at guides (place ∷ places))
  more_by n zero place places b is e go = refl
  more_by n (suc i) place places true is e go = let same : n ≡ n + suc i = cc in absurd (omega (arith, same))
  more_by n (suc i) place places false is e go =
      go i (e ∙ ap Some (let s : n + suc i ≡ n + 1 + i = omega arith in s))
      ∙ sym (passed (slice_get guides place) (those_at guides places) is)

  skipped : (n j : ℕ) (places : List ℕ) → place_from n (map (key_at guides) places) key ≡ Some (n + j)
      → find test (those_at guides (drop j places)) ≡ find test (those_at guides places)
  skipped n j [] h = absurd (none-some (n + j) h)
  skipped n j (place ∷ places) h =
      more_by n j place places (bytes_eq (key_at guides place) key) refl h (λ i. skipped (n + 1) i places)

  none_by : (n : ℕ) (place : ℕ) (places : List ℕ) (b : Bool) → bytes_eq (key_at guides place) key ≡ b
      → (if b then Some n else place_from (n + 1) (map (key_at guides) places) key) ≡ None
      → (place_from (n + 1) (map (key_at guides) places) key ≡ None → find test (those_at guides places) ≡ None)
      → find test (those_at guides (place ∷ places)) ≡ None
  none_by n place places true is e go = absurd (none-some n (sym e))
  none_by n place places false is e go = passed (slice_get guides place) (those_at guides places) is ∙ go e

  none_there : (n : ℕ) (places : List ℕ) → place_from n (map (key_at guides) places) key ≡ None
      → find test (those_at guides places) ≡ None
  none_there n [] h = refl
  none_there n (place ∷ places) h =
      none_by n place places (bytes_eq (key_at guides place) key) refl h (none_there (n + 1) places)

  pub found_from : (places : List ℕ) (j : ℕ) → IsStart (map (key_at guides) places) key (Some j)
      → find test (those_at guides (drop j places)) ≡ find test (those_at guides places)
  found_from places j (inl none) = ap (λ (n : ℕ). find test (those_at guides (drop n places))) none
  found_from places j (inr there) = skipped 0 j places (there ∙ ap Some (let s : j ≡ 0 + j = omega arith in s))

  pub none_found : (places : List ℕ) → IsStart (map (key_at guides) places) key None → find test (those_at guides places) ≡ None
  none_found places h = none_there 0 places h
