-- The segments of a text are its segments.
use Rattle.std.proofs.Common.{◌≡◌, ℕ, suc, ◌+◌, ◌-◌, ◌==◌, List, [], ◌∷◌, ◌++◌, map, take, not, Bool, true, false, length, refl}
use Rattle.std.proofs.Common.{sym, ap, ◌∙◌, arith}
use Rattle.std.specs.Prelude.{filter, if◌then◌else◌}
use Rattle.std.specs.List.{prefix_len}
use Rattle.x12_bytes.specs.Bytes.{is_line_end}
use Rattle.x12_bytes.specs.declared.delims.Delims.{Delims}
use Rattle.x12_segs.specs.Words.{elements_of, segs_of, view_of, views, without_line_ends}
use Rattle.night_definition.specs.Header.{divided}
use Rattle.night_definition.specs.Segments.{Elements, is_blank, segment_of}
use Rattle.night_definition.specs.ReadBack.{segments_in}

-- all but the last
abbrev front : {A : Type 0} → List A → List A
front [] = []
front (x ∷ []) = []
front (x ∷ y ∷ ys) = x ∷ front (y ∷ ys)

front_is : {A : Type 0} (xs : List A) → take (length xs - 1) xs ≡ front xs
front_is [] = refl
front_is (x ∷ []) = refl
front_is {A} (x ∷ y ∷ ys) =
    let two : length (x ∷ y ∷ ys) - 1 ≡ suc (length ys) = omega arith in
    let one : length (y ∷ ys) - 1 ≡ length ys = omega arith in
    ap (λ n. take n (x ∷ y ∷ ys)) two
    ∙ ap (λ (zs : List A). x ∷ zs) (ap (λ n. take n (y ∷ ys)) (sym one) ∙ front_is (y ∷ ys))

abbrev is_kept : List ℕ → Bool
is_kept part = not (is_blank part)

abbrev read_part : Delims → List ℕ → Elements
read_part d part = (segment_of d 0 part).elements

by_parts : (d : Delims) (place : ℕ) (parts : List (List ℕ))
    → map (read_part d) (filter is_kept (front parts)) ≡ map elements_of (map (view_of d) (segs_of place parts))
by_parts d place [] = refl
by_parts d place (rest ∷ []) = refl
by_parts d place (part ∷ next ∷ more) =
    by (prefix_len is_line_end part == length part) (by_parts d (place + length part + 1) (next ∷ more))
  where
    by : (blank : Bool)
        → map (read_part d) (filter is_kept (front (next ∷ more)))
        ≡ map elements_of (map (view_of d) (segs_of (place + length part + 1) (next ∷ more)))
        → map (read_part d) (if not blank then part ∷ filter is_kept (front (next ∷ more)) else filter is_kept (front (next ∷ more)))
        ≡ map elements_of (map (view_of d) ((if blank then [] else without_line_ends place part ∷ [])
        ++ segs_of (place + length part + 1) (next ∷ more)))
    by true is = is
    by false is = ap (λ (ss : List Elements). read_part d part ∷ ss) is

pub segments_are : (d : Delims) (text : List ℕ) → segments_in d text ≡ map elements_of (views text d)
segments_are d text =
    ap (λ (parts : List (List ℕ)). map (read_part d) (filter is_kept parts)) (front_is (divided d.terminator text))
    ∙ by_parts d 0 (divided d.terminator text)
