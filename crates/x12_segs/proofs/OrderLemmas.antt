-- The segments after an offset stand one after another, and the rest after them, up to the text's end.
use Rattle.std.proofs.Common.{ℕ, ◌≡◌, ◌≤◌, ◌<◌, ◌+◌, ◌-◌, Bool, true, false, cond, List, [], ◌∷◌, ◌++◌, length, drop, arith, nat_eq}
use Rattle.std.specs.List.{slice_split, prefix_len}
use Rattle.std.proofs.lemmas.List.{length-drop}
use Rattle.std.proofs.lemmas.List.Splits.{length-slice_split}
use Rattle.std.proofs.lemmas.List.Sums.{prefix_len-le-length}
use Rattle.x12_bytes.specs.Bytes.{is_line_end}
use Rattle.x12_segs.specs.Segs.{Seg, without_line_ends, segs_of, rest_of, segs_from, rest_from}
use Rattle.x12_segs.proofs.CutLemmas.{span_of, span-split}

-- each segment begins at or after an offset, the next one after its terminator, and the rest before the text's end
abbrev pub StandInOrder : ℕ → List Seg → Seg → ℕ → Type 0
StandInOrder from [] rest len = (from ≤ rest.start) × (rest.start ≤ len)
StandInOrder from (seg ∷ segs) rest len = (from ≤ seg.start) × StandInOrder (seg.start + length seg.bytes + 1) segs rest len

parts_in_order : (parts : List (List ℕ)) (low place len : ℕ) → low ≤ place → 0 < length parts → place + span_of parts ≡ len + 1
    → StandInOrder low (segs_of place parts) (rest_of place parts) len
parts_in_order [] low place len le some long = absurd (omega (arith, some))
parts_in_order (rest ∷ []) low place len le some long =
    let bound : prefix_len is_line_end rest ≤ length rest = prefix_len-le-length is_line_end rest in
    (omega arith, omega (arith, long))
parts_in_order (part ∷ next ∷ more) low place len le some long =
    let behind : ℕ = place + length part + 1 in
    by_test (nat_eq (prefix_len is_line_end part) (length part)) (prefix_len-le-length is_line_end part)
    (λ l below. parts_in_order (next ∷ more) l behind len below (omega arith) (omega (arith, long)))
  where
    by_test : (b : Bool) → prefix_len is_line_end part ≤ length part
        → ((l : ℕ) → l ≤ place + length part + 1
        → StandInOrder l (segs_of (place + length part + 1) (next ∷ more)) (rest_of (place + length part + 1) (next ∷ more)) len)
        → StandInOrder low (cond b [] (without_line_ends place part ∷ []) ++ segs_of (place + length part + 1) (next ∷ more))
        (rest_of (place + length part + 1) (next ∷ more)) len
    by_test true bound rest = rest low (omega arith)
    by_test false bound rest =
        let lead : ℕ = prefix_len is_line_end part in
        let left : length (drop lead part) ≡ length part - lead = length-drop lead part in
        (omega arith, rest (place + lead + length (drop lead part) + 1) (omega arith))

pub segs_in_order : (text : List ℕ) (t from : ℕ) → from ≤ length text
    → StandInOrder from (segs_from text t from) (rest_from text t from) (length text)
segs_in_order text t from fits =
    let p : ℕ → Bool = λ b. nat_eq b t in
    let behind : List ℕ = drop from text in
    let left : length behind ≡ length text - from = length-drop from text in
    let long : span_of (slice_split p behind) ≡ length behind + 1 = span-split p behind in
    let some : 0 < length (slice_split p behind) = omega (arith, length-slice_split p behind) in
    parts_in_order (slice_split p behind) from from (length text) (omega arith) some (omega arith)
