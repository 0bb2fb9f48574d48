-- X12.6, segment: segments that stand one after another in a file.
use Rattle.std.proofs.Common.{◌≡◌, ℕ, ◌+◌, ◌<◌, Bool, true, false, cond, List, [], ◌∷◌, ◌++◌, length, drop, map, refl, sym, ap, ◌∙◌}
use Rattle.std.proofs.Common.{suc, arith, append_assoc, eq-eqb, length-append}
use Rattle.std.specs.Prelude.{◌==◌, if◌then◌else◌}
use Rattle.std.specs.List.{All, prefix_len}
use Rattle.std.proofs.lemmas.List.{drop-drop}
use Rattle.std.proofs.lemmas.List.Splits.{slice_split_at, length-slice_split}
use Rattle.std.proofs.lemmas.List.Elements.{All-head, All-tail}
use Rattle.x12_bytes.specs.Bytes.{is_line_end}
use Rattle.x12_bytes.specs.HeaderTest.{is_head}
use Rattle.x12_bytes.specs.declared.delims.Delims.{Delims}
use Rattle.x12_segs.specs.Kinds.{kind_of}
use Rattle.x12_segs.specs.Words.{parts, Seg, SegValue, part_at, segs_from, rest_from, segs_of, rest_of, elements_of, view_of}
use Rattle.x12_segs.proofs.ForAbove.{segs_of-cons, rest_of-cons, part_at-some}
use Rattle.env_index.specs.Words.{Reach, ends_interchange, onto_reach, reach_from, reach_of}
use Rattle.files_law.specs.Whole.{kind_by}
use Rattle.files_law.specs.Written.{IsOneSegment, NoHeads, segments_in_row}

pub kind_is : (seg : SegValue) → kind_by (elements_of seg) ≡ kind_of seg
unfolding kind_of
kind_is seg = refl

abbrev pub seg_in : Delims → ℕ → List ℕ → SegValue
seg_in d place body = record { start = place; bytes = body; delims = d }

-- the segments with these bytes, one after another
abbrev pub row_segs : Delims → ℕ → List (List ℕ) → List SegValue
row_segs d place [] = []
row_segs d place (body ∷ bodies) = seg_in d place body ∷ row_segs d (place + length body + 1) bodies

-- the last of some segments is the first IEA
abbrev pub EndsOnce : List (List (List ℕ)) → Type 0
EndsOnce [] = ⊥
EndsOnce (x ∷ []) = ends_interchange (kind_by x) ≡ true
EndsOnce (x ∷ y ∷ more) = (ends_interchange (kind_by x) ≡ false) × EndsOnce (y ∷ more)

whole_part : (place : ℕ) (body : List ℕ) → 0 < length body → prefix_len is_line_end body ≡ 0
    → part_at place body ≡ (let s : Seg = record { start = place; bytes = body } in s) ∷ []
whole_part place body some none =
    part_at-some place body (omega (arith, some, none))
    ∙ ap (λ (k : ℕ). (let s : Seg = record { start = place + k; bytes = drop k body } in s) ∷ []) none
    ∙ ap (λ (n : ℕ). (let s : Seg = record { start = n; bytes = body } in s) ∷ []) (let same : place + 0 ≡ place = omega arith in same)

some_parts : (c : ℕ) (text : List ℕ) → 0 < length (parts c text)
some_parts c text = omega (arith, length-slice_split (λ b. b == c) text)

dropped_suc : (body : List ℕ) (t : ℕ) (behind : List ℕ) → drop (suc (length body)) (body ++ (t ∷ behind)) ≡ behind
dropped_suc [] t behind = refl
dropped_suc (b ∷ body) t behind = dropped_suc body t behind

dropped : (body : List ℕ) (t : ℕ) (behind : List ℕ) → drop (length body + 1) (body ++ (t ∷ behind)) ≡ behind
dropped body t behind =
    ap (λ (n : ℕ). drop n (body ++ (t ∷ behind))) (let more : length body + 1 ≡ suc (length body) = omega arith in more)
    ∙ dropped_suc body t behind

module _ (text : List ℕ) (d : Delims) where
  abbrev t : ℕ
  t = d.terminator

  pub behind_it : (place : ℕ) (body behind : List ℕ) → drop place text ≡ body ++ (t ∷ behind) → drop (place + length body + 1) text ≡ behind
  behind_it place body behind is =
      let sum : place + (length body + 1) ≡ place + length body + 1 = omega arith in
      ap (λ (n : ℕ). drop n text) (sym sum) ∙ sym (drop-drop (length body + 1) place text) ∙ ap (drop (length body + 1)) is
      ∙ dropped body t behind

  cut : (place : ℕ) (body behind : List ℕ) → drop place text ≡ body ++ (t ∷ behind) → IsOneSegment d body
      → parts t (drop place text) ≡ body ∷ parts t (drop (place + length body + 1) text)
  cut place body behind is one =
      ap (parts t) is ∙ slice_split_at (λ b. b == t) body t behind one.lacks (eq-eqb t t refl)
      ∙ ap (λ (xs : List ℕ). body ∷ parts t xs) (sym (behind_it place body behind is))

  pub first_seg : (place : ℕ) (body behind : List ℕ) → drop place text ≡ body ++ (t ∷ behind) → IsOneSegment d body
      → segs_from text t place ≡ (let s : Seg = record { start = place; bytes = body } in s) ∷ segs_from text t (place + length body + 1)
  first_seg place body behind is one =
      let next : List (List ℕ) = parts t (drop (place + length body + 1) text) in
      ap (segs_of place) (cut place body behind is one)
      ∙ segs_of-cons place body next (some_parts t (drop (place + length body + 1) text))
      ∙ ap (λ (xs : List Seg). xs ++ segs_of (place + length body + 1) next) (whole_part place body one.some one.first)

  same_rest : (place : ℕ) (body behind : List ℕ) → drop place text ≡ body ++ (t ∷ behind) → IsOneSegment d body
      → rest_from text t place ≡ rest_from text t (place + length body + 1)
  same_rest place body behind is one =
      let next : List (List ℕ) = parts t (drop (place + length body + 1) text) in
      ap (rest_of place) (cut place body behind is one)
      ∙ rest_of-cons place body next (some_parts t (drop (place + length body + 1) text))

  abbrev next_of : ℕ → List ℕ → ℕ
  next_of place body = place + length body + 1

  abbrev on_reach : ℕ → List ℕ → Reach
  on_reach place body =
      if is_head text place then record { segs = []; end = place }
      else if ends_interchange (kind_of (seg_in d place body)) then record { segs = seg_in d place body ∷ []; end = next_of place body }
      else onto_reach (seg_in d place body) (reach_from text d (next_of place body))

  one_on : (place : ℕ) (body behind : List ℕ) → drop place text ≡ body ++ (t ∷ behind) → IsOneSegment d body
      → reach_from text d place ≡ on_reach place body
  one_on place body behind is one =
      ap (λ (xs : List Seg). reach_of text (map (view_of d) xs) (rest_from text t place)) (first_seg place body behind is one)
      ∙ ap (λ (r : Seg). reach_of text (map (view_of d)
      ((let s : Seg = record { start = place; bytes = body } in s) ∷ segs_from text t (next_of place body))) r)
      (same_rest place body behind is one)

  chosen : (place : ℕ) (body : List ℕ) (h k : Bool) → h ≡ false → (if h then (let r : Reach = record { segs = []; end = place } in r)
      else if k then (let r : Reach = record { segs = seg_in d place body ∷ []; end = next_of place body } in r)
      else onto_reach (seg_in d place body) (reach_from text d (next_of place body))) ≡
      (if k then (let r : Reach = record { segs = seg_in d place body ∷ []; end = next_of place body } in r)
      else onto_reach (seg_in d place body) (reach_from text d (next_of place body)))
  chosen place body h k is = ap (λ (b : Bool). cond b (let r : Reach = record { segs = []; end = place } in r)
      (if k then (let r : Reach = record { segs = seg_in d place body ∷ []; end = next_of place body } in r)
      else onto_reach (seg_in d place body) (reach_from text d (next_of place body)))) is

  ended : (place : ℕ) (body : List ℕ) → is_head text place ≡ false → ends_interchange (kind_by (parts d.element body)) ≡ true
      → on_reach place body ≡ record { segs = seg_in d place body ∷ []; end = next_of place body }
  ended place body none ends =
      let kind : ends_interchange (kind_of (seg_in d place body)) ≡ true = ap ends_interchange (sym (kind_is (seg_in d place body)))
      ∙ ends in
      chosen place body (is_head text place) (ends_interchange (kind_of (seg_in d place body))) none
      ∙ ap (λ (b : Bool). cond b (let r : Reach = record { segs = seg_in d place body ∷ []; end = next_of place body } in r)
      (onto_reach (seg_in d place body) (reach_from text d (next_of place body)))) kind

  goes_on : (place : ℕ) (body : List ℕ) → is_head text place ≡ false → ends_interchange (kind_by (parts d.element body)) ≡ false
      → on_reach place body ≡ onto_reach (seg_in d place body) (reach_from text d (next_of place body))
  goes_on place body none ends =
      let kind : ends_interchange (kind_of (seg_in d place body)) ≡ false = ap ends_interchange (sym (kind_is (seg_in d place body)))
      ∙ ends in
      chosen place body (is_head text place) (ends_interchange (kind_of (seg_in d place body))) none
      ∙ ap (λ (b : Bool). cond b (let r : Reach = record { segs = seg_in d place body ∷ []; end = next_of place body } in r)
      (onto_reach (seg_in d place body) (reach_from text d (next_of place body)))) kind

  abbrev row_reach : ℕ → List (List ℕ) → Reach
  row_reach place bodies = record { segs = row_segs d place bodies; end = place + length (segments_in_row d bodies) }

  pub shape : (body bodies behind : List ℕ) → ((body ++ t ∷ []) ++ bodies) ++ behind ≡ body ++ (t ∷ (bodies ++ behind))
  shape body bodies behind = append_assoc (body ++ t ∷ []) bodies behind ∙ append_assoc body (t ∷ []) (bodies ++ behind)

  pub row_is_read : (place : ℕ) (bodies : List (List ℕ)) (behind : List ℕ) → drop place text ≡ segments_in_row d bodies ++ behind
      → All (IsOneSegment d) bodies → NoHeads text place bodies → EndsOnce (map (parts d.element) bodies)
      → reach_from text d place ≡ row_reach place bodies
  row_is_read place [] behind is all none ends = absurd ends
  row_is_read place (body ∷ []) behind is all none ends =
      let here = is ∙ shape body [] behind in
      let far : next_of place body ≡ place + length ((body ++ t ∷ []) ++ []) =
      omega (arith, length-append (body ++ t ∷ []) [], length-append body (t ∷ [])) in
      one_on place body ([] ++ behind) here (All-head (IsOneSegment d) body [] all)
      ∙ ended place body none.0 ends
      ∙ ap (λ (n : ℕ). let r : Reach = record { segs = seg_in d place body ∷ []; end = n } in r) far
  row_is_read place (body ∷ next ∷ more) behind is all none ends =
      let rest : List ℕ = segments_in_row d (next ∷ more) in
      let here = is ∙ shape body rest behind in
      let far : next_of place body + length rest ≡ place + length ((body ++ t ∷ []) ++ rest) =
      omega (arith, length-append (body ++ t ∷ []) rest, length-append body (t ∷ [])) in
      one_on place body (rest ++ behind) here (All-head (IsOneSegment d) body (next ∷ more) all)
      ∙ goes_on place body none.0 ends.0
      ∙ ap (onto_reach (seg_in d place body)) (row_is_read (next_of place body) (next ∷ more) behind
      (behind_it place body (rest ++ behind) here) (All-tail (IsOneSegment d) body (next ∷ more) all) none.1 ends.1)
      ∙ ap (λ (n : ℕ). let r : Reach = record { segs = row_segs d place (body ∷ next ∷ more); end = n } in r) far
