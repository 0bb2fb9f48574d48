-- Headers and segments of a text before which other bytes stand.
use Rattle.std.proofs.Common.{◌≡◌, ℕ, ◌+◌, ◌-◌, List, [], ◌∷◌, ◌++◌, Bool, true, false, ◌&&◌, leb, cond}
use Rattle.std.proofs.Common.{length, take, drop, map, slice_range, refl, sym, ap, ◌∙◌, arith, inl, inr}
use Rattle.std.proofs.lemmas.Bool.{cases_lt, le-leb, lt-leb}
use Rattle.std.proofs.lemmas.List.{drop-drop, drop_at, length-append}
use Rattle.std.specs.List.{prefix_len}
use Rattle.x12_bytes.specs.Bytes.{is_line_end}
use Rattle.x12_bytes.specs.Header.{header_delims, header_at}
use Rattle.x12_bytes.specs.HeaderTest.{is_head, is_header}
use Rattle.x12_bytes.specs.declared.delims.Delims.{Delims}
use Rattle.x12_segs.specs.Kinds.{kind_of}
use Rattle.x12_segs.specs.Words.{parts, moved_by, Seg, rest_from, rest_of, segs_from, without_line_ends, SegValue, view_of}
use Rattle.x12_segs.proofs.ForAbove.{segs_of-moved}
use Rattle.env_index.specs.Words.{Reach, behind, ends_interchange, onto_reach, reach_at, reach_from, reach_of}
use Rattle.whole_interchanges.specs.Moved.{moved_view}

pub drop_past : (before text : List ℕ) (q : ℕ) → drop (length before + q) (before ++ text) ≡ drop q text
drop_past before text q =
    sym (drop-drop q (length before) (before ++ text)) ∙ ap (drop q) (drop_at before text (length before) refl)

pub range_past : (before text : List ℕ) (from to : ℕ)
    → slice_range (before ++ text) (length before + from) (length before + to) ≡ slice_range text from to
range_past before text from to =
    let n : length before + to - (length before + from) ≡ to - from = omega arith in
    ap (λ (k : ℕ). take k (drop (length before + from) (before ++ text))) n ∙ ap (take (to - from)) (drop_past before text from)

pub header_past : (before text : List ℕ) (q : ℕ) → header_at (before ++ text) (length before + q) ≡ header_at text q
header_past before text q =
    let n : length before + q + 106 ≡ length before + (q + 106) = omega arith in
    ap (slice_range (before ++ text) (length before + q)) n ∙ range_past before text q (q + 106)

pub head_past : (before text : List ℕ) (q : ℕ) → is_head (before ++ text) (length before + q) ≡ is_head text q
head_past before text q =
    let all : length (before ++ text) ≡ length before + length text = length-append before text in
    let fits : leb (length before + q + 106) (length (before ++ text)) ≡ leb (q + 106) (length text) =
    elim (cases_lt (length text) (q + 106)) [
      | inl short ↦ lt-leb (length before + q + 106) (length (before ++ text)) (omega (arith, short))
          ∙ sym (lt-leb (q + 106) (length text) short)
      | inr long ↦ le-leb (length before + q + 106) (length (before ++ text)) (omega (arith, long))
          ∙ sym (le-leb (q + 106) (length text) long)
    ] in
    ap (λ (b : Bool). b && is_header (header_at (before ++ text) (length before + q))) fits
    ∙ ap (λ (h : List ℕ). leb (q + 106) (length text) && is_header h) (header_past before text q)

rest_of-moved : (s place : ℕ) (ps : List (List ℕ)) → rest_of (s + place) ps ≡ moved_by s (rest_of place ps)
rest_of-moved s place [] = lead_moved s place []
  where
    lead_moved : (s place : ℕ) (part : List ℕ) → without_line_ends (s + place) part ≡ moved_by s (without_line_ends place part)
    lead_moved s place part =
        let lead : ℕ = prefix_len is_line_end part in
        let sum : s + place + lead ≡ s + (place + lead) = omega arith in
        ap (λ (k : ℕ). let seg : Seg = record { start = k; bytes = drop lead part } in seg) sum
rest_of-moved s place (rest ∷ []) =
    let lead : ℕ = prefix_len is_line_end rest in
    let sum : s + place + lead ≡ s + (place + lead) = omega arith in
    ap (λ (k : ℕ). let seg : Seg = record { start = k; bytes = drop lead rest } in seg) sum
rest_of-moved s place (part ∷ next ∷ more) =
    let sum : s + place + length part + 1 ≡ s + (place + length part + 1) = omega arith in
    ap (λ (k : ℕ). rest_of k (next ∷ more)) sum ∙ rest_of-moved s (place + length part + 1) (next ∷ more)

pub segs_past : (before text : List ℕ) (t from : ℕ)
    → segs_from (before ++ text) t (length before + from) ≡ map (moved_by (length before)) (segs_from text t from)
segs_past before text t from =
    ap (λ (xs : List ℕ). Rattle.x12_segs.specs.Segs.segs_of (length before + from) (parts t xs)) (drop_past before text from)
    ∙ segs_of-moved (length before) from (parts t (drop from text))

pub rest_past : (before text : List ℕ) (t from : ℕ)
    → rest_from (before ++ text) t (length before + from) ≡ moved_by (length before) (rest_from text t from)
rest_past before text t from =
    ap (λ (xs : List ℕ). rest_of (length before + from) (parts t xs)) (drop_past before text from)
    ∙ rest_of-moved (length before) from (parts t (drop from text))

pub views_moved : (by : ℕ) (d : Delims) (segs : List Seg)
    → map (view_of d) (map (moved_by by) segs) ≡ map (moved_view by) (map (view_of d) segs)
views_moved by d [] = refl
views_moved by d (seg ∷ segs) = ap (λ (xs : List SegValue). moved_view by (view_of d seg) ∷ xs) (views_moved by d segs)

pub kind_moved : (by : ℕ) (x : SegValue) → kind_of (moved_view by x) ≡ kind_of x
unfolding kind_of
kind_moved by x = refl

-- the reach, further on
abbrev pub moved_reach : ℕ → Reach → Reach
moved_reach by r = record { segs = map (moved_view by) r.segs; end = by + r.end }

reach_past : (before text : List ℕ) (xs : List SegValue) (rest : Seg)
    → reach_of (before ++ text) (map (moved_view (length before)) xs) (moved_by (length before) rest)
    ≡ moved_reach (length before) (reach_of text xs rest)
reach_past before text [] rest =
    let by : ℕ = length before in
    let all : length (before ++ text) ≡ by + length text = length-append before text in
    let ends : Bool → ℕ → Reach = λ b n. record { segs = []; end = cond b (by + rest.start) n } in
    ap (λ (b : Bool). ends b (length (before ++ text))) (head_past before text rest.start)
    ∙ ap (ends (is_head text rest.start)) all ∙ by_test (is_head text rest.start)
  where
    by_test : (b : Bool) → (let r : Reach = record {
      segs = [];
      end = cond b (length before + rest.start) (length before + length text);
    } in r)
        ≡ moved_reach (length before) (record { segs = []; end = cond b rest.start (length text) })
    by_test true = refl
    by_test false = refl
reach_past before text (x ∷ xs) rest =
    let by : ℕ = length before in
    let further : by + x.start + length x.bytes + 1 ≡ by + (x.start + length x.bytes + 1) = omega arith in
    ap (λ (b : Bool). cond b (let r : Reach = record { segs = []; end = by + x.start } in r)
    (cond (ends_interchange (kind_of (moved_view by x))) (record { segs = moved_view by x ∷ []; end = behind (moved_view by x) })
    (onto_reach (moved_view by x) (reach_of (before ++ text) (map (moved_view by) xs) (moved_by by rest))))) (head_past before text x.start)
    ∙ ap (λ k. cond (is_head text x.start) (let r : Reach = record { segs = []; end = by + x.start } in r)
    (cond (ends_interchange k) (record { segs = moved_view by x ∷ []; end = behind (moved_view by x) })
    (onto_reach (moved_view by x) (reach_of (before ++ text) (map (moved_view by) xs) (moved_by by rest))))) (kind_moved by x)
    ∙ ap (λ (n : ℕ). cond (is_head text x.start) (let r : Reach = record { segs = []; end = by + x.start } in r)
    (cond (ends_interchange (kind_of x)) (record { segs = moved_view by x ∷ []; end = n })
    (onto_reach (moved_view by x) (reach_of (before ++ text) (map (moved_view by) xs) (moved_by by rest))))) further
    ∙ ap (λ (r : Reach). cond (is_head text x.start) (let r : Reach = record { segs = []; end = by + x.start } in r)
    (cond (ends_interchange (kind_of x)) (record { segs = moved_view by x ∷ []; end = by + behind x })
    (onto_reach (moved_view by x) r))) (reach_past before text xs rest)
    ∙ by_tests (is_head text x.start) (ends_interchange (kind_of x))
  where
    by_tests : (h t : Bool) → cond h (let r : Reach = record { segs = []; end = length before + x.start } in r)
        (cond t (record { segs = moved_view (length before) x ∷ []; end = length before + behind x })
        (onto_reach (moved_view (length before) x) (moved_reach (length before) (reach_of text xs rest))))
        ≡ moved_reach (length before) (cond h (let r : Reach = record { segs = []; end = x.start } in r)
        (cond t (record { segs = x ∷ []; end = behind x }) (onto_reach x (reach_of text xs rest))))
    by_tests true t = refl
    by_tests false true = refl
    by_tests false false = refl

pub reach_from_past : (before text : List ℕ) (d : Delims) (from : ℕ)
    → reach_from (before ++ text) d (length before + from) ≡ moved_reach (length before) (reach_from text d from)
reach_from_past before text d from =
    let by : ℕ = length before in
    ap (λ (xs : List Seg). reach_of (before ++ text) (map (view_of d) xs) (rest_from (before ++ text) d.terminator (by + from)))
    (segs_past before text d.terminator from)
    ∙ ap (λ (xs : List SegValue). reach_of (before ++ text) xs (rest_from (before ++ text) d.terminator (by + from)))
    (views_moved by d (segs_from text d.terminator from))
    ∙ ap (reach_of (before ++ text) (map (moved_view by) (map (view_of d) (segs_from text d.terminator from))))
    (rest_past before text d.terminator from)
    ∙ reach_past before text (map (view_of d) (segs_from text d.terminator from)) (rest_from text d.terminator from)

pub reach_at_past : (before text : List ℕ) (start : ℕ)
    → reach_at (before ++ text) (length before + start) ≡ moved_reach (length before) (reach_at text start)
reach_at_past before text start =
    let sum : length before + start + 106 ≡ length before + (start + 106) = omega arith in
    ap (λ (h : List ℕ). reach_from (before ++ text) (header_delims h) (length before + start + 106)) (header_past before text start)
    ∙ ap (reach_from (before ++ text) (header_delims (header_at text start))) sum
    ∙ reach_from_past before text (header_delims (header_at text start)) (start + 106)
