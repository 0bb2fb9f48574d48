-- The sets of an interchange stand alone in the text.
use Rattle.std.proofs.Common.{◌≡◌, ℕ, ◌+◌, ◌≤◌, List, [], ◌∷◌, ◌++◌, Bool, true, false, ◌&&◌, cond, Option, Some, None, is_some}
use Rattle.std.proofs.Common.{length, map, refl, sym, ap, subst, ◌∙◌, arith, append_assoc}
use Rattle.std.specs.List.{flat_map, list_all}
use Rattle.std.proofs.lemmas.List.{map-append}
use Rattle.x12_bytes.specs.Header.{header_delims, header_at}
use Rattle.x12_bytes.specs.HeaderTest.{is_head}
use Rattle.x12_bytes.specs.declared.delims.Delims.{Delims}
use Rattle.x12_segs.specs.Words.{Seg, rest_from, segs_from, segs_within, SegValue, view_of, StandsAlone, start_offset, end_of, span_segs}
use Rattle.x12_segs.specs.Words.{span_views, trailer_kinds, kind_of, may_stand_in_set}
use Rattle.x12_segs.specs.declared.kind.Kind.{Kind}
use Rattle.x12_segs.specs.declared.kind.Kind.TheVariants.{SetHeader, SetTrailer}
use Rattle.x12_segs.specs.declared.set_span.SetSpan.{SetSpan}
use Rattle.x12_segs.proofs.ForAbove.{stands_alone}
use Rattle.env_index.specs.Envelope.{Set, InGroup, ASet, OutOfGroup, InBody, ATa1, AGroup, OutOfBody, Body, option_items, set_items}
use Rattle.env_index.specs.Envelope.{in_group_items, group_items, in_body_items, ends_set, Closed, IsSet, AreMembers, AreBodyMembers}
use Rattle.env_index.specs.Envelope.{DerivesInterchange}
use Rattle.env_index.specs.Extents.{Reach, behind, behind_last, onto_reach, ends_interchange, reach_at, reach_of}
use Rattle.env_index.specs.Spans.{SetStandsAlone, EachSet, EachSetIn, span_of}
use Rattle.env_index.specs.Summary.{set_entry}
use Rattle.env_index.proofs.Surround.{head_within}

-- what holds of each set that stands among these segments holds of each set of their tree
module _ (whole : List SegValue) (P : Set SegValue → Type 0) (holds : (before : List SegValue) (s : Set SegValue) (behind : List SegValue)
    → whole ≡ before ++ (set_items s ++ behind) → IsSet kind_of s behind → P s) where
  in_group : (ms : List (InGroup SegValue)) (rest before : List SegValue) → AreMembers kind_of ms rest
      → whole ≡ before ++ (flat_map in_group_items ms ++ rest) → EachSet P ms
  in_group [] rest before are is = tt
  in_group (ASet s ∷ ms) rest before are is =
      let behind : List SegValue = flat_map in_group_items ms ++ rest in
      let shape : whole ≡ before ++ (set_items s ++ behind) = is
      ∙ ap (λ (xs : List SegValue). before ++ xs) (append_assoc (set_items s) (flat_map in_group_items ms) rest) in (
        holds before s behind shape are.0,
        in_group ms rest (before ++ set_items s) are.1 (shape
            ∙ sym (append_assoc before (set_items s) behind)),
      )
  in_group (OutOfGroup x ∷ ms) rest before are is =
      in_group ms rest (before ++ x ∷ []) are.1 (is ∙ sym (append_assoc before (x ∷ []) (flat_map in_group_items ms ++ rest)))

  in_body : (ms : List (InBody SegValue)) (rest before : List SegValue) → AreBodyMembers kind_of ms rest
      → whole ≡ before ++ (flat_map in_body_items ms ++ rest) → EachSetIn P ms
  in_body [] rest before are is = tt
  in_body (ATa1 x ∷ ms) rest before are is =
      in_body ms rest (before ++ x ∷ []) are.1 (is ∙ sym (append_assoc before (x ∷ []) (flat_map in_body_items ms ++ rest)))
  in_body (AGroup g ∷ ms) rest before are is =
      let behind : List SegValue = flat_map in_body_items ms ++ rest in
      let inside : List SegValue = flat_map in_group_items g.members in
      let shape : whole ≡ before ++ (group_items g ++ behind) = is
      ∙ ap (λ (xs : List SegValue). before ++ xs) (append_assoc (group_items g) (flat_map in_body_items ms) rest) in
      let members : whole ≡ (before ++ g.header ∷ []) ++ (inside ++ (option_items g.trailer ++ behind)) =
      shape ∙ ap (λ (xs : List SegValue). before ++ (g.header ∷ xs)) (append_assoc inside (option_items g.trailer) behind)
      ∙ sym (append_assoc before (g.header ∷ []) (inside ++ (option_items g.trailer ++ behind))) in (
        in_group g.members (option_items g.trailer ++ behind) (before ++ g.header ∷ []) are.0.members members,
        in_body ms rest (before ++ group_items g) are.1 (shape ∙ sym (append_assoc before (group_items g) behind)),
      )
  in_body (OutOfBody x ∷ ms) rest before are is =
      in_body ms rest (before ++ x ∷ []) are.1 (is ∙ sym (append_assoc before (x ∷ []) (flat_map in_body_items ms ++ rest)))

-- an interchange has the first of the segments that follow its header
reach-first : (text : List ℕ) (segs : List SegValue) (rest : Seg)
    → (tail : List SegValue) × (segs ≡ (reach_of text segs rest).segs ++ tail)
reach-first text [] rest = ([], refl)
reach-first text (seg ∷ segs) rest = by_tests (is_head text seg.start) (ends_interchange (kind_of seg)) (reach-first text segs rest)
  where
    by_tests : (head trailer : Bool) → (tail : List SegValue) × (segs ≡ (reach_of text segs rest).segs ++ tail)
        → (tail : List SegValue)
        × (seg ∷ segs ≡ (cond head (let r : Reach = record {
          segs = [];
          end = seg.start;
        } in r)
        (cond trailer (record { segs = seg ∷ []; end = behind seg }) (onto_reach seg (reach_of text segs rest)))).segs ++ tail)
    by_tests true trailer more = (seg ∷ segs, refl)
    by_tests false true more = (segs, refl)
    by_tests false false more = (more.0, ap (λ (xs : List SegValue). seg ∷ xs) more.1)

-- a segment without its delimiters
abbrev seg_of : SegValue → Seg
seg_of x = record { start = x.start; bytes = x.bytes }

segs_of_views : (d : Delims) (segs : List Seg) → map seg_of (map (view_of d) segs) ≡ segs
segs_of_views d [] = refl
segs_of_views d (seg ∷ segs) = ap (λ (xs : List Seg). seg ∷ xs) (segs_of_views d segs)

-- segments that are read by these delimiters
abbrev ReadBy : Delims → List SegValue → Type 0
ReadBy d [] = Unit {0}
ReadBy d (x ∷ xs) = (x.delims ≡ d) × ReadBy d xs

views_read : (d : Delims) (segs : List Seg) → ReadBy d (map (view_of d) segs)
views_read d [] = tt
views_read d (seg ∷ segs) = (refl, views_read d segs)

read_behind : (d : Delims) (xs ys : List SegValue) → ReadBy d (xs ++ ys) → ReadBy d ys
read_behind d [] ys read = read
read_behind d (x ∷ xs) ys read = read_behind d xs ys read.1

read_before : (d : Delims) (xs ys : List SegValue) → ReadBy d (xs ++ ys) → ReadBy d xs
read_before d [] ys read = tt
read_before d (x ∷ xs) ys read = (read.0, read_before d xs ys read.1)

views_of_segs : (d : Delims) (xs : List SegValue) → ReadBy d xs → map (view_of d) (map seg_of xs) ≡ xs
views_of_segs d [] read = refl
views_of_segs d (x ∷ xs) read =
    ap (λ (e : Delims). (let v : SegValue = record {
      start = x.start;
      bytes = x.bytes;
      delims = e;
    } in v) ∷ map (view_of d) (map seg_of xs)) (sym read.0)
    ∙ ap (λ (ys : List SegValue). x ∷ ys) (views_of_segs d xs read.1)

-- where a run of segments ends
end_behind : (x : SegValue) (xs : List SegValue) → end_of (map seg_of (x ∷ xs)) ≡ behind_last (behind x) xs
end_behind x [] = refl
end_behind x (y ∷ ys) = end_behind y ys

inner_kinds : (xs : List SegValue) → list_all may_stand_in_set (map kind_of xs) ≡ list_all (λ x. may_stand_in_set (kind_of x)) xs
inner_kinds [] = refl
inner_kinds (x ∷ xs) = ap (λ (b : Bool). may_stand_in_set (kind_of x) && b) (inner_kinds xs)

trailer_kind : (t : Option SegValue) (rest : List SegValue) → Closed kind_of SetTrailer ends_set t rest
    → map kind_of (option_items t) ≡ trailer_kinds (is_some t)
trailer_kind None rest closed = refl
trailer_kind (Some x) rest closed = ap (λ (k : Kind). k ∷ []) closed

set_kinds : (s : Set SegValue) (rest : List SegValue) → IsSet kind_of s rest
    → map kind_of (set_items s) ≡ SetHeader ∷ (map kind_of s.inner ++ trailer_kinds (is_some s.trailer))
set_kinds s rest is =
    ap (λ (k : Kind). k ∷ map kind_of (s.inner ++ option_items s.trailer)) is.header
    ∙ ap (λ (ks : List Kind). SetHeader ∷ ks) (map-append kind_of s.inner (option_items s.trailer)
    ∙ ap (λ (ks : List Kind). map kind_of s.inner ++ ks) (trailer_kind s.trailer rest is.trailer))

-- a set among the segments of a text
set_alone : (text : List ℕ) (d : Delims) (from : ℕ) (before : List SegValue) (s : Set SegValue) (behind rest : List SegValue)
    → from ≤ length text
    → map (view_of d) (segs_from text d.terminator from) ≡ before ++ (set_items s ++ behind) → IsSet kind_of s rest
    → SetStandsAlone text d s
set_alone text d from before s behind rest fits split is =
    let t : ℕ = d.terminator in
    let items : List SegValue = set_items s in
    let run : List Seg = map seg_of items in
    let parts : segs_from text t from ≡ map seg_of before ++ (run ++ map seg_of behind) =
    sym (segs_of_views d (segs_from text t from)) ∙ ap (map seg_of) split ∙ map-append seg_of before (items ++ behind)
    ∙ ap (λ (xs : List Seg). map seg_of before ++ xs) (map-append seg_of items behind) in
    let alone : StandsAlone text t run = stands_alone (map seg_of before) run (map seg_of behind) text t from fits parts (omega arith) in
    let end : end_of run ≡ behind_last 0 items = end_behind s.header (s.inner ++ option_items s.trailer) in
    let span : SetSpan = span_of d (set_entry s) in
    let same : span_segs text span ≡ run = sym (alone.stretch ∙ ap (segs_within text t s.header.start) end) in
    let read : ReadBy d items = read_before d items behind
    (read_behind d before (items ++ behind) (subst (ReadBy d) split (views_read d (segs_from text t from)))) in
    let views : span_views text span ≡ items = ap (map (view_of d)) same ∙ views_of_segs d items read in
    record {
      span = record {
        within = subst (λ (k : ℕ). k ≤ length text) end alone.within;
        start = ap start_offset same;
        end = ap end_of same ∙ end;
        inner = map kind_of s.inner;
        kinds = ap (map kind_of) views ∙ set_kinds s rest is;
        plain = inner_kinds s.inner ∙ is.inner;
      };
      segs = views;
    }

-- each set of the interchange whose header begins at an offset
pub all_alone : (text : List ℕ) (start : ℕ) (tree : Body SegValue) → is_head text start ≡ true
    → DerivesInterchange kind_of (reach_at text start).segs tree → EachSetIn (SetStandsAlone text (header_delims
    (header_at text start))) tree.members
all_alone text start tree head derives =
    let d : Delims = header_delims (header_at text start) in
    let from : ℕ = start + 106 in
    let views : List SegValue = map (view_of d) (segs_from text d.terminator from) in
    let first = reach-first text views (rest_from text d.terminator from) in
    let whole : List SegValue = (reach_at text start).segs in
    let fits : from ≤ length text = head_within text start head in
    in_body whole (SetStandsAlone text d)
    (λ before s behind split is.
    set_alone text d from before s (behind ++ first.0) behind fits
    (first.1 ∙ ap (λ (xs : List SegValue). xs ++ first.0) split ∙ append_assoc before (set_items s ++ behind) first.0
    ∙ ap (λ (xs : List SegValue). before ++ xs) (append_assoc (set_items s) behind first.0)) is)
    tree.members (option_items tree.trailer) [] derives.1.members (sym derives.0)
