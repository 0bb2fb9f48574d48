-- X12.5, interchange: interchanges that are written one after another are read as just those.
use Rattle.std.proofs.Common.{◌≡◌, ℕ, ◌+◌, ◌-◌, true, false, not, List, [], ◌∷◌, ◌++◌, length, drop, take, map, None, refl, sym, ap}
use Rattle.std.proofs.Common.{subst, ◌∙◌}
use Rattle.std.proofs.Common.{arith, append_assoc, append-nil, length-append}
use Rattle.std.specs.Prelude.{count_by, slice_range}
use Rattle.std.specs.List.{All, flat_map}
use Rattle.std.proofs.lemmas.Bool.{false_from_ne_true}
use Rattle.std.proofs.lemmas.List.Elements.{All-cons, All-head, All-nil, All-tail}
use Rattle.x12_bytes.specs.HeaderTest.{is_head}
use Rattle.x12_bytes.specs.declared.delims.Delims.{Delims}
use Rattle.x12_bytes.proofs.ForAbove.{decides_head}
use Rattle.x12_segs.specs.Words.{SegValue, elements_of, kind_of, parts}
use Rattle.x12_write.specs.Group.{texts_in_row}
use Rattle.x12_write.specs.Header.{header_text}
use Rattle.x12_write.specs.Sendable.{IsReadAs}
use Rattle.x12_write.proofs.ForAbove.{header-read}
use Rattle.env_index.specs.Words.{Body, ChainFrom, DerivesInterchange, EndsWithTrailer, Extent, IndexEntry, IndexValue, IsEntryOf}
use Rattle.env_index.specs.Words.{IsNextHead}
use Rattle.env_index.specs.Words.{Reach, count_outside, ends_interchange, extent_of, extents_of, fault_of, interchange_of, is_filler}
use Rattle.env_index.specs.Words.{map_body, reach_at, reach_from}
use Rattle.env_index.proofs.ForAbove.{derived_ends, derives_before, interchange_has_spans, no_head_past, nothing_counted}
use Rattle.files_law.specs.Files.{HasInterchanges, extents_in_row}
use Rattle.files_law.specs.Whole.{Elements, IsWhole, Whole, group_segments, kind_by, whole_segments}
use Rattle.files_law.specs.Written.{AreClear, IsWritten, NoHeads, Written, segments_in_row, texts_of, written_text}
use Rattle.files_law.proofs.Faultless.{faultless}
use Rattle.files_law.proofs.SegmentRows.{EndsOnce, kind_is, row_is_read, row_segs}
use Rattle.files_law.proofs.Sending.{dropped_front, header_length}
use Rattle.files_law.proofs.Trees.{tree_of, whole_derives}

not_last : (x last : Elements) (more : List Elements) → (ends_interchange (kind_by x) ≡ true → (last ∷ more) ≡ [])
    → ends_interchange (kind_by x) ≡ false
not_last x last more none = false_from_ne_true (ends_interchange (kind_by x)) (λ yes. let bad : (last ∷ more) ≡ [] = none yes in cc)

ends_once : (xs : List Elements) (last : Elements) → EndsWithTrailer kind_by (xs ++ last ∷ []) → ends_interchange (kind_by last) ≡ true
    → EndsOnce (xs ++ last ∷ [])
ends_once [] last ends is = is
ends_once (x ∷ []) last ends is = (not_last x last [] ends.0, is)
ends_once (x ∷ y ∷ xs) last ends is = (not_last x y (xs ++ last ∷ []) ends.0, ends_once (y ∷ xs) last ends.1 is)

whole_ends : (number : ℕ) (w : Whole) → IsWhole number w → EndsOnce (whole_segments w)
whole_ends number w is =
    let front : List Elements = w.ta1s ++ flat_map group_segments w.groups in
    let moved : front ++ w.trailer ∷ [] ≡ whole_segments w = append_assoc w.ta1s (flat_map group_segments w.groups) (w.trailer ∷ []) in
    let ends : EndsWithTrailer kind_by (whole_segments w) =
    derived_ends kind_by (whole_segments w) (tree_of w) (whole_derives number w is) in
    subst EndsOnce moved (ends_once front w.trailer (subst (EndsWithTrailer kind_by) (sym moved) ends) (ap ends_interchange is.kind))

row_elements : (d : Delims) (place : ℕ) (segments : List (List ℕ))
    → map elements_of (row_segs d place segments) ≡ map (parts d.element) segments
row_elements d place [] = refl
row_elements d place (body ∷ segments) =
    ap (λ (xs : List Elements). parts d.element body ∷ xs) (row_elements d (place + length body + 1) segments)

-- an interchange as it is read in a file
record IsReadAt (file : List ℕ) (start : ℕ) (text : List ℕ) : Type 0 where
  entry : IndexEntry
  head : is_head file start ≡ true
  begins : entry.interchange.start ≡ start
  reach : entry.interchange.end ≡ (reach_at file start).end
  end : entry.interchange.end ≡ start + length text
  is : IsEntryOf file entry
  fault : entry.fault ≡ None

module _ (file before behind : List ℕ) (w : Written) (is : file ≡ before ++ (written_text w ++ behind)) (written : IsWritten w) where
  abbrev start : ℕ
  start = length before

  abbrev d : Delims
  d = w.envelope.delims

  abbrev h : List ℕ
  h = header_text w.envelope w.at w.number

  abbrev rows : List ℕ
  rows = segments_in_row d w.segments

  split : file ≡ (before ++ h) ++ (rows ++ behind)
  split = is ∙ ap (λ (t : List ℕ). before ++ t) (append_assoc h rows behind) ∙ sym (append_assoc before h (rows ++ behind))

  read_as : IsReadAs w.envelope w.at w.number file start
  read_as =
      subst (λ (t : List ℕ). IsReadAs w.envelope w.at w.number t start) (sym split)
      (header-read w.envelope w.at w.number (before ++ h) before refl written.moment written.sendable written.nine (rows ++ behind))

  head_here : is_head file start ≡ true
  head_here = (decides_head file start).1 read_as.head

  size : length h ≡ 106
  size = header_length w.envelope w.at w.number written.sendable written.moment written.nine

  abbrev Clear : Type 0
  Clear = NoHeads file (start + 106) w.segments

  pub left : drop (start + 106) file ≡ rows ++ behind
  left =
      let long : length (before ++ h) ≡ start + 106 = length-append before h ∙ ap (λ (n : ℕ). start + n) size in
      ap (λ (n : ℕ). drop n file) (sym long) ∙ ap (drop (length (before ++ h))) split ∙ dropped_front (before ++ h) (rows ++ behind)

  reached : Clear → reach_at file start ≡ (let r : Reach =
      record { segs = row_segs d (start + 106) w.segments; end = start + 106 + length rows } in r)
  reached clear =
      ap (λ (own : Delims). reach_from file own (start + 106)) read_as.delims
      ∙ row_is_read file d (start + 106) w.segments behind left written.each clear
      (subst EndsOnce (sym written.elements) (whole_ends w.number w.whole written.whole))

  elements : Clear → map elements_of (reach_at file start).segs ≡ whole_segments w.whole
  elements clear = ap (λ (r : Reach). map elements_of r.segs) (reached clear) ∙ row_elements d (start + 106) w.segments ∙ written.elements

  derived : Clear → (b : Body SegValue) × DerivesInterchange kind_of (reach_at file start).segs b × (map_body elements_of b
      ≡ tree_of w.whole)
  derived clear =
      derives_before kind_of kind_by elements_of kind_is (reach_at file start).segs (tree_of w.whole)
      (subst (λ (es : List Elements). DerivesInterchange kind_by es (tree_of w.whole)) (sym (elements clear))
      (whole_derives w.number w.whole written.whole))

  far : Clear → (reach_at file start).end ≡ start + length (written_text w)
  far clear = ap (λ (r : Reach). r.end) (reached clear) ∙ (let long : length (h ++ rows) ≡ length h + length rows = length-append h rows in
      let sum : start + 106 + length rows ≡ start + length (h ++ rows) = omega (arith, long, size) in sum)

  read_at : Clear → IsReadAt file start (written_text w)
  read_at clear =
      let tree = derived clear in
      record {
        entry = record { interchange = interchange_of file start tree.0; fault = fault_of (interchange_of file start tree.0) };
        head = head_here;
        begins = refl;
        reach = refl;
        end = far clear;
        is = record {
          read = record {
            tree = tree.0;
            derived = tree.1;
            read = refl;
            spans = interchange_has_spans file start tree.0 head_here tree.1;
          };
          fault = refl;
        };
        fault = faultless file start tree.0 w.whole w.number written.whole written.nine tree.2
            (read_as.fields 13 (omega arith) (omega arith));
      }

-- interchanges from an offset on
record AreReadFrom (file : List ℕ) (from : ℕ) (texts : List (List ℕ)) : Type 0 where
  entries : List IndexEntry
  chain : ChainFrom file from (extents_of entries)
  are : All (IsEntryOf file) entries
  extents : extents_of entries ≡ extents_in_row from texts
  inside : count_outside file from (extents_of entries) ≡ 0
  faultless : All (λ (e : IndexEntry). e.fault ≡ None) entries

nothing_left : (file before : List ℕ) → file ≡ before ++ [] → AreReadFrom file (length before) []
nothing_left file before is =
    let long : length file ≡ length before = ap length (is ∙ append-nil before) in
    let left : drop (length before) file ≡ [] = ap (drop (length before)) is ∙ dropped_front before [] in
    record {
      entries = [];
      chain = λ q behind. no_head_past file q (omega (arith, long, behind));
      are = All-nil (IsEntryOf file);
      extents = refl;
      inside = ap (count_by (λ b. not (is_filler b))) left ∙ nothing_counted [] (omega arith);
      faultless = All-nil (λ (e : IndexEntry). e.fault ≡ None);
    }

nothing_between : (file : List ℕ) (n : ℕ) → count_by (λ b. not (is_filler b)) (slice_range file n n) ≡ 0
nothing_between file n =
    let none : n - n ≡ 0 = omega arith in
    ap (λ (k : ℕ). count_by (λ b. not (is_filler b)) (take k (drop n file))) none ∙ nothing_counted [] (omega arith)

extent_is : (e : IndexEntry) (start end : ℕ) → e.interchange.start ≡ start → e.interchange.end ≡ end
    → extent_of e ≡ (let x : Extent = record { start = start; end = end } in x)
extent_is e start end begins ends =
    ap (λ (n : ℕ). let x : Extent = record { start = n; end = e.interchange.end } in x) begins
    ∙ ap (λ (n : ℕ). let x : Extent = record { start = start; end = n } in x) ends

one_more : (file : List ℕ) (from : ℕ) (text : List ℕ) (texts : List (List ℕ)) → (one : IsReadAt file from text)
    → AreReadFrom file (from + length text) texts → AreReadFrom file from (text ∷ texts)
one_more file from text texts one rest =
    let e : IndexEntry = one.entry in
    let same : from ≡ e.interchange.start = sym one.begins in
    let there : from + length text ≡ e.interchange.end = sym one.end in
    let x : Extent = extent_of e in
    let more : List Extent = extents_of rest.entries in
    let next : IsNextHead file from e.interchange.start = subst (IsNextHead file from) same (record {
      behind = omega arith;
      head = one.head;
      least = λ q low high. absurd (omega (arith, low, high));
    }) in
    record {
      entries = e ∷ rest.entries;
      chain = (next, one.reach ∙ ap (λ (n : ℕ). (reach_at file n).end) same, subst (λ (n : ℕ). ChainFrom file n more) there rest.chain);
      are = All-cons (IsEntryOf file) e rest.entries one.is rest.are;
      extents = ap (λ (y : Extent). y ∷ more) (extent_is e from (from + length text) one.begins one.end)
          ∙ ap (λ (ys : List Extent). (let y : Extent = record { start = from; end = from + length text } in y) ∷ ys) rest.extents;
      inside = ap (λ (n : ℕ). count_by (λ b. not (is_filler b)) (slice_range file from n) + count_outside file e.interchange.end more)
          (sym same)
          ∙ ap (λ (n : ℕ). n + count_outside file e.interchange.end more) (nothing_between file from)
          ∙ ap (λ (n : ℕ). 0 + n) (subst (λ (n : ℕ). count_outside file n more ≡ 0) there rest.inside);
      faultless = All-cons (λ (y : IndexEntry). y.fault ≡ None) e rest.entries one.fault rest.faultless;
    }

read_from : (file before : List ℕ) (ws : List Written) → file ≡ before ++ texts_in_row (texts_of ws) → All IsWritten ws
    → AreClear file (length before) ws → AreReadFrom file (length before) (texts_of ws)
read_from file before [] is written clear = nothing_left file before is
read_from file before (w ∷ ws) is written clear =
    let text : List ℕ = written_text w in
    let rest : List ℕ = texts_in_row (texts_of ws) in
    let long : length (before ++ text) ≡ length before + length text = length-append before text in
    one_more file (length before) text (texts_of ws)
    (read_at file before rest w is (All-head IsWritten w ws written) clear.0)
    (subst (λ (n : ℕ). AreReadFrom file n (texts_of ws)) long
    (read_from file (before ++ text) ws (is ∙ sym (append_assoc before text rest)) (All-tail IsWritten w ws written)
    (subst (λ (n : ℕ). AreClear file n ws) (sym long) clear.1)))

pub interchanges_read : (ws : List Written) → All IsWritten ws → AreClear (texts_in_row (texts_of ws)) 0 ws
    → HasInterchanges (texts_of ws) (texts_in_row (texts_of ws))
interchanges_read ws written clear =
    let file : List ℕ = texts_in_row (texts_of ws) in
    let all : AreReadFrom file 0 (texts_of ws) = read_from file [] ws refl written clear in
    let index : IndexValue = record { text = file; entries = all.entries; outside = 0 } in
    record {
      in_row = refl;
      index = index;
      is = record { same = refl; chain = all.chain; entries = all.are; outside = sym all.inside };
      extents = all.extents;
      inside = refl;
      faultless = all.faultless;
    }
