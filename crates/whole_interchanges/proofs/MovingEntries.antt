-- Interchanges of a text before which other bytes stand.
use Rattle.std.proofs.Common.{◌≡◌, ℕ, suc, ◌+◌, ◌-◌, ◌≤◌, List, [], ◌∷◌, ◌++◌, Bool, ◌&&◌, ◌||◌, Option, Some, None}
use Rattle.std.proofs.Common.{length, take, map, option_map, is_some, cond, refl, sym, ap, subst, ◌∙◌, arith}
use Rattle.std.specs.Prelude.{not}
use Rattle.std.specs.List.{All, list_all}
use Rattle.std.proofs.lemmas.List.{length-append, length-map, map-append}
use Rattle.std.proofs.lemmas.List.Elements.{All-cons, All-head, All-nil, All-tail}
use Rattle.x12_bytes.specs.Header.{header_delims, header_at}
use Rattle.x12_bytes.specs.HeaderTest.{is_head}
use Rattle.x12_bytes.specs.declared.delims.Delims.{Delims}
use Rattle.x12_segs.specs.Words.{end_of, moved_by, start_offset, Seg, segs_from, IsSetSpan, span_segs, span_views, trailer_kinds, SegValue}
use Rattle.x12_segs.specs.Words.{view_of, kind_of}
use Rattle.x12_segs.specs.declared.kind.Kind.{Kind}
use Rattle.x12_segs.specs.declared.kind.Kind.TheVariants.{SetHeader}
use Rattle.x12_segs.specs.declared.set_span.SetSpan.{SetSpan}
use Rattle.hub_kinds.specs.declared.interchange.InterchangeFault.{InterchangeFault}
use Rattle.env_index.specs.declared.entry.SetEnvelope.{SetEnvelope}
use Rattle.env_index.specs.Words.{Set, InGroup, ASet, OutOfGroup, Group, InBody, ATa1, AGroup, OutOfBody, Body, DerivesInterchange}
use Rattle.env_index.specs.Words.{option_items}
use Rattle.env_index.specs.Words.{set_items, Extent, Reach, behind, behind_last, reach_at, control_number}
use Rattle.env_index.specs.Words.{counts_groups, has_control, fault_of, fault_of_headers, fault_with, fault_by, has_set_headers}
use Rattle.env_index.specs.Words.{is_group_header, is_set_header, IndexEntry, IsEntryOf, IsReadIn, extent_of, extents_of}
use Rattle.env_index.specs.Words.{InterchangeEntry, map_body, map_group, map_in_body, map_in_group, map_set, HasSpans}
use Rattle.env_index.specs.Words.{span_of}
use Rattle.hub_kinds.specs.declared.interchange.InterchangeFault.TheVariants.{ControlNumbersDiffer, GroupCountWrong, SegmentMisplaced}
use Rattle.hub_kinds.specs.declared.interchange.InterchangeFault.TheVariants.{GroupHeaderInvalid, SetHeaderInvalid}
use Rattle.env_index.specs.Summary.{GroupEntry, Summary, group_entry, groups_in, has_misplaced, has_misplaced_in_group, ta1_member_count}
use Rattle.env_index.specs.Summary.{set_entry, sets_in, summary_of}
use Rattle.env_index.proofs.ForAbove.{derives_mapped}
use Rattle.whole_interchanges.specs.Batches.{ChainUpTo}
use Rattle.whole_interchanges.specs.Moved.{moved_entry, moved_extent, moved_group, moved_interchange, moved_set, moved_span, moved_summary}
use Rattle.whole_interchanges.specs.Moved.{moved_view}
use Rattle.whole_interchanges.proofs.Moving.{head_past, header_past, kind_moved, moved_reach, reach_at_past, segs_past, views_moved}

-- the tree, further on
module _ (by : ℕ) where
  option_moved : (t : Option SegValue) → option_items (option_map (moved_view by) t) ≡ map (moved_view by) (option_items t)
  option_moved None = refl
  option_moved (Some x) = refl

  items_moved : (s : Set SegValue) → set_items (map_set (moved_view by) s) ≡ map (moved_view by) (set_items s)
  items_moved s =
      ap (λ (xs : List SegValue). moved_view by s.header ∷ (map (moved_view by) s.inner ++ xs)) (option_moved s.trailer)
      ∙ ap (λ (xs : List SegValue). moved_view by s.header ∷ xs) (sym (map-append (moved_view by) s.inner (option_items s.trailer)))

  last_moved : (from : ℕ) (xs : List SegValue) → behind_last (by + from) (map (moved_view by) xs) ≡ by + behind_last from xs
  last_moved from [] = refl
  last_moved from (x ∷ xs) =
      let sum : by + x.start + length x.bytes + 1 ≡ by + (x.start + length x.bytes + 1) = omega arith in
      ap (λ (n : ℕ). behind_last n (map (moved_view by) xs)) sum ∙ last_moved (behind x) xs

  last_item : (s : Set SegValue) → behind_last 0 (map (moved_view by) (set_items s)) ≡ by + behind_last 0 (set_items s)
  last_item s =
      let xs : List SegValue = s.inner ++ option_items s.trailer in
      let sum : by + s.header.start + length s.header.bytes + 1 ≡ by + (s.header.start + length s.header.bytes + 1) = omega arith in
      ap (λ (n : ℕ). behind_last n (map (moved_view by) xs)) sum ∙ last_moved (behind s.header) xs

  set_moved : (s : Set SegValue) → set_entry (map_set (moved_view by) s) ≡ moved_set by (set_entry s)
  set_moved s =
      let entry : ℕ → ℕ → SetEnvelope = λ n e. record {
        header = moved_view by s.header;
        segments = n;
        trailer = option_map (moved_view by) s.trailer;
        end = e;
      } in
      ap (λ (xs : List SegValue). entry (length xs) (behind_last 0 xs)) (items_moved s)
      ∙ ap (λ (n : ℕ). entry n (behind_last 0 (map (moved_view by) (set_items s)))) (length-map (set_items s) (moved_view by))
      ∙ ap (entry (length (set_items s))) (last_item s)

  sets_moved : (ms : List (InGroup SegValue)) → sets_in (map (map_in_group (moved_view by)) ms) ≡ map (moved_set by) (sets_in ms)
  sets_moved [] = refl
  sets_moved (ASet s ∷ ms) =
      ap (λ (e : SetEnvelope). e ∷ sets_in (map (map_in_group (moved_view by)) ms)) (set_moved s)
      ∙ ap (λ (es : List SetEnvelope). moved_set by (set_entry s) ∷ es) (sets_moved ms)
  sets_moved (OutOfGroup x ∷ ms) = sets_moved ms

  group_moved : (g : Group SegValue) → group_entry (map_group (moved_view by) g) ≡ moved_group by (group_entry g)
  group_moved g = ap (λ (sets : List SetEnvelope). let e : GroupEntry = record {
    header = moved_view by g.header;
    sets = sets;
    trailer = option_map (moved_view by) g.trailer;
  } in e) (sets_moved g.members)

  groups_moved : (ms : List (InBody SegValue)) → groups_in (map (map_in_body (moved_view by)) ms) ≡ map (moved_group by) (groups_in ms)
  groups_moved [] = refl
  groups_moved (ATa1 x ∷ ms) = groups_moved ms
  groups_moved (AGroup g ∷ ms) =
      ap (λ (e : GroupEntry). e ∷ groups_in (map (map_in_body (moved_view by)) ms)) (group_moved g)
      ∙ ap (λ (es : List GroupEntry). moved_group by (group_entry g) ∷ es) (groups_moved ms)
  groups_moved (OutOfBody x ∷ ms) = groups_moved ms

  ta1s_moved : (ms : List (InBody SegValue)) → ta1_member_count (map (map_in_body (moved_view by)) ms) ≡ ta1_member_count ms
  ta1s_moved [] = refl
  ta1s_moved (ATa1 x ∷ ms) = ap (λ (n : ℕ). n + 1) (ta1s_moved ms)
  ta1s_moved (AGroup g ∷ ms) = ta1s_moved ms
  ta1s_moved (OutOfBody x ∷ ms) = ta1s_moved ms

  misplaced_in_group_moved : (ms : List (InGroup SegValue))
      → has_misplaced_in_group (map (map_in_group (moved_view by)) ms) ≡ has_misplaced_in_group ms
  misplaced_in_group_moved [] = refl
  misplaced_in_group_moved (ASet s ∷ ms) = misplaced_in_group_moved ms
  misplaced_in_group_moved (OutOfGroup x ∷ ms) = refl

  misplaced_moved : (ms : List (InBody SegValue)) → has_misplaced (map (map_in_body (moved_view by)) ms) ≡ has_misplaced ms
  misplaced_moved [] = refl
  misplaced_moved (ATa1 x ∷ ms) = misplaced_moved ms
  misplaced_moved (AGroup g ∷ ms) =
      ap (λ (b : Bool). b || has_misplaced (map (map_in_body (moved_view by)) ms)) (misplaced_in_group_moved g.members)
      ∙ ap (λ (b : Bool). has_misplaced_in_group g.members || b) (misplaced_moved ms)
  misplaced_moved (OutOfBody x ∷ ms) = refl

  summary_moved : (b : Body SegValue) → summary_of (map_body (moved_view by) b) ≡ moved_summary by (summary_of b)
  summary_moved b =
      let t : Option SegValue = option_map (moved_view by) b.trailer in
      let summary : List GroupEntry → ℕ → Bool → Summary = λ gs n m. record { groups = gs; ta1s = n; misplaced = m; trailer = t } in
      let ms : List (InBody SegValue) = map (map_in_body (moved_view by)) b.members in
      ap (λ (gs : List GroupEntry). summary gs (ta1_member_count ms) (has_misplaced ms)) (groups_moved b.members)
      ∙ ap (λ (n : ℕ). summary (map (moved_group by) (groups_in b.members)) n (has_misplaced ms)) (ta1s_moved b.members)
      ∙ ap (summary (map (moved_group by) (groups_in b.members)) (ta1_member_count b.members)) (misplaced_moved b.members)

  -- faults don't look at offsets
  trailers_moved : (p : SegValue → Bool) (gs : List GroupEntry) → ((x : SegValue) → p (moved_view by x) ≡ p x)
      → list_all (λ (g : GroupEntry). p g.header) (map (moved_group by) gs) ≡ list_all (λ (g : GroupEntry). p g.header) gs
  trailers_moved p [] same = refl
  trailers_moved p (g ∷ gs) same =
      ap (λ (b : Bool). b && list_all (λ (g : GroupEntry). p g.header) (map (moved_group by) gs)) (same g.header)
      ∙ ap (λ (b : Bool). p g.header && b) (trailers_moved p gs same)

  set_headers_moved : (sets : List SetEnvelope)
      → list_all (λ (s : SetEnvelope). is_set_header s.header) (map (moved_set by) sets)
      ≡ list_all (λ (s : SetEnvelope). is_set_header s.header) sets
  set_headers_moved [] = refl
  set_headers_moved (s ∷ sets) = ap (λ (b : Bool). is_set_header s.header && b) (set_headers_moved sets)

  groups_headers_moved : (gs : List GroupEntry) → list_all has_set_headers (map (moved_group by) gs) ≡ list_all has_set_headers gs
  groups_headers_moved [] = refl
  groups_headers_moved (g ∷ gs) =
      ap (λ (b : Bool). b && list_all has_set_headers (map (moved_group by) gs)) (set_headers_moved g.sets)
      ∙ ap (λ (b : Bool). has_set_headers g && b) (groups_headers_moved gs)

  headers_moved : (x : InterchangeEntry) → fault_of_headers (moved_interchange by x) ≡ fault_of_headers x
  headers_moved x =
      let gs : List GroupEntry = x.content.groups in
      let fault : Bool → Bool → Option InterchangeFault = λ a b.
      cond (not a)
      (Some GroupHeaderInvalid)
      (cond (not b)
      (Some SetHeaderInvalid) None) in
      ap (λ (a : Bool). fault a (list_all has_set_headers (map (moved_group by) gs))) (trailers_moved is_group_header gs (λ x. refl))
      ∙ ap (fault (list_all (λ (g : GroupEntry). is_group_header g.header) gs)) (groups_headers_moved gs)

  pub fault_moved : (x : InterchangeEntry) → fault_of (moved_interchange by x) ≡ fault_of x
  fault_moved x = by_trailer x.content.trailer
    where
      with_control : (t : SegValue) (control : Option ℕ)
          → fault_with (moved_interchange by x) (moved_view by t) control ≡ fault_with x t control
      with_control t None = refl
      with_control t (Some n) =
          let fault : ℕ → Option InterchangeFault → Option InterchangeFault = λ groups rest.
          cond (not (has_control t n)) (Some ControlNumbersDiffer)
          (cond (not (counts_groups t groups)) (Some GroupCountWrong) (cond x.content.misplaced (Some SegmentMisplaced) rest)) in
          ap (λ (groups : ℕ). fault groups (fault_of_headers (moved_interchange by x))) (length-map x.content.groups (moved_group by))
          ∙ ap (fault (length x.content.groups)) (headers_moved x)

      by_trailer : (t : Option SegValue) → fault_by (moved_interchange by x) (option_map (moved_view by) t) ≡ fault_by x t
      by_trailer None = refl
      by_trailer (Some t) = with_control t (control_number x.header)

-- spans, further on
first_moved : (by : ℕ) (k : Kind) (ks : List Kind) (segs : List Seg) (d : Delims) → map kind_of (map (view_of d) segs) ≡ k ∷ ks
    → start_offset (map (moved_by by) segs) ≡ by + start_offset segs
first_moved by k ks [] d is = (cc)
first_moved by k ks (seg ∷ segs) d is = refl

last_of_run : (by : ℕ) (seg : Seg) (segs : List Seg) → end_of (map (moved_by by) (seg ∷ segs)) ≡ by + end_of (seg ∷ segs)
last_of_run by seg [] = (let sum : by + seg.start + length seg.bytes + 1 ≡ by + (seg.start + length seg.bytes + 1) = omega arith in sum)
last_of_run by seg (next ∷ segs) = last_of_run by next segs

end_moved : (by : ℕ) (k : Kind) (ks : List Kind) (segs : List Seg) (d : Delims) → map kind_of (map (view_of d) segs) ≡ k ∷ ks
    → end_of (map (moved_by by) segs) ≡ by + end_of segs
end_moved by k ks [] d is = (cc)
end_moved by k ks (seg ∷ segs) d is = last_of_run by seg segs

kinds_moved : (by : ℕ) (xs : List SegValue) → map kind_of (map (moved_view by) xs) ≡ map kind_of xs
kinds_moved by [] = refl
kinds_moved by (x ∷ xs) = ap (λ (k : Kind). k ∷ map kind_of (map (moved_view by) xs)) (kind_moved by x)
    ∙ ap (λ (ks : List Kind). kind_of x ∷ ks) (kinds_moved by xs)

take_past : (before text : List ℕ) (n : ℕ) → take (length before + n) (before ++ text) ≡ before ++ take n text
take_past [] text n = ap (λ (k : ℕ). take k text) (let z : 0 + n ≡ n = omega arith in z)
take_past (b ∷ before) text n =
    let sum : suc (length before) + n ≡ suc (length before + n) = omega arith in
    ap (λ (k : ℕ). take k (b ∷ (before ++ text))) sum ∙ ap (λ (xs : List ℕ). b ∷ xs) (take_past before text n)

pub span_segs_past : (before text : List ℕ) (span : SetSpan)
    → span_segs (before ++ text) (moved_span (length before) span) ≡ map (moved_by (length before)) (span_segs text span)
span_segs_past before text span =
    ap (λ (xs : List ℕ). segs_from xs span.delims.terminator (length before + span.start)) (take_past before text span.end)
    ∙ segs_past before (take span.end text) span.delims.terminator span.start

pub span_views_past : (before text : List ℕ) (span : SetSpan)
    → span_views (before ++ text) (moved_span (length before) span) ≡ map (moved_view (length before)) (span_views text span)
span_views_past before text span =
    ap (map (view_of span.delims)) (span_segs_past before text span) ∙ views_moved (length before) span.delims (span_segs text span)

pub span_past : (before text : List ℕ) (span : SetSpan) → IsSetSpan text span → IsSetSpan (before ++ text) (moved_span (length before) span)
span_past before text span is =
    let by : ℕ = length before in
    record {
      within = omega (arith, is.within, length-append before text);
      start = ap start_offset (span_segs_past before text span)
          ∙ first_moved by SetHeader (is.inner ++ trailer_kinds span.closed) (span_segs text span) span.delims is.kinds
          ∙ ap (λ (n : ℕ). by + n) is.start;
      end = ap end_of (span_segs_past before text span)
          ∙ end_moved by SetHeader (is.inner ++ trailer_kinds span.closed) (span_segs text span) span.delims is.kinds
          ∙ ap (λ (n : ℕ). by + n) is.end;
      inner = is.inner;
      kinds = ap (map kind_of) (span_views_past before text span) ∙ kinds_moved by (span_views text span) ∙ is.kinds;
      plain = is.plain;
    }

-- the span of a set, further on
pub span_of_moved : (by : ℕ) (d : Delims) (set : SetEnvelope) → span_of d (moved_set by set) ≡ moved_span by (span_of d set)
span_of_moved by d set = by_trailer set.trailer
  where
    by_trailer : (t : Option SegValue) → (let s : SetSpan = record {
      start = by + set.header.start;
      end = by + set.end;
      delims = d;
      closed = is_some (option_map (moved_view by) t);
    } in s) ≡ record { start = by + set.header.start; end = by + set.end; delims = d; closed = is_some t }
    by_trailer None = refl
    by_trailer (Some x) = refl

module _ (before text : List ℕ) (d : Delims) where
  sets_past : (sets : List SetEnvelope) → All (λ (set : SetEnvelope). IsSetSpan text (span_of d set)) sets
      → All (λ (set : SetEnvelope). IsSetSpan (before ++ text) (span_of d set)) (map (moved_set (length before)) sets)
  sets_past [] all = All-nil (λ (set : SetEnvelope). IsSetSpan (before ++ text) (span_of d set))
  sets_past (set ∷ sets) all =
      let P = λ (set : SetEnvelope). IsSetSpan text (span_of d set) in
      let Q = λ (set : SetEnvelope). IsSetSpan (before ++ text) (span_of d set) in
      All-cons Q (moved_set (length before) set) (map (moved_set (length before)) sets)
      (subst (IsSetSpan (before ++ text)) (sym (span_of_moved (length before) d set))
      (span_past before text (span_of d set) (All-head P set sets all)))
      (sets_past sets (All-tail P set sets all))

  groups_past : (gs : List GroupEntry) → All (λ (g : GroupEntry). All (λ (set : SetEnvelope). IsSetSpan text (span_of d set)) g.sets) gs
      → All (λ (g : GroupEntry). All (λ (set : SetEnvelope). IsSetSpan (before ++ text) (span_of d set)) g.sets)
      (map (moved_group (length before)) gs)
  groups_past [] all = All-nil (λ (g : GroupEntry). All (λ (set : SetEnvelope). IsSetSpan (before ++ text) (span_of d set)) g.sets)
  groups_past (g ∷ gs) all =
      let P = λ (g : GroupEntry). All (λ (set : SetEnvelope). IsSetSpan text (span_of d set)) g.sets in
      let Q = λ (g : GroupEntry). All (λ (set : SetEnvelope). IsSetSpan (before ++ text) (span_of d set)) g.sets in
      All-cons Q (moved_group (length before) g) (map (moved_group (length before)) gs)
      (sets_past g.sets (All-head P g gs all)) (groups_past gs (All-tail P g gs all))

pub spans_past : (before text : List ℕ) (x : InterchangeEntry) → HasSpans text x
    → HasSpans (before ++ text) (moved_interchange (length before) x)
spans_past before text x all = groups_past before text (header_delims x.header) x.content.groups all

-- an interchange, further on
pub read_past : (before text : List ℕ) (x : InterchangeEntry) → IsReadIn text x
    → IsReadIn (before ++ text) (moved_interchange (length before) x)
read_past before text x is =
    let by : ℕ = length before in
    let tree : Body SegValue = map_body (moved_view by) is.tree in
    let reach : reach_at (before ++ text) (by + x.start) ≡ moved_reach by (reach_at text x.start) = reach_at_past before text x.start in
    let entry : List ℕ → ℕ → ℕ → Summary → InterchangeEntry = λ h s e c. record { header = h; start = s; end = e; content = c } in
    record {
      tree = tree;
      derived = subst (λ (r : Reach). DerivesInterchange kind_of r.segs tree) (sym reach)
          (derives_mapped kind_of kind_of (moved_view by) (kind_moved by) (reach_at text x.start).segs is.tree is.derived);
      read = ap (moved_interchange by) is.read
          ∙ ap (λ (h : List ℕ). entry h (by + x.start) (by + (reach_at text x.start).end) (moved_summary by (summary_of is.tree)))
          (sym (header_past before text x.start))
          ∙ ap (λ (e : ℕ). entry (header_at (before ++ text) (by + x.start)) (by + x.start) e (moved_summary by (summary_of is.tree)))
          (ap (λ (r : Reach). r.end) (sym reach))
          ∙ ap (entry (header_at (before ++ text) (by + x.start)) (by + x.start) (reach_at (before ++ text) (by + x.start)).end)
          (sym (summary_moved by is.tree));
      spans = spans_past before text x is.spans;
    }

pub entry_past : (before text : List ℕ) (e : IndexEntry) → IsEntryOf text e → IsEntryOf (before ++ text) (moved_entry (length before) e)
entry_past before text e is = record {
  read = read_past before text e.interchange is.read;
  fault = is.fault ∙ sym (fault_moved (length before) e.interchange);
}

pub entries_past : (before text : List ℕ) (es : List IndexEntry) → All (IsEntryOf text) es
    → All (IsEntryOf (before ++ text)) (map (moved_entry (length before)) es)
entries_past before text [] all = All-nil (IsEntryOf (before ++ text))
entries_past before text (e ∷ es) all =
    All-cons (IsEntryOf (before ++ text)) (moved_entry (length before) e) (map (moved_entry (length before)) es)
    (entry_past before text e (All-head (IsEntryOf text) e es all)) (entries_past before text es (All-tail (IsEntryOf text) e es all))

pub extents_moved : (by : ℕ) (es : List IndexEntry) → extents_of (map (moved_entry by) es) ≡ map (moved_extent by) (extents_of es)
extents_moved by [] = refl
extents_moved by (e ∷ es) = ap (λ (xs : List Extent). moved_extent by (extent_of e) ∷ xs) (extents_moved by es)

-- the chain, further on
head_before : (before text : List ℕ) (q : ℕ) → length before ≤ q → is_head (before ++ text) q ≡ is_head text (q - length before)
head_before before text q le =
    let n : q ≡ length before + (q - length before) = omega arith in
    ap (is_head (before ++ text)) n ∙ head_past before text (q - length before)

pub chain_past : (before text : List ℕ) (from to : ℕ) (xs : List Extent) → ChainUpTo text from to xs
    → ChainUpTo (before ++ text) (length before + from) (length before + to) (map (moved_extent (length before)) xs)
chain_past before text from to [] chain = (
  omega (arith, chain.0),
  λ q low lt. head_before before text q (omega (arith, low)) ∙ chain.1 (q - length before) (omega (arith, low)) (omega (arith, low, lt)),
)
chain_past before text from to (x ∷ xs) chain =
    let by : ℕ = length before in (
      record {
        behind = omega (arith, chain.0.behind);
        head = head_past before text x.start ∙ chain.0.head;
        least = λ q low lt. head_before before text q (omega (arith, low))
            ∙ chain.0.least (q - by) (omega (arith, low)) (omega (arith, low, lt));
      },
      ap (λ (n : ℕ). by + n) chain.1 ∙ ap (λ (r : Reach). r.end) (sym (reach_at_past before text x.start)),
      chain_past before text x.end to xs chain.2,
    )
