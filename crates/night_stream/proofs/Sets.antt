-- A set of a batch is checked as one of the whole text.
use Rattle.std.proofs.Common.{◌≡◌, ℕ, zero, suc, ◌-◌, ◌≤◌, Bool, true, false, List, [], ◌∷◌, ◌++◌, Option, Some, None, inl}
use Rattle.std.proofs.Common.{inr}
use Rattle.std.proofs.Common.{length, map, option_map, take, drop, slice_range, refl, sym, ap, subst, ◌∙◌}
use Rattle.std.specs.Prelude.{slice_get}
use Rattle.std.proofs.lemmas.List.{length-map, take-append-le, take-map}
use Rattle.hub_kinds.specs.declared.fault.Fault.{Fault}
use Rattle.hub_kinds.specs.declared.set_codes.SetCode.{SetCode}
use Rattle.x12_bytes.specs.declared.delims.Delims.{Delims}
use Rattle.x12_segs.specs.Words.{segs_from, IsSetSpan, span_views, trailer_kinds, SegValue, element_of, elements_of}
use Rattle.x12_segs.specs.Words.{view_of, kind_of}
use Rattle.x12_segs.specs.declared.kind.Kind.TheVariants.{SetHeader}
use Rattle.x12_segs.specs.declared.set_span.SetSpan.{SetSpan}
use Rattle.guide_tree.specs.Words.{placing_of, Place, Segment, GuideTree, Trees}
use Rattle.hub_kinds.specs.declared.answers.SetAnswer.{SetAnswer}
use Rattle.set_check.specs.Answer.{answer_to}
use Rattle.set_check.specs.Codes.{control_of}
use Rattle.set_check.specs.Verdict.{verdict_on}
use Rattle.set_check.specs.Checked.{Checked, IsChecked, guide_in, parts_in}
use Rattle.set_check.specs.SetFaults.{AreSetFaults, IsErrorIn, IsFaultUnder, set_codes_where, codes_with}
use Rattle.set_check.specs.SetParts.{SetParts, before_trailer, inner_of, parts_of, set_parts, set_trailer_of}
use Rattle.whole_interchanges.specs.Moved.{moved_span, moved_view}
use Rattle.whole_interchanges.proofs.ForAbove.{span_views_past}
use Rattle.night_stream.specs.MovedSets.{moved_checked}

abbrev pub moved_parts : (by : ℕ) → SetParts → SetParts
moved_parts by p = record {
  delims = p.delims;
  header = moved_view by p.header;
  body = p.body;
  trailer = option_map (moved_view by) p.trailer;
}

-- what stands after the batch isn't looked at
pub views_within : (text behind : List ℕ) (span : SetSpan) → span.end ≤ length text → span_views (text ++ behind) span
    ≡ span_views text span
views_within text behind span fits =
    ap (λ (xs : List ℕ). map (view_of span.delims) (segs_from xs span.delims.terminator span.start))
    (take-append-le span.end text behind fits)

pub views_moved_in : (before text behind : List ℕ) (span : SetSpan) → span.end ≤ length text
    → span_views (before ++ (text ++ behind)) (moved_span (length before) span) ≡ map (moved_view (length before)) (span_views text span)
views_moved_in before text behind span fits =
    span_views_past before (text ++ behind) span ∙ ap (map (moved_view (length before))) (views_within text behind span fits)

module _ (by : ℕ) where
  elements_moved : (xs : List SegValue) → map elements_of (map (moved_view by) xs) ≡ map elements_of xs
  elements_moved [] = refl
  elements_moved (x ∷ xs) = ap (λ (ss : List Segment). elements_of x ∷ ss) (elements_moved xs)

  drop_moved : (n : ℕ) (xs : List SegValue) → drop n (map (moved_view by) xs) ≡ map (moved_view by) (drop n xs)
  drop_moved zero xs = refl
  drop_moved (suc n) [] = refl
  drop_moved (suc n) (x ∷ xs) = drop_moved n xs

  range_moved : (xs : List SegValue) (from to : ℕ) → slice_range (map (moved_view by) xs) from to
      ≡ map (moved_view by) (slice_range xs from to)
  range_moved xs from to = ap (take (to - from)) (drop_moved from xs) ∙ take-map (moved_view by) (to - from) (drop from xs)

  get_moved : (xs : List SegValue) (n : ℕ) → slice_get (map (moved_view by) xs) n ≡ option_map (moved_view by) (slice_get xs n)
  get_moved [] n = refl
  get_moved (x ∷ xs) zero = refl
  get_moved (x ∷ xs) (suc n) = get_moved xs n

  inner_moved : (closed : Bool) (xs : List SegValue) → map elements_of (inner_of closed (map (moved_view by) xs))
      ≡ map elements_of (inner_of closed xs)
  inner_moved closed xs =
      ap (λ (n : ℕ). map elements_of (slice_range (map (moved_view by) xs) 1 (before_trailer closed n))) (length-map xs (moved_view by))
      ∙ ap (map elements_of) (range_moved xs 1 (before_trailer closed (length xs)))
      ∙ elements_moved (slice_range xs 1 (before_trailer closed (length xs)))

  trailer_moved : (closed : Bool) (xs : List SegValue) → set_trailer_of closed (map (moved_view by) xs)
      ≡ option_map (moved_view by) (set_trailer_of closed xs)
  trailer_moved true xs = ap (λ (n : ℕ). slice_get (map (moved_view by) xs) (n - 1)) (length-map xs (moved_view by))
      ∙ get_moved xs (length xs - 1)
  trailer_moved false xs = refl

  parts_moved : (d : Delims) (closed : Bool) (x : SegValue) (xs : List SegValue)
      → parts_of d closed (map (moved_view by) (x ∷ xs)) ≡ moved_parts by (parts_of d closed (x ∷ xs))
  parts_moved d closed x xs =
      let parts : List Segment → Option SegValue
      → SetParts = λ body t. record { delims = d; header = moved_view by x; body = body; trailer = t } in
      ap (λ (body : List Segment). parts body (set_trailer_of closed (map (moved_view by) (x ∷ xs)))) (inner_moved closed (x ∷ xs))
      ∙ ap (parts (map elements_of (inner_of closed (x ∷ xs)))) (trailer_moved closed (x ∷ xs))

  -- what is wrong with a set doesn't depend on where it stands
  error_moved : (ts : Trees) (p : SetParts) (given : List (Option Place)) (f : Fault) → IsErrorIn ts p given f
      → IsErrorIn ts (moved_parts by p) given f
  error_moved ts p given f e = record {
    index = e.index;
    segment = e.segment;
    place = e.place;
    slot = e.slot;
    elem = e.elem;
    there = e.there;
    placed = e.placed;
    leads = e.leads;
    wrong = e.wrong;
    is = e.is;
  }

  error_back : (ts : Trees) (p : SetParts) (given : List (Option Place)) (f : Fault) → IsErrorIn ts (moved_parts by p) given f
      → IsErrorIn ts p given f
  error_back ts p given f e = record {
    index = e.index;
    segment = e.segment;
    place = e.place;
    slot = e.slot;
    elem = e.elem;
    there = e.there;
    placed = e.placed;
    leads = e.leads;
    wrong = e.wrong;
    is = e.is;
  }

  under_moved : (g : GuideTree) (p : SetParts) (given : List (Option Place)) (f : Fault) → IsFaultUnder g p given f
      → IsFaultUnder g (moved_parts by p) given f
  under_moved g p given f (inl structure) = inl structure
  under_moved g p given f (inr (inl error)) = inr (inl (error_moved g.nodes p given f error))
  under_moved g p given f (inr (inr rule)) = inr (inr (rule.0, λ key. rule.1 (key.0, error_back g.nodes p given key.0 key.1, key.2)))

  under_back : (g : GuideTree) (p : SetParts) (given : List (Option Place)) (f : Fault) → IsFaultUnder g (moved_parts by p) given f
      → IsFaultUnder g p given f
  under_back g p given f (inl structure) = inl structure
  under_back g p given f (inr (inl error)) = inr (inl (error_back g.nodes p given f error))
  under_back g p given f (inr (inr rule)) = inr (inr (rule.0, λ key. rule.1 (key.0, error_moved g.nodes p given key.0 key.1, key.2)))

  faults_moved : (guide : Option GuideTree) (p : SetParts) (fs : List Fault) → AreSetFaults guide p fs
      → AreSetFaults guide (moved_parts by p) fs
  faults_moved None p fs are = are
  faults_moved (Some g) p fs are = λ f. (
    λ in_it. under_moved g p (placing_of g.nodes p.body) f ((are f).0 in_it),
    λ fault. (are f).1 (under_back g p (placing_of g.nodes p.body) f fault),
  )

  codes_moved : (guide : Option GuideTree) (p : SetParts) (fs : List Fault) (earlier : Bool)
      → set_codes_where guide (moved_parts by p) fs earlier ≡ set_codes_where guide p fs earlier
  codes_moved guide p fs earlier = by_trailer p.trailer
    where
      with_trailer : Option SegValue → SetParts
      with_trailer t = record { delims = p.delims; header = p.header; body = p.body; trailer = t }

      by_trailer : (t : Option SegValue) → set_codes_where guide (record {
        delims = p.delims;
        header = moved_view by p.header;
        body = p.body;
        trailer = option_map (moved_view by) t;
      }) fs earlier ≡ set_codes_where guide (record { delims = p.delims; header = p.header; body = p.body; trailer = t }) fs earlier
      by_trailer None = refl
      by_trailer (Some x) = refl

no_kinds : {A : Type 0} (k : A) (ks : List A) → ◌≡◌ {A = List A} [] (k ∷ ks) → ⊥
no_kinds k ks is = (cc)

-- the parts of a set, further on
pub set_parts_moved : (before behind text : List ℕ) (span : SetSpan) → IsSetSpan text span
    → set_parts (before ++ (text ++ behind)) (moved_span (length before) span) ≡ moved_parts (length before) (set_parts text span)
set_parts_moved before behind text span is =
    ap (parts_of span.delims span.closed) (views_moved_in before text behind span is.within) ∙ by_views (span_views text span) is.kinds
  where
    by_views : (xs : List SegValue) → map kind_of xs ≡ SetHeader ∷ (is.inner ++ trailer_kinds span.closed)
        → parts_of span.delims span.closed (map (moved_view (length before)) xs)
        ≡ moved_parts (length before) (parts_of span.delims span.closed xs)
    by_views [] kinds = absurd (no_kinds SetHeader (is.inner ++ trailer_kinds span.closed) kinds)
    by_views (x ∷ xs) kinds = parts_moved (length before) span.delims span.closed x xs

pub checked_moved : (before behind : List ℕ) (c : Checked) → IsSetSpan c.text c.span → IsChecked c
    → IsChecked (moved_checked before behind c)
checked_moved before behind c span is =
    let same : parts_in (moved_checked before behind c)
    ≡ moved_parts (length before) (parts_in c) = set_parts_moved before behind c.text c.span span in
    record {
      well_guided = is.well_guided;
      faults = subst (λ (p : SetParts). AreSetFaults (guide_in c) p c.faults) (sym same)
          (faults_moved (length before) (guide_in c) (parts_in c) c.faults is.faults);
      rising = is.rising;
      codes = is.codes ∙ sym (codes_moved (length before) (guide_in c) (parts_in c) c.faults false)
          ∙ ap (λ (p : SetParts). codes_with (guide_in c) p c.faults) (sym same);
    }

pub answer_moved : (before behind : List ℕ) (c : Checked) (earlier : Bool) → IsSetSpan c.text c.span
    → answer_to (moved_checked before behind c) earlier ≡ answer_to c earlier
answer_moved before behind c earlier span =
    let same : parts_in (moved_checked before behind c)
    ≡ moved_parts (length before) (parts_in c) = set_parts_moved before behind c.text c.span span in
    let guide : Option GuideTree = guide_in c in
    let answer : SetParts → List SetCode → SetAnswer = λ p set_codes. record {
      identifier = element_of p.header 1;
      control = control_of p.header;
      convention = element_of p.header 3;
      faults = c.faults;
      codes = set_codes;
      verdict = verdict_on guide c.faults set_codes;
    } in
    ap (λ (p : SetParts). answer p (set_codes_where guide p c.faults earlier)) same
    ∙ ap (answer (parts_in c)) (codes_moved (length before) guide (parts_in c) c.faults earlier)
