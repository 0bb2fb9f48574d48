-- Faults in rows: what a row says stays as texts are added, and its key is that of its fault.
use Rattle.std.proofs.Common.{ℕ, ◌≡◌, ◌↔◌, ◌⊎◌, ◌+◌, ◌<◌, ◌≤◌, List, [], ◌∷◌, ◌++◌, Some, None, length, map, get_or}
use Rattle.std.proofs.Common.{refl, sym, ap, ◌∙◌, subst, arith, ⊎_elim}
use Rattle.std.specs.Prelude.{Result, Ok, Err}
use Rattle.std.specs.List.{Contains, AllByRecursion}
use Rattle.std.specs.List.Sorted.{IsBinarySearchResult, IsSearchInRange, IsStrictlySortedBy}
use Rattle.std.specs.Ordering.{nat_cmp, ordering_index}
use Rattle.std.specs.declared.cmp.Ordering.{Ordering}
use Rattle.std.specs.declared.cmp.Ordering.TheVariants.{Less}
use Rattle.std.specs.Cmp.Lexicographic.{slice_cmp}
use Rattle.std.proofs.Math.Seq.{get_or-append_seam}
use Rattle.std.proofs.lemmas.List.{append-nil, length-map, length-append, get_or-map, get_or_default, get_or_append_left, map-append}
use Rattle.std.proofs.lemmas.List.Elements.{All-contains_itself, Contains-push_cases, recursion_from_All}
use Rattle.hub_kinds.specs.declared.codes.SegmentCode.TheVariants.{ElementErrors}
use Rattle.hub_kinds.specs.declared.fault.Fault.{Fault}
use Rattle.hub_kinds.specs.declared.row.Row.{Row}
use Rattle.hub_kinds.specs.declared.row.RowKind.{RowKind}
use Rattle.hub_kinds.specs.declared.row.RowKind.TheVariants as kinds
use Rattle.hub_kinds.specs.declared.texts.Pair.{Pair}
use Rattle.hub_kinds.specs.Fault.{AreRising, key_of}
use Rattle.hub_kinds.specs.Rising.{IsKeyedBy, IsRisingBy, order_by}
use Rattle.hub_kinds.specs.Rows.{AreKept, Extends, IsKept, IsKeptBy, IsOnceEach, IsPairAt, element_fault, fault_at, fault_by, no_fault}
use Rattle.hub_kinds.specs.Rows.{no_pair, pair_at, row_key, row_key_by, segment_fault, whole_index}

pub key_at : (pairs : List Pair) (whole : List Fault) (row : Row) → key_of (fault_at pairs whole row) ≡ row_key whole row
key_at pairs whole row = by row.kind
  where
    by : (kind : RowKind) → key_of (fault_by pairs whole row kind) ≡ row_key_by whole row kind
    by (kinds.Segment code) = refl
    by (kinds.Element code) = refl
    by kinds.Whole = refl

order_at : (pairs : List Pair) (whole : List Fault) (x y : Row)
    → order_by key_of (fault_at pairs whole x) (fault_at pairs whole y) ≡ order_by (row_key whole) x y
order_at pairs whole x y =
    ap (λ (k : List ℕ). slice_cmp nat_cmp k (key_of (fault_at pairs whole y))) (key_at pairs whole x)
    ∙ ap (slice_cmp nat_cmp (row_key whole x)) (key_at pairs whole y)

lesser : (pairs : List Pair) (whole : List Fault) (x : Row) (ys : List Row)
    → AllByRecursion (λ y. order_by (row_key whole) x y ≡ Less) ys
    → AllByRecursion (λ y. order_by key_of (fault_at pairs whole x) y ≡ Less) (map (fault_at pairs whole) ys)
lesser pairs whole x [] h = tt
lesser pairs whole x (y ∷ ys) h = (order_at pairs whole x y ∙ h.0, lesser pairs whole x ys h.1)

pub rows_rising : (pairs : List Pair) (whole : List Fault) (rows : List Row) → IsRisingBy (row_key whole) rows
    → AreRising (map (fault_at pairs whole) rows)
unfolding IsStrictlySortedBy
rows_rising pairs whole [] h = tt
rows_rising pairs whole (x ∷ xs) h = (lesser pairs whole x xs h.0, rows_rising pairs whole xs h.1)

any_row : Row
any_row = record {
  position = 0;
  place = 0;
  value = 0;
  slot = 0;
  element = 0;
  component = 0;
  repetition = 0;
  kind = kinds.Whole;
}

to_map : {Y : Type 0} (f : Row → Y) (rows : List Row) (row : Row) (y : Y) → Contains rows row → f row ≡ y → Contains (map f rows) y
to_map f rows row y (k, l, is) e =
    (k, subst (λ (n : ℕ). k < n) (sym (length-map rows f)) l, get_or-map f rows k row y l ∙ ap f is ∙ e)

from_map : {Y : Type 0} (f : Row → Y) (rows : List Row) (y : Y) → Contains (map f rows) y
    → (row : Row) × Contains rows row × (f row ≡ y)
from_map f rows y (k, l, is) =
    let m : k < length rows = subst (λ (n : ℕ). k < n) (length-map rows f) l in
    let row : Row = get_or rows k any_row in
    (row, (k, m, get_or_default rows k row any_row m), sym (get_or-map f rows k any_row y m) ∙ is)

-- rows that were put in order have the same faults
pub same_faults : (pairs : List Pair) (whole : List Fault) (old new : List Row) → IsOnceEach (row_key whole) old new
    → IsKeyedBy key_of (map (fault_at pairs whole) old)
    → (f : Fault) → Contains (map (fault_at pairs whole) new) f ↔ Contains (map (fault_at pairs whole) old) f
same_faults pairs whole old new once keyed f = (
  λ h. let r = from_map (fault_at pairs whole) new f h in
      to_map (fault_at pairs whole) old r.0 f (once.from r.0 r.1) r.2,
  λ h. let r = from_map (fault_at pairs whole) old f h in
      let s = once.to r.0 r.1 in
      let there = to_map (fault_at pairs whole) old s.0 (fault_at pairs whole s.0) (once.from s.0 s.1) refl in
      to_map (fault_at pairs whole) new s.0 f s.1 (keyed (fault_at pairs whole s.0) f there h
      (key_at pairs whole s.0 ∙ sym s.2 ∙ sym (key_at pairs whole r.0) ∙ ap key_of r.2)),
)

rise : (a b x y : ℕ) → a ≡ x → b ≡ y → a ≤ b → x ≤ y
rise a b x y e f h = omega (arith, e, f, h)

-- a search among rows by their keys is one among their faults
pub rows_searched : (pairs : List Pair) (whole : List Fault) (rows : List Row) (key : List ℕ) (r : Result ℕ ℕ)
    → IsSearchInRange r (length rows) → IsBinarySearchResult (λ row. slice_cmp nat_cmp (row_key whole row) key) rows r
    → IsBinarySearchResult (λ f. slice_cmp nat_cmp (key_of f) key) (map (fault_at pairs whole) rows) r
rows_searched pairs whole rows key r = by r
  where
    at : (k : ℕ) (d : Fault) → k < length rows
        → slice_cmp nat_cmp (key_of (get_or (map (fault_at pairs whole) rows) k d)) key
        ≡ slice_cmp nat_cmp (row_key whole (get_or rows k any_row)) key
    at k d l =
        ap (λ (f : Fault). slice_cmp nat_cmp (key_of f) key) (get_or-map (fault_at pairs whole) rows k any_row d l)
        ∙ ap (λ (m : List ℕ). slice_cmp nat_cmp m key) (key_at pairs whole (get_or rows k any_row))

    by : (r : Result ℕ ℕ) → IsSearchInRange r (length rows)
        → IsBinarySearchResult (λ row. slice_cmp nat_cmp (row_key whole row) key) rows r
        → IsBinarySearchResult (λ f. slice_cmp nat_cmp (key_of f) key) (map (fault_at pairs whole) rows) r
    by (Ok i) l h = λ d. at i d l ∙ h any_row
    by (Err i) l h = λ up.
        let parts = h (λ a b d m n.
        let m2 : a < length rows = omega (arith, m, n) in
        let one = ap ordering_index (at a no_fault m2
        ∙ ap (λ (x : Row). slice_cmp nat_cmp (row_key whole x) key) (get_or_default rows a any_row d m2)) in
        let two = ap ordering_index (at b no_fault n
        ∙ ap (λ (x : Row). slice_cmp nat_cmp (row_key whole x) key) (get_or_default rows b any_row d n)) in
        rise _ _ _ _ one two (up a b no_fault m (subst (λ (t : ℕ). b < t) (sym (length-map rows (fault_at pairs whole))) n))) in (
          λ k d m n. at k d (omega (arith, n, l)) ∙ parts.0 k any_row m n,
          λ k d m n. let o : k < length rows = subst (λ (t : ℕ). k < t) (length-map rows (fault_at pairs whole)) n in
              at k d o ∙ parts.1 k any_row m o,
        )

longer : {X : Type 0} (old new : List X) (i : ℕ) → Extends old new → i < length old → i < length new
longer {X = X} old new i e l =
    subst (λ (xs : List X). i < length xs) (sym e.is) (subst (λ (n : ℕ). i < n) (sym (length-append old e.rest)) (omega (arith, l)))

there : {X : Type 0} (old new : List X) (i : ℕ) (d : X) → Extends old new → i < length old → get_or new i d ≡ get_or old i d
there {X = X} old new i d e l = ap (λ (xs : List X). get_or xs i d) e.is ∙ get_or_append_left old e.rest d i l

pub pair_kept : (old new : List Pair) (i : ℕ) (a b : List ℕ) → Extends old new → IsPairAt old i a b → IsPairAt new i a b
pair_kept old new i a b e h = record {
  within = longer old new i e h.within;
  is_first = ap (λ (p : Pair). p.first) (there old new i no_pair e h.within) ∙ h.is_first;
  is_second = ap (λ (p : Pair). p.second) (there old new i no_pair e h.within) ∙ h.is_second;
}

-- what a row says stays
row_grown : (pairs more : List Pair) (whole others : List Fault) (row : Row) → Extends pairs more → Extends whole others
    → IsKept pairs whole row → IsKept more others row × (fault_at more others row ≡ fault_at pairs whole row)
row_grown pairs more whole others row p w = by row.kind
  where
    by : (kind : RowKind) → IsKeptBy pairs whole row kind
        → IsKeptBy more others row kind × (fault_by more others row kind ≡ fault_by pairs whole row kind)
    by (kinds.Segment code) h = (
      longer pairs more row.place p h,
      ap (λ (x : Pair). segment_fault x row code None) (there pairs more row.place no_pair p h),
    )
    by (kinds.Element code) h = (
      (longer pairs more row.place p h.0, longer pairs more row.value p h.1),
      ap (λ (x : Pair). segment_fault x row ElementErrors (Some (element_fault (pair_at more row.value) row code)))
          (there pairs more row.place no_pair p h.0)
          ∙ ap (λ (x : Pair). segment_fault (pair_at pairs row.place) row ElementErrors (Some (element_fault x row code)))
          (there pairs more row.value no_pair p h.1),
    )
    by kinds.Whole h = (longer whole others (whole_index row) w h, there whole others (whole_index row) no_fault w h)

each : (P : Row → Type 0) (all rows : List Row) → AllByRecursion (Contains all) rows → ((row : Row) → Contains all row → P row)
    → AllByRecursion P rows
each P all [] h p = tt
each P all (row ∷ rows) h p = (p row h.0, each P all rows h.1 p)

grown_by : (pairs more : List Pair) (whole others : List Fault) (rows : List Row) → Extends pairs more → Extends whole others
    → AllByRecursion (IsKept pairs whole) rows → map (fault_at more others) rows ≡ map (fault_at pairs whole) rows
grown_by pairs more whole others [] p w h = refl
grown_by pairs more whole others (row ∷ rows) p w h =
    ap (λ (f : Fault). f ∷ map (fault_at more others) rows) (row_grown pairs more whole others row p w h.0).1
    ∙ ap (λ (fs : List Fault). fault_at pairs whole row ∷ fs) (grown_by pairs more whole others rows p w h.1)

-- the rows of a list stay
pub rows_kept : (pairs more : List Pair) (whole others : List Fault) (rows : List Row) → Extends pairs more → Extends whole others
    → AreKept pairs whole rows → AreKept more others rows
rows_kept pairs more whole others rows p w kept row h = (row_grown pairs more whole others row p w (kept row h)).0

faults_kept : (pairs more : List Pair) (whole others : List Fault) (rows : List Row) → Extends pairs more → Extends whole others
    → AreKept pairs whole rows → map (fault_at more others) rows ≡ map (fault_at pairs whole) rows
faults_kept pairs more whole others rows p w kept =
    grown_by pairs more whole others rows p w
    (each (IsKept pairs whole) rows rows (recursion_from_All (Contains rows) rows (All-contains_itself rows)) kept)

-- a row more
pub row_added : (pairs more : List Pair) (whole others : List Fault) (rows all : List Row) (row : Row)
    → Extends pairs more → Extends whole others → AreKept pairs whole rows → IsKept more others row → all ≡ rows ++ row ∷ []
    → AreKept more others all
row_added pairs more whole others rows all row p w kept one is r h =
    ⊎_elim (λ a. rows_kept pairs more whole others rows p w kept r a) (λ e. subst (IsKept more others) e one)
    (Contains-push_cases rows row r (subst (λ (l : List Row). Contains l r) is h))

pub fault_added : (pairs more : List Pair) (whole others : List Fault) (rows all : List Row) (row : Row) (fault : Fault)
    → Extends pairs more → Extends whole others → AreKept pairs whole rows → fault_at more others row ≡ fault
    → all ≡ rows ++ row ∷ [] → map (fault_at more others) all ≡ map (fault_at pairs whole) rows ++ fault ∷ []
fault_added pairs more whole others rows all row fault p w kept one is =
    ap (map (fault_at more others)) is ∙ map-append (fault_at more others) rows (row ∷ [])
    ∙ ap (λ (fs : List Fault). fs ++ fault_at more others row ∷ []) (faults_kept pairs more whole others rows p w kept)
    ∙ ap (λ (f : Fault). map (fault_at pairs whole) rows ++ f ∷ []) one

pub unchanged : {X : Type 0} (xs : List X) → Extends xs xs
unchanged xs = record { rest = []; is = sym (append-nil xs) }

-- a fault that is kept whole
pub whole_kept : (pairs : List Pair) (whole others : List Fault) (fault : Fault) (row : Row) → row.kind ≡ kinds.Whole
    → whole_index row ≡ length whole → others ≡ whole ++ fault ∷ []
    → IsKept pairs others row × (fault_at pairs others row ≡ fault)
whole_kept pairs whole others fault row kind index is = (
  subst (IsKeptBy pairs others row) (sym kind) (subst (λ (l : List Fault). whole_index row < length l) (sym is)
      (subst (λ (n : ℕ). whole_index row < n) (sym (length-append whole (fault ∷ []))) (omega (arith, index)))),
  ap (fault_by pairs others row) kind ∙ ap (λ (l : List Fault). get_or l (whole_index row) no_fault) is
      ∙ ap (λ (n : ℕ). get_or (whole ++ fault ∷ []) n no_fault) index ∙ get_or-append_seam whole fault [] no_fault,
)

pub searched_as : (pairs : List Pair) (lent whole : List Fault) (lent_rows rows : List Row) (wanted key : List ℕ) (faults : List Fault)
    (r : Result ℕ ℕ) → lent ≡ whole → lent_rows ≡ rows → wanted ≡ key → map (fault_at pairs whole) rows ≡ faults
    → IsSearchInRange r (length lent_rows) → IsBinarySearchResult (λ row. slice_cmp nat_cmp (row_key lent row) wanted) lent_rows r
    → IsBinarySearchResult (λ f. slice_cmp nat_cmp (key_of f) key) faults r
searched_as pairs lent whole lent_rows rows wanted key faults r e f k v bound at =
    subst (λ (fs : List Fault). IsBinarySearchResult (λ g. slice_cmp nat_cmp (key_of g) key) fs r) v
    (subst (λ (m : List ℕ). IsBinarySearchResult (λ g. slice_cmp nat_cmp (key_of g) m) (map (fault_at pairs whole) rows) r) k
    (rows_searched pairs whole rows wanted r (subst (λ (rs : List Row). IsSearchInRange r (length rs)) f bound)
    (subst (λ (rs : List Row). IsBinarySearchResult (λ row. slice_cmp nat_cmp (row_key whole row) wanted) rs r) f
    (subst (λ (w : List Fault). IsBinarySearchResult (λ row. slice_cmp nat_cmp (row_key w row) wanted) lent_rows r) e at))))
