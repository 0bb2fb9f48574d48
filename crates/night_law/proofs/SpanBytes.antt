-- The bytes of the segments of a set: some, with no line end in front and no terminator; and which of them stand between ST and SE.
use Rattle.std.proofs.Common.{◌≡◌, ℕ, suc, ◌+◌, ◌-◌, ◌<◌, ◌==◌, Bool, true, false, cond, List, [], ◌∷◌, ◌++◌, Option, Some, None, length}
use Rattle.std.proofs.Common.{drop, take, refl, sym, ap, subst, ◌∙◌, arith, length-append, true≢false}
use Rattle.std.specs.Prelude.{if◌then◌else◌, is_some}
use Rattle.std.specs.List.{All, list_all, prefix_len}
use Rattle.std.proofs.lemmas.Bool.{and_parts, eq-eqb, eqb-true, false_from_ne_true}
use Rattle.std.proofs.lemmas.List.Elements.{All-append, All-cons, All-head, All-map, All-nil, All-tail}
use Rattle.x12_bytes.specs.Bytes.{is_line_end}
use Rattle.x12_bytes.specs.declared.delims.Delims.{Delims}
use Rattle.x12_segs.specs.Words.{may_stand_in_set, kind_of, parts, Seg, part_at, segs_of, without_line_ends, span_segs, span_views}
use Rattle.x12_segs.specs.Words.{SegValue}
use Rattle.x12_segs.specs.Words.{view_of}
use Rattle.x12_segs.specs.declared.set_span.SetSpan.{SetSpan}
use Rattle.env_index.specs.declared.entry.SetEnvelope.{SetEnvelope}
use Rattle.env_index.specs.Words.{Set, option_items, set_items, span_of, set_entry}
use Rattle.mailbox.specs.Deliveries.{inner_in}
use Rattle.answered_sets.specs.Judged.{PlacedValue, delims_in}
use Rattle.night_law.proofs.Bodies.{Lacks}
use Rattle.night_law.proofs.Sources.{IsThere}
use Rattle.night_law.proofs.Splitting.{parts_lack}

pub record IsRaw (t : ℕ) (bytes : List ℕ) : Type 0 where
  pub some : 0 < length bytes
  pub first : prefix_len is_line_end bytes ≡ 0
  pub lacks : Lacks t bytes

-- a part without the line ends before it, where a byte is left
rest_raw : (t : ℕ) (part : List ℕ) → Lacks t part → (prefix_len is_line_end part == length part) ≡ false
    → IsRaw t (drop (prefix_len is_line_end part) part)
rest_raw t [] lacks left = absurd (true≢false left)
rest_raw t (b ∷ bs) lacks left =
    by (rest_raw t bs (All-tail (λ x. (x == t) ≡ false) b bs lacks)) (is_line_end b) refl left
  where
    lead : ℕ
    lead = prefix_len is_line_end bs

    by : ((lead == length bs) ≡ false → IsRaw t (drop lead bs)) → (c : Bool) → is_line_end b ≡ c
        → (cond c (1 + lead) 0 == length (b ∷ bs)) ≡ false → IsRaw t (drop (cond c (1 + lead) 0) (b ∷ bs))
    by rest true is off =
        let left : (lead == length bs) ≡ false = false_from_ne_true (lead == length bs) (λ same.
        true≢false (sym (eq-eqb (1 + lead) (length (b ∷ bs)) (omega (arith, eqb-true lead (length bs) same))) ∙ off)) in
        let one : suc lead ≡ 1 + lead = omega arith in
        subst (λ (n : ℕ). IsRaw t (drop n (b ∷ bs))) one (rest left)
    by rest false is off = record { some = omega arith; first = ap (λ (c : Bool). cond c (1 + lead) 0) is; lacks = lacks }

part_raw : (t place : ℕ) (part : List ℕ) → Lacks t part → All (λ (seg : Seg). IsRaw t seg.bytes) (part_at place part)
part_raw t place part lacks = by (prefix_len is_line_end part == length part) refl
  where
    P : Seg → Type 0
    P seg = IsRaw t seg.bytes

    by : (c : Bool) → (prefix_len is_line_end part == length part) ≡ c → All P (if c then [] else without_line_ends place part ∷ [])
    by true is = All-nil P
    by false is = All-cons P (without_line_ends place part) [] (rest_raw t part lacks is) (All-nil P)

segs_raw : (t place : ℕ) (list : List (List ℕ)) → All (Lacks t) list → All (λ (seg : Seg). IsRaw t seg.bytes) (segs_of place list)
segs_raw t place [] all = All-nil (λ (seg : Seg). IsRaw t seg.bytes)
segs_raw t place (rest ∷ []) all = All-nil (λ (seg : Seg). IsRaw t seg.bytes)
segs_raw t place (part ∷ next ∷ more) all =
    All-append (λ (seg : Seg). IsRaw t seg.bytes) (part_at place part) (segs_of (place + length part + 1) (next ∷ more))
    (part_raw t place part (All-head (Lacks t) part (next ∷ more) all))
    (segs_raw t (place + length part + 1) (next ∷ more) (All-tail (Lacks t) part (next ∷ more) all))

-- a segment that is read by these delimiters
abbrev pub IsRawView : Delims → SegValue → Type 0
IsRawView d seg = (seg.delims ≡ d) × IsRaw d.terminator seg.bytes

views_raw : (text : List ℕ) (span : SetSpan) → All (IsRawView span.delims) (span_views text span)
views_raw text span =
    let d : Delims = span.delims in
    let raw : All (λ (seg : Seg). IsRaw d.terminator seg.bytes) (span_segs text span) =
    segs_raw d.terminator span.start (parts d.terminator (drop span.start (take span.end text)))
    (parts_lack (λ b. b == d.terminator) (drop span.start (take span.end text))) in
    All-map (IsRawView d) (view_of d) (span_segs text span) (with_delims (span_segs text span) raw)
  where
    with_delims : (segs : List Seg) → All (λ (seg : Seg). IsRaw span.delims.terminator seg.bytes) segs
        → All (λ (seg : Seg). IsRawView span.delims (view_of span.delims seg)) segs
    with_delims [] all = All-nil (λ (seg : Seg). IsRawView span.delims (view_of span.delims seg))
    with_delims (seg ∷ segs) all =
        let P : Seg → Type 0 = λ seg. IsRaw span.delims.terminator seg.bytes in
        All-cons (λ (seg : Seg). IsRawView span.delims (view_of span.delims seg)) seg segs (refl, All-head P seg segs all)
        (with_delims segs (All-tail P seg segs all))

pub all_front : {A : Type 0} (P : A → Type 0) (xs ys : List A) → All P (xs ++ ys) → All P xs
all_front P [] ys all = All-nil P
all_front P (x ∷ xs) ys all = All-cons P x xs (All-head P x (xs ++ ys) all) (all_front P xs ys (All-tail P x (xs ++ ys) all))

pub each_passes : {A : Type 0} (p : A → Bool) (xs : List A) → list_all p xs ≡ true → All (λ x. p x ≡ true) xs
each_passes p [] all = All-nil (λ x. p x ≡ true)
each_passes p (x ∷ xs) all =
    let both = and_parts (p x) (list_all p xs) all in All-cons (λ x. p x ≡ true) x xs both.0 (each_passes p xs both.1)

-- the segments of a set
module _ (text : List ℕ) (d : Delims) (set : SetEnvelope) (there : IsThere text d set) where
  items_raw : All (IsRawView d) (set_items there.tree)
  items_raw = subst (All (IsRawView d)) there.alone.segs (views_raw text (span_of d (set_entry there.tree)))

  pub header_raw : IsRawView d set.header
  header_raw =
      subst (λ (s : SetEnvelope). IsRawView d s.header) (sym there.is)
      (All-head (IsRawView d) there.tree.header (there.tree.inner ++ option_items there.tree.trailer) items_raw)

  pub inner_raw : All (IsRawView d) there.tree.inner
  inner_raw =
      all_front (IsRawView d) there.tree.inner (option_items there.tree.trailer)
      (All-tail (IsRawView d) there.tree.header (there.tree.inner ++ option_items there.tree.trailer) items_raw)

  pub inner_kinds : All (λ seg. may_stand_in_set (kind_of seg) ≡ true) there.tree.inner
  inner_kinds = each_passes (λ seg. may_stand_in_set (kind_of seg)) there.tree.inner there.inner

take_front : {A : Type 0} (xs ys : List A) → take (length xs) (xs ++ ys) ≡ xs
take_front [] ys = refl
take_front {A} (x ∷ xs) ys = ap (λ (zs : List A). x ∷ zs) (take_front xs ys)

-- those between ST and SE are its tree's
counted : (tree : Set SegValue) → take (if is_some tree.trailer then length (set_items tree) - 2 else length (set_items tree) - 1)
    (drop 1 (set_items tree)) ≡ tree.inner
counted tree = by tree.trailer
  where
    by : (o : Option SegValue) → take (if is_some o then suc (length (tree.inner ++ option_items o)) - 2
        else suc (length (tree.inner ++ option_items o)) - 1) (tree.inner ++ option_items o) ≡ tree.inner
    by None =
        let count : suc (length (tree.inner ++ [])) - 1 ≡ length tree.inner = omega (arith, length-append tree.inner []) in
        ap (λ (n : ℕ). take n (tree.inner ++ [])) count ∙ take_front tree.inner []
    by (Some x) =
        let count : suc (length (tree.inner ++ x ∷ [])) - 2 ≡ length tree.inner = omega (arith, length-append tree.inner (x ∷ [])) in
        ap (λ (n : ℕ). take n (tree.inner ++ x ∷ [])) count ∙ take_front tree.inner (x ∷ [])

pub inner_is : (text : List ℕ) (p : PlacedValue) → p.interchange.text ≡ text → (there : IsThere text (delims_in p) p.set)
    → inner_in p ≡ there.tree.inner
inner_is text p same there =
    let d : Delims = delims_in p in
    let segs : SetEnvelope → List ℕ → List SegValue = λ s t. span_views t (span_of d s) in
    let count : SetEnvelope → ℕ = λ s. (if is_some s.trailer then s.segments - 2 else s.segments - 1) in
    ap (λ (t : List ℕ). take (count p.set) (drop 1 (segs p.set t))) same
    ∙ ap (λ (s : SetEnvelope). take (count s) (drop 1 (segs s text))) there.is
    ∙ ap (λ (xs : List SegValue). take (count (set_entry there.tree)) (drop 1 xs)) there.alone.segs
    ∙ counted there.tree
