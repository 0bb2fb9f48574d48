-- What is known of an open interchange where the bytes before it are given up.
use Rattle.std.proofs.Common.{◌≡◌, ℕ, ◌+◌, ◌-◌, ◌<◌, ◌≤◌, List, [], ◌∷◌, ◌++◌, Bool, true, false, Option, Some, None, cond, option_map}
use Rattle.std.proofs.Common.{length, map, take, drop, get_or, refl, sym, ap, subst, ◌∙◌, arith}
use Rattle.std.proofs.lemmas.List.{append_assoc, drop-drop, length-drop, length-take-le, take-append-drop}
use Rattle.x12_bytes.specs.Bytes.{is_line_end}
use Rattle.x12_bytes.specs.Header.{header_delims, header_at}
use Rattle.x12_bytes.specs.HeaderTest.{is_head}
use Rattle.x12_bytes.specs.declared.delims.Delims.{Delims}
use Rattle.x12_segs.specs.Words.{moved_by, Seg, rest_from, segs_from, SegValue, view_of, kind_of}
use Rattle.env_index.specs.Words.{behind, ends_interchange}
use Rattle.env_index.proofs.ForAbove.{head_within}
use Rattle.whole_interchanges.specs.Begun.{is_begun, may_begin}
use Rattle.whole_interchanges.specs.Batches.{end_by, end_from}
use Rattle.whole_interchanges.specs.Moved.{moved_view}
use Rattle.whole_interchanges.proofs.Moving.{drop_past, head_past, header_past, kind_moved, rest_past, segs_past, views_moved}
use Rattle.whole_interchanges.specs.Open.{IsOpen}
use Rattle.whole_interchanges.specs.Scouting.{IsInside}
use Rattle.whole_interchanges.specs.declared.scout.Inside.{Inside}

abbrev further : ℕ → Option ℕ → Option ℕ
further by None = None
further by (Some e) = Some (by + e)

may_past : (before text : List ℕ) (q : ℕ) → may_begin (before ++ text) (length before + q) ≡ may_begin text q
may_past before text q = ap is_begun (drop_past before text q)

end_by_past : (before text : List ℕ) (xs : List SegValue) (rest : Seg)
    → end_by (before ++ text) (map (moved_view (length before)) xs) (moved_by (length before) rest)
    ≡ further (length before) (end_by text xs rest)
end_by_past before text [] rest =
    ap (λ (b : Bool). cond b (Some (length before + rest.start)) None) (head_past before text rest.start)
    ∙ by_test (is_head text rest.start)
  where
    by_test : (b : Bool) → cond b (Some (length before + rest.start)) None ≡ further (length before) (cond b (Some rest.start) None)
    by_test true = refl
    by_test false = refl
end_by_past before text (x ∷ xs) rest =
    let by : ℕ = length before in
    let sum : by + x.start + length x.bytes + 1 ≡ by + (x.start + length x.bytes + 1) = omega arith in
    let tests : Bool → Bool → Bool → ℕ → Option ℕ → Option ℕ = λ h m e n more.
    cond h (Some (by + x.start)) (cond m None (cond e (Some n) more)) in
    ap (λ (b : Bool). tests b (may_begin (before ++ text) (by + x.start)) (ends_interchange (kind_of (moved_view by x))) (behind
    (moved_view by x))
    (end_by (before ++ text) (map (moved_view by) xs) (moved_by by rest))) (head_past before text x.start)
    ∙ ap (λ (b : Bool). tests (is_head text x.start) b (ends_interchange (kind_of (moved_view by x))) (behind (moved_view by x))
    (end_by (before ++ text) (map (moved_view by) xs) (moved_by by rest))) (may_past before text x.start)
    ∙ ap (λ k. tests (is_head text x.start) (may_begin text x.start) (ends_interchange k) (behind (moved_view by x))
    (end_by (before ++ text) (map (moved_view by) xs) (moved_by by rest))) (kind_moved by x)
    ∙ ap (λ (n : ℕ). tests (is_head text x.start) (may_begin text x.start) (ends_interchange (kind_of x)) n
    (end_by (before ++ text) (map (moved_view by) xs) (moved_by by rest))) sum
    ∙ ap (tests (is_head text x.start) (may_begin text x.start) (ends_interchange (kind_of x)) (by + behind x))
    (end_by_past before text xs rest)
    ∙ by_tests (is_head text x.start) (may_begin text x.start) (ends_interchange (kind_of x))
  where
    by_tests : (h m e : Bool) → cond h (Some (length before + x.start)) (cond m None (cond e (Some (length before + behind x))
        (further (length before) (end_by text xs rest))))
        ≡ further (length before) (cond h (Some x.start) (cond m None (cond e (Some (behind x)) (end_by text xs rest))))
    by_tests true m e = refl
    by_tests false true e = refl
    by_tests false false true = refl
    by_tests false false false = refl

end_past : (before text : List ℕ) (d : Delims) (from : ℕ)
    → end_from (before ++ text) d (length before + from) ≡ further (length before) (end_from text d from)
end_past before text d from =
    let by : ℕ = length before in
    ap (λ (xs : List Seg). end_by (before ++ text) (map (view_of d) xs) (rest_from (before ++ text) d.terminator (by + from)))
    (segs_past before text d.terminator from)
    ∙ ap (λ (xs : List SegValue). end_by (before ++ text) xs (rest_from (before ++ text) d.terminator (by + from)))
    (views_moved by d (segs_from text d.terminator from))
    ∙ ap (end_by (before ++ text) (map (moved_view by) (map (view_of d) (segs_from text d.terminator from))))
    (rest_past before text d.terminator from)
    ∙ end_by_past before text (map (view_of d) (segs_from text d.terminator from)) (rest_from text d.terminator from)

further_is_one : (by : ℕ) (a b : Option ℕ) → further by a ≡ further by b → a ≡ b
further_is_one by None None is = refl
further_is_one by None (Some y) is = absurd (let no : ⊥ = (cc) in no)
further_is_one by (Some x) None is = absurd (let no : ⊥ = (cc) in no)
further_is_one by (Some x) (Some y) is =
    let sums : by + x ≡ by + y = (cc) in
    ap (λ (n : ℕ). Some n) (let same : x ≡ y = omega arith in same)

pub forgets : (read : List ℕ) (at : ℕ) (i j : Inside) → j.delims ≡ i.delims → j.part.at ≡ i.part.at - at → j.part.lead ≡ i.part.lead - at
    → j.part.seen ≡ i.part.seen - at → IsInside read at i → IsInside (drop at read) 0 j
forgets read at i j delims at_is lead_is seen_is inside =
    let fits : at + 106 ≤ length read = head_within read at inside.head in
    let before : List ℕ = take at read in
    let left : List ℕ = drop at read in
    let size : length before ≡ at = length-take-le at read (omega arith) in
    let whole : before ++ left ≡ read = take-append-drop at read in
    let room : length left ≡ length read - at = length-drop at read in
    let zero_at : length before + 0 ≡ at = omega arith in
    let o : IsOpen read i.delims.terminator i.part.at i.part.lead i.part.seen = inside.open_part in
    let order : i.part.at ≤ i.part.lead = o.order in
    let later : i.part.lead ≤ i.part.seen = o.later in
    let within : i.part.seen ≤ length read = o.within in
    let past : at + 106 ≤ i.part.at = inside.behind in
    let header : header_at left 0 ≡ header_at read at =
    sym (header_past before left 0) ∙ ap (λ (r : List ℕ). header_at r (length before + 0)) whole ∙ ap (header_at read) zero_at in
    let dropped : drop j.part.at left ≡ drop i.part.at read =
    drop-drop j.part.at at read ∙ ap (λ (k : ℕ). drop k read) (let sum : at + j.part.at ≡ i.part.at = omega arith in sum) in
    let same_end : (more : List ℕ) (a b : ℕ) → a ≡ at + b → end_from (read ++ more) i.delims a
    ≡ further at (end_from (left ++ more) i.delims b) =
    λ more a b is.
    ap (λ (r : List ℕ). end_from (r ++ more) i.delims a) (sym whole)
    ∙ ap (λ (r : List ℕ). end_from r i.delims a) (append_assoc before left more)
    ∙ ap (end_from (before ++ (left ++ more)) i.delims) (let sum : a ≡ length before + b = omega (arith, is, size) in sum)
    ∙ end_past before (left ++ more) i.delims b
    ∙ ap (λ (k : ℕ). further k (end_from (left ++ more) i.delims b)) size in
    record {
      head = sym (head_past before left 0) ∙ ap (λ (r : List ℕ). is_head r (length before + 0)) whole ∙ ap (is_head read) zero_at
          ∙ inside.head;
      delims = delims ∙ inside.delims ∙ ap header_delims (sym header);
      behind = omega arith;
      goes_on = λ more.
          (let both : end_from (left ++ more) i.delims (0 + 106) ≡ end_from (left ++ more) i.delims j.part.at =
          further_is_one at (end_from (left ++ more) i.delims (0 + 106)) (end_from (left ++ more) i.delims j.part.at)
          (sym (same_end more (at + 106) (0 + 106) (omega arith)) ∙ inside.goes_on more
          ∙ same_end more i.part.at j.part.at (omega arith)) in
          subst (λ (d : Delims). end_from (left ++ more) d (0 + 106) ≡ end_from (left ++ more) d j.part.at) (sym delims) both);
      open_part = record {
        order = omega arith;
        later = omega arith;
        within = omega arith;
        line_ends = λ k lt. ap (λ (l : List ℕ). is_line_end (get_or l k 0)) dropped ∙ o.line_ends k (omega (arith, lt));
        none = λ k lt. ap (λ (l : List ℕ). Rattle.std.proofs.Common.nat_eq (get_or l k 0) j.delims.terminator) dropped
            ∙ ap (λ (d : Delims). Rattle.std.proofs.Common.nat_eq (get_or (drop i.part.at read) k 0) d.terminator) delims
            ∙ o.none k (omega (arith, lt));
      };
    }
