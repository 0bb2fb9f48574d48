-- How what is held of a file ends, the file ends.
use Rattle.std.proofs.Common.{◌≡◌, ◌∙◌, ℕ, ◌+◌, List, [], ◌∷◌, ◌++◌, Bool, true, false, cond, Option, Some, None}
use Rattle.std.proofs.Common.{length, drop, map, refl, sym, ap, subst, arith, inl, inr}
use Rattle.std.proofs.lemmas.List.{append_assoc, length-append}
use Rattle.x12_bytes.specs.Header.{header_at, header_delims}
use Rattle.x12_bytes.specs.HeaderTest.{is_head}
use Rattle.x12_bytes.specs.declared.delims.Delims.{Delims}
use Rattle.x12_segs.specs.Words.{Seg, SegValue, kind_of, moved_by, rest_from, segs_from, view_of}
use Rattle.env_index.specs.Words.{Extent, behind, ends_interchange}
use Rattle.whole_interchanges.specs.Begun.{is_begun, may_begin}
use Rattle.whole_interchanges.specs.Batches.{ChainUpTo, end_by, end_from, whole_end}
use Rattle.whole_interchanges.specs.Moved.{moved_extent, moved_view}
use Rattle.whole_interchanges.proofs.ForAbove.{chain_joined, chain_past, drop_past, head_past, header_past, kind_moved, rest_past}
use Rattle.whole_interchanges.proofs.ForAbove.{segs_past}
use Rattle.whole_interchanges.proofs.ForAbove.{views_moved}
use Rattle.gather_files.specs.Gathered.{GoesUpTo, IsWholeBefore}
use Rattle.gather_files.proofs.Parts.{goes_up}
use Rattle.gather_files.specs.EndsByLayers.{EndsByLayers, EndsInHeaderByLayers, EndsOpenByLayers}
use Rattle.gather_files.specs.Trailer.{open_end}
use Rattle.gather_files.specs.declared.gather.End.{End}
use Rattle.gather_files.specs.declared.gather.End.TheVariants as end
use Rattle.gather_files.proofs.LastFound.{no_end}

module _ (front read : List ℕ) where
  abbrev by : ℕ
  by = length front

  abbrev text : List ℕ
  text = front ++ read

  -- the end of an interchange stays unknown where bytes stand before it
  by_rest : (start : ℕ) (b : Bool) → cond b (Some start) None ≡ None → cond b (Some (by + start)) None ≡ None
  by_rest start true is = absurd (no_end start (Some start) refl is)
  by_rest start false is = refl

  by_tests : (x : SegValue) (h m e : Bool) (here there : Option ℕ)
      → cond h (Some x.start) (cond m None (cond e (Some (behind x)) here)) ≡ None → (here ≡ None → there ≡ None)
      → cond h (Some (by + x.start)) (cond m None (cond e (Some (behind (moved_view by x))) there)) ≡ None
  by_tests x true m e here there is more = absurd (no_end x.start (Some x.start) refl is)
  by_tests x false true e here there is more = refl
  by_tests x false false true here there is more = absurd (no_end (behind x) (Some (behind x)) refl is)
  by_tests x false false false here there is more = more is

  may_past : (q : ℕ) → may_begin text (by + q) ≡ may_begin read q
  may_past q = ap is_begun (drop_past front read q)

  end_by_past : (xs : List SegValue) (rest : Seg) → end_by read xs rest ≡ None
      → end_by text (map (moved_view by) xs) (moved_by by rest) ≡ None
  end_by_past [] rest is =
      ap (λ (b : Bool). cond b (Some (by + rest.start)) None) (head_past front read rest.start)
      ∙ by_rest rest.start (is_head read rest.start) is
  end_by_past (x ∷ xs) rest is =
      let there : Option ℕ = end_by text (map (moved_view by) xs) (moved_by by rest) in
      let at : Option ℕ = Some (by + x.start) in
      let ended : Option ℕ = Some (behind (moved_view by x)) in
      let e : Bool = ends_interchange (kind_of (moved_view by x)) in
      ap (λ (b : Bool). cond b at (cond (may_begin text (by + x.start)) None (cond e ended there))) (head_past front read x.start)
      ∙ ap (λ (b : Bool). cond (is_head read x.start) at (cond b None (cond e ended there))) (may_past x.start)
      ∙ ap (λ k. cond (is_head read x.start) at (cond (may_begin read x.start) None (cond (ends_interchange k) ended there)))
      (kind_moved by x)
      ∙ by_tests x (is_head read x.start) (may_begin read x.start) (ends_interchange (kind_of x)) (end_by read xs rest) there is
      (end_by_past xs rest)

  end_from_past : (d : Delims) (from : ℕ) → end_from read d from ≡ None → end_from text d (by + from) ≡ None
  end_from_past d from is =
      let t : ℕ = d.terminator in
      ap (λ (ss : List Seg). end_by text (map (view_of d) ss) (rest_from text t (by + from))) (segs_past front read t from)
      ∙ ap (λ (xs : List SegValue). end_by text xs (rest_from text t (by + from))) (views_moved by d (segs_from read t from))
      ∙ ap (end_by text (map (moved_view by) (map (view_of d) (segs_from read t from)))) (rest_past front read t from)
      ∙ end_by_past (map (view_of d) (segs_from read t from)) (rest_from read t from) is

  whole_end_past : (at : ℕ) → whole_end read at ≡ None → whole_end text (by + at) ≡ None
  whole_end_past at is =
      let sum : by + at + 106 ≡ by + (at + 106) = omega arith in
      ap (λ (h : List ℕ). end_from text (header_delims h) (by + at + 106)) (header_past front read at)
      ∙ ap (end_from text (header_delims (header_at read at))) sum
      ∙ end_from_past (header_delims (header_at read at)) (at + 106) is

  -- where none is open in what is held, none is open in the file
  module _ (n : ℕ) (whole : IsWholeBefore front read n) where
    goes_up_to : (at : ℕ) → GoesUpTo read at → GoesUpTo text (by + at)
    goes_up_to at goes = λ more.
        (let first = whole more in
        let last = goes more in
        let place : by + 0 ≡ by = omega arith in
        let moved : List Extent = map (moved_extent by) last.0 in
        let chain : ChainUpTo (front ++ (read ++ more)) by (by + at) moved =
        subst (λ (k : ℕ). ChainUpTo (front ++ (read ++ more)) k (by + at) moved) place
        (chain_past front (read ++ more) 0 at last.0 last.1) in
        let both : ChainUpTo (front ++ (read ++ more)) 0 (by + at) (first.0 ++ moved) =
        chain_joined (front ++ (read ++ more)) 0 by (by + at) first.0 moved first.1 chain in (
          first.0 ++ moved,
          subst (λ (xs : List ℕ). ChainUpTo xs 0 (by + at) (first.0 ++ moved)) (sym (append_assoc front read more)) both,
        ))

    open_on : (e : End) → EndsOpenByLayers read e → EndsOpenByLayers text e
    open_on e o = record {
      at = by + o.at;
      passes = goes_up_to o.at o.passes;
      begins = head_past front read o.at ∙ o.begins;
      unended = whole_end_past o.at o.unended;
      is = o.is ∙ ap (open_end (header_delims (header_at read o.at))) (sym (drop_past front read o.at))
          ∙ ap (λ (h : List ℕ). open_end (header_delims h) (drop (by + o.at) text)) (sym (header_past front read o.at));
    }

    header_on : EndsInHeaderByLayers read → EndsInHeaderByLayers text
    header_on h = record {
      at = by + h.at;
      passes = goes_up_to h.at h.passes;
      within = omega (arith, h.within, length-append front read);
      begun = may_past h.at ∙ h.begun;
    }

pub ends_on : (front file closed : List ℕ) (n count : ℕ) (e : End) → IsWholeBefore front file n → IsWholeBefore front closed n
    → EndsByLayers file closed count e → EndsByLayers (front ++ file) (front ++ closed) count e
ends_on front file closed n count end.Whole first second is = (is.0, goes_up front closed n second is.1)
ends_on front file closed n count end.Mended first second is = (is.0, goes_up front closed n second is.1)
ends_on front file closed n count end.CutOff first second is = open_on front closed n second end.CutOff is
ends_on front file closed n count (end.OtherSeparator s) first second is = open_on front closed n second (end.OtherSeparator s) is
ends_on front file closed n count end.CutInHeader first second (inl is) = inl (header_on front file n first is)
ends_on front file closed n count end.CutInHeader first second (inr is) = inr (header_on front closed n second is)
