-- A run of segments, read alone, is the same run.
use Rattle.std.proofs.Common.{ℕ, ◌≡◌, ◌≤◌, ◌<◌, ◌+◌, ◌-◌, List, [], ◌∷◌, ◌++◌, length, get_or, drop, take, slice_range, sym, ap, subst}
use Rattle.std.proofs.Common.{◌∙◌, arith}
use Rattle.std.proofs.lemmas.List.{append_cancel_right, drop-take}
use Rattle.x12_segs.specs.Parts.{parts}
use Rattle.x12_segs.specs.Segs.{Seg, segs_of, segs_from}
use Rattle.x12_segs.specs.Runs.{StandsAlone, end_of}
use Rattle.x12_segs.proofs.CutLemmas.{segs_from-cut, segs_of-moved}
use Rattle.x12_segs.proofs.FirstLemmas.{IsFirstSeg, first_seg}

-- after the segments before a run
skipped : (before run : List Seg) (text : List ℕ) (t from : ℕ) → from ≤ length text → segs_from text t from ≡ before ++ run
    → (next : ℕ) × (next ≤ length text) × (segs_from text t next ≡ run)
skipped [] run text t from fits is = (from, fits, is)
skipped (seg ∷ before) run text t from fits is =
    let first : IsFirstSeg text t from seg (before ++ run) = first_seg (length text - from) text t from seg (before ++ run)
    (omega arith) fits is in
    let end : seg.start + length seg.bytes < length text = first.end in
    skipped before run text t (seg.start + length seg.bytes + 1) (omega arith) first.behind

-- where a run ends
record IsRunEnd (text : List ℕ) (t from : ℕ) (run behind : List Seg) : Type 0 where
  above : from < end_of run
  within : end_of run ≤ length text
  terminated : get_or text (end_of run - 1) 0 ≡ t
  behind_it : segs_from text t (end_of run) ≡ behind

run_end : (seg : Seg) (run behind : List Seg) (text : List ℕ) (t from : ℕ) → from ≤ length text
    → segs_from text t from ≡ seg ∷ (run ++ behind) → IsRunEnd text t from (seg ∷ run) behind
run_end seg [] behind text t from fits is =
    let first : IsFirstSeg text t from seg behind = first_seg (length text - from) text t from seg behind (omega arith) fits is in
    let start : from ≤ seg.start = first.start in
    let end : seg.start + length seg.bytes < length text = first.end in
    let last : seg.start + length seg.bytes + 1 - 1 ≡ seg.start + length seg.bytes = omega arith in
    record { above = omega arith; within = omega arith; terminated = rw last first.terminated; behind_it = first.behind }
run_end seg (next ∷ run) behind text t from fits is =
    let first : IsFirstSeg text t from seg (next ∷ (run ++ behind)) = first_seg (length text - from) text t from seg
    (next ∷ (run ++ behind)) (omega arith) fits is in
    let start : from ≤ seg.start = first.start in
    let end : seg.start + length seg.bytes < length text = first.end in
    let later : IsRunEnd text t (seg.start + length seg.bytes + 1) (next ∷ run) behind = run_end next run behind text t
    (seg.start + length seg.bytes + 1) (omega arith) first.behind in
    let above : seg.start + length seg.bytes + 1 < end_of (next ∷ run) = later.above in
    record { above = omega arith; within = later.within; terminated = later.terminated; behind_it = later.behind_it }

-- a stretch of a text, cut at its end first
stretch_of : (text : List ℕ) (start end : ℕ) → start ≤ end → drop start (take end text) ≡ slice_range text start end
stretch_of text start end le =
    let long : end ≡ start + (end - start) = omega arith in
    ap (λ (k : ℕ). drop start (take k text)) long ∙ drop-take start (end - start) text

pub stands_alone : (before run behind : List Seg) (text : List ℕ) (t from : ℕ) → from ≤ length text
    → segs_from text t from ≡ before ++ (run ++ behind) → 0 < length run → StandsAlone text t run
stands_alone before [] behind text t from fits is some = absurd (omega (arith, some))
stands_alone before (seg ∷ run) behind text t from fits is some =
    let w = skipped before (seg ∷ (run ++ behind)) text t from fits is in
    let first : IsFirstSeg text t w.0 seg (run ++ behind) = first_seg (length text - w.0) text t w.0 seg (run ++ behind)
    (omega arith) w.1 w.2 in
    let at : ℕ = seg.start in
    let first_end : at + length seg.bytes < length text = first.end in
    let ended : IsRunEnd text t at (seg ∷ run) behind = run_end seg run behind text t at (omega arith) first.alone in
    let end : ℕ = end_of (seg ∷ run) in
    let above : at < end = ended.above in
    let within : end ≤ length text = ended.within in
    let n : ℕ = end - 1 - at in
    let last : at + n ≡ end - 1 = omega arith in
    let behind_last : at + n + 1 ≡ end = omega arith in
    let cut = segs_from-cut text t at n (omega arith) (ap (λ k. get_or text k 0) last ∙ ended.terminated) in
    let cut_out : segs_from text t at ≡ segs_of at (parts t (slice_range text at end)) ++ segs_from text t end =
    subst (λ k. segs_from text t at ≡ segs_of at (parts t (slice_range text at k)) ++ segs_from text t k) behind_last cut in
    let alone : List Seg = segs_of at (parts t (slice_range text at end)) in
    let both : (seg ∷ run) ++ behind ≡ alone ++ behind = sym first.alone ∙ cut_out ∙ ap (λ (l : List Seg). alone ++ l) ended.behind_it in
    let same : seg ∷ run ≡ alone = append_cancel_right (seg ∷ run) alone behind both in
    let from_zero : at ≡ at + 0 = omega arith in
    record {
      within = within;
      stretch = same ∙ ap (λ (bytes : List ℕ). segs_of at (parts t bytes)) (sym (stretch_of text at end (omega arith)));
      segs = same ∙ ap (λ k. segs_of k (parts t (slice_range text at end))) from_zero
          ∙ segs_of-moved at 0 (parts t (slice_range text at end));
    }
