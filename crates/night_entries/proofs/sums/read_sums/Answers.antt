use Rattle.std.proofs.Common.{◌≡◌, ◌<◌, ◌+◌, ◌-◌, ◌++◌, ◌∷◌, [], ◌∙◌, ℕ, List, length, take, drop, sym, ap, arith, append-nil}
use Rattle.std.proofs.Common.{◌==◌, None, Some, false, length-drop, refl, subst}
use Rattle.std.specs.Prelude.{slice_index}
use Rattle.std.proofs.lemmas.List.{take_all}
use Rattle.std.proofs.lemmas.List.Elements.{All-push, All-same}
use Rattle.std.specs.List.{flat_map, position}
use Rattle.std.proofs.lemmas.Grind.{flat_map-append}
use Rattle.night_entries.specs.Files.{sum_line}
use Rattle.night_entries.specs.declared.files.NamedSum.{NamedSum}
use Rattle.night_entries.specs.ReadFault.{IsSumFault}
use Rattle.night_entries.specs.Good.{is_sum_line}
use Rattle.night_entries.specs.Refused.{HasBadSum}
use Rattle.night_entries.proofs.Reading.{same_fault}
use Rattle.night_entries.proofs.BadSums.{open_sum, sum_fails}
use Rattle.night_entries.proofs.Summing.{line_found, line_more}
use Rattle.night_entries.proofs.sums.read_sums.Goals as goal

pub loop-at-preserved : goal.loop-at-preserved
loop-at-preserved c =
    let text : List ℕ = c.args.text.now in
    let at : ℕ = c.loop-at.at in
    let end : ℕ = c.in-Some.end in
    let sums : List NamedSum = c.loop-at.sums.items in
    let rest : List ℕ = take (length text - at) (drop at text) in
    let long : length (drop at text) ≡ length text - at = length-drop at text in
    let whole : rest ≡ drop at text = take_all (length text - at) (drop at text) (omega (arith, long)) in
    let found = line_found rest end (sym c.in-Some.ensures) in
    let low : end < length (drop at text) = subst (λ (l : List ℕ). end < length l) whole found.0 in
    let feed : slice_index (drop at text) end ≡ 10 = subst (λ (l : List ℕ). slice_index l end ≡ 10) whole found.1 in
    let more : at + end - at ≡ end = omega (arith) in
    record {
      within = omega (arith, low, long);
      so_far = ap (flat_map sum_line) c.in_ok-push.ensures.items ∙ flat_map-append sum_line sums (c.in_ok-sum_in.field-0 ∷ [])
          ∙ ap (λ (l : List ℕ). l ++ (sum_line c.in_ok-sum_in.field-0 ++ [])) c.loop-at.invariant.so_far
          ∙ ap (λ (l : List ℕ). take at text ++ l) (append-nil (sum_line c.in_ok-sum_in.field-0) ∙ c.in_ok-sum_in.ensures.line)
          ∙ sym (line_more text at end (take (at + end - at) (drop at text)) (ap (λ (n : ℕ). take n (drop at text)) more) low feed);
      sums = All-same (λ (line : NamedSum). length line.sum ≡ 64) c.push.new.self.items (sums ++ c.in_ok-sum_in.field-0 ∷ [])
          c.in_ok-push.ensures.items
          (All-push (λ (line : NamedSum). length line.sum ≡ 64) sums c.in_ok-sum_in.field-0 c.loop-at.invariant.sums
          c.in_ok-sum_in.ensures.sum);
    }

pub returns-in_default-clause-refused : goal.returns-in_default-clause-refused
returns-in_default-clause-refused c =
    let text : List ℕ = c.args.text.now in
    let at : ℕ = c.loop-at.at in
    let long : length (drop at text) ≡ length text - at = length-drop at text in
    let whole : take (length text - at) (drop at text) ≡ drop at text = take_all (length text - at) (drop at text) (omega (arith, long)) in
    let more : 0 < length (drop at text) = omega (arith, long, c.loop-at-test.true) in (
      refl,
      open_sum text at c.loop-at.sums.items c.loop-at.invariant.so_far more
          (subst (λ (l : List ℕ). position (λ byte. byte == 10) l ≡ None) whole (sym c.line_end.ensures ∙ c.in_default.is)),
    )

pub returns-in_err-sum_in-clause-refused : goal.returns-in_err-sum_in-clause-refused
returns-in_err-sum_in-clause-refused c =
    let text : List ℕ = c.args.text.now in
    let at : ℕ = c.loop-at.at in
    let end : ℕ = c.in-Some.end in
    let long : length (drop at text) ≡ length text - at = length-drop at text in
    let whole : take (length text - at) (drop at text) ≡ drop at text = take_all (length text - at) (drop at text) (omega (arith, long)) in
    let more : at + end - at ≡ end = omega (arith) in
    same_fault c.from_residual.result c.in_err-sum_in.field-0.0 (IsSumFault (HasBadSum text)) c.from_residual.ensures.1
    (sum_fails text at end c.loop-at.sums.items c.loop-at.invariant.so_far
    (subst (λ (l : List ℕ). position (λ byte. byte == 10) l ≡ Some end) whole (sym c.in-Some.ensures)) c.in_err-sum_in.field-0.0
    (subst (λ (n : ℕ). IsSumFault (is_sum_line (take n (drop at text)) ≡ false) c.in_err-sum_in.field-0.0) more
    c.in_err-sum_in.ensures.refused))
