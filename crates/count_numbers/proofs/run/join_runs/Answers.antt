use Rattle.std.proofs.Common.{◌≡◌, ◌++◌, [], ◌∷◌, ◌==◌, false, true, length, List, refl, sym, ap, ◌∙◌, arith}
use Rattle.std.specs.Prelude.{slice_index_or}
use Rattle.std.specs.List.{remove}
use Rattle.count_numbers.specs.declared.run.Run.{Run}
use Rattle.count_numbers.specs.Runs.{join_runs}
use Rattle.count_numbers.specs.Joining.{join_first, join_nil}
use Rattle.count_numbers.proofs.run.join_runs.Goals as goal

none_left : (back : List Run) → (length back == 0) ≡ true → back ≡ []
none_left [] h = refl
none_left (b ∷ bs) h = grind arith

joined_behind : (front middle new back rest : List Run) (first : Run) → (length back == 0) ≡ false
    → first ≡ slice_index_or back 0 first → rest ≡ remove back 0 → middle ≡ join_runs front (first ∷ []) → new ≡ middle ++ rest
    → new ≡ join_runs front back
joined_behind front middle new [] rest first h fe re me ne = grind arith
joined_behind front middle new (b ∷ bs) rest first h fe re me ne =
    ne ∙ ap (λ (m : List Run). m ++ rest) me ∙ ap (λ (r : List Run). join_runs front (first ∷ []) ++ r) re
    ∙ join_first front first bs ∙ ap (λ (f : Run). join_runs front (f ∷ bs)) fe

pub returns-then-is_empty : goal.returns-then-is_empty
returns-then-is_empty c =
    let none = ap (λ (rs : List Run). length rs == 0) (sym c.as_slice.ensures.value) ∙ sym c.is_empty.ensures ∙ c.if-is_empty.true in
    sym (ap (join_runs c.args.front.items) (none_left c.args.back.items none) ∙ join_nil c.args.front.items)

pub returns : goal.returns
returns c =
    let some = ap (λ (rs : List Run). length rs == 0) (sym c.as_slice.ensures.value) ∙ sym c.is_empty.ensures ∙ c.if-is_empty.false in
    joined_behind c.args.front.items c.push_run.new.runs.items _ c.args.back.items _ c.remove-first.result some
    c.remove-first.ensures.value c.remove-first.ensures.items c.in_ok-push_run.ensures.pushed c.in_ok-append.ensures.items
