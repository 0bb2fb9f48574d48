use Rattle.std.proofs.Common.{ℕ, List, ◌<◌, ◌++◌, ◌∙◌, ap, sym, subst}
use Rattle.std.specs.List.{All}
use Rattle.elem_rules.specs.Clean.{is_set}
use Rattle.elem_rules.specs.Conditions.{broken_at}
use Rattle.elem_rules.specs.Marks.{AreBits, excluded_in}
use Rattle.elem_rules.proofs.Agreeing.{broken_within}
use Rattle.elem_rules.proofs.Marks.{not_exclusion, unchanged}
use Rattle.elem_rules.proofs.broken.with_condition.Goals as goal

pub marked_all-requires : goal.marked_all-requires
marked_all-requires c =
    let r = c.args.condition.now in
    subst (λ (l : List ℕ). All (λ p. p < 64) l) (sym (c.as_slice.ensures.value ∙ c.in_ok-at.ensures))
    (broken_within (is_set c.args.present) r.relation (λ p. p < 64) r.positions c.requires)

pub marked_all-requires-in-Paired : goal.marked_all-requires-in-Paired
marked_all-requires-in-Paired c =
    let r = c.args.condition.now in
    subst (λ (l : List ℕ). All (λ p. p < 64) l) (sym (c.as_slice-in-Paired.ensures.value ∙ c.in_ok-at.ensures))
    (broken_within (is_set c.args.present) r.relation (λ p. p < 64) r.positions c.requires)

pub returns-in-Exclusion-clause-excluded : goal.returns-in-Exclusion-clause-excluded
returns-in-Exclusion-clause-excluded c listed are =
    let r = c.args.condition.now in
    subst (λ (l : List ℕ). AreBits c.marked_all.result (listed ++ l))
    (c.as_slice.ensures.value ∙ c.in_ok-at.ensures
    ∙ ap (λ of. excluded_in of (broken_at (is_set c.args.present) r.relation r.positions)) (sym c.in-Exclusion.is))
    (c.marked_all.ensures listed are)

pub returns : goal.returns
returns c =
    let r = c.args.condition.now in
    let at = broken_at (is_set c.args.present) r.relation r.positions in
    let other = not_exclusion r.relation at c.in-Paired.is in
    record {
      missing = λ listed are. subst (λ (l : List ℕ). AreBits c.marked_all-in-Paired.result (listed ++ l))
          (c.as_slice-in-Paired.ensures.value ∙ c.in_ok-at.ensures ∙ other.0) (c.marked_all-in-Paired.ensures listed are);
      excluded = λ listed are. unchanged c.args.broken.excluded listed _ other.1 are;
    }
