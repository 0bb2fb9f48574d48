use Rattle.std.proofs.Common.{◌≡◌, ℕ, Bool, drop, ◌+◌, List, Some, sym, ap, ◌∙◌, arith, not}
use Rattle.std.specs.Prelude.{◌||◌, slice_get}
use Rattle.std.specs.List.{list_any}
use Rattle.std.proofs.lemmas.List.{drop_all}
use Rattle.env_index.specs.Words.{GroupEntry}
use Rattle.answered_sets.specs.Judged.{is_fa}
use Rattle.set_answers.proofs.Taking.{drop_one_more}
use Rattle.set_answers.proofs.counting.has_other.Goals as goal

abbrev any_other : List GroupEntry → Bool
any_other gs = list_any (λ g. not (is_fa g)) gs

with_next : (gs : List GroupEntry) (i : ℕ) (g : GroupEntry) (b : Bool) → slice_get gs i ≡ Some g → is_fa g ≡ b
    → any_other (drop i gs) ≡ (not b || any_other (drop (i + 1) gs))
with_next gs i g b there is = ap any_other (drop_one_more gs i g there) ∙ ap (λ (c : Bool). not c || any_other (drop (i + 1) gs)) is

pub returns-then-not-is_fa : goal.returns-then-not-is_fa
returns-then-not-is_fa c =
    sym (with_next c.args.interchange.now.content.groups c.loop-index.index c.group.result _ c.group.ensures
    (sym c.is_fa.ensures ∙ c.if-not-is_fa.true))
    ∙ c.loop-index.invariant

pub loop-index-preserved : goal.loop-index-preserved
loop-index-preserved c =
    sym (with_next c.args.interchange.now.content.groups c.loop-index.index c.group.result _ c.group.ensures
    (sym c.is_fa.ensures ∙ c.if-not-is_fa.false))
    ∙ c.loop-index.invariant

pub returns : goal.returns
returns c =
    let gs : List GroupEntry = c.args.interchange.now.content.groups in
    sym (ap any_other (drop_all c.loop-index.index gs (omega (arith, c.loop-index-test.false, c.group_count-index-end.ensures))))
    ∙ c.loop-index.invariant
