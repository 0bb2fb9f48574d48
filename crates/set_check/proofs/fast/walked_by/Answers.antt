use Rattle.std.proofs.Common.{Option, Bor, refl, sym, subst}
use Rattle.std.specs.Prelude.{IfOk, IfSome, Result}
use Rattle.std.specs.Option.{option_copied}
use Rattle.std.proofs.lemmas.Option.{IfSome_then}
use Rattle.std.proofs.lemmas.Result.{IfOk-weaker}
use Rattle.x12_segs.specs.Words.{span_views}
use Rattle.guide_tree.specs.declared.rows.GuideRows.{GuideRows}
use Rattle.guide_tree.specs.Words.{guide_of}
use Rattle.set_walk.specs.declared.walked.WalkedSet.{WalkedSet}
use Rattle.set_check.specs.Checked.{guide_tree_of}
use Rattle.set_check.specs.SetFaults.{AreSetFaults}
use Rattle.set_check.specs.SetParts.{set_parts}
use Rattle.set_check.proofs.WalkedSets.{walked_ends, walked_faults}
use Rattle.set_check.proofs.Spans.{read_of}
use Rattle.set_check.proofs.fast.walked_by.Goals as goal

-- what follows for a walked set, where there is one
given : {E : Type 0} (found : Result (Option WalkedSet) E) {P Q : WalkedSet → Type 0} → IfOk found (λ o. IfSome o P)
    → ((w : WalkedSet) → P w → Q w) → IfOk found (λ o. IfSome o Q)
given found is then =
    IfOk-weaker found (λ (o : Option WalkedSet). IfSome o _) (λ (o : Option WalkedSet). IfSome o _) (λ o h. IfSome_then o h then) is

pub returns-clause-ends : goal.returns-clause-ends
returns-clause-ends c =
    let set = c.args.set.now in
    given c.walk_set.result c.walk_set.ensures.walked
    (walked_ends (guide_of c.in-Some.fast.now) set.delims set.closed (span_views c.args.text.now set))

pub returns-clause-faults : goal.returns-clause-faults
returns-clause-faults c =
    let g = guide_of c.in-Some.fast.now in
    let set = c.args.set.now in
    let segs = span_views c.args.text.now set in
    given c.walk_set.result c.walk_set.ensures.walked (λ w walked.
    subst (λ (o : Option (Bor GuideRows)). AreSetFaults (guide_tree_of (option_copied o)) (set_parts c.args.text.now set) w.faults)
    (sym c.in-Some.is) (walked_faults g set.delims set.closed segs w (read_of c.args.text.now set segs c.requires refl) walked))
