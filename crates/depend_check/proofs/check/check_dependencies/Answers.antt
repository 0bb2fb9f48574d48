use Rattle.std.proofs.Common.{◌≡◌, ◌↔◌, ◌+◌, ◌∙◌, length, map, rules}
use Rattle.std.specs.List.{Contains}
use Rattle.std.proofs.lemmas.Result.{IfOk-weaker}
use Rattle.x12_bytes.specs.declared.delims.Delims.{Delims}
use Rattle.x12_segs.specs.Words.{elements_of}
use Rattle.guide_tree.specs.declared.rows.GuideRows.{GuideRows}
use Rattle.guide_tree.specs.Words.{guide_of}
use Rattle.loop_match.specs.Given.{place_in}
use Rattle.depend_check.specs.Dependencies.{IsDependencyFault}
use Rattle.std.proofs.Common.{sym, subst}
use Rattle.hub_kinds.specs.Words.{AreRising}
use Rattle.depend_check.proofs.Keyed.{none_rising}
use Rattle.depend_check.proofs.check.check_dependencies.Goals as goal

pub returns-then-is_empty-clause-rising : goal.returns-then-is_empty-clause-rising
returns-then-is_empty-clause-rising c = subst AreRising (sym c.new.ensures) none_rising

pub returns-in-None-clause-rising : goal.returns-in-None-clause-rising
returns-in-None-clause-rising c = subst AreRising (sym c.new-in-None.ensures) none_rising

pub returns-in-Some-clause-faults : goal.returns-in-Some-clause-faults
returns-in-Some-clause-faults c =
    IfOk-weaker c.check_by_rows.result _ _ (λ v h d all f.
    let e : c.delims.result ≡ d = c.delims.ensures ∙ (let q : c.in-Some.first.now.delims ≡ d = search (rules, all) in q) in
    let r : c.rows-rows.result.now ≡ c.args.guide.now = c.rows-rows.ensures.same in
    subst (λ (g : GuideRows). Contains v f ↔ IsDependencyFault (guide_of g) d (map elements_of c.args.segs.now)
    (map place_in c.args.placing.now.given) (length c.args.segs.now + 2) f) r
    (subst (λ (x : Delims). Contains v f ↔ IsDependencyFault (guide_of c.rows-rows.result.now) x (map elements_of c.args.segs.now)
    (map place_in c.args.placing.now.given) (length c.args.segs.now + 2) f) e (h f))) c.check_by_rows.ensures.faults
