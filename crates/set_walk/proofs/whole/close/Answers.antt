use Rattle.std.proofs.Common.{◌≡◌, ◌∙◌, [], refl, rules, subst}
use Rattle.std.specs.Prelude.{is_some}
use Rattle.std.proofs.lemmas.Bool.{OnTrue_at}
use Rattle.guide_tree.specs.declared.rows.GuideRows.{GuideRows}
use Rattle.guide_tree.specs.Words.{guide_of, IsWellFormed}
use Rattle.set_walk.specs.Depends.{AreRulesKept}
use Rattle.set_walk.proofs.Seeing.{seen_whole}
use Rattle.set_walk.proofs.whole.close.Goals as goal

pub returns-clause-walked : goal.returns-clause-walked
returns-clause-walked c done seen =
    let g = guide_of c.args.fast.now in
    let set = c.args.set.now in
    let well : IsWellFormed g =
    subst (λ (rows : GuideRows). IsWellFormed (guide_of rows)) c.guide.ensures c.rows.ensures.accepted.well_formed in
    let closed : is_some c.args.seen.trailer ≡ set.closed = search rules in
    let rules : AreRulesKept g set.delims c.args.seen.kept =
    subst (λ (rows : GuideRows). AreRulesKept (guide_of rows) set.delims c.args.seen.kept)
    (c.rows.ensures.same ∙ c.guide.ensures)
    (OnTrue_at c.if-not-branch.false c.in_ok-are_rules_kept.ensures.kept (seen.kept []).kept.names) in
    seen_whole g set.delims set.closed c.args.header c.args.seen done
    (record {
      ends = record { header = c.args.header; segments = c.count_with_ends.result; trailer = c.args.seen.trailer };
      faults = c.in_ok-faults.faults;
    })
    well rules seen closed refl refl c.count_with_ends.ensures c.in_ok-faults.ensures
