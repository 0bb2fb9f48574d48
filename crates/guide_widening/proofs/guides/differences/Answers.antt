use Rattle.std.proofs.Common.{ap, ◌∙◌}
use Rattle.std.specs.List.{list_all}
use Rattle.guide_tree.specs.Words.{guide_of}
use Rattle.guide_widening.specs.Changes.{is_widening}
use Rattle.guide_widening.proofs.GuidesAgree.{guides_agree}
use Rattle.guide_widening.proofs.guides.differences.Goals as goal

pub returns-clause-wider : goal.returns-clause-wider
returns-clause-wider c =
    ap (list_all is_widening) c.in_ok-found.ensures ∙ (guides_agree (guide_of c.args.old.now) (guide_of c.args.new.now)).is
