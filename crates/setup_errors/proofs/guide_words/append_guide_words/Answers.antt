use Rattle.std.proofs.Common.{◌≡◌, ◌∙◌, ◌++◌, ℕ, List, ap, refl, subst, sym}
use Rattle.std.proofs.lemmas.Result.{on_ok_weaker}
use Rattle.guide_tree.specs.Words.{nodes_view, numbered}
use Rattle.guide_tree.specs.declared.fault.GuideFault.{GuideFault}
use Rattle.guide_tree.specs.declared.fault.GuideFault.TheVariants as own
use Rattle.setup_errors.specs.GuideWords.{IsGuideSaid}
use Rattle.setup_errors.proofs.Texts.{two_texts}
use Rattle.setup_errors.proofs.guide_words.append_guide_words.Goals as goal

pub returns-in_ok-append_own-in-Ambiguous : goal.returns-in_ok-append_own-in-Ambiguous
returns-in_ok-append_own-in-Ambiguous c =
    let nodes = numbered 1 (nodes_view c.args.nodes.now) in
    let rivals = own.Ambiguous c.in-Ambiguous.first c.in-Ambiguous.second in
    let common = c.in_ok-common-in-Ambiguous.common.items in
    let before = c.in_ok-append_own-in-Ambiguous.ensures.0 in
    let text = before ++ common in
    let said : IsGuideSaid nodes rivals text = (before, common, c.in_ok-common-in-Ambiguous.ensures, refl) in
    let said_of : IsGuideSaid nodes c.args.fault.now text =
    subst (λ (f : GuideFault). IsGuideSaid nodes f text) (sym c.in-Ambiguous.is) said in
    on_ok_weaker c.append.result (λ added. (
      text,
      said_of,
      two_texts c.args.out.now.items before common c.append_own.new.out.items c.append.new.out.items
          c.in_ok-append_own-in-Ambiguous.ensures.1
          (added ∙ ap (λ (x : List ℕ). c.append_own.new.out.items ++ x) c.as_slice.ensures.value),
    )) c.append.ensures
