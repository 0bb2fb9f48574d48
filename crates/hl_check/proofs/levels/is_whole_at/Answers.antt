use Rattle.std.proofs.Common.{sym, ap, subst, ◌∙◌, ◌+◌, decimal, Some, List, ℕ, ◌≡◌}
use Rattle.std.proofs.lemmas.Bool.{OnTrue_from, OnTrue_at}
use Rattle.guide_tree.specs.Words.{Segment}
use Rattle.hl_check.specs.Hierarchy.{hierarchical_id_of, parent_id_of, level_of, child_of}
use Rattle.hl_check.specs.Levels.{IsPlaced, HasChildren, LooksWhole}
use Rattle.hl_check.specs.Names.{Names}
use Rattle.hl_check.proofs.Levelled.{same_text}
use Rattle.hl_check.proofs.Naming.{named_there}
use Rattle.hl_check.proofs.levels.is_whole_at.Goals as goal

pub returns : goal.returns
returns c =
    let rule = c.args.rule.now in
    let d = c.args.delims in
    let k = c.args.count in
    let one = c.index-names-count.result in
    OnTrue_from c.has_children.result _ (λ h hls s are there.
    let n = named_there c.args.names.now hls are k one c.index-names-count.is c.requires in
    let at : Some n.hl ≡ Some s = sym n.there ∙ there in
    let is : n.hl ≡ s = cc in
    let own : Segment = n.hl in
    let number : c.number.result.now ≡ hierarchical_id_of own = c.number.ensures ∙ sym (ap (λ (x : Names). x.number) n.names) in
    let again : c.number-2.result.now ≡ hierarchical_id_of own = c.number-2.ensures ∙ sym (ap (λ (x : Names). x.number) n.names) in
    let parent : c.parent.result.now ≡ parent_id_of own = c.parent.ensures ∙ sym (ap (λ (x : Names). x.parent) n.names) in
    let level : c.level.result.now ≡ level_of own = c.level.ensures ∙ sym (ap (λ (x : Names). x.level) n.names) in
    let child : c.child.result.now ≡ child_of own = c.child.ensures ∙ sym (ap (λ (x : Names). x.child) n.names) in
    subst (LooksWhole rule d hls k) is (record {
      number = sym number ∙ same_text c.number.result.now (decimal (k + 1)) (sym c.is_count.ensures ∙ c.if-not-is_count.false);
      placed = subst (λ (t : List ℕ). IsPlaced rule d hls k t (level_of own)) parent
          (subst (λ (t : List ℕ). IsPlaced rule d hls k c.parent.result.now t) level
          (OnTrue_at c.if-not-is_placed.false c.is_placed.ensures hls are));
      children = subst (λ (t : List ℕ). HasChildren d hls k t (child_of own)) again
          (subst (λ (t : List ℕ). HasChildren d hls k c.number-2.result.now t) child (OnTrue_at h c.has_children.ensures hls are));
    }))
