use Rattle.std.proofs.Common.{ap, inr, sym, ◌∙◌, ◌≡◌, arith, codes, Some, List, ℕ}
use Rattle.std.specs.Str.{bytes_eq}
use Rattle.std.proofs.lemmas.Bool.{OnTrue_from, not-false}
use Rattle.hl_check.specs.Hierarchy.{is_listed, hierarchical_id_of, level_of, child_of}
use Rattle.hl_check.specs.Names.{Names}
use Rattle.hl_check.proofs.Levelled.{same_text}
use Rattle.hl_check.proofs.Naming.{named_there}
use Rattle.hl_check.proofs.levels.is_placed.Goals as goal

pub returns : goal.returns
returns c =
    let early = c.if-place-count.false in
    let l = c.requires in
    let above = c.index-names-place.result in
    OnTrue_from c.is_listed-2.result _ (λ h hls are.
    let n = named_there c.args.names.now hls are c.place_of-place.result above c.index-names-place.is (omega (arith, early, l)) in
    let number : hierarchical_id_of n.hl ≡ c.number.result.now = ap (λ (x : Names). x.number) n.names ∙ sym c.number.ensures in
    let level : level_of n.hl ≡ c.level.result.now = ap (λ (x : Names). x.level) n.names ∙ sym c.level.ensures in
    let child : child_of n.hl ≡ c.child.result.now = ap (λ (x : Names). x.child) n.names ∙ sym c.child.ensures in
    inr (record {
      place = c.place_of-place.result;
      above = n.hl;
      there = n.there;
      earlier = omega (arith, early);
      named = number ∙ same_text c.number.result.now c.args.parent.now
          (not-false (bytes_eq c.number.result.now c.args.parent.now) (sym c.ne.ensures ∙ c.if-ne.false));
      filled = sym c.is_filled.ensures ∙ c.if-not-is_filled.false;
      told = ap (λ (t : List ℕ). bytes_eq t (codes "0")) child
          ∙ ap (bytes_eq c.child.result.now) (sym c.as_slice.ensures) ∙ sym c.eq.ensures ∙ c.if-eq.false;
      listed = ap (λ (t : List ℕ). is_listed c.args.rule.now (Some t) c.args.level.now) level ∙ sym c.is_listed-2.ensures ∙ h;
    }))
