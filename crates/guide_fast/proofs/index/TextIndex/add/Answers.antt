use Rattle.std.proofs.Common.{◌++◌, ◌∷◌, [], List, ℕ, ap, ◌∙◌}
use Rattle.guide_fast.specs.Listed.{kept_places}
use Rattle.guide_fast.proofs.Listing.{knows_more}
use Rattle.guide_fast.proofs.index.TextIndex.add.Goals as goal

pub returns : goal.returns
returns c texts n knows =
    knows_more c.args.self.now.places c.remove.new.self c.insert.new.self c.args.text c.push.new.self c.args.at texts n
    (c.in_ok-push.ensures.items ∙ ap (λ (l : List ℕ). l ++ c.args.at ∷ []) (c.list_of-all.ensures ∙ ap kept_places c.remove.ensures.value))
    c.remove.ensures.updates.0 c.in_ok-insert.ensures.updates.0 knows
