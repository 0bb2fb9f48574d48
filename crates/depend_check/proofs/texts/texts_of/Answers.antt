use Rattle.std.proofs.lemmas.Result.{IfOk-weaker}
use Rattle.loop_match.specs.Viewed.{placed_views}
use Rattle.depend_check.proofs.Knowing.{known_of}
use Rattle.depend_check.proofs.texts.texts_of.Goals as goal

pub returns : goal.returns
returns c =
    IfOk-weaker c.texts_in.result _ _ (λ texts knows. known_of texts c.args.label.now c.args.at (placed_views c.uses_of.result.now)
    (placed_views c.args.placed.now) c.uses_of.ensures knows) c.texts_in.ensures
