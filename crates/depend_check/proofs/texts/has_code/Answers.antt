use Rattle.std.proofs.Common.{◌∙◌}
use Rattle.depend_check.proofs.Knowing.{triggered_by}
use Rattle.depend_check.proofs.texts.has_code.Goals as goal

pub returns : goal.returns
returns c ps knows =
    c.share.ensures ∙ triggered_by c.args.texts.now c.args.dependency.now ps knows
