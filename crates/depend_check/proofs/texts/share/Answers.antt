use Rattle.std.proofs.Common.{◌∙◌}
use Rattle.depend_check.proofs.Knowing.{listed_either_way}
use Rattle.depend_check.proofs.texts.share.Goals as goal

pub returns-then-len-as_slice : goal.returns-then-len-as_slice
returns-then-len-as_slice c = c.are_any_listed.ensures ∙ listed_either_way c.args.texts.now c.args.codes.now
