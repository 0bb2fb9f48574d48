use Rattle.std.proofs.Common.{◌∙◌, ℕ, take, ap}
use Rattle.std.proofs.lemmas.List.{take_min}
use Rattle.gather_files.specs.Causes.{cause_by}
use Rattle.gather_files.proofs.cause.cause_of.Goals as goal

pub returns : goal.returns
returns c =
    c.cause_by.ensures ∙ ap cause_by (ap (λ (n : ℕ). take n c.args.file.now) c.min.ensures ∙ take_min 106 c.args.file.now)
