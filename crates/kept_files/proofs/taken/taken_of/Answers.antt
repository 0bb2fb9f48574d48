use Rattle.std.proofs.Common.{◌∙◌, List, ℕ, ap, arith, map}
use Rattle.std.proofs.lemmas.List.{take_all}
use Rattle.kept_files.specs.Taken.{interchange_in}
use Rattle.kept_files.proofs.Cutting.{map_read}
use Rattle.kept_files.proofs.taken.taken_of.Goals as goal
use denote.Ref.{Bor}

pub returns : goal.returns
returns c =
    c.loop-i.invariant
    ∙ ap (map (λ (key : Bor (List ℕ)). interchange_in key.now)) (take_all c.loop-i.i c.in_ok-keys.keys.items (omega (arith)))
    ∙ map_read interchange_in c.in_ok-keys.keys.items ∙ ap (map interchange_in) c.in_ok-keys.ensures
