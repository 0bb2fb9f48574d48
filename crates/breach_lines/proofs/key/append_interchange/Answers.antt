use Rattle.std.proofs.Common.{ℕ, List, ◌++◌, ◌∙◌, ap}
use Rattle.std.specs.Prelude.{codes}
use Rattle.std.proofs.lemmas.Result.{on_ok_weaker}
use Rattle.breach_lines.specs.Keys.{hub_of, interchange_of, sender_of}
use Rattle.breach_lines.proofs.Chain.{two}
use Rattle.breach_lines.proofs.key.append_interchange.Goals as goal

pub returns : goal.returns
returns c =
    let key : List ℕ = c.args.key.now in
    let old : List ℕ = c.args.out.now.items in
    on_ok_weaker c.append_ends.result
    (two old c.append_after.new.out.items c.append_ends.new.out.items (codes " of interchange " ++ interchange_of key)
    (codes " from " ++ (sender_of key ++ (codes " to " ++ hub_of key)))
    (c.in_ok-append_after.ensures ∙ ap (λ (l : List ℕ). old ++ (codes " of interchange " ++ l)) c.part.ensures))
    c.append_ends.ensures
