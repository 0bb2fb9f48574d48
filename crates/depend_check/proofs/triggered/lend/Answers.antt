use Rattle.std.proofs.Common.{◌++◌, ◌∷◌, [], List, take, ap, sym, ◌∙◌}
use Rattle.std.proofs.lemmas.List.{map-append, take_more}
use Rattle.guide_tree.specs.declared.rows.Dependency.{Dependency}
use Rattle.depend_check.specs.Uses.{lent}
use Rattle.depend_check.proofs.triggered.lend.Goals as goal
use denote.Ref.{Bor}

pub loop-i-preserved : goal.loop-i-preserved
loop-i-preserved c =
    ap lent c.in_ok-push.ensures.items
    ∙ map-append (λ (x : Bor Dependency). x.now) c.loop-i.all.items _
    ∙ ap (λ (l : List Dependency). l ++ c.index-depends-i.result ∷ []) c.loop-i.invariant
    ∙ ap (λ (x : Dependency). take c.loop-i.i c.args.depends.now ++ x ∷ []) c.index-depends-i.is
    ∙ sym (take_more c.args.depends.now c.loop-i.i c.index-depends-i.result c.loop-i-test.true)
