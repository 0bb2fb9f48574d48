use Rattle.std.proofs.Common.{◌++◌}
use Rattle.std.specs.Prelude.{codes}
use Rattle.std.proofs.lemmas.Result.{on_ok_weaker}
use Rattle.guide_page.proofs.Growing.{two}
use Rattle.std.specs.Prelude.{decimal}
use Rattle.guide_page.proofs.words.append_number_words.Goals as goal

pub returns : goal.returns
returns c =
    on_ok_weaker c.append_fixed-3.result (λ adds. two c.args.out.now.items c.append_fixed.new.out.items c.append_fixed-3.new.out.items
    (codes "number, decimals implied: ") ((decimal c.args.places) ++ ((codes " (N") ++ ((decimal c.args.places) ++ (codes ")"))))
    c.in_ok-append_fixed.ensures (two c.append_fixed.new.out.items c.append_small.new.out.items c.append_fixed-3.new.out.items (decimal
    c.args.places) ((codes " (N") ++ ((decimal c.args.places) ++ (codes ")")))
    c.in_ok-append_small.ensures (two c.append_small.new.out.items c.append_fixed-2.new.out.items c.append_fixed-3.new.out.items (codes
    " (N") ((decimal c.args.places) ++ (codes ")"))
    c.in_ok-append_fixed-2.ensures (two c.append_fixed-2.new.out.items c.append_small-2.new.out.items c.append_fixed-3.new.out.items
    (decimal c.args.places) (codes ")")
    c.in_ok-append_small-2.ensures adds))))
    c.append_fixed-3.ensures
