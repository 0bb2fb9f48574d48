use Rattle.std.proofs.Common.{arith, sym}
use Rattle.std.proofs.lemmas.List.{length-take-le, take_all}
use Rattle.night_page.proofs.todo.first_causes.Goals as goal

pub slice_bounds-result-end : goal.slice_bounds-result-end
slice_bounds-result-end c = sym (length-take-le 100 c.args.causes.now (omega (arith, c.if-causes-gt-MOST_CAUSES.true)))

pub returns-else-causes-gt-MOST_CAUSES : goal.returns-else-causes-gt-MOST_CAUSES
returns-else-causes-gt-MOST_CAUSES c = sym (take_all 100 c.args.causes.now c.if-causes-gt-MOST_CAUSES.false)
