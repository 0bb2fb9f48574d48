use Rattle.std.proofs.Common.{◌≡◌, ℕ, List, Some, refl, take, sym, subst}
use Rattle.std.specs.Prelude.{slice_get}
use Rattle.std.proofs.lemmas.List.{take_all}
use Rattle.std.proofs.lemmas.Option.{slice_get_read}
use Rattle.set_answers.specs.Known.{HasExactly}
use Rattle.set_answers.proofs.Among.{has_more}
use Rattle.set_answers.proofs.Growing.{take_one_more}
use Rattle.set_answers.proofs.seen.ordered.Goals as goal

pub loop-index-preserved : goal.loop-index-preserved
loop-index-preserved g c =
    let all : List g.row.K.Denot = c.args.numbers.now in
    let i : ℕ = c.loop-index.index in
    let number : g.row.K.Denot = c.index-numbers-index.result in
    let there : slice_get all i ≡ Some number = slice_get_read all _ i number refl c.loop-index-test.true c.index-numbers-index.is in
    subst (HasExactly g.K.Ord.cmp c.insert.new.self) (sym (take_one_more all i number there))
    (has_more g.K.Ord.cmp g.met.K.Ord.total c.loop-index.ordered c.insert.new.self number (take i all)
    c.in_ok-insert.ensures.updates.0 c.loop-index.invariant)

pub returns : goal.returns
returns g c =
    subst (HasExactly g.K.Ord.cmp c.loop-index.ordered) (take_all c.loop-index.index c.args.numbers.now c.loop-index-test.false)
    c.loop-index.invariant
