use Rattle.std.proofs.Common.{ℕ, List, sym, subst}
use Rattle.whole_interchanges.specs.Scouting.{Stands}
use Rattle.whole_interchanges.proofs.ForAbove.{stands_on}
use Rattle.trial_streams.proofs.windows.ends.Goals as goal

pub advance-ahead-requires : goal.advance-ahead-requires
advance-ahead-requires c =
    let more = c.in_ok-is_full.ensures.read.1 in
    subst (λ (l : List ℕ). Stands l c.loop.scout.at c.loop.scout.inside) (sym c.bytes.ensures)
    (subst (λ (l : List ℕ). Stands l c.loop.scout.at c.loop.scout.inside) (sym more.bytes)
    (stands_on c.loop.held.bytes more.more c.loop.scout.at c.loop.scout.inside c.loop.invariant))

pub loop-preserved : goal.loop-preserved
loop-preserved c =
    let ahead : Stands c.fill.new.self.bytes c.advance-ahead.result.scout.at c.advance-ahead.result.scout.inside =
    subst (λ (l : List ℕ). Stands l c.advance-ahead.result.scout.at c.advance-ahead.result.scout.inside) c.bytes.ensures
    c.advance-ahead.ensures.stands in
    let left : Stands c.give_up.new.self.bytes 0 c.forget-scout.result.inside =
    subst (λ (l : List ℕ). Stands l 0 c.forget-scout.result.inside) (sym c.give_up.ensures.bytes)
    (c.forget-scout.ensures.stands c.fill.new.self.bytes ahead) in
    subst (λ (k : ℕ). Stands c.give_up.new.self.bytes k c.forget-scout.result.inside) (sym c.forget-scout.ensures.at) left
