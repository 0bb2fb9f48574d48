use Rattle.std.proofs.Common.{◌+◌, ℕ, List, take, sym, subst, refl}
use Rattle.whole_interchanges.specs.Scouting.{Advances, Stands}
use Rattle.night_stream.proofs.Steps.{can_go_on, read_batch}
use Rattle.night_stream.specs.Carried.{HasWorked}
use Rattle.night_stream.proofs.stream.go_on.Goals as goal

pub add_batch-requires-clause-room : goal.add_batch-requires-clause-room
add_batch-requires-clause-room g c κs within =
    can_go_on c.args.setup.now c.args.at.now c.requires.read.0 c.requires.read.1 c.args.held.now c.args.reading c.requires.read.2

pub returns-clause-read : goal.returns-clause-read
returns-clause-read g c first now is =
    let ahead : ℕ = c.in_ok-advanced.advanced.scout.at in
    let advances : Advances c.args.held.now.bytes c.args.reading.scout.at c.in_ok-advanced.advanced =
    subst (λ (l : List ℕ). Advances l c.args.reading.scout.at c.in_ok-advanced.advanced) c.bytes.ensures c.in_ok-advanced.ensures in
    let worked : HasWorked (take ahead c.args.held.now.bytes) c.args.setup.now c.args.at.now c.args.reading.base c.args.reading.carried
    c.in_ok-carried.carried =
    subst (λ (l : List ℕ). HasWorked (take ahead l) c.args.setup.now c.args.at.now c.args.reading.base c.args.reading.carried
    c.in_ok-carried.carried) c.bytes-2.ensures c.in_ok-carried.ensures.worked in
    let stands : Stands c.give_up.new.self.bytes 0 c.forget.result.inside =
    subst (λ (l : List ℕ). Stands l 0 c.forget.result.inside) (sym c.give_up.ensures.bytes)
    (c.forget.ensures.stands c.args.held.now.bytes advances.stands) in
    read_batch c.args.setup.now c.args.at.now first now c.args.held.now c.give_up.new.self c.args.reading
    (record { scout = c.forget.result; base = c.args.reading.base + ahead; carried = c.in_ok-carried.carried })
    c.in_ok-advanced.advanced is advances worked c.give_up.ensures.bytes c.give_up.ensures.total refl c.forget.ensures.at stands
