use Rattle.night_shelf.specs.Shelf.{Changes, IsNamed, IsNamedOnDisk, IsSettled, KeepsNights, MayName}
use Rattle.night_shelf.proofs.Changing.{always, both, named_settled, named_stopped, settled_stopped, when_ok}
use Rattle.night_shelf.proofs.keeping.give_name.Goals as goal

pub returns-clause-kept : goal.returns-clause-kept
returns-clause-kept g c =
    let name = c.args.name.now in
    let a = g.S.Shelf.place c.args.shelf.now in
    let b = g.S.Shelf.place c.rename.new.self in
    let d = g.S.Shelf.place c.sync_nights.new.self in
    when_ok c.sync_nights.result (Changes IsSettled b d) (Changes KeepsNights b d) (Changes (IsNamedOnDisk name) a d)
    (λ settled. both (IsNamed name) IsSettled (IsNamedOnDisk name) (named_settled name) a b d c.in_ok-rename.ensures settled)
    c.sync_nights.ensures

pub returns-clause-stopped : goal.returns-clause-stopped
returns-clause-stopped g c =
    let name = c.args.name.now in
    let a = g.S.Shelf.place c.args.shelf.now in
    let b = g.S.Shelf.place c.rename.new.self in
    let d = g.S.Shelf.place c.sync_nights.new.self in
    always c.sync_nights.result (Changes IsSettled b d) (Changes KeepsNights b d) (Changes (MayName name) a d)
    (λ settled. both (IsNamed name) IsSettled (MayName name) (settled_stopped name) a b d c.in_ok-rename.ensures settled)
    (λ kept. both (IsNamed name) KeepsNights (MayName name) (named_stopped name) a b d c.in_ok-rename.ensures kept) c.sync_nights.ensures
