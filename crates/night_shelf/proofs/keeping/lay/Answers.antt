use Rattle.night_shelf.specs.Shelf.{Changes, IsLaid, IsSynced, KeepsNights}
use Rattle.night_shelf.proofs.Changing.{always, kept_steps, laid, made_nights, synced_nights, when_ok}
use Rattle.night_shelf.proofs.keeping.lay.Goals as goal

pub returns-in_err-make-clause-nights : goal.returns-in_err-make-clause-nights
returns-in_err-make-clause-nights g c =
    kept_steps (g.S.Shelf.place c.args.shelf.now) (g.S.Shelf.place c.clear.new.self) (g.S.Shelf.place c.make.new.self) c.clear.ensures
    c.in_err-make.ensures

pub returns-in_err-put_all-clause-nights : goal.returns-in_err-put_all-clause-nights
returns-in_err-put_all-clause-nights g c =
    let a = g.S.Shelf.place c.args.shelf.now in
    let b = g.S.Shelf.place c.clear.new.self in
    let d = g.S.Shelf.place c.make.new.self in
    let e = g.S.Shelf.place c.put_all.new.shelf in
    kept_steps a b e c.clear.ensures (kept_steps b d e (made_nights b d c.in_ok-make.ensures) c.put_all.ensures.nights)

pub returns-clause-laid : goal.returns-clause-laid
returns-clause-laid g c =
    let a = g.S.Shelf.place c.args.shelf.now in
    let b = g.S.Shelf.place c.clear.new.self in
    let d = g.S.Shelf.place c.make.new.self in
    let e = g.S.Shelf.place c.put_all.new.shelf in
    let f = g.S.Shelf.place c.sync_tonight.new.self in
    when_ok c.sync_tonight.result (Changes IsSynced e f) (Changes KeepsNights e f) (Changes (IsLaid c.args.files.now) a f)
    (λ synced. laid c.args.files.now a b d e f c.clear.ensures c.in_ok-make.ensures c.in_ok-put_all.ensures.all synced)
    c.sync_tonight.ensures

pub returns-clause-nights : goal.returns-clause-nights
returns-clause-nights g c =
    let a = g.S.Shelf.place c.args.shelf.now in
    let b = g.S.Shelf.place c.clear.new.self in
    let d = g.S.Shelf.place c.make.new.self in
    let e = g.S.Shelf.place c.put_all.new.shelf in
    let f = g.S.Shelf.place c.sync_tonight.new.self in
    let last = always c.sync_tonight.result (Changes IsSynced e f) (Changes KeepsNights e f) (Changes KeepsNights e f)
    (λ synced. synced_nights e f synced) (λ kept. kept) c.sync_tonight.ensures in
    kept_steps a b f c.clear.ensures
    (kept_steps b d f (made_nights b d c.in_ok-make.ensures) (kept_steps d e f c.put_all.ensures.nights last))
