use Rattle.std.proofs.Common.{rules, ◌≡◌, ◌-◌, ◌<◌, [], get_or, length, sym, subst, ap, ◌∙◌, arith}
use Rattle.std.specs.Prelude.{slice_get, vec_len}
use Rattle.std.proofs.lemmas.Option.{slice_get_within}
use Rattle.number_register.specs.Books.{book_at}
use Rattle.work_core.specs.Core.{was_recorded}
use Rattle.number_register.specs.Placing.{IsPlaced}
use Rattle.number_register.specs.Recording.{Recording}
use Rattle.number_register.proofs.Holding.{within_books}
use Rattle.number_register.proofs.Standing.{get_or_any, group_there, interchange_there, set_there}
use Rattle.number_register.proofs.records.Records.holds.Goals as goal

pub holds-requires : goal.holds-requires
holds-requires c =
    let s = c.self.inside in
    let at = subst (λ (r : Recording). IsPlaced r.index.entries c.args.place) (sym c.self.view_is) c.requires in
    let r = interchange_there s.index.now.entries s.recorded.items s.interchanges s.groups s.sets.items c.self.invariant.held
    c.args.place at
    (omega arith) in
    slice_get_within s.interchanges (c.args.place.isa - 1) r.0 r.1

pub returns-then-place-eq0 : goal.returns-then-place-eq0
returns-then-place-eq0 c =
    let s = c.self.inside in
    let at = subst (λ (r : Recording). IsPlaced r.index.entries c.args.place) (sym c.self.view_is) c.requires in
    let r = interchange_there s.index.now.entries s.recorded.items s.interchanges s.groups s.sets.items c.self.invariant.held
    c.args.place at
    (omega arith) in
    c.holds.ensures.holds r.0 r.1 ∙ r.2 ∙ ap (λ (q : Recording). was_recorded q.recorded c.args.place) c.self.view_is

pub holds-requires-then-place-eq0-2 : goal.holds-requires-then-place-eq0-2
holds-requires-then-place-eq0-2 c =
    let s = c.self.inside in
    let at = subst (λ (r : Recording). IsPlaced r.index.entries c.args.place) (sym c.self.view_is) c.requires in
    let r = group_there s.index.now.entries s.recorded.items s.interchanges s.groups s.sets.items c.self.invariant.held c.args.place at
    (omega arith) (omega arith) in
    slice_get_within (book_at s.groups (c.args.place.isa - 1)) (c.args.place.gs - 1) r.0 r.1

pub returns-then-place-eq0-2 : goal.returns-then-place-eq0-2
returns-then-place-eq0-2 c =
    let s = c.self.inside in
    let at = subst (λ (r : Recording). IsPlaced r.index.entries c.args.place) (sym c.self.view_is) c.requires in
    let r = group_there s.index.now.entries s.recorded.items s.interchanges s.groups s.sets.items c.self.invariant.held c.args.place at
    (omega arith) (omega arith) in
    c.holds-then-place-eq0-2.ensures r.0 r.1 ∙ r.2 ∙ ap (λ (q : Recording). was_recorded q.recorded c.args.place) c.self.view_is

pub index-requires : goal.index-requires
index-requires c =
    let s = c.self.inside in
    let at = subst (λ (r : Recording). IsPlaced r.index.entries c.args.place) (sym c.self.view_is) c.requires in
    let r = set_there s.index.now.entries s.recorded.items s.interchanges s.groups s.sets.items c.self.invariant.held c.args.place at
    (omega arith) (omega arith) in
    let low : c.args.place.isa - 1 < length s.sets.items
    = within_books s.sets.items (c.args.place.isa - 1) (c.args.place.gs - 1) (c.args.place.st - 1) r.0 r.1 in
    let len : vec_len s.sets ≡ length s.sets.items = search rules in omega arith

pub holds-requires-2 : goal.holds-requires-2
holds-requires-2 c =
    let s = c.self.inside in
    let at = subst (λ (r : Recording). IsPlaced r.index.entries c.args.place) (sym c.self.view_is) c.requires in
    let r = set_there s.index.now.entries s.recorded.items s.interchanges s.groups s.sets.items c.self.invariant.held c.args.place at
    (omega arith) (omega arith) in
    let low : c.args.place.isa - 1 < length s.sets.items
    = within_books s.sets.items (c.args.place.isa - 1) (c.args.place.gs - 1) (c.args.place.st - 1) r.0 r.1 in
    let same : c.index.result.now ≡ get_or s.sets.items (c.args.place.isa - 1) []
    = c.index.ensures ∙ get_or_any s.sets.items (c.args.place.isa - 1) c.index.result.now [] low in
    slice_get_within (book_at c.index.result.now (c.args.place.gs - 1)) (c.args.place.st - 1) r.0
    (ap (λ bs. slice_get (book_at bs (c.args.place.gs - 1)) (c.args.place.st - 1)) same ∙ r.1)

pub returns : goal.returns
returns c =
    let s = c.self.inside in
    let at = subst (λ (r : Recording). IsPlaced r.index.entries c.args.place) (sym c.self.view_is) c.requires in
    let r = set_there s.index.now.entries s.recorded.items s.interchanges s.groups s.sets.items c.self.invariant.held c.args.place at
    (omega arith) (omega arith) in
    let low : c.args.place.isa - 1 < length s.sets.items
    = within_books s.sets.items (c.args.place.isa - 1) (c.args.place.gs - 1) (c.args.place.st - 1) r.0 r.1 in
    let same : c.index.result.now ≡ get_or s.sets.items (c.args.place.isa - 1) []
    = c.index.ensures ∙ get_or_any s.sets.items (c.args.place.isa - 1) c.index.result.now [] low in
    c.holds-2.ensures r.0 (ap (λ bs. slice_get (book_at bs (c.args.place.gs - 1)) (c.args.place.st - 1)) same ∙ r.1)
    ∙ r.2 ∙ ap (λ (q : Recording). was_recorded q.recorded c.args.place) c.self.view_is
