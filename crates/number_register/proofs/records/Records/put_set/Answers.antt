use Rattle.std.proofs.Common.{rules, ◌≡◌, ◌-◌, ◌<◌, ◌++◌, ◌∷◌, [], true, false, None, Some, get_or, length, ap, sym, subst, ◌∙◌, arith}
use Rattle.std.specs.Prelude.{Contains, slice_get, slice_set, vec_len}
use Rattle.number_register.specs.Books.{book_at}
use Rattle.work_core.specs.Complete.{AreOnce}
use Rattle.work_core.specs.Core.{was_recorded}
use Rattle.hub_kinds.specs.declared.place.Place.{Place}
use Rattle.env_index.specs.Words.{places_of}
use Rattle.number_register.specs.Placing.{IsKeyAt}
use Rattle.number_register.specs.Recording.{Recording}
use Rattle.number_register.specs.Slots.{AreHeld}
use Rattle.number_register.specs.declared.key.Key.TheVariants.{OfSet}
use Rattle.number_register.proofs.Holding.{with_set, within_books}
use Rattle.number_register.proofs.Once.{once_more}
use Rattle.number_register.proofs.Slotting.{listed_more}
use Rattle.number_register.proofs.Putting.{set_absent_at, set_more_at}
use Rattle.number_register.proofs.Standing.{get_or_any}
use Rattle.number_register.proofs.records.Records.put_set.Goals as goal

pub index_mut-requires : goal.index_mut-requires
index_mut-requires c =
    let s = c.self.inside in
    let es = s.index.now.entries in
    let p = c.args.place in
    let key = subst (λ (r : Recording). IsKeyAt r.index.entries c.args.place (OfSet c.args.control)) (sym c.self.view_is) c.requires.key in
    let fresh = subst (λ (r : Recording). was_recorded r.recorded c.args.place ≡ false) (sym c.self.view_is) c.requires.fresh in
    let absent = set_absent_at es s.recorded.items s.interchanges s.groups s.sets.items c.self.invariant.held p fresh key.0 key.1 key.2
    c.args.control.now key.3 in
    let low : p.isa - 1 < length s.sets.items = within_books s.sets.items (p.isa - 1) (p.gs - 1) (p.st - 1) None absent in
    let len : vec_len s.sets ≡ length s.sets.items = search rules in omega arith

pub add-requires : goal.add-requires
add-requires c =
    let s = c.self.inside in
    let es = s.index.now.entries in
    let p = c.args.place in
    let key = subst (λ (r : Recording). IsKeyAt r.index.entries c.args.place (OfSet c.args.control)) (sym c.self.view_is) c.requires.key in
    let fresh = subst (λ (r : Recording). was_recorded r.recorded c.args.place ≡ false) (sym c.self.view_is) c.requires.fresh in
    let absent = set_absent_at es s.recorded.items s.interchanges s.groups s.sets.items c.self.invariant.held p fresh key.0 key.1 key.2
    c.args.control.now key.3 in
    let low : p.isa - 1 < length s.sets.items = within_books s.sets.items (p.isa - 1) (p.gs - 1) (p.st - 1) None absent in
    let same : c.index_mut.result.now ≡ get_or s.sets.items (p.isa - 1) []
    = c.index_mut.ensures.value ∙ get_or_any s.sets.items (p.isa - 1) _ [] low in
    ap (λ bs. slice_get (book_at bs (p.gs - 1)) (p.st - 1)) same ∙ absent

pub invariant_of-self-2 : goal.invariant_of-self-2
invariant_of-self-2 c =
    let s = c.self.inside in
    let es = s.index.now.entries in
    let p = c.args.place in
    let key = subst (λ (r : Recording). IsKeyAt r.index.entries c.args.place (OfSet c.args.control)) (sym c.self.view_is) c.requires.key in
    let fresh = subst (λ (r : Recording). was_recorded r.recorded c.args.place ≡ false) (sym c.self.view_is) c.requires.fresh in
    let absent = set_absent_at es s.recorded.items s.interchanges s.groups s.sets.items c.self.invariant.held p fresh key.0 key.1 key.2
    c.args.control.now key.3 in
    let low : p.isa - 1 < length s.sets.items = within_books s.sets.items (p.isa - 1) (p.gs - 1) (p.st - 1) None absent in
    let same : c.index_mut.result.now ≡ get_or s.sets.items (p.isa - 1) []
    = c.index_mut.ensures.value ∙ get_or_any s.sets.items (p.isa - 1) _ [] low in
    let more = set_more_at es s.recorded.items s.interchanges s.groups s.sets.items c.self.invariant.held p fresh key.0 key.1 key.2
    c.args.control key.3 in
    let listed : c.push_reserved.new.self.items ≡ s.recorded.items ++ p ∷ [] = search rules in
    let put : c.add.new.self
    ≡ slice_set c.index_mut.result.now (p.gs - 1) (slice_set (book_at c.index_mut.result.now (p.gs - 1)) (p.st - 1) (Some c.args.control))
    = search rules in
    let added : c.add.new.self ≡ with_set s.sets.items (p.isa - 1) (p.gs - 1) (p.st - 1) c.args.control
    = put ∙ ap (λ bs. slice_set bs (p.gs - 1) (slice_set (book_at bs (p.gs - 1)) (p.st - 1) (Some c.args.control))) same in record {
      places = c.self.invariant.places;
      listed = subst (λ r. (q : Place) → was_recorded r q ≡ true → Contains (places_of s.index.now) q) (sym listed)
          (listed_more (λ q. Contains (places_of s.index.now) q) s.recorded.items p c.self.invariant.listed
          (subst (λ (r : Recording). Contains (places_of r.index) c.args.place) (sym c.self.view_is) c.requires.place));
      once = subst (λ r. AreOnce r r) (sym listed) (once_more s.recorded.items p fresh c.self.invariant.once);
      held = subst (λ r. AreHeld es r s.interchanges s.groups (slice_set s.sets.items (p.isa - 1) c.add.new.self)) (sym listed)
          (subst (λ b. AreHeld es (s.recorded.items ++ p ∷ []) s.interchanges s.groups (slice_set s.sets.items (p.isa - 1) b)) (sym added)
          more);
    }
