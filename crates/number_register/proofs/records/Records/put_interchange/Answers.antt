use Rattle.std.proofs.Common.{rules, ◌≡◌, ◌-◌, ◌++◌, ◌∷◌, [], true, false, Some, sym, subst}
use Rattle.std.specs.Prelude.{Contains, slice_set}
use Rattle.work_core.specs.Complete.{AreOnce}
use Rattle.work_core.specs.Core.{was_recorded}
use Rattle.hub_kinds.specs.declared.place.Place.{Place}
use Rattle.env_index.specs.Words.{places_of}
use Rattle.number_register.specs.Placing.{IsKeyAt}
use Rattle.number_register.specs.Recording.{Recording}
use Rattle.number_register.specs.Slots.{AreHeld}
use Rattle.number_register.specs.declared.key.Key.TheVariants.{OfInterchange}
use Rattle.number_register.proofs.Once.{once_more}
use Rattle.number_register.proofs.Slotting.{listed_more}
use Rattle.number_register.proofs.Putting.{interchange_absent_at, interchange_more_at}
use Rattle.number_register.proofs.records.Records.put_interchange.Goals as goal

pub add-requires : goal.add-requires
add-requires c =
    let s = c.self.inside in
    let key = subst (λ (r : Recording). IsKeyAt r.index.entries c.args.place (OfInterchange c.args.number)) (sym c.self.view_is)
    c.requires.key in
    let fresh = subst (λ (r : Recording). was_recorded r.recorded c.args.place ≡ false) (sym c.self.view_is) c.requires.fresh in
    interchange_absent_at s.index.now.entries s.recorded.items s.interchanges s.groups s.sets.items c.self.invariant.held c.args.place fresh
    key.0 key.1 key.2 _ key.3

pub invariant_of-self-2 : goal.invariant_of-self-2
invariant_of-self-2 c =
    let s = c.self.inside in
    let es = s.index.now.entries in
    let p = c.args.place in
    let key = subst (λ (r : Recording). IsKeyAt r.index.entries c.args.place (OfInterchange c.args.number)) (sym c.self.view_is)
    c.requires.key in
    let fresh = subst (λ (r : Recording). was_recorded r.recorded c.args.place ≡ false) (sym c.self.view_is) c.requires.fresh in
    let more = interchange_more_at es s.recorded.items s.interchanges s.groups s.sets.items c.self.invariant.held p fresh key.0 key.1 key.2
    c.args.number key.3 in
    let listed : c.push_reserved.new.self.items ≡ s.recorded.items ++ p ∷ [] = search rules in
    let added : c.add.new.self ≡ slice_set s.interchanges (p.isa - 1) (Some c.args.number) = search rules in record {
      places = c.self.invariant.places;
      listed = subst (λ r. (q : Place) → was_recorded r q ≡ true → Contains (places_of s.index.now) q) (sym listed)
          (listed_more (λ q. Contains (places_of s.index.now) q) s.recorded.items p c.self.invariant.listed
          (subst (λ (r : Recording). Contains (places_of r.index) c.args.place) (sym c.self.view_is) c.requires.place));
      once = subst (λ r. AreOnce r r) (sym listed) (once_more s.recorded.items p fresh c.self.invariant.once);
      held = subst (λ r. AreHeld es r c.add.new.self s.groups s.sets.items) (sym listed)
          (subst (λ b. AreHeld es (s.recorded.items ++ p ∷ []) b s.groups s.sets.items) (sym added) more);
    }
