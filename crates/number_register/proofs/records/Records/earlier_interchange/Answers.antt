use Rattle.std.proofs.Common.{◌≡◌, ℕ, ◌+◌, ◌-◌, None, Some, ap, refl, sym, subst, ◌∙◌, arith}
use Rattle.std.specs.Prelude.{Contains, option_map, slice_get}
use Rattle.std.proofs.lemmas.Option.{slice_get_within}
use Rattle.env_index.specs.Words.{places_of}
use Rattle.number_register.specs.First.{first_of, where_before}
use Rattle.number_register.specs.Recording.{IsEarlierIn, IsFull, Recording}
use Rattle.number_register.specs.Slots.{InterchangeKey, interchange_place}
use Rattle.number_register.proofs.Places.{placed}
use Rattle.number_register.proofs.Comparing.{by_code}
use Rattle.number_register.proofs.Earlier.{interchange_key, interchange_earlier, where_low}
use Rattle.number_register.proofs.records.Records.earlier_interchange.Goals as goal

pub overflow_sub-isa : goal.overflow_sub-isa
overflow_sub-isa c =
    let s = c.self.inside in
    let index = s.index.now in
    let p = c.args.place in
    let there = subst (λ (r : Recording). Contains (places_of r.index) c.args.place) (sym c.self.view_is) c.requires.place in
    let at = (placed index p there).isa in
    let e = c.requires.kind.0 in omega arith

pub earlier-requires : goal.earlier-requires
earlier-requires c =
    let s = c.self.inside in
    let index = s.index.now in
    let p = c.args.place in
    let there = subst (λ (r : Recording). Contains (places_of r.index) c.args.place) (sym c.self.view_is) c.requires.place in
    let full = subst (λ (r : Recording). IsFull r) (sym c.self.view_is) c.requires.full in
    let key = interchange_key index s.recorded.items s.interchanges s.groups s.sets.items c.self.invariant.held
    c.self.invariant.listed full p there c.requires.kind.1 in
    let within = slice_get_within s.interchanges (p.isa - 1) _ key.1 in
    let e = c.requires.kind.0 in omega arith

pub overflow_cast-result : goal.overflow_cast-result
overflow_cast-result c =
    let s = c.self.inside in
    let index = s.index.now in
    let p = c.args.place in
    let there = subst (λ (r : Recording). Contains (places_of r.index) c.args.place) (sym c.self.view_is) c.requires.place in
    let full = subst (λ (r : Recording). IsFull r) (sym c.self.view_is) c.requires.full in
    let answers = subst (λ (x : ℕ). (key : InterchangeKey) → slice_get s.interchanges (x - 1) ≡ Some (Some key)
    → c.earlier.result ≡ where_before (x - 1) (first_of by_code s.interchanges key)) c.requires.kind.0 c.earlier.ensures in
    let key = interchange_key index s.recorded.items s.interchanges s.groups s.sets.items c.self.invariant.held
    c.self.invariant.listed full p there c.requires.kind.1 in
    let low = where_low (p.isa - 1) c.in-Some.first _ (sym (answers key.0 key.1) ∙ c.in-Some.is) in
    let e = c.requires.kind.0 in
    let fits = c.ranges.isa.fits in omega arith

pub overflow_add-result : goal.overflow_add-result
overflow_add-result c =
    let s = c.self.inside in
    let index = s.index.now in
    let p = c.args.place in
    let there = subst (λ (r : Recording). Contains (places_of r.index) c.args.place) (sym c.self.view_is) c.requires.place in
    let full = subst (λ (r : Recording). IsFull r) (sym c.self.view_is) c.requires.full in
    let answers = subst (λ (x : ℕ). (key : InterchangeKey) → slice_get s.interchanges (x - 1) ≡ Some (Some key)
    → c.earlier.result ≡ where_before (x - 1) (first_of by_code s.interchanges key)) c.requires.kind.0 c.earlier.ensures in
    let key = interchange_key index s.recorded.items s.interchanges s.groups s.sets.items c.self.invariant.held
    c.self.invariant.listed full p there c.requires.kind.1 in
    let low = where_low (p.isa - 1) c.in-Some.first _ (sym (answers key.0 key.1) ∙ c.in-Some.is) in
    let e = c.requires.kind.0 in
    let fits = c.ranges.isa.fits in omega arith

pub returns-in-None : goal.returns-in-None
returns-in-None c =
    let s = c.self.inside in
    let index = s.index.now in
    let p = c.args.place in
    let there = subst (λ (r : Recording). Contains (places_of r.index) c.args.place) (sym c.self.view_is) c.requires.place in
    let full = subst (λ (r : Recording). IsFull r) (sym c.self.view_is) c.requires.full in
    let answers = subst (λ (x : ℕ). (key : InterchangeKey) → slice_get s.interchanges (x - 1) ≡ Some (Some key)
    → c.earlier.result ≡ where_before (x - 1) (first_of by_code s.interchanges key)) c.requires.kind.0 c.earlier.ensures in
    let key = interchange_key index s.recorded.items s.interchanges s.groups s.sets.items c.self.invariant.held
    c.self.invariant.listed full p there c.requires.kind.1 in
    subst (λ (r : Recording). IsEarlierIn r.index p None) c.self.view_is
    (interchange_earlier index s.recorded.items s.interchanges s.groups s.sets.items c.self.invariant.held c.self.invariant.listed
    full p there c.requires.kind.1 c.earlier.result answers None (sym (ap (option_map (interchange_place)) c.in-None.is)))

pub returns-in-Some : goal.returns-in-Some
returns-in-Some c =
    let s = c.self.inside in
    let index = s.index.now in
    let p = c.args.place in
    let there = subst (λ (r : Recording). Contains (places_of r.index) c.args.place) (sym c.self.view_is) c.requires.place in
    let full = subst (λ (r : Recording). IsFull r) (sym c.self.view_is) c.requires.full in
    let answers = subst (λ (x : ℕ). (key : InterchangeKey) → slice_get s.interchanges (x - 1) ≡ Some (Some key)
    → c.earlier.result ≡ where_before (x - 1) (first_of by_code s.interchanges key)) c.requires.kind.0 c.earlier.ensures in
    let key = interchange_key index s.recorded.items s.interchanges s.groups s.sets.items c.self.invariant.held
    c.self.invariant.listed full p there c.requires.kind.1 in
    let found : Some (record { isa = c.in-Some.first + 1; gs = 0; st = 0 }) ≡ Some ((interchange_place) c.in-Some.first) = refl in
    subst (λ (r : Recording). IsEarlierIn r.index p (Some (record { isa = c.in-Some.first + 1; gs = 0; st = 0 }))) c.self.view_is
    (interchange_earlier index s.recorded.items s.interchanges s.groups s.sets.items c.self.invariant.held c.self.invariant.listed
    full p there c.requires.kind.1 c.earlier.result answers (Some (record { isa = c.in-Some.first + 1; gs = 0; st = 0 }))
    (found ∙ sym (ap (option_map (interchange_place)) c.in-Some.is)))
