use Rattle.std.proofs.Common.{◌≡◌, ℕ, ◌+◌, ◌-◌, None, Some, ap, sym, subst, ◌∙◌, arith}
use Rattle.std.specs.Prelude.{Contains, option_map, slice_get}
use Rattle.std.specs.Ordering.{nat_cmp}
use Rattle.std.proofs.lemmas.Option.{slice_get_within}
use Rattle.env_index.specs.Words.{places_of, place_at}
use Rattle.number_register.specs.Books.{book_at}
use Rattle.number_register.specs.First.{first_of, where_before}
use Rattle.number_register.specs.Recording.{IsEarlierIn, IsFull, Recording}
use Rattle.number_register.specs.Slots.{group_place}
use Rattle.number_register.proofs.Places.{placed}
use Rattle.number_register.proofs.Earlier.{group_key_there, group_earlier, where_low}
use Rattle.number_register.proofs.records.Records.earlier_group.Goals as goal

pub overflow_sub-n : goal.overflow_sub-n
overflow_sub-n c =
    let at = (placed c.args.self.now.index c.args.place c.requires.place).isa in omega arith

pub earlier-requires : goal.earlier-requires
earlier-requires c =
    let s = c.self.inside in
    let index = s.index.now in
    let p = c.args.place in
    let there = subst (λ (r : Recording). Contains (places_of r.index) c.args.place) (sym c.self.view_is) c.requires.place in
    let full = subst (λ (r : Recording). IsFull r) (sym c.self.view_is) c.requires.full in
    let key = group_key_there index s.recorded.items s.interchanges s.groups s.sets.items c.self.invariant.held
    c.self.invariant.listed full p there c.requires.kind.1 c.requires.kind.2 in
    let within = slice_get_within (book_at s.groups (p.isa - 1)) (p.gs - 1) _ key.1 in
    let e = c.requires.kind.0 in omega arith

pub overflow_cast-result : goal.overflow_cast-result
overflow_cast-result c =
    let s = c.self.inside in
    let index = s.index.now in
    let p = c.args.place in
    let there = subst (λ (r : Recording). Contains (places_of r.index) c.args.place) (sym c.self.view_is) c.requires.place in
    let full = subst (λ (r : Recording). IsFull r) (sym c.self.view_is) c.requires.full in
    let answers = subst (λ (x : ℕ). (key : ℕ) → slice_get (book_at s.groups (p.isa - 1)) (x - 1) ≡ Some (Some key)
    → c.earlier.result ≡ where_before (x - 1) (first_of nat_cmp (book_at s.groups (p.isa - 1)) key)) c.requires.kind.0
    c.earlier.ensures in
    let key = group_key_there index s.recorded.items s.interchanges s.groups s.sets.items c.self.invariant.held
    c.self.invariant.listed full p there c.requires.kind.1 c.requires.kind.2 in
    let low = where_low (p.gs - 1) c.in-Some.first _ (sym (answers key.0 key.1) ∙ c.in-Some.is) in
    let e = c.requires.kind.0 in
    let fits = c.ranges.gs.fits in omega arith

pub overflow_add-result : goal.overflow_add-result
overflow_add-result c =
    let s = c.self.inside in
    let index = s.index.now in
    let p = c.args.place in
    let there = subst (λ (r : Recording). Contains (places_of r.index) c.args.place) (sym c.self.view_is) c.requires.place in
    let full = subst (λ (r : Recording). IsFull r) (sym c.self.view_is) c.requires.full in
    let answers = subst (λ (x : ℕ). (key : ℕ) → slice_get (book_at s.groups (p.isa - 1)) (x - 1) ≡ Some (Some key)
    → c.earlier.result ≡ where_before (x - 1) (first_of nat_cmp (book_at s.groups (p.isa - 1)) key)) c.requires.kind.0
    c.earlier.ensures in
    let key = group_key_there index s.recorded.items s.interchanges s.groups s.sets.items c.self.invariant.held
    c.self.invariant.listed full p there c.requires.kind.1 c.requires.kind.2 in
    let low = where_low (p.gs - 1) c.in-Some.first _ (sym (answers key.0 key.1) ∙ c.in-Some.is) in
    let e = c.requires.kind.0 in
    let fits = c.ranges.gs.fits in omega arith

pub returns-in-None : goal.returns-in-None
returns-in-None c =
    let s = c.self.inside in
    let index = s.index.now in
    let p = c.args.place in
    let there = subst (λ (r : Recording). Contains (places_of r.index) c.args.place) (sym c.self.view_is) c.requires.place in
    let full = subst (λ (r : Recording). IsFull r) (sym c.self.view_is) c.requires.full in
    let answers = subst (λ (x : ℕ). (key : ℕ) → slice_get (book_at s.groups (p.isa - 1)) (x - 1) ≡ Some (Some key)
    → c.earlier.result ≡ where_before (x - 1) (first_of nat_cmp (book_at s.groups (p.isa - 1)) key)) c.requires.kind.0
    c.earlier.ensures in
    let key = group_key_there index s.recorded.items s.interchanges s.groups s.sets.items c.self.invariant.held
    c.self.invariant.listed full p there c.requires.kind.1 c.requires.kind.2 in
    subst (λ (r : Recording). IsEarlierIn r.index p None) c.self.view_is
    (group_earlier index s.recorded.items s.interchanges s.groups s.sets.items c.self.invariant.held c.self.invariant.listed full p
    there c.requires.kind.1 c.requires.kind.2 c.earlier.result answers None (sym
    (ap (option_map (group_place (p.isa - 1))) c.in-None.is)))

pub returns-in-Some : goal.returns-in-Some
returns-in-Some c =
    let s = c.self.inside in
    let index = s.index.now in
    let p = c.args.place in
    let there = subst (λ (r : Recording). Contains (places_of r.index) c.args.place) (sym c.self.view_is) c.requires.place in
    let full = subst (λ (r : Recording). IsFull r) (sym c.self.view_is) c.requires.full in
    let answers = subst (λ (x : ℕ). (key : ℕ) → slice_get (book_at s.groups (p.isa - 1)) (x - 1) ≡ Some (Some key)
    → c.earlier.result ≡ where_before (x - 1) (first_of nat_cmp (book_at s.groups (p.isa - 1)) key)) c.requires.kind.0
    c.earlier.ensures in
    let key = group_key_there index s.recorded.items s.interchanges s.groups s.sets.items c.self.invariant.held
    c.self.invariant.listed full p there c.requires.kind.1 c.requires.kind.2 in
    let found : Some (record { isa = p.isa; gs = c.in-Some.first + 1; st = 0 }) ≡ Some ((group_place (p.isa - 1)) c.in-Some.first) =
    (let u : p.isa ≡ p.isa - 1 + 1 = (let l = (placed index p there).isa in omega arith) in ap
    (λ (n : ℕ). Some (place_at n (c.in-Some.first + 1) 0)) u) in
    subst (λ (r : Recording). IsEarlierIn r.index p (Some (record { isa = p.isa; gs = c.in-Some.first + 1; st = 0 }))) c.self.view_is
    (group_earlier index s.recorded.items s.interchanges s.groups s.sets.items c.self.invariant.held c.self.invariant.listed full p
    there c.requires.kind.1 c.requires.kind.2 c.earlier.result answers (Some (record
    { isa = p.isa; gs = c.in-Some.first + 1; st = 0 })) (found ∙ sym (ap (option_map (group_place (p.isa - 1))) c.in-Some.is)))
