use Rattle.std.proofs.Common.{◌≡◌, ℕ, ◌+◌, ◌-◌, ◌<◌, [], get_or, length, List, None, Some, ap, sym, subst, ◌∙◌, arith}
use Rattle.std.specs.Prelude.{Contains, option_map, slice_get, vec_len}
use Rattle.std.proofs.lemmas.Option.{slice_get_within}
use Rattle.env_index.specs.Words.{places_of, place_at}
use Rattle.number_register.specs.Books.{book_at}
use Rattle.number_register.specs.First.{first_of, where_before}
use Rattle.number_register.specs.Recording.{IsEarlierIn, IsFull, Recording}
use Rattle.number_register.specs.Slots.{set_place}
use Rattle.hub_kinds.specs.Words.{by_text}
use Rattle.number_register.proofs.Places.{placed}
use denote.Ref.{Bor}
use Rattle.number_register.proofs.Earlier.{set_key_there, set_earlier, where_low}
use Rattle.number_register.proofs.Holding.{within_books}
use Rattle.number_register.proofs.Standing.{get_or_any}
use Rattle.std.proofs.Common.{rules}
use Rattle.number_register.proofs.records.Records.earlier_set.Goals as goal

pub overflow_sub-place : goal.overflow_sub-place
overflow_sub-place c =
    let s = c.self.inside in
    let index = s.index.now in
    let p = c.args.place in
    let there = subst (λ (r : Recording). Contains (places_of r.index) c.args.place) (sym c.self.view_is) c.requires.place in
    let at = (placed index p there).isa in
    let e = c.requires.kind.0 in omega arith

pub index-books-requires : goal.index-books-requires
index-books-requires c =
    let s = c.self.inside in
    let index = s.index.now in
    let p = c.args.place in
    let there = subst (λ (r : Recording). Contains (places_of r.index) c.args.place) (sym c.self.view_is) c.requires.place in
    let full = subst (λ (r : Recording). IsFull r) (sym c.self.view_is) c.requires.full in
    let key = set_key_there index s.recorded.items s.interchanges s.groups s.sets.items c.self.invariant.held
    c.self.invariant.listed full p there c.requires.kind.1 c.requires.kind.2 in
    let low : p.isa - 1 < length s.sets.items = within_books s.sets.items (p.isa - 1) (p.gs - 1) (p.st - 1) _ key.1 in
    let len : vec_len s.sets ≡ length s.sets.items = search rules in omega arith

pub earlier-requires : goal.earlier-requires
earlier-requires c =
    let s = c.self.inside in
    let index = s.index.now in
    let p = c.args.place in
    let there = subst (λ (r : Recording). Contains (places_of r.index) c.args.place) (sym c.self.view_is) c.requires.place in
    let full = subst (λ (r : Recording). IsFull r) (sym c.self.view_is) c.requires.full in
    let key = set_key_there index s.recorded.items s.interchanges s.groups s.sets.items c.self.invariant.held
    c.self.invariant.listed full p there c.requires.kind.1 c.requires.kind.2 in
    let low : p.isa - 1 < length s.sets.items = within_books s.sets.items (p.isa - 1) (p.gs - 1) (p.st - 1) _ key.1 in
    let same : c.index-books.result.now ≡ get_or s.sets.items (p.isa - 1) []
    = c.index-books.ensures ∙ get_or_any s.sets.items (p.isa - 1) c.index-books.result.now [] low in
    let within = slice_get_within (book_at c.index-books.result.now (p.gs - 1)) (p.st - 1) _
    (ap (λ bs. slice_get (book_at bs (p.gs - 1)) (p.st - 1)) same ∙ key.1) in
    let e = c.requires.kind.0 in omega arith

pub overflow_cast-result : goal.overflow_cast-result
overflow_cast-result c =
    let s = c.self.inside in
    let index = s.index.now in
    let p = c.args.place in
    let there = subst (λ (r : Recording). Contains (places_of r.index) c.args.place) (sym c.self.view_is) c.requires.place in
    let full = subst (λ (r : Recording). IsFull r) (sym c.self.view_is) c.requires.full in
    let key = set_key_there index s.recorded.items s.interchanges s.groups s.sets.items c.self.invariant.held
    c.self.invariant.listed full p there c.requires.kind.1 c.requires.kind.2 in
    let low : p.isa - 1 < length s.sets.items = within_books s.sets.items (p.isa - 1) (p.gs - 1) (p.st - 1) _ key.1 in
    let same : c.index-books.result.now ≡ get_or s.sets.items (p.isa - 1) []
    = c.index-books.ensures ∙ get_or_any s.sets.items (p.isa - 1) c.index-books.result.now [] low in
    let answers = subst (λ bs. (key : Bor (List ℕ)) → slice_get (book_at bs (p.gs - 1)) (p.st - 1) ≡ Some (Some key)
    → c.earlier.result ≡ where_before (p.st - 1) (first_of by_text (book_at bs (p.gs - 1)) key)) same
    (subst (λ (x : ℕ). (key : Bor (List ℕ)) → slice_get (book_at c.index-books.result.now (p.gs - 1)) (x - 1) ≡ Some (Some key)
    → c.earlier.result ≡ where_before (x - 1) (first_of by_text (book_at c.index-books.result.now (p.gs - 1)) key))
    c.requires.kind.0 c.earlier.ensures) in
    let low = where_low (p.st - 1) c.in-Some.first _ (sym (answers key.0 key.1) ∙ c.in-Some.is) in
    let e = c.requires.kind.0 in
    let fits = c.ranges.st.fits in omega arith

pub overflow_add-result : goal.overflow_add-result
overflow_add-result c =
    let s = c.self.inside in
    let index = s.index.now in
    let p = c.args.place in
    let there = subst (λ (r : Recording). Contains (places_of r.index) c.args.place) (sym c.self.view_is) c.requires.place in
    let full = subst (λ (r : Recording). IsFull r) (sym c.self.view_is) c.requires.full in
    let key = set_key_there index s.recorded.items s.interchanges s.groups s.sets.items c.self.invariant.held
    c.self.invariant.listed full p there c.requires.kind.1 c.requires.kind.2 in
    let low : p.isa - 1 < length s.sets.items = within_books s.sets.items (p.isa - 1) (p.gs - 1) (p.st - 1) _ key.1 in
    let same : c.index-books.result.now ≡ get_or s.sets.items (p.isa - 1) []
    = c.index-books.ensures ∙ get_or_any s.sets.items (p.isa - 1) c.index-books.result.now [] low in
    let answers = subst (λ bs. (key : Bor (List ℕ)) → slice_get (book_at bs (p.gs - 1)) (p.st - 1) ≡ Some (Some key)
    → c.earlier.result ≡ where_before (p.st - 1) (first_of by_text (book_at bs (p.gs - 1)) key)) same
    (subst (λ (x : ℕ). (key : Bor (List ℕ)) → slice_get (book_at c.index-books.result.now (p.gs - 1)) (x - 1) ≡ Some (Some key)
    → c.earlier.result ≡ where_before (x - 1) (first_of by_text (book_at c.index-books.result.now (p.gs - 1)) key))
    c.requires.kind.0 c.earlier.ensures) in
    let low = where_low (p.st - 1) c.in-Some.first _ (sym (answers key.0 key.1) ∙ c.in-Some.is) in
    let e = c.requires.kind.0 in
    let fits = c.ranges.st.fits in omega arith

pub returns-in-None : goal.returns-in-None
returns-in-None c =
    let s = c.self.inside in
    let index = s.index.now in
    let p = c.args.place in
    let there = subst (λ (r : Recording). Contains (places_of r.index) c.args.place) (sym c.self.view_is) c.requires.place in
    let full = subst (λ (r : Recording). IsFull r) (sym c.self.view_is) c.requires.full in
    let key = set_key_there index s.recorded.items s.interchanges s.groups s.sets.items c.self.invariant.held
    c.self.invariant.listed full p there c.requires.kind.1 c.requires.kind.2 in
    let low : p.isa - 1 < length s.sets.items = within_books s.sets.items (p.isa - 1) (p.gs - 1) (p.st - 1) _ key.1 in
    let same : c.index-books.result.now ≡ get_or s.sets.items (p.isa - 1) []
    = c.index-books.ensures ∙ get_or_any s.sets.items (p.isa - 1) c.index-books.result.now [] low in
    let answers = subst (λ bs. (key : Bor (List ℕ)) → slice_get (book_at bs (p.gs - 1)) (p.st - 1) ≡ Some (Some key)
    → c.earlier.result ≡ where_before (p.st - 1) (first_of by_text (book_at bs (p.gs - 1)) key)) same
    (subst (λ (x : ℕ). (key : Bor (List ℕ)) → slice_get (book_at c.index-books.result.now (p.gs - 1)) (x - 1) ≡ Some (Some key)
    → c.earlier.result ≡ where_before (x - 1) (first_of by_text (book_at c.index-books.result.now (p.gs - 1)) key))
    c.requires.kind.0 c.earlier.ensures) in
    subst (λ (r : Recording). IsEarlierIn r.index p None) c.self.view_is
    (set_earlier index s.recorded.items s.interchanges s.groups s.sets.items c.self.invariant.held c.self.invariant.listed full p
    there c.requires.kind.1 c.requires.kind.2 c.earlier.result answers None (sym
    (ap (option_map (set_place (p.isa - 1) (p.gs - 1))) c.in-None.is)))

pub returns-in-Some : goal.returns-in-Some
returns-in-Some c =
    let s = c.self.inside in
    let index = s.index.now in
    let p = c.args.place in
    let there = subst (λ (r : Recording). Contains (places_of r.index) c.args.place) (sym c.self.view_is) c.requires.place in
    let full = subst (λ (r : Recording). IsFull r) (sym c.self.view_is) c.requires.full in
    let key = set_key_there index s.recorded.items s.interchanges s.groups s.sets.items c.self.invariant.held
    c.self.invariant.listed full p there c.requires.kind.1 c.requires.kind.2 in
    let low : p.isa - 1 < length s.sets.items = within_books s.sets.items (p.isa - 1) (p.gs - 1) (p.st - 1) _ key.1 in
    let same : c.index-books.result.now ≡ get_or s.sets.items (p.isa - 1) []
    = c.index-books.ensures ∙ get_or_any s.sets.items (p.isa - 1) c.index-books.result.now [] low in
    let answers = subst (λ bs. (key : Bor (List ℕ)) → slice_get (book_at bs (p.gs - 1)) (p.st - 1) ≡ Some (Some key)
    → c.earlier.result ≡ where_before (p.st - 1) (first_of by_text (book_at bs (p.gs - 1)) key)) same
    (subst (λ (x : ℕ). (key : Bor (List ℕ)) → slice_get (book_at c.index-books.result.now (p.gs - 1)) (x - 1) ≡ Some (Some key)
    → c.earlier.result ≡ where_before (x - 1) (first_of by_text (book_at c.index-books.result.now (p.gs - 1)) key))
    c.requires.kind.0 c.earlier.ensures) in
    let found : Some (record { isa = p.isa; gs = p.gs; st = c.in-Some.first + 1 }) ≡ Some
    ((set_place (p.isa - 1) (p.gs - 1)) c.in-Some.first) = (let u : p.isa ≡ p.isa - 1 + 1 =
    (let l = (placed index p there).isa in omega arith) in let v : p.gs ≡ p.gs - 1 + 1 = (let g = c.requires.kind.1 in omega arith)
    in ap (λ (n : ℕ). Some (place_at n p.gs (c.in-Some.first + 1))) u ∙ ap (λ (n : ℕ). Some
    (place_at (p.isa - 1 + 1) n (c.in-Some.first + 1))) v) in
    subst (λ (r : Recording). IsEarlierIn r.index p (Some (record { isa = p.isa; gs = p.gs; st = c.in-Some.first + 1 }))) c.self.view_is
    (set_earlier index s.recorded.items s.interchanges s.groups s.sets.items c.self.invariant.held c.self.invariant.listed full p
    there c.requires.kind.1 c.requires.kind.2 c.earlier.result answers (Some (record
    { isa = p.isa; gs = p.gs; st = c.in-Some.first + 1 })) (found ∙ sym (ap (option_map (set_place (p.isa - 1) (p.gs - 1)))
    c.in-Some.is)))
