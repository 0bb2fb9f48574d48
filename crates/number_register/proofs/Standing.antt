-- What the books have at a place of the index.
use Rattle.std.proofs.Common.{◌≡◌, ℕ, ◌+◌, ◌-◌, ◌<◌, ◌≤◌, Bool, List, [], length, map, get_or, Option, Some}
use Rattle.std.proofs.Common.{sym, ap, ◌∙◌, arith}
use Rattle.std.specs.Prelude.{is_some, slice_get}
use Rattle.std.proofs.lemmas.List.{length-map}
use Rattle.std.proofs.lemmas.Option.{get_or_from_slice_get, slice_get-get_or}
use Rattle.hub_kinds.specs.declared.place.Place.{Place}
use Rattle.number_register.specs.Books.{book_at}
use Rattle.work_core.specs.Core.{was_recorded}
use Rattle.env_index.specs.Words.{IndexEntry, place_at}
use Rattle.number_register.specs.Placing.{IsPlaced}
use Rattle.number_register.specs.Slots.{AreHeld, InterchangeKey, code_in, group_code, group_place, groups_of, interchange_code}
use Rattle.number_register.specs.Slots.{interchange_place}
use Rattle.number_register.specs.Slots.{same_code, set_control, set_place, sets_of, text_of}
use Rattle.number_register.proofs.Slotting.{slot_there}
use denote.Ref.{Bor}

pub same_place_by : (p : Place) (isa gs st : ℕ) → p.isa ≡ isa → p.gs ≡ gs → p.st ≡ st → p ≡ place_at isa gs st
same_place_by p isa gs st a b c = λ i. record { isa = a i; gs = b i; st = c i }

pub at_interchange : (p : Place) → 1 ≤ p.isa → p.gs ≡ 0 → p.st ≡ 0 → p ≡ interchange_place (p.isa - 1)
at_interchange p isa gs st = same_place_by p (p.isa - 1 + 1) 0 0 (omega arith) gs st

pub at_group : (p : Place) → 1 ≤ p.isa → 1 ≤ p.gs → p.st ≡ 0 → p ≡ group_place (p.isa - 1) (p.gs - 1)
at_group p isa gs st = same_place_by p (p.isa - 1 + 1) (p.gs - 1 + 1) 0 (omega arith) (omega arith) st

pub at_set : (p : Place) → 1 ≤ p.isa → 1 ≤ p.gs → 1 ≤ p.st → p ≡ set_place (p.isa - 1) (p.gs - 1) (p.st - 1)
at_set p isa gs st = same_place_by p (p.isa - 1 + 1) (p.gs - 1 + 1) (p.st - 1 + 1) (omega arith) (omega arith) (omega arith)

-- an item that is there, whatever stands for one that isn't
pub get_or_any : {A : Type 0} (xs : List A) (i : ℕ) (a b : A) → i < length xs → get_or xs i a ≡ get_or xs i b
get_or_any xs i a b h = get_or_from_slice_get xs i (get_or xs i b) a (slice_get-get_or xs i b h)

-- an item of a mapped list
pub item : {A B : Type 0} (f : A → B) (xs : List A) (i : ℕ) (d : B) → i < length xs → slice_get (map f xs) i ≡ Some (get_or (map f xs) i d)
item f xs i d h = slice_get-get_or (map f xs) i d (let e = length-map xs f in omega arith)

-- an item, and whether a place is recorded
abbrev pub IsThere : {A : Type 0} → List (Option A) → ℕ → Bool → Type 0
IsThere {A} keys i b = (k : Option A) × (slice_get keys i ≡ Some k) × (is_some k ≡ b)

module _ (es : List IndexEntry) (recorded : List Place) (inter : List (Option (InterchangeKey))) (group : List (List (Option ℕ)))
    (set : List (List (List (Option (Bor (List ℕ)))))) (held : AreHeld es recorded inter group set) (p : Place) (at : IsPlaced es p) where
  pub interchange_there : p.gs ≡ 0 → IsThere inter (p.isa - 1) (was_recorded recorded p)
  interchange_there gs =
      let alone = at.alone gs in
      let r = slot_there code_in (map interchange_code es) interchange_place recorded inter (p.isa - 1)
      (get_or (map interchange_code es) (p.isa - 1) (0, []))
      held.interchanges (item interchange_code es (p.isa - 1) (0, []) alone.1) in
      (r.0, r.1, r.2 ∙ ap (was_recorded recorded) (sym (at_interchange p at.isa gs alone.0)))

  pub group_there : 1 ≤ p.gs → p.st ≡ 0 → IsThere (book_at group (p.isa - 1)) (p.gs - 1) (was_recorded recorded p)
  group_there gs st =
      let gs_of = groups_of es (p.isa - 1) in
      let r = slot_there same_code (map group_code gs_of) (group_place (p.isa - 1)) recorded (book_at group (p.isa - 1)) (p.gs - 1)
      (get_or (map group_code gs_of) (p.gs - 1) 0) (held.groups (p.isa - 1)) (item group_code gs_of (p.gs - 1) 0 (at.group gs st)) in
      (r.0, r.1, r.2 ∙ ap (was_recorded recorded) (sym (at_group p at.isa gs st)))

  pub set_there : 1 ≤ p.gs → 1 ≤ p.st
      → IsThere (book_at (get_or set (p.isa - 1) []) (p.gs - 1)) (p.st - 1) (was_recorded recorded p)
  set_there gs st =
      let sets = sets_of es (p.isa - 1) (p.gs - 1) in
      let r = slot_there text_of (map set_control sets) (set_place (p.isa - 1) (p.gs - 1)) recorded
      (book_at (get_or set (p.isa - 1) []) (p.gs - 1)) (p.st - 1)
      (get_or (map set_control sets) (p.st - 1) []) (held.sets (p.isa - 1) (p.gs - 1)) (item set_control sets (p.st - 1) []
      (at.set gs st)) in
      (r.0, r.1, r.2 ∙ ap (was_recorded recorded) (sym (at_set p at.isa gs st)))
