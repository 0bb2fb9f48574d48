-- One more record at a place of the index, by its key.
use Rattle.std.proofs.Common.{◌≡◌, ℕ, ◌-◌, ◌≤◌, false, List, [], ◌∷◌, ◌++◌, map, get_or, Option, Some, None, sym, ap, subst, ◌∙◌}
use Rattle.std.specs.Prelude.{slice_get, slice_set}
use Rattle.hub_kinds.specs.declared.place.Place.{Place}
use Rattle.number_register.specs.Books.{book_at}
use Rattle.work_core.specs.Core.{was_recorded}
use Rattle.env_index.specs.Words.{IndexEntry}
use Rattle.number_register.specs.Slots.{AreHeld, code_in, group_code, groups_of, interchange_code, InterchangeKey, set_control, sets_of}
use Rattle.number_register.proofs.Holding.{group_absent, group_more, interchange_absent, interchange_more, set_absent, set_more, with_set}
use Rattle.number_register.proofs.Standing.{at_group, at_interchange, at_set}
use denote.Ref.{Bor}

module _ (es : List IndexEntry) (recorded : List Place) (inter : List (Option (InterchangeKey))) (group : List (List (Option ℕ)))
    (set : List (List (List (Option (Bor (List ℕ)))))) (held : AreHeld es recorded inter group set) (p : Place)
    (fresh : was_recorded recorded p ≡ false) (isa : 1 ≤ p.isa) where
  pub interchange_absent_at : p.gs ≡ 0 → p.st ≡ 0 → (key : ℕ × List (List ℕ)) → slice_get (map interchange_code es) (p.isa - 1) ≡ Some key
      → slice_get inter (p.isa - 1) ≡ Some None
  interchange_absent_at gs st key is =
      interchange_absent es recorded inter group set held (p.isa - 1) key is
      (ap (was_recorded recorded) (sym (at_interchange p isa gs st)) ∙ fresh)

  pub interchange_more_at : p.gs ≡ 0 → p.st ≡ 0 → (key : InterchangeKey)
      → slice_get (map interchange_code es) (p.isa - 1) ≡ Some (code_in key)
      → AreHeld es (recorded ++ p ∷ []) (slice_set inter (p.isa - 1) (Some key)) group set
  interchange_more_at gs st key is =
      subst (λ (q : Place). AreHeld es (recorded ++ q ∷ []) (slice_set inter (p.isa - 1) (Some key)) group set)
      (sym (at_interchange p isa gs st))
      (interchange_more es recorded inter group set held (p.isa - 1) key is
      (ap (was_recorded recorded) (sym (at_interchange p isa gs st)) ∙ fresh))

  pub group_absent_at : 1 ≤ p.gs → p.st ≡ 0 → (key : ℕ)
      → slice_get (map group_code (groups_of es (p.isa - 1))) (p.gs - 1) ≡ Some key
      → slice_get (book_at group (p.isa - 1)) (p.gs - 1) ≡ Some None
  group_absent_at gs st key is =
      group_absent es recorded inter group set held (p.isa - 1) (p.gs - 1) key is
      (ap (was_recorded recorded) (sym (at_group p isa gs st)) ∙ fresh)

  pub group_more_at : 1 ≤ p.gs → p.st ≡ 0 → (key : ℕ) → slice_get (map group_code (groups_of es (p.isa - 1))) (p.gs - 1) ≡ Some key
      → AreHeld es (recorded ++ p ∷ []) inter
      (slice_set group (p.isa - 1) (slice_set (book_at group (p.isa - 1)) (p.gs - 1) (Some key))) set
  group_more_at gs st key is =
      subst (λ (q : Place). AreHeld es (recorded ++ q ∷ []) inter
      (slice_set group (p.isa - 1) (slice_set (book_at group (p.isa - 1)) (p.gs - 1) (Some key))) set)
      (sym (at_group p isa gs st))
      (group_more es recorded inter group set held (p.isa - 1) (p.gs - 1) key is
      (ap (was_recorded recorded) (sym (at_group p isa gs st)) ∙ fresh))

  pub set_absent_at : 1 ≤ p.gs → 1 ≤ p.st → (key : List ℕ)
      → slice_get (map set_control (sets_of es (p.isa - 1) (p.gs - 1))) (p.st - 1) ≡ Some key
      → slice_get (book_at (get_or set (p.isa - 1) []) (p.gs - 1)) (p.st - 1) ≡ Some None
  set_absent_at gs st key is =
      set_absent es recorded inter group set held (p.isa - 1) (p.gs - 1) (p.st - 1) key is
      (ap (was_recorded recorded) (sym (at_set p isa gs st)) ∙ fresh)

  pub set_more_at : 1 ≤ p.gs → 1 ≤ p.st → (key : Bor (List ℕ))
      → slice_get (map set_control (sets_of es (p.isa - 1) (p.gs - 1))) (p.st - 1) ≡ Some key.now
      → AreHeld es (recorded ++ p ∷ []) inter group
      (slice_set set (p.isa - 1) (with_set set (p.isa - 1) (p.gs - 1) (p.st - 1) key))
  set_more_at gs st key is =
      subst (λ (q : Place). AreHeld es (recorded ++ q ∷ []) inter group
      (slice_set set (p.isa - 1) (with_set set (p.isa - 1) (p.gs - 1) (p.st - 1) key)))
      (sym (at_set p isa gs st))
      (set_more es recorded inter group set held (p.isa - 1) (p.gs - 1) (p.st - 1) key is
      (ap (was_recorded recorded) (sym (at_set p isa gs st)) ∙ fresh))
