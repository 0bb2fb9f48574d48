-- What no byte of an ST is, no byte of what is kept of it is.
use Rattle.std.proofs.Common.{◌≡◌, ℕ, List, [], ◌∷◌, Bool, false, refl}
use Rattle.std.specs.Prelude.{◌==◌, drop, slice_index_or}
use Rattle.std.specs.List.{list_any, remove}
use Rattle.x12_segs.specs.Words.{SegValue, elements_of, id_of}
use Rattle.answered_sets.proofs.ForAbove.{neither, nor, none_divided}
use Rattle.mailbox.specs.Deliveries.{kept_parts}

none_first : {X : Type 0} (p : List X → Bool) (list : List (List X)) → p [] ≡ false → list_any p list ≡ false
    → p (slice_index_or list 0 []) ≡ false
none_first p [] e h = e
none_first p (x ∷ xs) e h = (neither (p x) (list_any p xs) h).0

-- the second of those after the first is left out
none_left : {X : Type 0} (p : X → Bool) (list : List X) → list_any p list ≡ false → list_any p (remove (drop 1 list) 1) ≡ false
none_left p [] h = refl
none_left p (x ∷ []) h = refl
none_left p (x ∷ y ∷ []) h = (neither (p x) (list_any p (y ∷ [])) h).1
none_left p (x ∷ y ∷ z ∷ more) h =
    let a = neither (p x) (list_any p (y ∷ z ∷ more)) h in
    let b = neither (p y) (list_any p (z ∷ more)) a.1 in
    nor (p y) (list_any p more) b.0 (neither (p z) (list_any p more) b.1).1

pub none_kept : (p : ℕ → Bool) (header : SegValue) → list_any p header.bytes ≡ false → list_any (list_any p) (kept_parts header) ≡ false
none_kept p header h =
    let list = elements_of header in
    let none = none_divided p (λ b. b == header.delims.element) header.bytes h in
    nor (list_any p (id_of header)) (list_any (list_any p) (remove (drop 1 list) 1)) (none_first (list_any p) list refl none)
    (none_left (list_any p) list none)
