-- Where each delimiter of the receiver is one of the source's, nothing is in the way.
use Rattle.std.proofs.Common.{◌≡◌, ℕ, Bool, false, ◌||◌, List, [], ◌∷◌, refl, ap, ◌∙◌}
use Rattle.std.specs.List.{list_any}
use Rattle.x12_bytes.specs.declared.delims.Delims.{Delims}
use Rattle.x12_segs.specs.Words.{SegValue}
use Rattle.mailbox.specs.Blocking.{AllShared}
use Rattle.mailbox.specs.Deliveries.{inner_in, is_blocked, collides, has_collision, kept_parts}
use Rattle.answered_sets.specs.Judged.{PlacedValue, delims_in}

none_passes : {A : Type 0} (p : A → Bool) (xs : List A) → ((x : A) → p x ≡ false) → list_any p xs ≡ false
none_passes p [] h = refl
none_passes p (x ∷ xs) h = ap (λ (b : Bool). b || list_any p xs) (h x) ∙ none_passes p xs h

pub nothing_blocked : (to : Delims) (p : PlacedValue) → AllShared (delims_in p) to → is_blocked to p ≡ false
nothing_blocked to p h =
    let text = λ (bytes : List ℕ). none_passes (collides (delims_in p) to) bytes h in
    ap (λ (b : Bool). b || list_any (λ seg. has_collision (delims_in p) to seg.bytes) (inner_in p))
    (none_passes (has_collision (delims_in p) to) (kept_parts p.set.header) text)
    ∙ none_passes (λ (seg : SegValue). has_collision (delims_in p) to seg.bytes) (inner_in p) (λ seg. text seg.bytes)
