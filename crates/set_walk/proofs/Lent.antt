-- Places of element separators, as they are lent.
use Rattle.std.proofs.Common.{◌≡◌, ℕ, List, Option, Some, None, sym}
use Rattle.std.proofs.Common.{Bor, option_map, subst}
use Rattle.std.specs.Prelude.{IfSome}
use Rattle.x12_segs.specs.Words.{SegValue}
use Rattle.marked_segments.specs.Marked.{IsPlain}

-- what is reported of places holds of those that are lent
pub plain_lent : (lent : Option (Bor (List ℕ))) (told : Option (List ℕ)) (seg : SegValue) → option_map (λ places. places.now) lent ≡ told
    → IfSome told (λ places. IsPlain places seg) → IfSome lent (λ places. IsPlain places.now seg)
plain_lent None told seg is h = tt
plain_lent (Some places) told seg is h = subst (λ (o : Option (List ℕ)). IfSome o (λ places. IsPlain places seg)) (sym is) h
