-- One night more in the order, and the end of it.
use Rattle.std.proofs.Common.{◌≡◌, ℕ, zero, suc, ◌+◌, ◌-◌, ◌<◌, List, [], ◌∷◌, Option, None, Some, ◌∙◌, ap, arith, map, option_map, refl}
use Rattle.std.proofs.Common.{sym}
use Rattle.std.specs.Borrow.{Bor}
use Rattle.night_marks.specs.Order.{in_order, next_night, others, with_first}
use Rattle.night_marks.specs.declared.mark.NightMark.{NightMark}

ended : (count : ℕ) (last : List ℕ) (left : List NightMark) → next_night last left ≡ None → in_order count last left ≡ []
ended zero last left none = refl
ended (suc count) last left none =
    ap (λ (o : Option NightMark). with_first (λ night. in_order count night.name (others night.name left)) o) none

stepped : (count : ℕ) (last : List ℕ) (left : List NightMark) (night : NightMark) → next_night last left ≡ Some night
    → in_order (suc count) last left ≡ night ∷ in_order count night.name (others night.name left)
stepped count last left night is =
    ap (λ (o : Option NightMark). with_first (λ n. in_order count n.name (others n.name left)) o) is

pub no_more : (count : ℕ) (last : List ℕ) (lent items : List (Bor NightMark)) (found : Option (Bor NightMark)) → lent ≡ items
    → option_map (λ (n : Bor NightMark). n.now) found ≡ next_night last (map (λ (n : Bor NightMark). n.now) lent) → found ≡ None
    → in_order count last (map (λ (n : Bor NightMark). n.now) items) ≡ []
no_more count last lent items found same is none =
    ended count last (map (λ (n : Bor NightMark). n.now) items)
    (ap (λ (l : List (Bor NightMark)). next_night last (map (λ (n : Bor NightMark). n.now) l)) (sym same) ∙ sym is
    ∙ ap (option_map (λ (n : Bor NightMark). n.now)) none)

pub one_more : (n i : ℕ) (last : List ℕ) (lent items : List (Bor NightMark)) (found : Option (Bor NightMark)) (night : Bor NightMark)
    → i < n → lent ≡ items
    → option_map (λ (n : Bor NightMark). n.now) found ≡ next_night last (map (λ (n : Bor NightMark). n.now) lent) → found ≡ Some night
    → in_order (n - i) last (map (λ (n : Bor NightMark). n.now) items)
    ≡ night.now ∷ in_order (n - (i + 1)) night.now.name (others night.now.name (map (λ (n : Bor NightMark). n.now) items))
one_more n i last lent items found night low same is some =
    let left : List NightMark = map (λ (n : Bor NightMark). n.now) items in
    let count : n - i ≡ suc (n - (i + 1)) = omega (arith, low) in
    ap (λ (k : ℕ). in_order k last left) count
    ∙ stepped (n - (i + 1)) last left night.now
    (ap (λ (l : List (Bor NightMark)). next_night last (map (λ (n : Bor NightMark). n.now) l)) (sym same) ∙ sym is
    ∙ ap (option_map (λ (n : Bor NightMark). n.now)) some)
