-- The first row of each set: a row joins the rows of the set before it, or begins another one. And the line of totals.
use Rattle.std.proofs.Common.{◌≡◌, ◌∙◌, ℕ, ◌+◌, ◌-◌, ◌<◌, ◌≤◌, Bool, true, false, ◌&&◌, List, [], ◌∷◌, ◌++◌}
use Rattle.std.proofs.Common.{add-one, ap, ap₂, append_assoc, append-nil, arith, drop, drop-cons, get_or, length, map, suc, sym, take}
use Rattle.std.specs.Prelude.{codes, if◌then◌else◌, nat_lt, slice_range}
use Rattle.std.specs.List.{list_all}
use Rattle.std.proofs.lemmas.List.{get_or-drop, length-drop, length-map, map-append, take_more}
use Rattle.std.proofs.lemmas.List.Folds.{list_all-map}
use Rattle.night_search.specs.Lines.{joined}
use Rattle.night_page.specs.Rows.{Row}
use Rattle.night_page.specs.Totals.{firsts_after, is_further}

pub roomy : {X Y : Type 0} (f : X → Y) (set : List X)
    → (nat_lt 0 (length set) && nat_lt (length set) 16) ≡ (nat_lt 0 (length (map f set)) && nat_lt (length (map f set)) 16)
roomy f set = ap (λ (n : ℕ). nat_lt 0 n && nat_lt n 16) (sym (length-map set f))

pub all_mapped : {X Y : Type 0} (p : Y → Bool) (f : X → Y) (xs : List X) → list_all (λ x. p (f x)) xs ≡ list_all p (map f xs)
all_mapped p f xs = sym (list_all-map p f xs)

pub rest_at : {X : Type 0} (xs : List X) (i : ℕ) (x : X) → i < length xs → x ≡ get_or xs i x → drop i xs ≡ x ∷ drop (i + 1) xs
rest_at {X} xs i x low is = rw (add-one) (drop-cons xs i x low ∙ ap (λ (k : X). k ∷ drop (suc i) xs) (sym is))

pub alone : {X : Type 0} (xs : List X) (i : ℕ) (x : X) → i < length xs → x ≡ get_or xs i x → slice_range xs i (i + 1) ≡ x ∷ []
alone {X} xs i x low is =
    let one : i + 1 - i ≡ 1 = omega (arith) in
    ap (λ (n : ℕ). take n (drop i xs)) one ∙ ap (λ (l : List X). take 1 l) (rest_at xs i x low is)

pub longer : {X : Type 0} (xs : List X) (begin i : ℕ) (x : X) → begin ≤ i → i < length xs → x ≡ get_or xs i x
    → slice_range xs begin (i + 1) ≡ slice_range xs begin i ++ x ∷ []
longer {X} xs begin i x low high is =
    let more : i + 1 - begin ≡ (i - begin) + 1 = omega (arith, low) in
    let there : begin + (i - begin) ≡ i = omega (arith, low) in
    ap (λ (n : ℕ). take n (drop begin xs)) more
    ∙ take_more (drop begin xs) (i - begin) x (omega (arith, length-drop begin xs, low, high))
    ∙ ap (λ (k : X). take (i - begin) (drop begin xs) ++ k ∷ [])
    (get_or-drop begin xs (i - begin) x ∙ ap (λ (n : ℕ). get_or xs n x) there ∙ sym is)

-- the row joins the set
pub joins : {X : Type 0} (f : X → Row) (found done : List Row) (set set_is rest rest_is : List X) (row : X)
    → rest ≡ row ∷ rest_is → set_is ≡ set ++ row ∷ [] → is_further (map f set) (f row) ≡ true
    → found ++ firsts_after (map f set) (map f rest) ≡ done → found ++ firsts_after (map f set_is) (map f rest_is) ≡ done
joins {X} f found done set set_is rest rest_is row rest_has set_has further so_far =
    ap (λ (l : List Row). found ++ l)
    (ap (λ (s : List Row). firsts_after s (map f rest_is)) (ap (map f) set_has ∙ map-append f set (row ∷ []))
    ∙ sym (ap (λ (l : List X). firsts_after (map f set) (map f l)) rest_has
    ∙ ap (λ (b : Bool). if b then firsts_after (map f set ++ f row ∷ []) (map f rest_is)
    else f row ∷ firsts_after (f row ∷ []) (map f rest_is)) further))
    ∙ so_far

-- the row begins another set
pub begins : {X : Type 0} (f : X → Row) (found done : List Row) (set set_is rest rest_is : List X) (row : X)
    → rest ≡ row ∷ rest_is → set_is ≡ row ∷ [] → is_further (map f set) (f row) ≡ false
    → found ++ firsts_after (map f set) (map f rest) ≡ done
    → (found ++ f row ∷ []) ++ firsts_after (map f set_is) (map f rest_is) ≡ done
begins {X} f found done set set_is rest rest_is row rest_has set_has further so_far =
    append_assoc found (f row ∷ []) (firsts_after (map f set_is) (map f rest_is))
    ∙ ap (λ (l : List Row). found ++ l)
    (ap (λ (s : List X). f row ∷ firsts_after (map f s) (map f rest_is)) set_has
    ∙ sym (ap (λ (l : List X). firsts_after (map f set) (map f l)) rest_has
    ∙ ap (λ (b : Bool). if b then firsts_after (map f set ++ f row ∷ []) (map f rest_is)
    else f row ∷ firsts_after (f row ∷ []) (map f rest_is)) further))
    ∙ so_far

-- a row after those of a set: the rows from `begin` to `i` are the set so far
pub stepped : {X : Type 0} (f : X → Row) (xs : List X) (begin i next : ℕ) (row : X) (further : Bool) (found found_is done : List Row)
    → begin ≤ i → i < length xs → row ≡ get_or xs i row → further ≡ is_further (map f (slice_range xs begin i)) (f row)
    → found_is ≡ found ++ (if further then [] else f row ∷ []) → next ≡ (if further then begin else i)
    → found ++ firsts_after (map f (slice_range xs begin i)) (map f (drop i xs)) ≡ done
    → (next ≤ i + 1) × (found_is ++ firsts_after (map f (slice_range xs next (i + 1))) (map f (drop (i + 1) xs)) ≡ done)
stepped {X} f xs begin i next row true found found_is done low high is further found_has next_is so_far = (
  omega (arith, low, next_is),
  ap₂ (λ (l : List Row) (n : ℕ). l ++ firsts_after (map f (slice_range xs n (i + 1))) (map f (drop (i + 1) xs)))
      (found_has ∙ append-nil found) next_is
      ∙ joins f found done (slice_range xs begin i) (slice_range xs begin (i + 1)) (drop i xs) (drop (i + 1) xs) row
      (rest_at xs i row high is) (longer xs begin i row low high is) (sym further) so_far,
)
stepped {X} f xs begin i next row false found found_is done low high is further found_has next_is so_far = (
  omega (arith, next_is),
  ap₂ (λ (l : List Row) (n : ℕ). l ++ firsts_after (map f (slice_range xs n (i + 1))) (map f (drop (i + 1) xs))) found_has next_is
      ∙ begins f found done (slice_range xs begin i) (slice_range xs i (i + 1)) (drop i xs) (drop (i + 1) xs) row
      (rest_at xs i row high is) (alone xs i row high is) (sym further) so_far,
)

abbrev pub line_with : (interchanges refused groups sets accepted held outside : List ℕ) → List ℕ
line_with interchanges refused groups sets accepted held outside =
    joined (codes "total interchanges " ∷ interchanges ∷ codes " refused " ∷ refused ∷ codes " groups " ∷ groups ∷ codes " sets " ∷ sets
    ∷ codes " accepted " ∷ accepted ∷ codes " held " ∷ held ∷ codes " outside " ∷ outside ∷ [])

pub same_line : (i i_is r r_is g g_is s s_is a a_is h h_is o o_is : List ℕ) → i ≡ i_is → r ≡ r_is → g ≡ g_is → s ≡ s_is → a ≡ a_is
    → h ≡ h_is → o ≡ o_is → line_with i r g s a h o ≡ line_with i_is r_is g_is s_is a_is h_is o_is
same_line i i_is r r_is g g_is s s_is a a_is h h_is o o_is same_i same_r same_g same_s same_a same_h same_o =
    ap (λ (x : List ℕ). line_with x r g s a h o) same_i ∙ ap (λ (x : List ℕ). line_with i_is x g s a h o) same_r
    ∙ ap (λ (x : List ℕ). line_with i_is r_is x s a h o) same_g ∙ ap (λ (x : List ℕ). line_with i_is r_is g_is x a h o) same_s
    ∙ ap (λ (x : List ℕ). line_with i_is r_is g_is s_is x h o) same_a ∙ ap (λ (x : List ℕ). line_with i_is r_is g_is s_is a_is x o) same_h
    ∙ ap (λ (x : List ℕ). line_with i_is r_is g_is s_is a_is h_is x) same_o
