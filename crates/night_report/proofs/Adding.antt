-- Totals add up, whatever they are of.
use Rattle.std.proofs.Common.{ℕ, ◌≡◌, ◌+◌, List, [], ◌∷◌, ap, sym, ◌∙◌, arith}
use Rattle.std.specs.List.{sum_by}
use Rattle.std.proofs.lemmas.List.Sums.{sum_by-append}
use Rattle.night_report.specs.Adding.{added, none, together}
use Rattle.night_report.specs.declared.totals.Totals.{Totals}

pub sum_by-cons : {X : Type 0} (f : X → ℕ) (x : X) (xs : List X) → sum_by f (x ∷ xs) ≡ f x + sum_by f xs
sum_by-cons f x xs =
    let split : sum_by f (x ∷ xs) ≡ (0 + f x) + sum_by f xs = sum_by-append f (x ∷ []) xs in
    omega arith

of : (interchanges refused groups sets accepted held : ℕ) → Totals
of i r g s a h = record { interchanges = i; refused = r; groups = g; sets = s; accepted = a; held = h }

pub same : (a b : Totals) → a.interchanges ≡ b.interchanges → a.refused ≡ b.refused → a.groups ≡ b.groups → a.sets ≡ b.sets
    → a.accepted ≡ b.accepted → a.held ≡ b.held → a ≡ b
unfolding of
same a b i r g s t h =
    ap (λ (n : ℕ). of n a.refused a.groups a.sets a.accepted a.held) i
    ∙ ap (λ (n : ℕ). of b.interchanges n a.groups a.sets a.accepted a.held) r
    ∙ ap (λ (n : ℕ). of b.interchanges b.refused n a.sets a.accepted a.held) g
    ∙ ap (λ (n : ℕ). of b.interchanges b.refused b.groups n a.accepted a.held) s
    ∙ ap (λ (n : ℕ). of b.interchanges b.refused b.groups b.sets n a.held) t
    ∙ ap (λ (n : ℕ). of b.interchanges b.refused b.groups b.sets b.accepted n) h

pub with_none : (a : Totals) → a ≡ together a none
with_none a = same a (together a none) (omega arith) (omega arith) (omega arith) (omega arith) (omega arith) (omega arith)

pub none_with : (a : Totals) → together none a ≡ a
none_with a = same (together none a) a (omega arith) (omega arith) (omega arith) (omega arith) (omega arith) (omega arith)

together_assoc : (a b c : Totals) → together (together a b) c ≡ together a (together b c)
together_assoc a b c =
    same (together (together a b) c) (together a (together b c)) (omega arith) (omega arith) (omega arith) (omega arith) (omega arith)
    (omega arith)

-- what is counted one by one is what is counted of all, where that begins with none and grows by each
pub added_is : {A : Type 0} (count : A → Totals) (total : List A → Totals) → total [] ≡ none
    → ((a : A) (more : List A) → total (a ∷ more) ≡ together (count a) (total more)) → (before : Totals) (all : List A)
    → added count before all ≡ together before (total all)
added_is count total nothing grows before [] = with_none before ∙ ap (together before) (sym nothing)
added_is count total nothing grows before (a ∷ more) =
    added_is count total nothing grows (together before (count a)) more ∙ together_assoc before (count a) (total more)
    ∙ ap (together before) (sym (grows a more))

pub added_to_none : {A : Type 0} (count : A → Totals) (total : List A → Totals) → total [] ≡ none
    → ((a : A) (more : List A) → total (a ∷ more) ≡ together (count a) (total more)) → (all : List A)
    → added count none all ≡ total all
added_to_none count total nothing grows all = added_is count total nothing grows none all ∙ none_with (total all)
