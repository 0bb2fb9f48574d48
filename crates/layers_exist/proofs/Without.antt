-- Faults whose key none of some others has.
use Rattle.std.proofs.Common.{◌≡◌, ◌↔◌, ◌⊎◌, inl, inr, ℕ, List, [], ◌∷◌, refl, sym, ap, subst, ◌∙◌}
use Rattle.std.specs.Cmp.Lexicographic.{slice_cmp}
use Rattle.std.specs.Ordering.{nat_cmp}
use Rattle.std.specs.declared.cmp.Ordering.{Ordering}
use Rattle.std.specs.declared.cmp.Ordering.TheVariants.{Less, Equal, Greater}
use Rattle.std.proofs.lemmas.Cmp.{nat_list_cmp_total, tied_itself}
use Rattle.std.proofs.lemmas.Map.Lookups.{exact_bytes}
use Rattle.hub_kinds.specs.declared.fault.Fault.{Fault}
use Rattle.hub_kinds.specs.Words.{key_of}
use Rattle.guide_tree.proofs.ForAbove.{In}

abbrev pub HasKeyIn : List Fault → Fault → Type 0
HasKeyIn fs f = (e : Fault) × In fs e × (key_of e ≡ key_of f)

tied : (j k : List ℕ) → j ≡ k → slice_cmp nat_cmp j k ≡ Equal
tied j k e = ap (λ (l : List ℕ). slice_cmp nat_cmp l k) e ∙ tied_itself nat_list_cmp_total k

is_key : (j k : List ℕ) → (j ≡ k) ⊎ (j ≡ k → ⊥)
is_key j k = by (slice_cmp nat_cmp j k) refl
  where
    by : (o : Ordering) → slice_cmp nat_cmp j k ≡ o → (j ≡ k) ⊎ (j ≡ k → ⊥)
    by Equal is = inl (exact_bytes j k is)
    by Less is = inr (λ e. let no : Less ≡ Equal = sym is ∙ tied j k e in cc)
    by Greater is = inr (λ e. let no : Greater ≡ Equal = sym is ∙ tied j k e in cc)

has_key : (fs : List Fault) (f : Fault) → HasKeyIn fs f ⊎ (HasKeyIn fs f → ⊥)
has_key [] f = inr (λ h. absurd h.1)
has_key (e ∷ fs) f = elim (is_key (key_of e) (key_of f)) [
  | inl k ↦ inl (e, inl refl, k)
  | inr other ↦ elim (has_key fs f) [
    | inl (x, i, k) ↦ inl (x, inr i, k)
    | inr none ↦ inr (λ h. both h.0 h.1 h.2 other none)
  ]
]
  where
    both : (x : Fault) → In (e ∷ fs) x → key_of x ≡ key_of f → (key_of e ≡ key_of f → ⊥) → (HasKeyIn fs f → ⊥) → ⊥
    both x (inl same) k other none = other (ap key_of same ∙ k)
    both x (inr i) k other none = none (x, i, k)

-- those of the second list whose key none of the first has
pub without : (fs hs : List Fault) → (left : List Fault) × ((f : Fault) → In left f ↔ (In hs f × (HasKeyIn fs f → ⊥)))
without fs [] = ([], λ f. (λ i. absurd i, λ h. absurd h.0))
without fs (h ∷ hs) = by (has_key fs h) (without fs hs)
  where
    by : HasKeyIn fs h ⊎ (HasKeyIn fs h → ⊥) → (left : List Fault) × ((f : Fault) → In left f ↔ (In hs f × (HasKeyIn fs f → ⊥)))
        → (left : List Fault) × ((f : Fault) → In left f ↔ (In (h ∷ hs) f × (HasKeyIn fs f → ⊥)))
    by (inl has) (left, are) = (left, λ f. (λ i. (let r = (are f).0 i in (inr r.0, r.1)), λ r. back f r.0 r.1))
      where
        back : (f : Fault) → In (h ∷ hs) f → (HasKeyIn fs f → ⊥) → In left f
        back f (inl same) none = absurd (none (subst (HasKeyIn fs) same has))
        back f (inr i) none = (are f).1 (i, none)
    by (inr none) (left, are) = (h ∷ left, λ f. (λ i. to f i, λ r. back f r.0 r.1))
      where
        to : (f : Fault) → In (h ∷ left) f → In (h ∷ hs) f × (HasKeyIn fs f → ⊥)
        to f (inl same) = (inl same, subst (λ (x : Fault). HasKeyIn fs x → ⊥) same none)
        to f (inr i) = (let r = (are f).0 i in (inr r.0, r.1))

        back : (f : Fault) → In (h ∷ hs) f → (HasKeyIn fs f → ⊥) → In (h ∷ left) f
        back f (inl same) free = inl same
        back f (inr i) free = inr ((are f).1 (i, free))
