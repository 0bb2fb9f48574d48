-- An ordered set of keys, with one more.
use Rattle.std.proofs.Common.{◌≡◌, ℕ, ◌+◌, ◌<◌, Bool, true, false, ◌||◌, cond, List, [], ◌∷◌, ◌++◌, take, length, get_or, Vec}
use Rattle.std.proofs.Common.{refl, sym, ap, subst, ⊎_elim, ◌∙◌}
use Rattle.std.specs.BTreeSet.{BTreeSet, UpdatesBy}
use Rattle.std.specs.Cmp.Lexicographic.{slice_cmp}
use Rattle.std.specs.List.{list_any}
use Rattle.std.specs.Map.{IsKeyTest, AreApart}
use Rattle.std.specs.Set.{KeepsOthers}
use Rattle.std.specs.Ordering.{is_eq, nat_cmp}
use Rattle.std.specs.Str.{bytes_eq}
use Rattle.std.specs.declared.alloc.Global.{Global}
use Rattle.std.specs.declared.cmp.Ordering.{Ordering}
use Rattle.std.specs.Cmp.{eq_by_cmp_equiv}
use Rattle.std.proofs.lemmas.Bool.{cases_Bool, cond-true, cond-false}
use Rattle.std.proofs.lemmas.Cmp.{nat_list_cmp_total, nat_list_eq_equiv}
use Rattle.std.proofs.lemmas.List.{take_more}
use Rattle.std.proofs.lemmas.List.Folds.{list_any-append}
use Rattle.std.proofs.lemmas.Map.Text.{is_eq-slice_cmp}
use Rattle.std.proofs.lemmas.Slice.Eq.{bytes_eq-Decides}
use Rattle.hub_kinds.specs.Words.{contains_text}
use Rattle.guide_tree.specs.Codes.{has, Knows}

abbrev by_items : Vec ℕ Global → Vec ℕ Global → Ordering
by_items a b = slice_cmp nat_cmp a.items b.items

apart : (bs cs ks : List ℕ) → bytes_eq bs cs ≡ false → is_eq (slice_cmp nat_cmp bs ks) ≡ true → is_eq (slice_cmp nat_cmp cs ks) ≡ false
apart bs cs ks n y =
    is_eq-slice_cmp cs ks ∙ nat_list_eq_equiv.symm cs ks
    ∙ sym (nat_list_eq_equiv.congr bs ks cs (sym (is_eq-slice_cmp bs ks) ∙ y)) ∙ n

module _ {K : Type 0} (eq : K → K → Bool) (test : K → Bool) where
  other_keys : (old new : List K) → KeepsOthers eq test old new → (other : K → Bool) → IsKeyTest eq other → AreApart test other
      → list_any other new ≡ list_any other old
  unfolding KeepsOthers
  other_keys old new h = h

-- what a new key changes, at the key and at others
updated : (old new : BTreeSet (Vec ℕ Global)) (key : Vec ℕ Global) → UpdatesBy by_items (by_items key) old new true → (asked : List ℕ)
    → has new asked ≡ cond (bytes_eq key.items asked) true (has old asked)
updated old new key h asked = ⊎_elim
    (λ y. subst (λ l. has new l ≡ true) ((bytes_eq-Decides key.items asked).0 y) h.1
    ∙ sym (cond-true (bytes_eq key.items asked) true (has old asked) y))
    (λ n. other_keys _ _ _ _ h.3 _ (λ x y. (eq_by_cmp_equiv nat_list_cmp_total).congr asked x.items y.items)
    (λ k. apart key.items asked k.items n)
    ∙ sym (cond-false (bytes_eq key.items asked) true (has old asked) n))
    (cases_Bool (bytes_eq key.items asked))

with_one : (is known : Bool) → cond is true known ≡ (known || (is || false))
with_one true true = refl
with_one true false = refl
with_one false true = refl
with_one false false = refl

pub grown : (old new : BTreeSet (Vec ℕ Global)) (key : Vec ℕ Global) (text : List ℕ) (texts : List (List ℕ)) → key.items ≡ text
    → UpdatesBy by_items (by_items key) old new true → Knows old texts → Knows new (texts ++ text ∷ [])
grown old new key text texts is added knows = λ asked.
    updated old new key added asked
    ∙ ap (cond (bytes_eq key.items asked) true) (knows asked)
    ∙ with_one (bytes_eq key.items asked) (contains_text texts asked)
    ∙ ap (λ (m : List ℕ). contains_text texts asked || (bytes_eq m asked || false)) is
    ∙ sym (list_any-append (λ t. bytes_eq t asked) texts (text ∷ []))
