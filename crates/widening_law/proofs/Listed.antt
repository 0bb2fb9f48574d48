-- Lists of texts, and of what stands in another list.
use Rattle.std.proofs.Common.{◌≡◌, ℕ, List, [], ◌∷◌, Bool, true, refl, ap, sym, ◌∙◌, subst}
use Rattle.std.specs.List.{list_all, list_any, Contains}
use Rattle.std.specs.Str.{bytes_eq}
use Rattle.std.proofs.lemmas.Slice.Eq.{bytes_eq-Decides}
use Rattle.hub_kinds.specs.Words.{contains_text}
use Rattle.guide_tree.proofs.ForAbove.{In, all_at, any_found}
use Rattle.guide_law.proofs.ForAbove.{contains_in, in_contains}
use Rattle.guide_widening.specs.Rows.{are_texts_of}

pub same_texts : (a b : List ℕ) → bytes_eq a b ≡ true → a ≡ b
same_texts a b e = (bytes_eq-Decides a b).0 e

pub texts_same : (a b : List ℕ) → a ≡ b → bytes_eq a b ≡ true
texts_same a b e = (bytes_eq-Decides a b).1 e

-- a text of a list that is among another's is one of that
pub among : (other texts : List (List ℕ)) (text : List ℕ) → are_texts_of other texts ≡ true → contains_text texts text ≡ true
    → contains_text other text ≡ true
among other texts text all there =
    let r = any_found (λ t. bytes_eq t text) texts there in
    let same : r.one ≡ text = same_texts r.one text r.passes in
    subst (λ (t : List ℕ). contains_text other t ≡ true) same (all_at (contains_text other) texts r.one all r.among)

pub all_of : {X : Type 0} (test : X → Bool) (xs : List X) (x : X) → list_all test xs ≡ true → Contains xs x → test x ≡ true
all_of test xs x all there = all_at test xs x all (contains_in xs x there)

pub record Member {X : Type 0} (test : X → Bool) (xs : List X) : Type 0 where
  pub one : X
  pub among : Contains xs one
  pub passes : test one ≡ true

pub any_of : {X : Type 0} (test : X → Bool) (xs : List X) → list_any test xs ≡ true → Member test xs
any_of test xs h = let r = any_found test xs h in record { one = r.one; among = in_contains xs r.one r.among; passes = r.passes }
