-- The least key that isn't listed, among the entries of a table, which stand in the order of their keys.
use Rattle.std.proofs.Common.{◌≡◌, ℕ, List, [], ◌∷◌, Option, Some, None, Bool, true, false, not, cond, refl, sym, ap, String}
use Rattle.std.proofs.Common.{Global, string_bytes, option_map, Ordering, Less, nat_cmp, IfSome}
use Rattle.std.specs.Ordering.{is_gt}
use Rattle.std.specs.Cmp.Lexicographic.{slice_cmp}
use Rattle.std.specs.List.{All, find}
use Rattle.std.specs.List.Sorted.{IsStrictlySortedBy}
use Rattle.std.specs.Map.{keys_of as entry_keys}
use Rattle.std.proofs.lemmas.List.Elements.{All-head, All-tail}
use Rattle.std.proofs.lemmas.Map.Keys.{sorted_tail}
use Rattle.std.proofs.lemmas.Map.Views.{All-after_first}
use Rattle.toml.specs.declared.value.Value.{Value}
use Rattle.toml.specs.View.{members_view}
use Rattle.hub_kinds.specs.Words.{contains_text}
use Rattle.toml_keys.specs.Keys.{unknown_keys, lesser, least_text, least_unknown}

abbrev pub key_order : String Global → String Global → Ordering
key_order a b = slice_cmp nat_cmp (string_bytes a) (string_bytes b)

either_holds : (P : List ℕ → Type 0) (t : Bool) (a b : List ℕ) → P a → P b → P (cond t b a)
either_holds P true a b p q = q
either_holds P false a b p q = p

lesser_holds : (P : List ℕ → Type 0) (a : List ℕ) (o : Option (List ℕ)) → P a → IfSome o P → P (lesser a o)
lesser_holds P a None p q = p
lesser_holds P a (Some b) p q = either_holds P (is_gt (slice_cmp nat_cmp a b)) a b p q

abbrev Below : List ℕ → List ℕ → Type 0
Below a b = slice_cmp nat_cmp a b ≡ Less

passed : (a : List ℕ) (b : Bool) (k : List ℕ) (ks : List (List ℕ)) → IfSome (least_text ks) (Below a) → Below a k
    → IfSome (least_text (cond b ks (k ∷ ks))) (Below a)
passed a true k ks q p = q
passed a false k ks q p = lesser_holds (Below a) k (least_text ks) p q

-- what is below each key is below the least that isn't listed
below_least : (a : List ℕ) (listed : List (List ℕ)) (es : List (String Global × Value))
    → All (λ k. Below a (string_bytes k)) (entry_keys es) → IfSome (least_unknown listed (members_view es)) (Below a)
below_least a listed [] h = tt
below_least a listed (e ∷ es) h =
    passed a (contains_text listed (string_bytes e.0)) (string_bytes e.0) (unknown_keys listed (members_view es))
    (below_least a listed es (All-tail (λ k. Below a (string_bytes k)) e.0 (entry_keys es) h))
    (All-head (λ k. Below a (string_bytes k)) e.0 (entry_keys es) h)

stays : (a : List ℕ) (o : Option (List ℕ)) → IfSome o (Below a) → lesser a o ≡ a
stays a None h = refl
stays a (Some b) h = ap (λ r. cond (is_gt r) b a) h

step : (b : Bool) (k : String Global) (ks : List (List ℕ)) (o : Option (String Global))
    → lesser (string_bytes k) (least_text ks) ≡ string_bytes k → option_map string_bytes o ≡ least_text ks
    → option_map string_bytes (cond (not b) (Some k) o) ≡ least_text (cond b ks (string_bytes k ∷ ks))
step true k ks o s h = h
step false k ks o s h = ap Some (sym s)

-- of keys in order the first is the least
pub first_is_least : (listed : List (List ℕ)) (es : List (String Global × Value)) → IsStrictlySortedBy key_order (entry_keys es)
    → option_map string_bytes (find (λ (k : String Global). not (contains_text listed (string_bytes k))) (entry_keys es))
    ≡ least_unknown listed (members_view es)
first_is_least listed [] sorted = refl
first_is_least listed (e ∷ es) sorted =
    step (contains_text listed (string_bytes e.0)) e.0 (unknown_keys listed (members_view es))
    (find (λ (k : String Global). not (contains_text listed (string_bytes k))) (entry_keys es))
    (stays (string_bytes e.0) (least_unknown listed (members_view es))
    (below_least (string_bytes e.0) listed es (All-after_first key_order e.0 (entry_keys es) sorted)))
    (first_is_least listed es (sorted_tail key_order e.0 (entry_keys es) sorted))
