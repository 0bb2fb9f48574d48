-- What keys show: that a condition, a pair of levels or a code of a dependency is among others.
use Rattle.std.proofs.Common.{◌≡◌, ◌∙◌, ℕ, ◌+◌, ◌<◌, Bool, true, false, List, [], ◌∷◌, ◌++◌, Option, Some, None, ap, get_or, length, map}
use Rattle.std.proofs.Common.{refl, subst}
use Rattle.std.proofs.Common.{append_assoc, arith, suc, sym, take}
use Rattle.std.specs.Prelude.{◌&&◌, ◌||◌, ◌==◌, Vec}
use Rattle.std.specs.BTreeSet.{BTreeSet}
use Rattle.std.specs.List.{flat_map, list_any}
use Rattle.std.specs.Str.{bytes_eq}
use Rattle.std.specs.declared.alloc.Global.{Global}
use Rattle.std.proofs.lemmas.Bool.{both_ways, eq-eqb, eqb-true}
use Rattle.std.proofs.lemmas.Grind.{flat_map-append}
use Rattle.std.proofs.lemmas.List.{append-nil, map-append, take_more}
use Rattle.std.proofs.lemmas.List.Folds.{list_any-append}
use Rattle.hub_kinds.specs.Words.{contains_text}
use Rattle.guide_tree.specs.Codes.{has, Knows}
use Rattle.guide_tree.specs.declared.rows.Dependency.{Dependency}
use Rattle.guide_tree.specs.declared.rows.DependencyKind.{DependencyKind}
use Rattle.guide_tree.specs.declared.rows.DependencyKind.TheVariants.{Need, Ban}
use Rattle.guide_tree.specs.declared.rows.HlPair.{HlPair}
use Rattle.guide_tree.specs.declared.slot.Condition.{Condition}
use Rattle.guide_widening.specs.Differences.{is_pair_in}
use Rattle.guide_widening.specs.Keys.{code_keys, condition_key, dependency_key, kind_number, level_key, measured, pair_key}
use Rattle.guide_widening.specs.NodeDifferences.{is_condition_in}
use Rattle.guide_widening.specs.Nodes.{is_same_condition, is_same_text}
use Rattle.guide_widening.specs.Rules.{asks_same, is_code_asked, is_same_kind, is_same_pair}

moved : (l e r : Bool) (x : Bool) → (l && r) ≡ x → (l && (e && r)) ≡ (e && x)
moved true true r x h = h
moved true false r x h = refl
moved false true r x h = h
moved false false r x h = refl

grouped : (e b x : Bool) → (e && (b && x)) ≡ ((e && b) && x)
grouped true b x = refl
grouped false b x = refl

differ : (a b : ℕ) → (a ≡ b → ⊥) → (a == b) ≡ false
differ a b n = by (a == b) refl
  where
    by : (e : Bool) → (a == b) ≡ e → (a == b) ≡ false
    by true h = absurd (n (eqb-true a b h))
    by false h = h

same_suc : (a b : ℕ) → (suc a == suc b) ≡ (a == b)
same_suc a b = by (a == b) refl
  where
    by : (e : Bool) → (a == b) ≡ e → (suc a == suc b) ≡ (a == b)
    by true h = eq-eqb (suc a) (suc b) (ap suc (eqb-true a b h)) ∙ sym h
    by false h = differ (suc a) (suc b) (λ e. both_ways (a == b) h (eq-eqb a b (omega (arith, e)))) ∙ sym h

-- texts that follow measured ones
same_rest : (a b x y : List ℕ) → ((length a == length b) && bytes_eq (a ++ x) (b ++ y)) ≡ (bytes_eq a b && bytes_eq x y)
same_rest [] [] x y = refl
same_rest [] (c ∷ b) x y =
    ap (λ (e : Bool). e && bytes_eq x (c ∷ (b ++ y))) (differ 0 (suc (length b)) (λ e. absurd (omega (arith, e))))
same_rest (c ∷ a) [] x y =
    ap (λ (e : Bool). e && bytes_eq (c ∷ (a ++ x)) y) (differ (suc (length a)) 0 (λ e. absurd (omega (arith, e))))
same_rest (c ∷ a) (d ∷ b) x y =
    ap (λ (e : Bool). e && ((c == d) && bytes_eq (a ++ x) (b ++ y))) (same_suc (length a) (length b))
    ∙ moved (length a == length b) (c == d) (bytes_eq (a ++ x) (b ++ y)) (bytes_eq a b && bytes_eq x y) (same_rest a b x y)
    ∙ grouped (c == d) (bytes_eq a b) (bytes_eq x y)

module _ {X : Type 0} (key : X → List ℕ) (same : X → X → Bool) (agree : (x y : X) → bytes_eq (key x) (key y) ≡ same x y) where
  among : (xs : List X) (y : X) → contains_text (map key xs) (key y) ≡ list_any (λ x. same x y) xs
  among [] y = refl
  among (x ∷ xs) y =
      ap (λ (b : Bool). b || contains_text (map key xs) (key y)) (agree x y) ∙ ap (λ (b : Bool). same x y || b) (among xs y)

condition_agrees : (c d : Condition) → bytes_eq (condition_key c) (condition_key d) ≡ is_same_condition c d
condition_agrees c d = refl

pub condition_found : (known : BTreeSet (Vec ℕ Global)) (conditions : List Condition) (c : Condition)
    → Knows known (map condition_key conditions) → has known (condition_key c) ≡ is_condition_in conditions c
condition_found known conditions c knows =
    knows (condition_key c) ∙ among condition_key is_same_condition condition_agrees conditions c

level_agrees : (a b : Option (List ℕ)) (x y : List ℕ) → bytes_eq (level_key a ++ x) (level_key b ++ y) ≡ (is_same_text a b && bytes_eq x y)
level_agrees None None x y = refl
level_agrees None (Some b) x y = refl
level_agrees (Some a) None x y = refl
level_agrees (Some a) (Some b) x y = same_rest a b x y

pair_agrees : (p q : HlPair) → bytes_eq (pair_key p) (pair_key q) ≡ is_same_pair p q
pair_agrees p q = level_agrees p.parent q.parent p.child q.child

pub pair_found : (known : BTreeSet (Vec ℕ Global)) (pairs : List HlPair) (p : HlPair) → Knows known (map pair_key pairs)
    → has known (pair_key p) ≡ is_pair_in pairs p
pair_found known pairs p knows = knows (pair_key p) ∙ among pair_key is_same_pair pair_agrees pairs p

kind_agrees : (a b : DependencyKind) → (kind_number a == kind_number b) ≡ is_same_kind a b
kind_agrees Need Need = refl
kind_agrees Need Ban = refl
kind_agrees Ban Need = refl
kind_agrees Ban Ban = refl

joined : (k a e s t c : Bool) → (k && (a && (e && (s && (t && c))))) ≡ ((k && (a && (e && (s && t)))) && c)
joined true true true true t c = refl
joined true true true false t c = refl
joined true true false s t c = refl
joined true false e s t c = refl
joined false a e s t c = refl

code_agrees : (d e : Dependency) (c b : List ℕ) → bytes_eq (dependency_key d c) (dependency_key e b) ≡ (asks_same d e && bytes_eq c b)
code_agrees d e c b =
    let at = d.at == e.at in
    let element = d.element == e.element in
    ap (λ (k : Bool). k && (at && (element && ((length d.slot == length e.slot)
    && bytes_eq (d.slot ++ (measured d.target ++ c)) (e.slot ++ (measured e.target ++ b)))))) (kind_agrees d.kind e.kind)
    ∙ ap (λ (r : Bool). is_same_kind d.kind e.kind && (at && (element && r)))
    (same_rest d.slot e.slot (measured d.target ++ c) (measured e.target ++ b)
    ∙ ap (λ (r : Bool). bytes_eq d.slot e.slot && r) (same_rest d.target e.target c b))
    ∙ joined (is_same_kind d.kind e.kind) at element (bytes_eq d.slot e.slot) (bytes_eq d.target e.target) (bytes_eq c b)

nothing : (a : Bool) → false ≡ (a && false)
nothing true = refl
nothing false = refl

either : (a b c : Bool) → ((a && b) || (a && c)) ≡ (a && (b || c))
either true b c = refl
either false b c = refl

codes_among : (d e : Dependency) (code : List ℕ) (codes : List (List ℕ)) → list_any (λ k. bytes_eq k (dependency_key e code))
    (map (dependency_key d) codes) ≡ (asks_same d e && list_any (λ c. bytes_eq c code) codes)
codes_among d e code [] = nothing (asks_same d e)
codes_among d e code (c ∷ codes) =
    ap (λ (b : Bool). b || list_any (λ k. bytes_eq k (dependency_key e code)) (map (dependency_key d) codes)) (code_agrees d e c code)
    ∙ ap (λ (b : Bool). (asks_same d e && bytes_eq c code) || b) (codes_among d e code codes)
    ∙ either (asks_same d e) (bytes_eq c code) (list_any (λ t. bytes_eq t code) codes)

asked : (depends : List Dependency) (e : Dependency) (code : List ℕ)
    → contains_text (flat_map code_keys depends) (dependency_key e code) ≡ is_code_asked depends e code
asked [] e code = refl
asked (d ∷ depends) e code =
    list_any-append (λ k. bytes_eq k (dependency_key e code)) (code_keys d) (flat_map code_keys depends)
    ∙ ap (λ (b : Bool). b || contains_text (flat_map code_keys depends) (dependency_key e code)) (codes_among d e code d.codes)
    ∙ ap (λ (b : Bool). (asks_same d e && contains_text d.codes code) || b) (asked depends e code)

pub code_found : (known : BTreeSet (Vec ℕ Global)) (depends : List Dependency) (e : Dependency) (code : List ℕ)
    → Knows known (flat_map code_keys depends) → has known (dependency_key e code) ≡ is_code_asked depends e code
code_found known depends e code knows = knows (dependency_key e code) ∙ asked depends e code

-- one item more
pub next_keys : {X : Type 0} (known : BTreeSet (Vec ℕ Global)) (f : X → List ℕ) (before : List (List ℕ)) (xs : List X) (i : ℕ) (x : X)
    → i < length xs → (key : List ℕ) → key ≡ f (get_or xs i x) → Knows known ((before ++ map f (take i xs)) ++ key ∷ [])
    → Knows known (before ++ map f (take (i + 1) xs))
next_keys known f before xs i x within key is knows =
    subst (λ (l : List (List ℕ)). Knows known (before ++ l))
    (sym (ap (map f) (take_more xs i x within) ∙ map-append f (take i xs) (get_or xs i x ∷ [])))
    (subst (Knows known) (append_assoc before (map f (take i xs)) (f (get_or xs i x) ∷ []))
    (subst (λ (k : List ℕ). Knows known ((before ++ map f (take i xs)) ++ k ∷ [])) is knows))

-- one item more, of which there are several keys
pub next_all : {X : Type 0} (known : BTreeSet (Vec ℕ Global)) (f : X → List (List ℕ)) (xs : List X) (i : ℕ) (x : X) → i < length xs
    → Knows known (flat_map f (take i xs) ++ f (get_or xs i x)) → Knows known (flat_map f (take (i + 1) xs))
next_all known f xs i x within knows =
    subst (Knows known)
    (sym (ap (flat_map f) (take_more xs i x within)
    ∙ flat_map-append f (take i xs) (get_or xs i x ∷ [])
    ∙ ap (λ (l : List (List ℕ)). flat_map f (take i xs) ++ l) (append-nil (f (get_or xs i x))))) knows
