-- The slots of a guide are those of its tree.
use Rattle.std.proofs.Common.{◌≡◌, ℕ, ◌+◌, ◌==◌, length, List, [], ◌∷◌, Bool, true, false, ◌||◌, not, cond}
use Rattle.std.proofs.Common.{refl, sym, ap, ◌∙◌}
use Rattle.std.proofs.Common.{Option, Some, None, arith}
use Rattle.std.specs.Prelude.{is_some}
use Rattle.std.specs.Str.{bytes_eq}
use Rattle.std.specs.List.{list_any}
use Rattle.std.proofs.lemmas.Bool.{ne_eqb}
use Rattle.std.proofs.lemmas.List.Folds.{list_any-append}
use Rattle.hub_kinds.specs.Words.{contains_text}
use Rattle.guide_tree.specs.declared.slot.Slot.{Slot}
use Rattle.guide_tree.specs.Words.{Tree, Trees, segment, loop, no_trees, tree, Segment, or_else, fits, any_slot}
use Rattle.guide_tree.specs.Words.{find_slot, find_slot_in}
use Rattle.guide_fast.specs.Listed.{places_of}
use Rattle.guide_fast.specs.Slots.{slots_in, slots_of, slot_ids}

abbrev is_nil : List ℕ → Bool
is_nil [] = true
is_nil (x ∷ xs) = false

some_there : (b : Bool) (k : ℕ) (ks : List ℕ) (any : Bool) → not (is_nil ks) ≡ any → not (is_nil (cond b (k ∷ ks) ks)) ≡ (b || any)
some_there true k ks any e = refl
some_there false k ks any e = e

contained : (text : List ℕ) (k : ℕ) (texts : List (List ℕ)) → not (is_nil (places_of text k texts)) ≡ contains_text texts text
contained text k [] = refl
contained text k (t ∷ texts) =
    some_there (bytes_eq t text) k (places_of text (k + 1) texts) (contains_text texts text) (contained text (k + 1) texts)

nil_by_length : (xs : List ℕ) → (length xs == 0) ≡ is_nil xs
nil_by_length [] = refl
nil_by_length (x ∷ xs) = ne_eqb _ _ (λ e. absurd (omega (arith, e)))

pub has_some : (text : List ℕ) (texts : List (List ℕ)) (ks : List ℕ) (b : Bool) → b ≡ (length ks == 0) → ks ≡ places_of text 0 texts
    → not b ≡ contains_text texts text
has_some text texts ks b e h = ap not (e ∙ nil_by_length ks ∙ ap is_nil h) ∙ contained text 0 texts

either : {A : Type 0} (a b : Option A) → is_some (or_else a b) ≡ (is_some a || is_some b)
either None b = refl
either (Some x) b = refl

alone : (b : Bool) (s : Slot) → is_some (cond b (Some s) None) ≡ (b || false)
alone true s = refl
alone false s = refl

mutual
  any_in : (test : Slot → Bool) (t : Tree) → is_some (find_slot_in test t) ≡ list_any test (slots_in t)
  any_in test (segment s) = alone (test s) s
  any_in test (loop l ts) = any_of test ts

  any_of : (test : Slot → Bool) (ts : Trees) → any_slot test ts ≡ list_any test (slots_of ts)
  any_of test no_trees = refl
  any_of test (tree t ts) =
      either (find_slot_in test t) (find_slot test ts)
      ∙ ap (λ (b : Bool). b || is_some (find_slot test ts)) (any_in test t)
      ∙ ap (λ (b : Bool). list_any test (slots_in t) || b) (any_of test ts)
      ∙ sym (list_any-append test (slots_in t) (slots_of ts))

id_known : (id : List ℕ) (slots : List Slot) → contains_text (slot_ids slots) id ≡ list_any (λ s. bytes_eq s.id id) slots
id_known id [] = refl
id_known id (s ∷ slots) = ap (λ (b : Bool). bytes_eq s.id id || b) (id_known id slots)

pub any_fit : (s : Segment) (ts : Trees) (slots : List Slot) → slots ≡ slots_of ts
    → list_any (λ x. fits x s) slots ≡ any_slot (λ x. fits x s) ts
any_fit s ts slots e = ap (list_any (λ x. fits x s)) e ∙ sym (any_of (λ x. fits x s) ts)

pub known_id : (id : List ℕ) (ts : Trees) (slots : List Slot) (b : Bool) → slots ≡ slots_of ts
    → b ≡ contains_text (slot_ids slots) id → b ≡ any_slot (λ x. bytes_eq x.id id) ts
known_id id ts slots b e h =
    h ∙ id_known id slots ∙ ap (list_any (λ x. bytes_eq x.id id)) e ∙ sym (any_of (λ x. bytes_eq x.id id) ts)
