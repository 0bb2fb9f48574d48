-- A segment whose element has another number than the one code of a slot's first pick doesn't fit the slot.
use Rattle.std.proofs.Common.{◌≡◌, ℕ, ◌==◌, List, [], ◌∷◌, Bool, true, false, ◌&&◌, ◌||◌, refl, sym, ap, ◌∙◌, None}
use Rattle.std.proofs.lemmas.Bool.{eq-eqb, false≢true}
use Rattle.std.specs.List.{list_all}
use Rattle.std.specs.Str.{bytes_eq}
use Rattle.std.specs.Cmp.Lexicographic.{bytes_decides}
use Rattle.hub_kinds.specs.Words.{contains_text}
use Rattle.guide_tree.specs.declared.slot.Slot.{Slot}
use Rattle.guide_tree.specs.declared.slot.Pick.{Pick}
use Rattle.guide_tree.specs.Words.{Tree, segment, loop, no_trees, tree, Segment, Place, element_at, fits, fit_start, segment_id, use_of}
use Rattle.guide_tree.specs.Fits.{fit_slot}
use Rattle.guide_fast.specs.IdNumber.{id_number}
use Rattle.guide_fast.specs.FirstPick.{code_number, first_pick, slot_pick, tree_pick, may_pick}

other_text : (b : Bool) (x y : List ℕ) → (b ≡ true → x ≡ y) → (id_number x == id_number y) ≡ false → (b || false) ≡ false
other_text false x y same other = refl
other_text true x y same other =
    absurd (false≢true (sym other ∙ eq-eqb (id_number x) (id_number y) (ap id_number (same refl))))

right_false : (a b : Bool) → (a || b) ≡ false → b ≡ false
right_false false b e = e
right_false true b e = absurd (false≢true (sym e))

no_code : (codes : List (List ℕ)) (text : List ℕ) → ((code_number codes == 0) || (code_number codes == id_number text)) ≡ false
    → contains_text codes text ≡ false
no_code [] text e = refl
no_code (c ∷ []) text e =
    other_text (bytes_eq c text) c text (bytes_decides c text).0 (right_false (id_number c == 0) (id_number c == id_number text) e)
no_code (c ∷ d ∷ more) text e = absurd (false≢true (sym e))

none_picked : (s : Segment) (ps : List Pick) → may_pick s (first_pick ps) ≡ false
    → list_all (λ p. contains_text p.codes (element_at s p.position)) ps ≡ false
none_picked s [] e = absurd (false≢true (sym e))
none_picked s (p ∷ ps) e =
    ap (λ b. b && list_all (λ q. contains_text q.codes (element_at s q.position)) ps) (no_code p.codes (element_at s p.position) e)

pub and_false : (b : Bool) → (b && false) ≡ false
and_false true = refl
and_false false = refl

pub no_fit : (s : Segment) (x : Slot) → may_pick s (slot_pick x) ≡ false → fits x s ≡ false
no_fit s x e =
    ap (λ b. bytes_eq x.id (segment_id s) && b) (none_picked s x.picks e) ∙ and_false (bytes_eq x.id (segment_id s))

pub no_slot_fit : (s : Segment) (q : Place) (x : Slot) → fits x s ≡ false → fit_slot s q x ≡ None
no_slot_fit s q x e = rw e refl

pub no_start_picked : (s : Segment) (t : Tree) → may_pick s (tree_pick t) ≡ false → fit_start s t ≡ None
no_start_picked s (segment x) e = no_slot_fit s [] x (no_fit s x e)
no_start_picked s (loop l no_trees) e = refl
no_start_picked s (loop l (tree (segment x) ts)) e = no_slot_fit s (use_of 0 0 ∷ []) x (no_fit s x e)
no_start_picked s (loop l (tree (loop k us) ts)) e = refl
