-- The element faults of a body, computed from its segments and their places, are those of the definition.
use Rattle.std.proofs.Common.{⊎_elim, ◌≡◌, ℕ, zero, suc, ◌+◌, List, [], ◌∷◌, ◌++◌, map, Option, Some, None, refl, sym, ◌∙◌}
use Rattle.std.proofs.Common.{ap, subst, arith}
use Rattle.std.specs.List.{slice_get}
use Rattle.x12_bytes.specs.declared.delims.Delims.{Delims}
use Rattle.hub_kinds.specs.declared.fault.Fault.{Fault}
use Rattle.hub_kinds.specs.declared.fault.ElemFault.{ElemFault}
use Rattle.guide_tree.specs.declared.slot.Slot.{Slot}
use Rattle.guide_tree.specs.Words.{Trees, Segment, Place, slot_at}
use Rattle.guide_tree.proofs.ForAbove.{In}
use Rattle.guide_law.proofs.ForAbove.{in_left, in_right, in_cases, in_map, in_mapped, in_contains, contains_in}
use Rattle.elem_rules.specs.ElementFaults.{IsElementFault}
use Rattle.elem_rules.specs.Found.{found}
use Rattle.elem_rules.proofs.ForAbove.{found_is, is_found}
use Rattle.loop_match.specs.LoopIds.{loop_id_of}
use Rattle.set_check.specs.SetFaults.{fault_of_element}
use Rattle.set_check.specs.Adding.{AreSound}

abbrev pub told : Trees → Delims → (at : ℕ) → Segment → Place → Option Slot → List Fault
told ts d at s q None = []
told ts d at s q (Some slot) = map (fault_of_element at s (loop_id_of ts q) slot) (found d s slot)

-- of the segments from a position on
abbrev pub errors_from : Trees → Delims → (at : ℕ) → List Segment → List (Option Place) → List Fault
errors_from ts d at [] given = []
errors_from ts d at (s ∷ body) [] = []
errors_from ts d at (s ∷ body) (None ∷ given) = errors_from ts d (at + 1) body given
errors_from ts d at (s ∷ body) (Some q ∷ given) = told ts d at s q (slot_at ts q) ++ errors_from ts d (at + 1) body given

pub record IsErrorFrom (ts : Trees) (d : Delims) (at : ℕ) (body : List Segment) (given : List (Option Place)) (f : Fault) : Type 0 where
  pub index : ℕ
  pub segment : Segment
  pub place : Place
  pub slot : Slot
  pub elem : ElemFault
  pub there : slice_get body index ≡ Some segment
  pub placed : slice_get given index ≡ Some (Some place)
  pub leads : slot_at ts place ≡ Some slot
  pub wrong : IsElementFault d segment slot elem
  pub is : f ≡ fault_of_element (at + index) segment (loop_id_of ts place) slot elem

here : (ts : Trees) (d : Delims) (at : ℕ) (s : Segment) (body : List Segment) (q : Place) (given : List (Option Place)) (f : Fault)
    (o : Option Slot) → AreSound ts → slot_at ts q ≡ o → In (told ts d at s q o) f → IsErrorFrom ts d at (s ∷ body) (Some q ∷ given) f
here ts d at s body q given f None ok e h = absurd h
here ts d at s body q given f (Some slot) ok e h =
    let m = in_mapped (fault_of_element at s (loop_id_of ts q) slot) (found d s slot) f h in
    let k : at ≡ at + 0 = omega arith in
    record {
      index = 0;
      segment = s;
      place = q;
      slot = slot;
      elem = m.value;
      there = refl;
      placed = refl;
      leads = e;
      wrong = found_is d s slot (ok q slot e).conditioned m.value (in_contains (found d s slot) m.value m.there);
      is = sym m.is ∙ ap (λ (n : ℕ). fault_of_element n s (loop_id_of ts q) slot m.value) k;
    }

later : (ts : Trees) (d : Delims) (at : ℕ) (s : Segment) (body : List Segment) (x : Option Place) (given : List (Option Place)) (f : Fault)
    → IsErrorFrom ts d (at + 1) body given f → IsErrorFrom ts d at (s ∷ body) (x ∷ given) f
later ts d at s body x given f r =
    let k : (at + 1) + r.index ≡ at + suc r.index = omega arith in
    record {
      index = suc r.index;
      segment = r.segment;
      place = r.place;
      slot = r.slot;
      elem = r.elem;
      there = r.there;
      placed = r.placed;
      leads = r.leads;
      wrong = r.wrong;
      is = r.is ∙ ap (λ (n : ℕ). fault_of_element n r.segment (loop_id_of ts r.place) r.slot r.elem) k;
    }

pub is_error : (ts : Trees) (d : Delims) (at : ℕ) (body : List Segment) (given : List (Option Place)) (f : Fault) → AreSound ts
    → In (errors_from ts d at body given) f → IsErrorFrom ts d at body given f
is_error ts d at [] given f ok h = absurd h
is_error ts d at (s ∷ body) [] f ok h = absurd h
is_error ts d at (s ∷ body) (None ∷ given) f ok h = later ts d at s body None given f (is_error ts d (at + 1) body given f ok h)
is_error ts d at (s ∷ body) (Some q ∷ given) f ok h =
    ⊎_elim (λ a. here ts d at s body q given f (slot_at ts q) ok refl a)
    (λ b. later ts d at s body (Some q) given f (is_error ts d (at + 1) body given f ok b))
    (in_cases (told ts d at s q (slot_at ts q)) (errors_from ts d (at + 1) body given) f h)

error_at : (ts : Trees) (d : Delims) (at : ℕ) (body : List Segment) (given : List (Option Place)) (i : ℕ) (s : Segment) (q : Place)
    (slot : Slot) (e : ElemFault) → slice_get body i ≡ Some s → slice_get given i ≡ Some (Some q) → slot_at ts q ≡ Some slot
    → In (found d s slot) e → In (errors_from ts d at body given) (fault_of_element (at + i) s (loop_id_of ts q) slot e)
error_at ts d at [] given i s q slot e b p l h = let k : None ≡ Some s = b in cc
error_at ts d at (z ∷ body) [] i s q slot e b p l h = let k : None ≡ Some (Some q) = p in cc
error_at ts d at (z ∷ body) (None ∷ given) zero s q slot e b p l h = cc
error_at ts d at (z ∷ body) (None ∷ given) (suc i) s q slot e b p l h =
    let k : (at + 1) + i ≡ at + suc i = omega arith in
    subst (λ (n : ℕ). In (errors_from ts d (at + 1) body given) (fault_of_element n s (loop_id_of ts q) slot e)) k
    (error_at ts d (at + 1) body given i s q slot e b p l h)
error_at ts d at (z ∷ body) (Some r ∷ given) zero s q slot e b p l h =
    let same : z ≡ s = cc in
    let there : r ≡ q = cc in
    let o : slot_at ts r ≡ Some slot = ap (slot_at ts) there ∙ l in
    let k : at ≡ at + 0 = omega arith in
    let m : In (told ts d at s q (Some slot)) (fault_of_element at s (loop_id_of ts q) slot e) =
    in_map (fault_of_element at s (loop_id_of ts q) slot) (found d s slot) e h in
    let n : In (told ts d at z r (slot_at ts r)) (fault_of_element at s (loop_id_of ts q) slot e) =
    subst (λ (x : Option Slot). In (told ts d at z r x) (fault_of_element at s (loop_id_of ts q) slot e)) (sym o)
    (subst (λ (x : Place). In (told ts d at z x (Some slot)) (fault_of_element at s (loop_id_of ts q) slot e)) (sym there)
    (subst (λ (x : Segment). In (told ts d at x q (Some slot)) (fault_of_element at s (loop_id_of ts q) slot e)) (sym same) m)) in
    subst (λ (n : ℕ). In (errors_from ts d at (z ∷ body) (Some r ∷ given)) (fault_of_element n s (loop_id_of ts q) slot e)) k
    (in_left (told ts d at z r (slot_at ts r)) (errors_from ts d (at + 1) body given) _ n)
error_at ts d at (z ∷ body) (Some r ∷ given) (suc i) s q slot e b p l h =
    let k : (at + 1) + i ≡ at + suc i = omega arith in
    in_right (told ts d at z r (slot_at ts r)) (errors_from ts d (at + 1) body given) _
    (subst (λ (n : ℕ). In (errors_from ts d (at + 1) body given) (fault_of_element n s (loop_id_of ts q) slot e)) k
    (error_at ts d (at + 1) body given i s q slot e b p l h))

pub error_is : (ts : Trees) (d : Delims) (at : ℕ) (body : List Segment) (given : List (Option Place)) (f : Fault) → AreSound ts
    → IsErrorFrom ts d at body given f → In (errors_from ts d at body given) f
error_is ts d at body given f ok r =
    subst (λ (x : Fault). In (errors_from ts d at body given) x) (sym r.is)
    (error_at ts d at body given r.index r.segment r.place r.slot r.elem r.there r.placed r.leads
    (contains_in (found d r.segment r.slot) r.elem
    (is_found d r.segment r.slot (ok r.place r.slot r.leads).conditioned r.elem r.wrong)))
