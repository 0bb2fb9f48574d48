-- A segment that is taken: what will have been found is what would have been with it still to come.
use Rattle.std.proofs.Common.{◌≡◌, ℕ, ◌+◌, ◌<◌, ◌≤◌, List, [], ◌∷◌, ◌++◌, map, Some, None, sym, ap, subst, ◌∙◌, arith}
use Rattle.std.proofs.Common.{true, false, refl, ◌↔◌, ◌⊎◌}
use Rattle.std.specs.List.{AllByRecursion, Contains}
use Rattle.std.specs.Str.{bytes_eq}
use Rattle.std.proofs.lemmas.Bool.{and_parts}
use Rattle.hub_kinds.specs.declared.fault.Fault.{Fault}
use Rattle.x12_segs.specs.Words.{SegValue, elements_of}
use Rattle.guide_tree.specs.Words.{GuideTree, Segment, Place, Candidate, fit_behind, step_faults, stray_fault, segment_id, nexts}
use Rattle.guide_tree.specs.Words.{IsSound, IsWellFormed}
use Rattle.guide_law.proofs.ForAbove.{Found, first_found}
use Rattle.loop_match.specs.declared.next.Step.{Step}
use Rattle.loop_match.specs.declared.next.Turn.{Turn}
use Rattle.loop_match.specs.LoopIds.{loop_id_of}
use Rattle.loop_match.specs.Steps.{place_view, last_of, turned, HasGone}
use Rattle.loop_match.proofs.ForAbove.{behind_is, left, found_step, found_stray, all_wider, gone_stray, gone_turn, room_more}
use Rattle.elem_rules.specs.NodeSlots.{IsSlotOf}
use Rattle.set_walk.specs.Told.{IsTold, Adds}
use Rattle.set_walk.specs.Kept.{Slotted, IsKept}
use Rattle.set_walk.specs.Walked.{next_for, IsErrorFrom, last_in, HasTaken}
use Rattle.set_walk.specs.declared.seen.Seen.{Seen}
use Rattle.set_walk.proofs.Erring.{leads_to, errors_placed, errors_stray}
use Rattle.set_walk.proofs.Slotting.{slotted_placed, slotted_stray}
use Rattle.set_walk.proofs.SoundPlaces.{sound_places}

abbrev Leads : GuideTree → List Step → Turn → SegValue → Type 0
Leads g last t seg = Some (turned (place_view last) t) ≡ fit_behind (elements_of seg) g.nodes (place_view last)

found : (g : GuideTree) (last : List Step) (t : Turn) (seg : SegValue) → Leads g last t seg
    → next_for g.nodes (last_of (place_view last)) seg ≡ Some (turned (place_view last) t)
found g last t seg e = behind_is (elements_of seg) g.nodes (place_view last) ∙ sym e

pub sound_turn : (g : GuideTree) (last : List Step) (t : Turn) (seg : SegValue) → IsWellFormed g → Leads g last t seg
    → IsSound t.slot.now
sound_turn g last t seg well e =
    sound_places g well (turned (place_view last) t).place t.slot.now
    (leads_to g.nodes (last_of (place_view last)) (elements_of seg) (turned (place_view last) t) (found g last t seg e))

-- a turn leads to a slot of the guide
pub slot_turn : (g : GuideTree) (last : List Step) (t : Turn) (seg : SegValue) → Leads g last t seg → IsSlotOf g.nodes t.slot.now
slot_turn g last t seg e = (
  (turned (place_view last) t).place,
  leads_to g.nodes (last_of (place_view last)) (elements_of seg) (turned (place_view last) t) (found g last t seg e),
)

-- a segment has the id of the slot that it is given
pub own_id : (g : GuideTree) (last : List Step) (t : Turn) (seg : SegValue) → Leads g last t seg
    → bytes_eq t.slot.now.id (segment_id (elements_of seg)) ≡ true
own_id g last t seg e =
    let ss : Segment = elements_of seg in
    let cs : List Candidate = nexts g.nodes (last_of (place_view last)) in
    let f : Found ss cs (Some (turned (place_view last) t)) = subst (Found ss cs) (found g last t seg e) (first_found ss cs) in
    (and_parts (bytes_eq t.slot.now.id (segment_id ss)) _ f.1).0

pub roomy : (n : ℕ) (ls : List Step) → n < 4294967296 → AllByRecursion (λ (s : Step). s.use_no < n) ls
    → AllByRecursion (λ (s : Step). s.use_no + 1 < 18446744073709551616) ls
roomy n [] l h = tt
roomy n (s ∷ ls) l h = ((let k = h.0 in omega (arith, k, l)), roomy n ls l h.1)

abbrev LeftAt : GuideTree → Seen → Seen → SegValue → (end : ℕ) → List SegValue → ℕ → Type 0
LeftAt g old new seg end rest at =
    new.structure ++ left g end at (last_in new.walk) (map elements_of rest)
    ≡ old.structure ++ left g end (old.walk.count + 2) (last_in old.walk) (map elements_of (seg ∷ rest))

abbrev ErrorsAt : GuideTree → Seen → Seen → SegValue → ℕ → Type 0
ErrorsAt g old new seg at = (rest : List SegValue) (f : Fault)
    → (Contains new.errors f ⊎ IsErrorFrom g.nodes at (last_in new.walk) rest f)
    ↔ (Contains old.errors f ⊎ IsErrorFrom g.nodes (old.walk.count + 2) (last_in old.walk) (seg ∷ rest) f)

-- a segment with a place
pub took : (g : GuideTree) (old new : Seen) (t : Turn) (seg : SegValue) → Leads g old.walk.last.items t seg
    → place_view new.walk.last.items ≡ (turned (place_view old.walk.last.items) t).place → t.use_no ≤ old.walk.count
    → AllByRecursion (λ (s : Step). s.use_no < old.walk.count) old.walk.last.items → new.walk.count ≡ old.walk.count + 1
    → new.structure ≡ old.structure ++ step_faults (old.walk.count + 2) g.nodes (last_in old.walk) (place_view new.walk.last.items)
    → Adds old.errors new.errors
    (IsTold (old.walk.count + 2) seg (loop_id_of g.nodes (place_view new.walk.last.items)) t.slot.now)
    → ((xs : List Slotted) → IsKept old.kept xs → IsKept new.kept (xs ++ (seg, t.slot.now) ∷ [])) → new.trailer ≡ old.trailer
    → HasTaken g old new seg
took g old new t seg e goes uses room count structure adds keeps trailer =
    let at : ℕ = old.walk.count + 2 in
    let last : List Step = old.walk.last.items in
    let c : Candidate = turned (place_view last) t in
    let next : next_for g.nodes (last_in old.walk) seg ≡ Some c = found g last t seg e in
    let gone = gone_turn g.nodes last new.walk.last.items t (elements_of seg) e goes in
    let led : last_in new.walk ≡ Some c.place = gone.1 ∙ ap Some goes in
    let told : Adds old.errors new.errors (IsTold at seg (loop_id_of g.nodes c.place) c.slot) =
    subst (λ (q : Place). Adds old.errors new.errors (IsTold at seg (loop_id_of g.nodes q) c.slot)) goes adds in
    let one : at + 1 ≡ new.walk.count + 2 = omega (arith, count) in
    record {
      structure = λ end rest. subst (LeftAt g old new seg end rest) one
          (found_step g end at last new.walk.last.items (elements_of seg) (map elements_of rest) old.structure new.structure gone
          structure);
      errors = subst (ErrorsAt g old new seg) one
          (errors_placed g.nodes at (last_in old.walk) (last_in new.walk) seg c old.errors new.errors next led told);
      kept = λ rest all k. record {
        taken = k.taken ++ (seg, c.slot) ∷ [];
        kept = keeps k.taken k.kept;
        are = slotted_placed g.nodes (last_in old.walk) (last_in new.walk) seg c next led k.taken rest ∙ k.are;
      };
      count = count;
      room = subst (λ (n : ℕ). AllByRecursion (λ (s : Step). s.use_no < n) new.walk.last.items) (sym count)
          (room_more old.walk.count last new.walk.last.items t uses room goes);
      trailer = trailer;
    }

-- a stray
abbrev past_stray : Seen → List Fault → ℕ → Seen
past_stray old found n = record {
  walk = record { last = old.walk.last; next = old.walk.next; slot = old.walk.slot; count = n };
  structure = found;
  errors = old.errors;
  kept = old.kept;
  trailer = old.trailer;
}

pub strayed : (g : GuideTree) (old : Seen) (seg : SegValue) (told : List Fault) (n : ℕ)
    → None ≡ fit_behind (elements_of seg) g.nodes (place_view old.walk.last.items)
    → AllByRecursion (λ (s : Step). s.use_no < old.walk.count) old.walk.last.items → n ≡ old.walk.count + 1
    → told ≡ old.structure ++ stray_fault g (old.walk.count + 2) (elements_of seg) ∷ [] → HasTaken g old (past_stray old told n) seg
strayed g old seg told n e room count structure =
    let at : ℕ = old.walk.count + 2 in
    let last : List Step = old.walk.last.items in
    let none : next_for g.nodes (last_in old.walk) seg ≡ None = behind_is (elements_of seg) g.nodes (place_view last) ∙ sym e in
    let gone : HasGone g.nodes last last (elements_of seg) false = gone_stray g.nodes last (elements_of seg) e in
    let one : at + 1 ≡ n + 2 = omega (arith, count) in
    record {
      structure = λ end rest. subst (LeftAt g old (past_stray old told n) seg end rest) one
          (found_stray g end at last last (elements_of seg) (map elements_of rest) old.structure told gone structure);
      errors = subst (ErrorsAt g old (past_stray old told n) seg) one
          (errors_stray g.nodes at (last_in old.walk) seg old.errors none);
      kept = λ rest all k. record {
        taken = k.taken;
        kept = k.kept;
        are = slotted_stray g.nodes (last_in old.walk) seg none k.taken rest ∙ k.are;
      };
      count = count;
      room = subst (λ (n : ℕ). AllByRecursion (λ (s : Step). s.use_no < n) last) (sym count) (all_wider old.walk.count last room);
      trailer = refl;
    }
