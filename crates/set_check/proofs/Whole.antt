-- The faults of a set, put together: those of its elements, those of hierarchies and dependencies beside them, and those of its
-- structure.
use Rattle.std.proofs.Common.{◌≡◌, ◌↔◌, ◌⊎◌, inl, inr, ℕ, ◌+◌, ◌-◌, Bool, List, [], ◌++◌, length, drop, map, Option, Some, None}
use Rattle.std.proofs.Common.{option_map, refl, sym, ap, ◌∙◌, subst}
use Rattle.std.specs.List.{All, Contains, slice_get}
use Rattle.std.proofs.lemmas.List.{length-map}
use Rattle.std.proofs.lemmas.List.Elements.{All-take, All-drop, All-contains, Contains-append_left, Contains-append_right}
use Rattle.std.proofs.lemmas.List.Elements.{Contains-append_cases}
use Rattle.std.proofs.lemmas.Option.{slice_get-map, slice_get_within}
use Rattle.hub_kinds.specs.declared.fault.Fault.{Fault}
use Rattle.x12_bytes.specs.declared.delims.Delims.{Delims}
use Rattle.x12_segs.specs.Words.{SegValue, elements_of}
use Rattle.hub_kinds.specs.declared.fault.ElemFault.{ElemFault}
use Rattle.guide_tree.specs.declared.slot.Slot.{Slot}
use Rattle.guide_tree.specs.Words.{Trees, GuideTree, Segment, Place, placing_of, IsStructureFault, IsWellFormed}
use Rattle.elem_rules.specs.ElementFaults.{IsElementFault}
use Rattle.elem_rules.proofs.ForAbove.{no_member}
use Rattle.set_check.specs.SetParts.{SetParts, parts_of, inner_of, before_trailer, end_position}
use Rattle.loop_match.specs.LoopIds.{loop_id_of}
use Rattle.set_check.specs.SetFaults.{AreSetFaults, IsErrorIn, IsFaultUnder, IsRuleFault, HasKeyOfError, fault_of_element}
use Rattle.set_walk.specs.Told.{Adds}
use Rattle.set_check.specs.Adding.{HasKeyAmong, IsBeside, IsErrorBelow}
use Rattle.hub_kinds.specs.Words.{AreRising, key_of, IsKeyedBy}
use Rattle.set_check.proofs.Keyed.{errors_keyed, set_keyed}
use Rattle.set_check.proofs.Rising.{rising_keyed}
use Rattle.set_walk.proofs.ForAbove.{sound_places}
use Rattle.set_check.proofs.NoFaults.{member_at}

-- the segments of the body are read by the set's delimiters
pub read_inside : (d : Delims) (closed : Bool) (segs : List SegValue) → All (λ s. s.delims ≡ d) segs
    → All (λ s. s.delims ≡ d) (inner_of closed segs)
read_inside d closed segs h =
    All-take (λ (z : SegValue). z.delims ≡ d) (before_trailer closed (length segs) - 1) (drop 1 segs)
    (All-drop (λ (z : SegValue). z.delims ≡ d) 1 segs h)

read_alike : (d : Delims) (closed : Bool) (segs : List SegValue) → All (λ s. s.delims ≡ d) segs → (i : ℕ) (s : SegValue)
    → slice_get (inner_of closed segs) i ≡ Some s → s.delims ≡ d
read_alike d closed segs h i s there =
    All-contains (λ (z : SegValue). z.delims ≡ d) (inner_of closed segs) s (read_inside d closed segs h)
    (member_at (inner_of closed segs) i s there)

record Found (xs : List SegValue) (i : ℕ) (s : Segment) : Type 0 where
  seg : SegValue
  there : slice_get xs i ≡ Some seg
  is : elements_of seg ≡ s

found_by : (xs : List SegValue) (i : ℕ) (s : Segment) (o : Option SegValue) → slice_get xs i ≡ o → option_map elements_of o ≡ Some s
    → Found xs i s
found_by xs i s None e h = let k : None ≡ Some s = h in cc
found_by xs i s (Some z) e h = record { seg = z; there = e; is = (let k : Some (elements_of z) ≡ Some s = h in cc) }

found_in : (xs : List SegValue) (i : ℕ) (s : Segment) → slice_get (map elements_of xs) i ≡ Some s → Found xs i s
found_in xs i s h = found_by xs i s (slice_get xs i) refl (sym (slice_get-map elements_of xs i) ∙ h)

told_as : (ts : Trees) (i : ℕ) (q : Place) (slot : Slot) (e : ElemFault) (seg : SegValue) (s : Segment) → elements_of seg ≡ s
    → fault_of_element (i + 2) (elements_of seg) (loop_id_of ts q) slot e ≡ fault_of_element (i + 2) s (loop_id_of ts q) slot e
told_as ts i q slot e seg s is = ap (λ (z : Segment). fault_of_element (i + 2) z (loop_id_of ts q) slot e) is

module _ (g : GuideTree) (d : Delims) (closed : Bool) (segs : List SegValue) (read : All (λ s. s.delims ≡ d) segs) where
  abbrev Body : List SegValue
  Body = inner_of closed segs

  abbrev given_body : List (Option Place)
  given_body = placing_of g.nodes (map elements_of Body)

  pub error_of : (f : Fault) → IsErrorBelow g.nodes Body given_body (length Body) f
      → IsErrorIn g.nodes (parts_of d closed segs) given_body f
  error_of f b = record {
    index = b.index;
    segment = elements_of b.seg;
    place = b.place;
    slot = b.slot;
    elem = b.told.elem;
    there = slice_get-map elements_of Body b.index ∙ ap (option_map elements_of) b.there;
    placed = b.placed;
    leads = b.leads;
    wrong = subst (λ (z : Delims). IsElementFault z (elements_of b.seg) b.slot b.told.elem)
        (read_alike d closed segs read b.index b.seg b.there) b.told.wrong;
    is = b.told.is;
  }

  pub below_of : (f : Fault) → IsErrorIn g.nodes (parts_of d closed segs) given_body f
      → IsErrorBelow g.nodes Body given_body (length Body) f
  below_of f e =
      let s = found_in Body e.index e.segment e.there in
      record {
        index = e.index;
        before = slice_get_within Body e.index s.seg s.there;
        seg = s.seg;
        place = e.place;
        slot = e.slot;
        there = s.there;
        placed = e.placed;
        leads = e.leads;
        told = record {
          elem = e.elem;
          wrong = subst (λ (z : Delims). IsElementFault z (elements_of s.seg) e.slot e.elem)
              (sym (read_alike d closed segs read e.index s.seg s.there))
              (subst (λ (z : Segment). IsElementFault d z e.slot e.elem) (sym s.is) e.wrong);
          is = e.is ∙ sym (told_as g.nodes e.index e.place e.slot e.elem s.seg e.segment s.is);
        };
      }

  pub errors_are : (errors : List Fault) → Adds [] errors (IsErrorBelow g.nodes Body given_body (length Body))
      → (f : Fault) → Contains errors f ↔ IsErrorIn g.nodes (parts_of d closed segs) given_body f
  errors_are errors e f = (λ h. error_of f (one ((e f).0 h)), λ h. (e f).1 (inr (below_of f h)))
    where
      one : Contains [] f ⊎ IsErrorBelow g.nodes Body given_body (length Body) f → IsErrorBelow g.nodes Body given_body (length Body) f
      one (inl c) = absurd (no_member f c)
      one (inr b) = b

settled : (ts : Trees) (closed : Bool) (segs body : List SegValue) (given : List (Option Place))
    (P : List SegValue → List (Option Place) → Type 0) → body ≡ inner_of closed segs → given ≡ placing_of ts (map elements_of body)
    → P body given → P (inner_of closed segs) (placing_of ts (map elements_of (inner_of closed segs)))
settled ts closed segs body given P b p h =
    subst (λ (xs : List SegValue). P xs (placing_of ts (map elements_of xs))) b (subst (P body) p h)

pub at_end : (body : List SegValue) (P : ℕ → Type 0) → P (length body + 2) → P (length (map elements_of body) + 2)
at_end body P h = subst P (ap (λ (n : ℕ). n + 2) (sym (length-map body elements_of))) h

module _ (g : GuideTree) (d : Delims) (closed : Bool) (segs body : List SegValue) (given : List (Option Place))
    (is : body ≡ inner_of closed segs) (by : given ≡ placing_of g.nodes (map elements_of body)) where
  abbrev set_places : List (Option Place)
  set_places = placing_of g.nodes (map elements_of (inner_of closed segs))

  pub set_errors : (errors : List Fault) → All (λ s. s.delims ≡ d) segs → Adds [] errors (IsErrorBelow g.nodes body given (length body))
      → (f : Fault) → Contains errors f ↔ IsErrorIn g.nodes (parts_of d closed segs) set_places f
  set_errors errors read e = errors_are g d closed segs read errors (settled g.nodes closed segs body given
      (λ xs q. Adds [] errors (IsErrorBelow g.nodes xs q (length xs))) is by e)

  pub set_others : (others : List Fault)
      → ((f : Fault) → Contains others f ↔ IsRuleFault g d (map elements_of body) given (length body + 2) f)
      → (f : Fault) → Contains others f ↔ IsRuleFault g d (parts_of d closed segs).body set_places (end_position (parts_of d closed segs)) f
  set_others others o =
      at_end (inner_of closed segs) (λ n. (f : Fault) → Contains others f
      ↔ IsRuleFault g d (map elements_of (inner_of closed segs)) set_places n f)
      (settled g.nodes closed segs body given (λ xs q. (f : Fault) → Contains others f
      ↔ IsRuleFault g d (map elements_of xs) q (length xs + 2) f) is by o)

  pub set_structure : (structure : List Fault)
      → ((f : Fault) → Contains structure f ↔ IsStructureFault g (map elements_of body) given (length body + 2) f)
      → (f : Fault) → Contains structure f
      ↔ IsStructureFault g (parts_of d closed segs).body set_places (end_position (parts_of d closed segs)) f
  set_structure structure s =
      at_end (inner_of closed segs) (λ n. (f : Fault) → Contains structure f
      ↔ IsStructureFault g (map elements_of (inner_of closed segs)) set_places n f)
      (settled g.nodes closed segs body given (λ xs q. (f : Fault) → Contains structure f
      ↔ IsStructureFault g (map elements_of xs) q (length xs + 2) f) is by s)

module _ (g : GuideTree) (parts : SetParts) (given : List (Option Place)) where
  -- the lists of what is wrong with a set
  pub record Lists (by_elements by_rules by_nodes : List Fault) : Type 0 where
    pub errors : (f : Fault) → Contains by_elements f ↔ IsErrorIn g.nodes parts given f
    pub others : (f : Fault) → Contains by_rules f ↔ IsRuleFault g parts.delims parts.body given (end_position parts) f
    pub structure : (f : Fault) → Contains by_nodes f ↔ IsStructureFault g parts.body given (end_position parts) f

  keys_are : (errors others structure : List Fault) → Lists errors others structure → (f : Fault)
      → HasKeyAmong errors f ↔ HasKeyOfError g.nodes parts given f
  keys_are errors others structure l f = (λ h. (h.0, (l.errors h.0).0 h.1, h.2), λ h. (h.0, (l.errors h.0).1 h.1, h.2))

  pub members : (errors others structure found all : List Fault) → Lists errors others structure
      → ((f : Fault) → Contains found f ↔ IsBeside errors others f) → all ≡ found ++ structure
      → (f : Fault) → Contains all f ↔ IsFaultUnder g parts given f
  members errors others structure found all l k is f = (to, back)
    where
      beside : IsBeside errors others f → IsFaultUnder g parts given f
      beside (inl x) = inr (inl ((l.errors f).0 x))
      beside (inr x) = inr (inr ((l.others f).0 x.0, λ h. x.1 ((keys_are errors others structure l f).1 h)))

      told : Contains found f ⊎ Contains structure f → IsFaultUnder g parts given f
      told (inl x) = beside ((k f).0 x)
      told (inr x) = inl ((l.structure f).0 x)

      to : Contains all f → IsFaultUnder g parts given f
      to c = told (Contains-append_cases found structure f (subst (λ (z : List Fault). Contains z f) is c))

      left : IsBeside errors others f → Contains all f
      left x = subst (λ (z : List Fault). Contains z f) (sym is) (Contains-append_left found structure f ((k f).1 x))

      back : IsFaultUnder g parts given f → Contains all f
      back (inl x) = subst (λ (z : List Fault). Contains z f) (sym is) (Contains-append_right found structure f ((l.structure f).1 x))
      back (inr (inl x)) = left (inl ((l.errors f).1 x))
      back (inr (inr x)) = left (inr ((l.others f).1 x.0, λ h. x.1 ((keys_are errors others structure l f).0 h)))

  pub keyed_errors : (errors : List Fault) → IsWellFormed g → ((f : Fault) → Contains errors f ↔ IsErrorIn g.nodes parts given f)
      → IsKeyedBy key_of errors
  keyed_errors errors well e x y a b k = errors_keyed g parts given x y (sound_places g well) ((e x).0 a) ((e y).0 b) k

  -- no two of all have one key
  pub keyed_members : (errors others structure all : List Fault) → Lists errors others structure → IsWellFormed g
      → IsKeyedBy key_of others → IsKeyedBy key_of structure
      → ((f : Fault) → Contains all f ↔ IsFaultUnder g parts given f) → IsKeyedBy key_of all
  keyed_members errors others structure all l well two one are x y a b k =
      set_keyed g parts given x y (sound_places g well)
      (λ v w i j e. one v w ((l.structure v).1 i) ((l.structure w).1 j) e)
      (λ v w i j e. two v w ((l.others v).1 i) ((l.others w).1 j) e) ((are x).0 a) ((are y).0 b) k

-- what was found over a body whose segments have these places
pub record Gathered (g : GuideTree) (d : Delims) (body : List SegValue) (given : List (Option Place))
    (by_elements by_rules beside by_nodes whole : List Fault) : Type 0 where
  pub errors : Adds [] by_elements (IsErrorBelow g.nodes body given (length body))
  pub others : (f : Fault) → Contains by_rules f ↔ IsRuleFault g d (map elements_of body) given (length body + 2) f
  pub keyed : IsKeyedBy key_of by_rules
  pub found : (f : Fault) → Contains beside f ↔ IsBeside by_elements by_rules f
  pub structure : (f : Fault) → Contains by_nodes f
      ↔ IsStructureFault g (map elements_of body) (placing_of g.nodes (map elements_of body)) (length body + 2) f
  pub rising : AreRising by_nodes
  pub all : whole ≡ beside ++ by_nodes

module _ (g : GuideTree) (d : Delims) (closed : Bool) (segs body : List SegValue) (given : List (Option Place))
    (well : IsWellFormed g) (read : All (λ s. s.delims ≡ d) segs) (is : body ≡ inner_of closed segs)
    (by : given ≡ placing_of g.nodes (map elements_of body)) where
  pub first_keyed : (errors : List Fault) → Adds [] errors (IsErrorBelow g.nodes body given (length body)) → IsKeyedBy key_of errors
  first_keyed errors e =
      keyed_errors g (parts_of d closed segs) (placing_of g.nodes (parts_of d closed segs).body) errors well
      (set_errors g d closed segs body given is by errors read e)

  module _ (errors others found structure all : List Fault) (k : Gathered g d body given errors others found structure all) where
    lists : Lists g (parts_of d closed segs) (placing_of g.nodes (parts_of d closed segs).body) errors others structure
    lists = record {
      errors = set_errors g d closed segs body given is by errors read k.errors;
      others = set_others g d closed segs body given is by others k.others;
      structure = set_structure g d closed segs body (placing_of g.nodes (map elements_of body)) is refl structure k.structure;
    }

    pub set_members : AreSetFaults (Some g) (parts_of d closed segs) all
    set_members = members g (parts_of d closed segs) (placing_of g.nodes (parts_of d closed segs).body) errors others structure found all
        lists k.found k.all

    pub set_keyed_members : IsKeyedBy key_of all
    set_keyed_members =
        keyed_members g (parts_of d closed segs) (placing_of g.nodes (parts_of d closed segs).body) errors others structure all lists well
        k.keyed (rising_keyed structure k.rising) set_members
