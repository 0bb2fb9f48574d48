-- By the definition of a night, too, a set that meets a guide meets a wider one.
use Rattle.std.proofs.Common.{◌≡◌, inl, ℕ, List, [], ◌∷◌, Bool, true, false, ◌&&◌, ◌||◌, not, Option, Some, None, refl, sym, ap, ◌∙◌, subst}
use Rattle.std.specs.Prelude.{IsTrue, bytes_eq, filter}
use Rattle.std.specs.List.{Contains, list_any}
use Rattle.std.specs.Option.{option_map_or}
use Rattle.x12_bytes.specs.declared.delims.Delims.{Delims}
use Rattle.hub_kinds.specs.declared.fault.ElemFault.{ElemFault}
use Rattle.guide_tree.specs.declared.rows.Dependency.{Dependency}
use Rattle.guide_tree.specs.declared.rows.HlRule.{HlRule}
use Rattle.guide_tree.specs.Words.{Derives, Given, GuideTree, IsWellFormed, guide_of}
use Rattle.guide_law.proofs.ForAbove.{contains_in, in_contains}
use Rattle.elem_rules.specs.ElementFaults.{IsElementFault}
use Rattle.hl_check.specs.Hierarchy as layers_hl
use Rattle.depend_check.specs.Kept.{AreDependenciesKept}
use Rattle.depend_check.specs.Standing as layers_standing
use Rattle.guide_widening.specs.Rules.{is_wider_convention}
use Rattle.night_definition.specs.Segments.{Elements, element}
use Rattle.night_definition.specs.Envelopes.{Set}
use Rattle.night_definition.specs.Guides as room_guides
use Rattle.night_definition.specs.Elements.{element_faults, is_filled}
use Rattle.night_definition.specs.Rules as room_rules
use Rattle.night_definition.specs.Sets as room
use Rattle.night_equal_set.specs.Derivations.{DerivationsAreOne}
use Rattle.night_equal_set.specs.ElementFaults.{ElementFaultsAreOne}
use Rattle.night_equal_set.specs.Hierarchies.{HierarchiesAreOne}
use Rattle.night_equal_set.specs.Meeting.{TargetsAreOne}
use Rattle.widening_law.specs.Law.{WiderGuidesTakeEachSet}
use Rattle.widening_law.proofs.Conditioned.{conditioned}
use Rattle.widening_law.proofs.Dependencies.{dependencies_free}
use Rattle.widening_law.proofs.Given.{elements_free, same_body}
use Rattle.widening_law.proofs.Hierarchies.{hierarchy_free}
use Rattle.widening_law.proofs.Listed.{same_texts, texts_same}
use Rattle.widening_law.proofs.Meeting.{IsWiderGuide, guide_parts}
use Rattle.widening_law.proofs.Nodes.{nodes_wider}

same_test : (a b : Bool) → (a ≡ true → b ≡ true) → (b ≡ true → a ≡ true) → a ≡ b
same_test true b to from = sym (to refl)
same_test false true to from = from refl
same_test false false to from = refl

turned : (a b : List ℕ) → bytes_eq a b ≡ bytes_eq b a
turned a b =
    same_test (bytes_eq a b) (bytes_eq b a) (λ h. texts_same b a (sym (same_texts a b h))) (λ h. texts_same a b (sym (same_texts b a h)))

label_is : (label : List ℕ) (own : Option (List ℕ)) → option_map_or (bytes_eq label) own false
    ≡ option_map_or (λ l. bytes_eq l label) own false
label_is label None = refl
label_is label (Some l) = turned label l

trigger_is : (r : Dependency) (x : Given) → room_rules.triggers r x ≡ layers_standing.triggers r x
trigger_is r x = ap (λ b. b && room_guides.is_among r.codes (element r.at x.0)) (label_is r.slot x.1.label)

triggered_is : (r : Dependency) (xs : List Given) → list_any (room_rules.triggers r) xs ≡ list_any (layers_standing.triggers r) xs
triggered_is r [] = refl
triggered_is r (x ∷ xs) =
    ap (λ b. b || list_any (room_rules.triggers r) xs) (trigger_is r x)
    ∙ ap (λ b. layers_standing.triggers r x || b) (triggered_is r xs)

nothing : {A : Type 0} (xs : List A) → ((x : A) → Contains xs x → ⊥) → xs ≡ []
nothing [] none = refl
nothing (x ∷ xs) none = absurd (none x (in_contains (x ∷ xs) x (inl refl)))

abbrev has_other : Delims → (st03 : List ℕ) → Option (List ℕ) → Bool
has_other d st03 convention = option_map_or (λ own. is_filled d st03 && not (bytes_eq st03 own)) convention false

convention_kept : (old new : Option (List ℕ)) (d : Delims) (st03 : List ℕ) → is_wider_convention old new ≡ true
    → has_other d st03 old ≡ false → has_other d st03 new ≡ false
convention_kept old None d st03 wider meets = refl
convention_kept None (Some new) d st03 wider meets = cc
convention_kept (Some old) (Some new) d st03 wider meets =
    ap (λ own. has_other d st03 (Some own)) (sym (same_texts old new wider)) ∙ meets

module _ (derivations : DerivationsAreOne) (faults : ElementFaultsAreOne) (hierarchies : HierarchiesAreOne) (targets : TargetsAreOne)
    (d : Delims) where
  -- no element is wrong by the one exactly if none is at fault by the other
  none_wrong : (g : GuideTree) (xs : List Given) → IsWellFormed g → Derives g.nodes xs
      → ((x : Given) → Contains xs x → element_faults d x.1 x.0 ≡ [])
      → (x : Given) (e : ElemFault) → Contains xs x → IsElementFault d x.0 x.1 e → ⊥
  none_wrong g xs clean derived each x e there wrong =
      contains_in [] e (subst (λ (l : List ElemFault). Contains l e) (each x there)
      ((faults d x.1 x.0 e (conditioned g clean xs derived x there)).1 wrong))

  none_told : (g : GuideTree) (xs : List Given) → IsWellFormed g → Derives g.nodes xs
      → ((x : Given) (e : ElemFault) → Contains xs x → IsElementFault d x.0 x.1 e → ⊥)
      → (x : Given) → Contains xs x → element_faults d x.1 x.0 ≡ []
  none_told g xs clean derived none x there =
      nothing (element_faults d x.1 x.0)
      (λ e told. none x e there ((faults d x.1 x.0 e (conditioned g clean xs derived x there)).0 told))

  levels : (o : Option HlRule) (hls : List Elements) → ((rule : HlRule) → o ≡ Some rule → room.IsHierarchyWhole rule d hls)
      → layers_hl.IsHierarchyWhole o d hls
  levels None hls each = tt
  levels (Some rule) hls each = (hierarchies rule d hls).0 (each rule refl)

  abbrev AreKept : List Dependency → List Given → Type 0
  AreKept depends xs = (r : Dependency) → Contains depends r → IsTrue (list_any (room_rules.triggers r) xs) → room.IsTargetKept d xs r

  kept_to : (depends : List Dependency) (xs : List Given) → AreKept depends xs → AreDependenciesKept depends d xs
  kept_to depends xs kept r there triggered = (targets d xs r).0 (kept r there (triggered_is r xs ∙ triggered))

  kept_from : (depends : List Dependency) (xs : List Given) → AreDependenciesKept depends d xs → AreKept depends xs
  kept_from depends xs kept r there triggered = (targets d xs r).1 (kept r there (sym (triggered_is r xs) ∙ triggered))

  by_parts : (old new : GuideTree) (set : Set) → IsWellFormed old → IsWellFormed new → IsWiderGuide old new
      → (m : room.MeetsAlone (Some old) d set) → m.known ≡ old → room.MeetsAlone (Some new) d set
  by_parts old new set clean_old clean_new w m same =
      let known : GuideTree = m.known in
      let wide : IsWiderGuide known new = subst (λ (g : GuideTree). IsWiderGuide g new) (sym same) w in
      let clean : IsWellFormed known = subst IsWellFormed (sym same) clean_old in
      let hls : List Elements = filter room_rules.is_hl (room.body_of set) in
      let derived : Derives known.nodes m.slots = (derivations known.nodes m.slots).0 m.derived in
      let r = nodes_wider known.nodes new.nodes m.slots wide.nodes derived in
      record {
        known = new;
        guided = refl;
        slots = r.given;
        body = same_body m.slots r.given r.wider ∙ m.body;
        derived = (derivations new.nodes r.given).1 r.holds;
        elements = none_told new r.given clean_new r.holds
            (elements_free d m.slots r.given r.wider (none_wrong known m.slots clean derived m.elements));
        hierarchy = λ rule has. (hierarchies rule d hls).1
            (subst (λ (o : Option HlRule). layers_hl.IsHierarchyWhole o d hls) has
            (hierarchy_free known.hl new.hl d hls wide.hierarchy (levels known.hl hls m.hierarchy)));
        dependencies = kept_from new.depends r.given
            (dependencies_free known.depends new.depends d m.slots r.given wide.dependencies r.wider
            (kept_to known.depends m.slots m.dependencies));
        envelope = m.envelope;
        control = m.control;
        convention = convention_kept known.head.convention new.head.convention d (element 3 set.header.elements) wide.convention
            m.convention;
      }

pub each_set : DerivationsAreOne → ElementFaultsAreOne → HierarchiesAreOne → TargetsAreOne → WiderGuidesTakeEachSet
each_set derivations faults hierarchies targets old new d set is_old is_new wider m =
    let same : m.known ≡ guide_of old = let e : Some (guide_of old) ≡ Some m.known = m.guided in cc in
    by_parts derivations faults hierarchies targets d (guide_of old) (guide_of new) set is_old.well_formed is_new.well_formed
    (guide_parts (guide_of old) (guide_of new) wider) m same
