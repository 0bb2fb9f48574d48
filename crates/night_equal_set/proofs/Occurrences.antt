-- What is wrong with the components and the occurrences of an element.
use Rattle.std.proofs.Common.{◌≡◌, ℕ, zero, suc, ◌+◌, ◌-◌, ◌≤◌, List, [], ◌∷◌, ◌++◌, map, length, take, Bool, true, false, ◌&&◌, not}
use Rattle.std.proofs.Common.{Option, Some, None, refl, sym, ap, ◌∙◌, subst, arith}
use Rattle.std.specs.Prelude.{◌==◌, if◌then◌else◌, slice_index_or, slice_get, flat_map, option_to_list, nat_lt}
use Rattle.std.specs.List.{list_all, slice_split}
use Rattle.std.proofs.lemmas.Bool.{true≢false}
use Rattle.std.proofs.lemmas.Option.{none-some, same_Some}
use Rattle.std.specs.Option.{option_map_or, option_or}
use Rattle.std.proofs.Math.Seq.{take-length}
use Rattle.std.proofs.lemmas.List.{append-nil, map-append}
use Rattle.x12_bytes.specs.declared.delims.Delims.{Delims}
use Rattle.guide_tree.specs.declared.element.Requirement.{Requirement}
use Rattle.guide_tree.specs.declared.element.Requirement.TheVariants.{Mandatory, Optional}
use Rattle.guide_tree.specs.declared.element.SimpleRow.{SimpleRow}
use Rattle.guide_tree.specs.declared.element.ElementType.{ElementType}
use Rattle.guide_tree.specs.declared.element.ElementType.TheVariants as kind
use Rattle.guide_tree.specs.declared.element.CodeList.{CodeList}
use Rattle.guide_tree.specs.declared.element.Component.{Component}
use Rattle.guide_tree.specs.declared.element.Component.TheVariants as part
use Rattle.guide_tree.specs.declared.slot.Slot.{Slot}
use Rattle.hub_kinds.specs.declared.codes.ElementCode.{ElementCode}
use Rattle.hub_kinds.specs.declared.codes.ElementCode.TheVariants as ik403
use Rattle.hub_kinds.specs.declared.fault.ElemFault.{ElemFault}
use Rattle.elem_rules.specs.Rows.{nth, Usage, shown_repetition}
use Rattle.elem_rules.specs.Rows as old_rows
use Rattle.elem_rules.specs.ElementFaults as old
use Rattle.elem_rules.specs.Found as found
use Rattle.elem_rules.specs.Values as old_values
use Rattle.x12_segs.specs.Parts.{parts_by}
use Rattle.elem_rules.specs.Found.{up_to}
use Rattle.night_definition.specs.Elements as room
use Rattle.night_definition.specs.Elements.{Wrong, wrong, is_filled, is_this, numbered, has_more, occurrences, components}
use Rattle.night_equal_set.proofs.Parts.{is_inner, parts_pass, parts_free, at_index, none_more, bare_empty, up_to_same, up_to_none, tiled}
use Rattle.night_equal_set.proofs.Parts.{map_flat}
use Rattle.night_equal_set.proofs.Values.{values}

flipped : {A : Type 0} (b : Bool) (x y : A) → (if not b then y else x) ≡ (if b then x else y)
flipped true x y = refl
flipped false x y = refl

missing_is : (requirement : Requirement) → room.missing requirement ≡ old.missing_fault requirement
missing_is Mandatory = refl
missing_is Optional = refl

component_is : (d : Delims) (c : Component) (text : List ℕ) → room.component_fault d c text ≡ old.component_fault d c text
component_is d (part.NotUsed reference) text = flipped (list_all (is_inner d) text) None (Some ik403.NotUsedPresent)
component_is d (part.Simple r) text =
    ap (λ o. if is_filled d text then o else room.missing r.requirement) (values r text)
    ∙ ap (λ o. if is_filled d text then old_values.value_fault r text else o) (missing_is r.requirement)
    ∙ flipped (list_all (is_inner d) text) (old.missing_fault r.requirement) (old_values.value_fault r text)

-- a code is copied with its text: not one of what is missing
abbrev Copies : List ℕ → Option ElementCode → Type 0
Copies text o = (code : ElementCode) → o ≡ Some code → found.copy_of code text ≡ text

copies_if : (text : List ℕ) (b : Bool) (x y : Option ElementCode) → Copies text x → Copies text y → Copies text (if b then x else y)
copies_if text true x y p q = p
copies_if text false x y p q = q

copies_none : (text : List ℕ) → Copies text None
copies_none text code is = absurd (none-some code is)

copies_some : (text : List ℕ) (c : ElementCode) → found.copy_of c text ≡ text → Copies text (Some c)
copies_some text c same code is = subst (λ c. found.copy_of c text ≡ text) (same_Some c code is) same

copies_or : (text : List ℕ) (x y : Option ElementCode) → Copies text x → Copies text y → Copies text (option_or x y)
copies_or text None y p q = q
copies_or text (Some x) y p q = p

copies_codes : (text : List ℕ) (o : Option CodeList) → Copies text (old_values.code_fault o text)
copies_codes text None = copies_none text
copies_codes text (Some listed) = copies_if text _ None _ (copies_none text)
    (copies_if text _ (Some ik403.CodeNotUsed) (Some ik403.InvalidCode) (copies_some text ik403.CodeNotUsed refl)
    (copies_some text ik403.InvalidCode refl))

copies_calendar : (text : List ℕ) (type : ElementType) → Copies text (old_values.calendar_fault type text)
copies_calendar text kind.Text = copies_none text
copies_calendar text kind.Identifier = copies_none text
copies_calendar text (kind.Number places) = copies_none text
copies_calendar text kind.Decimal = copies_none text
copies_calendar text kind.Date = copies_if text _ None (Some ik403.InvalidDate) (copies_none text)
    (copies_some text ik403.InvalidDate refl)
copies_calendar text kind.Time = copies_if text _ None (Some ik403.InvalidTime) (copies_none text)
    (copies_some text ik403.InvalidTime refl)

copies_value : (r : SimpleRow) (text : List ℕ) → Copies text (old_values.value_fault r text)
copies_value r text =
    copies_if text _ (Some ik403.InvalidCharacter) _ (copies_some text ik403.InvalidCharacter refl)
    (copies_if text _ (Some ik403.TooShort) _ (copies_some text ik403.TooShort refl)
    (copies_if text _ (Some ik403.TooLong) _ (copies_some text ik403.TooLong refl)
    (copies_or text (old_values.code_fault r.codes text) (old_values.calendar_fault r.data_type text) (copies_codes text r.codes)
    (copies_calendar text r.data_type))))

-- of a component that has no separator in it
abbrev Bare : Delims → List ℕ → Type 0
Bare d t = list_all (λ b. not (b == d.component) && not (is_this d.repetition b)) t ≡ true

copies_missing : (requirement : Requirement) → Copies [] (old.missing_fault requirement)
copies_missing Mandatory = copies_some [] ik403.RequiredMissing refl
copies_missing Optional = copies_none []

copies_component : (d : Delims) (c : Component) (text : List ℕ) → Bare d text → Copies text (old.component_fault d c text)
copies_component d (part.NotUsed reference) text bare =
    copies_if text _ None (Some ik403.NotUsedPresent) (copies_none text) (copies_some text ik403.NotUsedPresent refl)
copies_component d (part.Simple r) text bare = by (list_all (is_inner d) text) refl
  where
    by : (b : Bool) → list_all (is_inner d) text ≡ b → Copies text (if b then old.missing_fault r.requirement
        else old_values.value_fault r text)
    by true is = subst (λ t. Copies t (old.missing_fault r.requirement)) (sym (bare_empty d text bare is)) (copies_missing r.requirement)
    by false is = copies_value r text

-- one component's fault, as it is shown
one_shown : (slot : Slot) (k c r : ℕ) (reference text : List ℕ) (o : Option ElementCode) → room.reference_at slot k c ≡ reference
    → Copies text o
    → map (room.fault_at slot k) (map (λ code. wrong c r code text) (option_to_list o)) ≡ found.reported k c r reference text o
one_shown slot k c r reference text None is copies = refl
one_shown slot k c r reference text (Some code) is copies =
    ap (λ f. f ∷ []) (ap (λ t. found.fault k c r code t text) is ∙ ap (λ t. found.fault k c r code reference t) (sym (copies code refl)))

-- each component of an occurrence without repetition separators is bare
bare_part : (d : Delims) (occ : List ℕ) (k : ℕ) → list_all (λ b. not (is_this d.repetition b)) occ ≡ true
    → Bare d (slice_index_or (components d occ) k [])
bare_part d occ k single =
    at_index (λ b. not (b == d.component) && not (is_this d.repetition b)) (components d occ) k
    (parts_free (λ b. not (is_this d.repetition b)) (λ b. b == d.component) occ single)

-- each occurrence is without
single_part : (d : Delims) (text : List ℕ) (k : ℕ)
    → list_all (λ b. not (is_this d.repetition b)) (slice_index_or (occurrences d text) k []) ≡ true
single_part d text k = by d.repetition refl
  where
    all_none : (text : List ℕ) → list_all (λ (b : ℕ). true) text ≡ true
    all_none [] = refl
    all_none (b ∷ text) = all_none text

    alone : (text : List ℕ) (k : ℕ) → list_all (λ (b : ℕ). true) (slice_index_or (text ∷ []) k []) ≡ true
    alone text zero = all_none text
    alone text (suc k) = refl

    weaker : (s : ℕ) (t : List ℕ) → list_all (λ b. not (b == s) && true) t ≡ true → list_all (λ b. not (b == s)) t ≡ true
    weaker s [] is = refl
    weaker s (b ∷ t) is = let behind : list_all (λ b. not (b == s)) t ≡ true = weaker s t (grind arith) in grind arith

    by : (o : Option ℕ) → d.repetition ≡ o
        → list_all (λ b. not (is_this o b)) (slice_index_or (option_map_or (λ r. slice_split (λ b. b == r) text) o (text ∷ [])) k [])
        ≡ true
    by None is = alone text k
    by (Some s) is = weaker s _ (at_index (λ b. not (b == s) && true) (slice_split (λ b. b == s) text) k
        (parts_free (λ b. true) (λ b. b == s) text (all_none text)))

module _ (d : Delims) (slot : Slot) (k : ℕ) (u : Usage)
    (whole : room.reference_at slot k 0 ≡ u.reference)
    (past : room.reference_at slot k (length u.components + 1) ≡ u.reference)
    (within : (m : ℕ) (c : Component) → nth u.components m ≡ Some c
    → room.reference_at slot k (if u.is_composite then m else 0) ≡ old_rows.component_reference c) where
  components_are : (r : ℕ) (occ : List ℕ) → list_all (λ b. not (is_this d.repetition b)) occ ≡ true
      → map (room.fault_at slot k) (flat_map (λ x.
      map (λ code. wrong (if u.is_composite then x.0 else 0) r code (slice_index_or (components d occ) (x.0 - 1) []))
      (option_to_list (room.component_fault d x.1 (slice_index_or (components d occ) (x.0 - 1) [])))) (numbered 1 u.components))
      ≡ found.components_found d k r u.is_composite u.components occ
  components_are r occ single =
      let g : ℕ → Component → List Wrong = λ m c.
      map (λ code. wrong (if u.is_composite then m else 0) r code (slice_index_or (components d occ) (m - 1) []))
      (option_to_list (room.component_fault d c (slice_index_or (components d occ) (m - 1) []))) in
      map_flat (room.fault_at slot k) (λ (x : ℕ × Component). g x.0 x.1) (numbered 1 u.components)
      ∙ ap (λ xs. flat_map (λ (x : ℕ × Component). map (room.fault_at slot k) (g x.0 x.1)) (numbered 1 xs))
      (sym (take-length u.components))
      ∙ tiled (λ m c. map (room.fault_at slot k) (g m c)) 0 (length u.components) u.components
      ∙ up_to_same _ _ (length u.components) (λ m from to. each m (nth u.components m) refl)
    where
      each : (m : ℕ) (o : Option Component) → nth u.components m ≡ o
          → option_map_or (λ c. map (room.fault_at slot k)
          (map (λ code. wrong (if u.is_composite then 0 + m else 0) r code (slice_index_or (components d occ) (0 + m - 1) []))
          (option_to_list (room.component_fault d c (slice_index_or (components d occ) (0 + m - 1) []))))) o []
          ≡ option_map_or (λ c. found.component_found d k r (if u.is_composite then m else 0) c
          (slice_index_or (components d occ) (m - 1) [])) o []
      each m None is = refl
      each m (Some c) is = by (0 + m) (omega arith)
        where
          text : List ℕ
          text = slice_index_or (components d occ) (m - 1) []

          at : (j : ℕ) → List ElemFault
          at j = map (room.fault_at slot k) (map
              (λ code. wrong (if u.is_composite then j else 0) r code (slice_index_or (components d occ) (j - 1) []))
              (option_to_list (room.component_fault d c (slice_index_or (components d occ) (j - 1) []))))

          by : (j : ℕ) → j ≡ m → at j ≡ found.component_found d k r (if u.is_composite then m else 0) c text
          by j same = ap at same
              ∙ ap (λ o. map (room.fault_at slot k) (map (λ code. wrong (if u.is_composite then m else 0) r code text)
              (option_to_list o))) (component_is d c text)
              ∙ one_shown slot k (if u.is_composite then m else 0) r (old_rows.component_reference c) text
              (old.component_fault d c text) (within m c is)
              (copies_component d c text (bare_part d occ (m - 1) single))

  occurrence_is : (r : ℕ) (occ : List ℕ) → list_all (λ b. not (is_this d.repetition b)) occ ≡ true
      → map (room.fault_at slot k) (room.occurrence_wrongs d u.is_composite u.components r occ)
      ≡ found.occurrence_found d k r u.reference u.is_composite u.components occ
  occurrence_is r occ single = by (list_all (is_inner d) occ) refl (has_more d (length u.components) (components d occ)) refl
    where
      past_one : (n : ℕ) → slice_index_or (components d occ) n [] ≡ slice_index_or (components d occ) (n + 1 - 1) []
      past_one n = ap (λ j. slice_index_or (components d occ) j []) (omega arith)

      by : (e : Bool) → list_all (is_inner d) occ ≡ e → (h : Bool) → has_more d (length u.components) (components d occ) ≡ h
          → map (room.fault_at slot k) (if not (not e) then [] else (if h
          then wrong (length u.components + 1) r ik403.TooManyComponents (slice_index_or (components d occ) (length u.components) []) ∷ []
          else flat_map (λ x.
          map (λ code. wrong (if u.is_composite then x.0 else 0) r code (slice_index_or (components d occ) (x.0 - 1) []))
          (option_to_list (room.component_fault d x.1 (slice_index_or (components d occ) (x.0 - 1) [])))) (numbered 1 u.components)))
          ≡ (if h then found.fault k (length u.components + 1) r ik403.TooManyComponents u.reference
          (slice_index_or (components d occ) (length u.components + 1 - 1) []) ∷ []
          else (if e then [] else found.components_found d k r u.is_composite u.components occ))
      by true empty true more =
          absurd (true≢false (sym more ∙ none_more d (length u.components) (components d occ)
          (parts_pass (is_inner d) (λ b. b == d.component) occ empty)))
      by true empty false few = refl
      by false filled true more =
          ap (λ f. f ∷ []) (ap (λ t. found.fault k (length u.components + 1) r ik403.TooManyComponents t
          (slice_index_or (components d occ) (length u.components) [])) past
          ∙ ap (λ t. found.fault k (length u.components + 1) r ik403.TooManyComponents u.reference t) (past_one (length u.components)))
      by false filled false few = components_are r occ single

  occurrence_at : (all : List (List ℕ)) (n : ℕ) (o : Option (List ℕ)) → 1 ≤ n → nth all n ≡ o → slice_index_or all (n - 1) []
      ≡ option_map_or (λ x. x) o []
  occurrence_at all zero o from is = absurd (omega arith)
  occurrence_at all (suc n) o from is = ap (λ j. slice_index_or all j []) (omega arith) ∙ get all n
      ∙ ap (λ o. option_map_or (λ x. x) o []) is
    where
      get : (all : List (List ℕ)) (n : ℕ) → slice_index_or all n [] ≡ option_map_or (λ x. x) (slice_get all n) []
      get [] n = refl
      get (x ∷ all) zero = refl
      get (x ∷ all) (suc n) = get all n

  -- of an empty occurrence nothing is told
  empty_found : (r : ℕ) (occ : List ℕ) → list_all (is_inner d) occ ≡ true
      → found.occurrence_found d k r u.reference u.is_composite u.components occ ≡ []
  empty_found r occ empty =
      ap (λ b. if b then found.fault k (length u.components + 1) r ik403.TooManyComponents u.reference
      (slice_index_or (components d occ) (length u.components + 1 - 1) []) ∷ []
      else (if list_all (is_inner d) occ then [] else found.components_found d k r u.is_composite u.components occ))
      (none_more d (length u.components) (components d occ) (parts_pass (is_inner d) (λ b. b == d.component) occ empty))
      ∙ ap (λ b. if b then [] else found.components_found d k r u.is_composite u.components occ) empty

  -- what is told of the occurrences
  abbrev told : List (List ℕ) → List ElemFault
  told all =
      (if has_more d u.repeat all
      then found.fault k 0 (u.repeat + 1) ik403.TooManyRepetitions u.reference (slice_index_or all (u.repeat + 1 - 1) []) ∷ [] else [])
      ++ up_to (λ n. found.occurrence_found d k (shown_repetition u n) u.reference u.is_composite u.components
      (slice_index_or all (n - 1) [])) u.repeat

  occurrences_are : (text : List ℕ) → told (occurrences d text) ≡ found.usage_found d k text u
  occurrences_are text = by d.repetition refl
    where
      by : (o : Option ℕ) → d.repetition ≡ o → told (option_map_or (λ r. slice_split (λ b. b == r) text) o (text ∷ []))
          ≡ told (parts_by o text)
      by None is = refl
      by (Some r) is = refl

  all_empty : (text : List ℕ) → list_all (is_inner d) text ≡ true → list_all (λ t. list_all (is_inner d) t) (occurrences d text) ≡ true
  all_empty text empty = by d.repetition
    where
      by : (o : Option ℕ) → list_all (λ t. list_all (is_inner d) t) (option_map_or (λ r. slice_split (λ b. b == r) text) o (text ∷ []))
          ≡ true
      by None = ap (λ b. b && true) empty
      by (Some r) = parts_pass (is_inner d) (λ b. b == r) text empty

  none_told : (text : List ℕ) → list_all (is_inner d) text ≡ true → told (occurrences d text) ≡ []
  none_told text empty =
      let all : List (List ℕ) = occurrences d text in
      ap (λ b. (if b then found.fault k 0 (u.repeat + 1) ik403.TooManyRepetitions u.reference
      (slice_index_or all (u.repeat + 1 - 1) []) ∷ [] else [])
      ++ up_to (λ n. found.occurrence_found d k (shown_repetition u n) u.reference u.is_composite u.components
      (slice_index_or all (n - 1) [])) u.repeat)
      (none_more d u.repeat all (all_empty text empty))
      ∙ up_to_none _ u.repeat (λ n from to. empty_found (shown_repetition u n) (slice_index_or all (n - 1) [])
      (at_index (is_inner d) all (n - 1) (all_empty text empty)))

  abbrev missing_told : List ℕ → Bool → List ElemFault
  missing_told text e = found.reported k 0 0 u.reference text (if e then old.missing_fault u.requirement else None)

  missing_shown : (text : List ℕ) (requirement : Requirement)
      → map (room.fault_at slot k) (map (λ code. wrong 0 0 code []) (option_to_list (room.missing requirement)))
      ≡ found.reported k 0 0 u.reference text (old.missing_fault requirement)
  missing_shown text Mandatory = ap (λ t. found.fault k 0 0 ik403.RequiredMissing t [] ∷ []) whole
  missing_shown text Optional = refl

  often_is : (all : List (List ℕ)) (h : Bool)
      → map (room.fault_at slot k) (if h then wrong 0 (u.repeat + 1) ik403.TooManyRepetitions (slice_index_or all u.repeat []) ∷ []
      else [])
      ≡ (if h then found.fault k 0 (u.repeat + 1) ik403.TooManyRepetitions u.reference (slice_index_or all (u.repeat + 1 - 1) []) ∷ []
      else [])
  often_is all true =
      ap (λ t. found.fault k 0 (u.repeat + 1) ik403.TooManyRepetitions t (slice_index_or all u.repeat []) ∷ []) whole
      ∙ ap (λ j. found.fault k 0 (u.repeat + 1) ik403.TooManyRepetitions u.reference (slice_index_or all j []) ∷ []) (same_index u.repeat)
    where
      same_index : (n : ℕ) → n ≡ n + 1 - 1
      same_index n = omega arith
  often_is all false = refl

  each_is : (text : List ℕ)
      → map (room.fault_at slot k) (flat_map
      (λ x. room.occurrence_wrongs d u.is_composite u.components (if nat_lt 1 u.repeat then x.0 else 0) x.1)
      (numbered 1 (take u.repeat (occurrences d text))))
      ≡ up_to (λ n. found.occurrence_found d k (shown_repetition u n) u.reference u.is_composite u.components
      (slice_index_or (occurrences d text) (n - 1) [])) u.repeat
  each_is text =
      map_flat (room.fault_at slot k) (λ (x : ℕ × List ℕ). room.occurrence_wrongs d u.is_composite u.components
      (if nat_lt 1 u.repeat then x.0 else 0) x.1)
      (numbered 1 (take u.repeat all))
      ∙ tiled (λ n occ. map (room.fault_at slot k) (room.occurrence_wrongs d u.is_composite u.components
      (if nat_lt 1 u.repeat then n else 0) occ)) 0 u.repeat all
      ∙ up_to_same _ _ u.repeat (λ n from to. one n (nth all n) from refl)
    where
      all : List (List ℕ)
      all = occurrences d text

      zero_on : (n : ℕ) → 0 + n ≡ n
      zero_on n = omega arith

      one : (n : ℕ) (o : Option (List ℕ)) → 1 ≤ n → nth all n ≡ o
          → option_map_or (λ occ. map (room.fault_at slot k) (room.occurrence_wrongs d u.is_composite u.components
          (if nat_lt 1 u.repeat then 0 + n else 0) occ)) o []
          ≡ found.occurrence_found d k (shown_repetition u n) u.reference u.is_composite u.components (slice_index_or all (n - 1) [])
      one n None from is =
          sym (empty_found (shown_repetition u n) [] refl)
          ∙ ap (λ t. found.occurrence_found d k (shown_repetition u n) u.reference u.is_composite u.components t)
          (sym (occurrence_at all n None from is))
      one n (Some occ) from is =
          let here : slice_index_or all (n - 1) [] ≡ occ = occurrence_at all n (Some occ) from is in
          ap (λ j. map (room.fault_at slot k) (room.occurrence_wrongs d u.is_composite u.components
          (if nat_lt 1 u.repeat then j else 0) occ)) (zero_on n)
          ∙ occurrence_is (shown_repetition u n) occ (subst (λ t. list_all (λ b. not (is_this d.repetition b)) t ≡ true) here
          (single_part d text (n - 1)))
          ∙ ap (λ t. found.occurrence_found d k (shown_repetition u n) u.reference u.is_composite u.components t) (sym here)

  pub used_is : (text : List ℕ)
      → map (room.fault_at slot k) (room.used_wrongs d u.requirement u.repeat u.is_composite u.components text)
      ≡ missing_told text (list_all (is_inner d) text) ++ found.usage_found d k text u
  used_is text = by (list_all (is_inner d) text) refl ∙ ap (λ l. missing_told text (list_all (is_inner d) text) ++ l)
      (occurrences_are text)
    where
      by : (e : Bool) → list_all (is_inner d) text ≡ e
          → map (room.fault_at slot k) (if not (not e) then map (λ code. wrong 0 0 code []) (option_to_list (room.missing u.requirement))
          else (if has_more d u.repeat (occurrences d text)
          then wrong 0 (u.repeat + 1) ik403.TooManyRepetitions (slice_index_or (occurrences d text) u.repeat []) ∷ [] else [])
          ++ flat_map (λ x. room.occurrence_wrongs d u.is_composite u.components (if nat_lt 1 u.repeat then x.0 else 0) x.1)
          (numbered 1 (take u.repeat (occurrences d text))))
          ≡ missing_told text e ++ told (occurrences d text)
      by true empty =
          missing_shown text u.requirement ∙ sym (append-nil (missing_told text true))
          ∙ ap (λ l. missing_told text true ++ l) (sym (none_told text empty))
      by false filled =
          map-append (room.fault_at slot k) (if has_more d u.repeat (occurrences d text)
          then wrong 0 (u.repeat + 1) ik403.TooManyRepetitions (slice_index_or (occurrences d text) u.repeat []) ∷ [] else []) _
          ∙ ap (λ l. l ++ map (room.fault_at slot k) (flat_map
          (λ x. room.occurrence_wrongs d u.is_composite u.components (if nat_lt 1 u.repeat then x.0 else 0) x.1)
          (numbered 1 (take u.repeat (occurrences d text))))) (often_is (occurrences d text) (has_more d u.repeat (occurrences d text)))
          ∙ ap (λ l. (if has_more d u.repeat (occurrences d text)
          then found.fault k 0 (u.repeat + 1) ik403.TooManyRepetitions u.reference
          (slice_index_or (occurrences d text) (u.repeat + 1 - 1) []) ∷ [] else []) ++ l)
          (each_is text)
