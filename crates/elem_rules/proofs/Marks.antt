-- The bits of the positions at which conditions are broken, and the faults there: each once, and those of all conditions.
use Rattle.std.proofs.Common.{◌≡◌, ◌≢◌, ℕ, ◌+◌, ◌<◌, ◌≤◌, ◌∙◌, List, [], ◌∷◌, ◌++◌, Bool, true, false, length, get_or, take, refl, ap, sym}
use Rattle.std.proofs.Common.{subst, arith, append_assoc, append-nil}
use Rattle.std.specs.Prelude.{IsTrue, Result, Ok, Err, OnOk, ◌&&◌, ◌==◌, nat_lt, if◌then◌else◌}
use mathlib.Core.Logic.{◌⊎◌, inl, inr}
use Rattle.std.specs.Int.{bit_at, w64}
use Rattle.std.specs.List.{All, Contains, flat_map, list_all}
use Rattle.std.proofs.lemmas.Bool.{cases_eq, lt-ltb, false≢true}
use Rattle.std.proofs.lemmas.Nat.Bits.{bit_at-zero, bit_at_set_same, bit_at_set_other}
use Rattle.std.proofs.lemmas.Grind.{flat_map-append}
use Rattle.std.proofs.lemmas.List.{take_more}
use Rattle.std.proofs.lemmas.List.Elements.{All-contains, All-weaker, Contains-append_left, Contains-append_right, Contains-append_cases}
use Rattle.std.proofs.lemmas.List.Elements.{Contains-push, Contains-push_cases}
use Rattle.x12_bytes.specs.declared.delims.Delims.{Delims}
use Rattle.guide_tree.specs.declared.element.Element.{Element}
use Rattle.guide_tree.specs.declared.slot.Slot.{Slot}
use Rattle.guide_tree.specs.declared.slot.Condition.{Condition}
use Rattle.guide_tree.specs.declared.slot.Relation.{Relation}
use Rattle.guide_tree.specs.declared.slot.Relation.TheVariants as relation
use Rattle.guide_tree.specs.Words.{is_condition_of, Segment}
use Rattle.hub_kinds.specs.declared.codes.ElementCode.{ElementCode}
use Rattle.hub_kinds.specs.declared.codes.ElementCode.TheVariants as ik403
use Rattle.hub_kinds.specs.declared.fault.ElemFault.{ElemFault}
use Rattle.elem_rules.specs.Clean.{is_set, marked}
use Rattle.elem_rules.specs.Conditions.{broken_at, condition_code}
use Rattle.elem_rules.specs.Found.{broken_found, condition_found_by, conditions_found, rows_found, extra_found, texts_of, found}
use Rattle.elem_rules.specs.Marks.{AreBits, missing_in, excluded_in, missing_at, excluded_at, marked_found}
use Rattle.elem_rules.proofs.Agreeing.{broken_within, positions_have_rows, conditions_hold}
use Rattle.elem_rules.proofs.Steps.{found_joined}
use Rattle.elem_rules.proofs.Members.{no_member, from_if, in_then, from_up_to, in_up_to, from_flat_map, in_flat_map}

and_false : (b : Bool) → (b && false) ≡ false
and_false true = refl
and_false false = refl

-- no bit is set
pub none_set : AreBits 0 []
none_set p =
    let none : is_set 0 p ≡ false = ap (λ bit. nat_lt p 64 && (bit == 1)) (bit_at-zero p) ∙ and_false (nat_lt p 64) in
    (λ h. absurd (false≢true (sym none ∙ h)), λ h. absurd (no_member p h))

-- one more bit is set
set_now : (bits q : ℕ) → q < 64 → is_set (marked bits q true) q ≡ true
set_now bits q few = ap (λ b. b && (bit_at (marked bits q true) q == 1)) (lt-ltb q 64 few)
    ∙ ap (λ bit. bit == 1) (bit_at_set_same w64 bits q few)

set_before : (bits q p : ℕ) → q < 64 → p ≢ q → is_set (marked bits q true) p ≡ is_set bits p
set_before bits q p few other = ap (λ bit. nat_lt p 64 && (bit == 1)) (bit_at_set_other w64 bits q few p other)

pub one_more : (bits q : ℕ) (listed : List ℕ) → q < 64 → AreBits bits listed → AreBits (marked bits q true) (listed ++ q ∷ [])
one_more bits q listed few are p = elim (cases_eq p q) [
  | inl e ↦ (
    λ h. subst (λ p. Contains (listed ++ q ∷ []) p) (sym e) (Contains-push listed q),
    λ h. subst (λ p. IsTrue (is_set (marked bits q true) p)) (sym e) (set_now bits q few),
  )
  | inr e ↦ (
    λ h. Contains-append_left listed (q ∷ []) p ((are p).0 (sym (set_before bits q p few e) ∙ h)),
    λ h. elim (Contains-push_cases listed q p h) [
      | inl there ↦ set_before bits q p few e ∙ (are p).1 there
      | inr same ↦ absurd (e (sym same))
    ],
  )
]

-- one step of a walk over positions
pub next_set : (bits next k : ℕ) (positions listed : List ℕ) → k < length positions → get_or positions k 0 < 64
    → next ≡ marked bits (get_or positions k 0) true → AreBits bits (listed ++ take k positions)
    → AreBits next (listed ++ take (k + 1) positions)
next_set bits next k positions listed within few step are =
    let q = get_or positions k 0 in
    subst (λ n. AreBits n (listed ++ take (k + 1) positions)) (sym step)
    (subst (λ l. AreBits (marked bits q true) l)
    (append_assoc listed (take k positions) (q ∷ []) ∙ ap (λ l. listed ++ l) (sym (take_more positions k 0 within)))
    (one_more bits q (listed ++ take k positions) few are))

-- what is listed of one more condition
pub next_listed : (f : Condition → List ℕ) (conditions : List Condition) (k : ℕ) (x : Condition) → k < length conditions
    → x ≡ get_or conditions k x
    → flat_map f (take k conditions) ++ f x ≡ flat_map f (take (k + 1) conditions)
next_listed f conditions k x within is =
    ap (λ l. flat_map f (take k conditions) ++ l) (sym (append-nil (f x)))
    ∙ sym (flat_map-append f (take k conditions) (x ∷ []))
    ∙ ap (λ y. flat_map f (take k conditions ++ y ∷ [])) is
    ∙ ap (λ l. flat_map f l) (sym (take_more conditions k x within))

-- all but an exclusion list where an element is missing
pub not_exclusion : (r : Relation) (positions : List ℕ)
    → (r ≡ relation.Paired) ⊎ ((r ≡ relation.Required) ⊎ ((r ≡ relation.Conditional) ⊎ (r ≡ relation.ListConditional)))
    → (positions ≡ missing_in r positions) × ([] ≡ excluded_in r positions)
not_exclusion r positions h = elim h [
  | inl e ↦ (ap (λ r. missing_in r positions) (sym e), ap (λ r. excluded_in r positions) (sym e))
  | inr h ↦ elim h [
    | inl e ↦ (ap (λ r. missing_in r positions) (sym e), ap (λ r. excluded_in r positions) (sym e))
    | inr h ↦ elim h [
      | inl e ↦ (ap (λ r. missing_in r positions) (sym e), ap (λ r. excluded_in r positions) (sym e))
      | inr e ↦ (ap (λ r. missing_in r positions) (sym e), ap (λ r. excluded_in r positions) (sym e))
    ]
  ]
]

pub unchanged : (bits : ℕ) (listed more : List ℕ) → [] ≡ more → AreBits bits listed → AreBits bits (listed ++ more)
unchanged bits listed more none are = subst (λ l. AreBits bits l) (sym (append-nil listed) ∙ ap (λ l. listed ++ l) none) are

-- the code of the positions that are picked of a condition's
abbrev Coded : (Relation → List ℕ → List ℕ) → ElementCode → Type 0
Coded pick code = (r : Relation) (ps : List ℕ) (p : ℕ) → Contains (pick r ps) p → (condition_code r ≡ code) × Contains ps p

missing_coded : Coded missing_in ik403.ConditionalMissing
missing_coded relation.Paired ps p h = (refl, h)
missing_coded relation.Required ps p h = (refl, h)
missing_coded relation.Exclusion ps p h = absurd (no_member p h)
missing_coded relation.Conditional ps p h = (refl, h)
missing_coded relation.ListConditional ps p h = (refl, h)

excluded_coded : Coded excluded_in ik403.ExclusionViolated
excluded_coded relation.Paired ps p h = absurd (no_member p h)
excluded_coded relation.Required ps p h = absurd (no_member p h)
excluded_coded relation.Exclusion ps p h = (refl, h)
excluded_coded relation.Conditional ps p h = absurd (no_member p h)
excluded_coded relation.ListConditional ps p h = absurd (no_member p h)

-- each position of a condition is picked for one of the codes
picked : (r : Relation) (ps : List ℕ) (p : ℕ) → Contains ps p
    → (Contains (missing_in r ps) p × (condition_code r ≡ ik403.ConditionalMissing))
    ⊎ (Contains (excluded_in r ps) p × (condition_code r ≡ ik403.ExclusionViolated))
picked relation.Paired ps p h = inl (h, refl)
picked relation.Required ps p h = inl (h, refl)
picked relation.Exclusion ps p h = inr (h, refl)
picked relation.Conditional ps p h = inl (h, refl)
picked relation.ListConditional ps p h = inl (h, refl)

module _ (rows : List Element) (texts : List (List ℕ)) (present : ℕ → Bool) (conditions : List Condition) where
  -- a fault at a bit is one of a condition
  from_marked : (pick : Relation → List ℕ → List ℕ) (code : ElementCode) (bits : ℕ) (f : ElemFault) → Coded pick code
      → AreBits bits (flat_map (λ c. pick c.relation (broken_at present c.relation c.positions)) conditions)
      → Contains (marked_found rows texts code bits) f → Contains (flat_map (condition_found_by present rows texts) conditions) f
  from_marked pick code bits f coded are h =
      let a = from_up_to (λ k. if is_set bits k then broken_found rows texts code k else []) (length rows) f h in
      let k = a.0 in
      elim (from_if (is_set bits k) (broken_found rows texts code k) [] f a.3) [
        | inl set ↦
            let b = from_flat_map (λ c. pick c.relation (broken_at present c.relation c.positions)) conditions k ((are k).0 set.0) in
            let c = b.0 in
            let d = coded c.relation (broken_at present c.relation c.positions) k b.2 in
            in_flat_map (condition_found_by present rows texts) conditions c f b.1
            (in_flat_map (broken_found rows texts (condition_code c.relation)) (broken_at present c.relation c.positions) k f d.1
            (subst (λ code. Contains (broken_found rows texts code k) f) (sym d.0) set.1))
        | inr none ↦ absurd (no_member f none.1)
      ]

  -- a fault of a condition is one at a bit
  to_marked : (pick : Relation → List ℕ → List ℕ) (code : ElementCode) (bits k : ℕ) (c : Condition) (f : ElemFault)
      → AreBits bits (flat_map (λ c. pick c.relation (broken_at present c.relation c.positions)) conditions)
      → Contains conditions c → Contains (pick c.relation (broken_at present c.relation c.positions)) k → condition_code c.relation ≡ code
      → 1 ≤ k → k ≤ length rows → Contains (broken_found rows texts (condition_code c.relation) k) f
      → Contains (marked_found rows texts code bits) f
  to_marked pick code bits k c f are listed there is from to h =
      in_up_to (λ k. if is_set bits k then broken_found rows texts code k else []) (length rows) k f from to
      (in_then (is_set bits k) (broken_found rows texts code k) [] f
      ((are k).1 (in_flat_map (λ c. pick c.relation (broken_at present c.relation c.positions)) conditions c k listed there))
      (subst (λ code. Contains (broken_found rows texts code k) f) is h))

  module _ (within : All (λ c. All (λ p. (1 ≤ p) × (p ≤ length rows)) c.positions) conditions) where
    split_marked : (missing excluded : ℕ) (f : ElemFault)
        → AreBits missing (flat_map (missing_at present) conditions) → AreBits excluded (flat_map (excluded_at present) conditions)
        → Contains (flat_map (condition_found_by present rows texts) conditions) f
        → Contains (marked_found rows texts ik403.ConditionalMissing missing) f
        ⊎ Contains (marked_found rows texts ik403.ExclusionViolated excluded) f
    split_marked missing excluded f are_missing are_excluded h =
        let a = from_flat_map (condition_found_by present rows texts) conditions f h in
        let c = a.0 in
        let b = from_flat_map (broken_found rows texts (condition_code c.relation)) (broken_at present c.relation c.positions) f a.2 in
        let k = b.0 in
        let all = All-contains (λ c. All (λ p. (1 ≤ p) × (p ≤ length rows)) c.positions) conditions c within a.1 in
        let at_row = All-contains (λ p. (1 ≤ p) × (p ≤ length rows)) (broken_at present c.relation c.positions) k
        (broken_within present c.relation (λ p. (1 ≤ p) × (p ≤ length rows)) c.positions all) b.1 in
        elim (picked c.relation (broken_at present c.relation c.positions) k b.1) [
          | inl e ↦ inl (to_marked missing_in ik403.ConditionalMissing missing k c f are_missing a.1 e.0 e.1 at_row.0 at_row.1 b.2)
          | inr e ↦ inr (to_marked excluded_in ik403.ExclusionViolated excluded k c f are_excluded a.1 e.0 e.1 at_row.0 at_row.1 b.2)
        ]

    -- with the faults at the bits, a list holds what it held and the faults of all conditions
    pub joined : (start first last : List ElemFault) (missing excluded : ℕ)
        → AreBits missing (flat_map (missing_at present) conditions) → AreBits excluded (flat_map (excluded_at present) conditions)
        → first ≡ start ++ marked_found rows texts ik403.ConditionalMissing missing
        → last ≡ first ++ marked_found rows texts ik403.ExclusionViolated excluded
        → (f : ElemFault)
        → (Contains last f → Contains start f ⊎ Contains (flat_map (condition_found_by present rows texts) conditions) f)
        × (Contains start f ⊎ Contains (flat_map (condition_found_by present rows texts) conditions) f → Contains last f)
    joined start first last missing excluded are_missing are_excluded a b f =
        let ms = marked_found rows texts ik403.ConditionalMissing missing in
        let xs = marked_found rows texts ik403.ExclusionViolated excluded in (
          λ h. elim (Contains-append_cases first xs f (subst (λ (l : List ElemFault). Contains l f) b h)) [
            | inl e ↦ elim (Contains-append_cases start ms f (subst (λ (l : List ElemFault). Contains l f) a e)) [
              | inl e ↦ inl e
              | inr e ↦ inr (from_marked missing_in ik403.ConditionalMissing missing f missing_coded are_missing e)
            ]
            | inr e ↦ inr (from_marked excluded_in ik403.ExclusionViolated excluded f excluded_coded are_excluded e)
          ],
          λ h. subst (λ (l : List ElemFault). Contains l f) (sym b) (elim h [
            | inl e ↦ Contains-append_left first xs f
                (subst (λ (l : List ElemFault). Contains l f) (sym a) (Contains-append_left start ms f e))
            | inr e ↦ elim (split_marked missing excluded f are_missing are_excluded e) [
              | inl m ↦ Contains-append_left first xs f
                  (subst (λ (l : List ElemFault). Contains l f) (sym a) (Contains-append_right start ms f m))
              | inr x ↦ Contains-append_right first xs f x
            ]
          ]),
        )

-- the three parts of the walk, one after another, hold what is found
pub found_members : (delims given : Delims) (s : Segment) (slot : Slot) (rows : List Element) (texts : List (List ℕ))
    (conditions : List Condition)
    (start first second last : List ElemFault) → given ≡ delims → rows ≡ slot.elements → conditions ≡ slot.conditions
    → texts ≡ texts_of slot s
    → start ≡ [] → first ≡ start ++ rows_found given rows texts → second ≡ first ++ extra_found delims slot s
    → ((f : ElemFault) → (Contains last f → Contains second f ⊎ Contains (conditions_found given rows conditions texts) f)
    × (Contains second f ⊎ Contains (conditions_found given rows conditions texts) f → Contains last f))
    → (f : ElemFault) → (Contains last f → Contains (found delims s slot) f) × (Contains (found delims s slot) f → Contains last f)
found_members delims given s slot rows texts conditions start first second last is_given are_rows are_conditions are_texts none a b members
    f =
    let cs = conditions_found given rows conditions texts in
    let whole : second ++ cs ≡ found delims s slot =
    found_joined delims given s slot rows texts conditions start first second
    (second ++ cs) is_given are_rows are_conditions are_texts none a b refl in (
      λ h. subst (λ (l : List ElemFault). Contains l f) whole (elim ((members f).0 h) [
        | inl e ↦ Contains-append_left second cs f e
        | inr e ↦ Contains-append_right second cs f e
      ]),
      λ h. (members f).1 (Contains-append_cases second cs f (subst (λ (l : List ElemFault). Contains l f) (sym whole) h)),
    )

-- the conditions of a sound slot name elements that have rows
pub rows_listed : (slot : Slot) (rows : List Element) (conditions : List Condition) → rows ≡ slot.elements → conditions ≡ slot.conditions
    → IsTrue (list_all (is_condition_of slot) slot.conditions) → All (λ c. All (λ p. (1 ≤ p) × (p ≤ length rows)) c.positions) conditions
rows_listed slot rows conditions are_rows are_conditions sound =
    subst (λ (rows : List Element). All (λ c. All (λ p. (1 ≤ p) × (p ≤ length rows)) c.positions) conditions) (sym are_rows)
    (subst (λ (conditions : List Condition). All (λ c. All (λ p. (1 ≤ p) × (p ≤ length slot.elements)) c.positions) conditions)
    (sym are_conditions)
    (All-weaker (λ c. IsTrue (is_condition_of slot c)) (λ c. All (λ p. (1 ≤ p) × (p ≤ length slot.elements)) c.positions)
    (λ c h. positions_have_rows slot c h)
    slot.conditions (conditions_hold slot sound)))

-- and so name few
pub few_listed : (n : ℕ) (conditions : List Condition) → n ≤ 40 → All (λ c. All (λ p. (1 ≤ p) × (p ≤ n)) c.positions) conditions
    → All (λ c. All (λ p. p < 64) c.positions) conditions
few_listed n conditions few h =
    All-weaker (λ c. All (λ p. (1 ≤ p) × (p ≤ n)) c.positions) (λ c. All (λ p. p < 64) c.positions)
    (λ c w. All-weaker (λ p. (1 ≤ p) × (p ≤ n)) (λ p. p < 64) (λ p w. omega (arith, few, w.1)) c.positions w) conditions h

pub on_ok : {A E P Q : Type 0} (r : Result A E) → (P → Q) → OnOk r P → OnOk r Q
on_ok (Ok x) f h = f h
on_ok (Err e) f h = tt
