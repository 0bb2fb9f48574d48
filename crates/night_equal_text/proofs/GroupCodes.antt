-- The codes of a group, and the numbers of its sets.
use Rattle.std.proofs.Common.{◌≡◌, ℕ, suc, List, [], ◌∷◌, ◌++◌, map, Bool, true, false, not, ◌&&◌, ◌||◌, cond, Option, Some, None, length}
use Rattle.std.proofs.Common.{refl, sym, ap, ◌∙◌, eq-eqb}
use Rattle.std.specs.Prelude.{option_map, bytes_eq, ◌==◌}
use Rattle.std.specs.List.{list_any}
use Rattle.std.specs.Option.{option_map_or}
use Rattle.std.proofs.lemmas.Bool.{eqb-true}
use Rattle.std.proofs.lemmas.Slice.Eq.{bytes_eq-Decides}
use Rattle.hub_kinds.specs.Words.{number_of}
use Rattle.hub_kinds.specs.declared.set_codes.GroupCode.{GroupCode}
use Rattle.hub_kinds.specs.declared.set_codes.GroupCode.TheVariants as code
use Rattle.x12_segs.specs.Words.{SegValue, element_of}
use Rattle.env_index.specs.Words as then
use Rattle.env_index.specs.declared.entry.SetEnvelope.{SetEnvelope}
use Rattle.guide_tree.specs.Tree.{GuideTree}
use Rattle.guide_tree.specs.View as rows
use Rattle.guide_tree.specs.declared.rows.GuideRows.{GuideRows}
use Rattle.ack_999.specs.Group.{are_same_number, unless, earlier_group_codes}
use Rattle.ack_999.specs.Group as old
use Rattle.ack_999.specs.declared.support.GroupSupport.TheVariants as support
use Rattle.set_check.specs.Codes as codes
use Rattle.number_register.specs.SeenNumbers.{is_among}
use Rattle.partner_setup.specs.Setup.{SetupValue, has_group, has_version}
use Rattle.partner_setup.specs.Setup as setups
use Rattle.set_answers.specs.Answers as answers
use Rattle.night_definition.specs.Segments.{Segment, element}
use Rattle.night_definition.specs.Envelopes.{Set, Group}
use Rattle.night_definition.specs.Setup.{is_number}
use Rattle.night_definition.specs.Sets.{control_of, code_if}
use Rattle.night_definition.specs.Answers.{are_same, number_of_group, support_codes, group_codes}
use Rattle.night_equal_text.specs.Seen.{seen}
use Rattle.night_equal_text.specs.Kept.{IsSetKept, AreSetsKept, IsGroupKept, AreGroupsKept}
use Rattle.night_equal_text.specs.LookedUp.{seen_setup}
use Rattle.night_equal_text.proofs.LookingUp.{guides_of_partner}

pub turned : (xs ys : List ℕ) → bytes_eq xs ys ≡ bytes_eq ys xs
turned xs ys = by (bytes_eq xs ys) (bytes_eq ys xs) refl refl
  where
    by : (a b : Bool) → bytes_eq xs ys ≡ a → bytes_eq ys xs ≡ b → a ≡ b
    by true true p q = refl
    by false false p q = refl
    by true false p q = sym ((bytes_eq-Decides ys xs).1 (sym ((bytes_eq-Decides xs ys).0 p))) ∙ q
    by false true p q = sym p ∙ (bytes_eq-Decides xs ys).1 (sym ((bytes_eq-Decides ys xs).0 q))

pub set_numbers_are_one : (before : List Set) (olds : List SetEnvelope) (s : Set) (e : SetEnvelope) → AreSetsKept before olds
    → IsSetKept s e
    → list_any (λ t. bytes_eq (control_of t) (control_of s)) before ≡ is_among (codes.control_of e.header) (answers.controls_of olds)
set_numbers_are_one [] [] s e kept is = refl
set_numbers_are_one [] (f ∷ olds) s e kept is = absurd kept
set_numbers_are_one (t ∷ before) [] s e kept is = absurd kept
set_numbers_are_one (t ∷ before) (f ∷ olds) s e kept is =
    ap (λ (h : Segment). bytes_eq (element 2 h.elements) (control_of s) || list_any (λ t. bytes_eq (control_of t) (control_of s)) before)
    kept.0.header
    ∙ ap (λ (h : Segment). bytes_eq (codes.control_of f.header) (element 2 h.elements)
    || list_any (λ t. bytes_eq (control_of t) (control_of s)) before) is.header
    ∙ ap (λ b. b || list_any (λ t. bytes_eq (control_of t) (control_of s)) before)
    (turned (codes.control_of f.header) (codes.control_of e.header))
    ∙ ap (λ b. bytes_eq (codes.control_of e.header) (codes.control_of f.header) || b)
    (set_numbers_are_one before olds s e kept.1 is)

any_seen : (test : GuideTree → Bool) (gs : List GuideRows)
    → list_any test (map rows.guide_of gs) ≡ list_any (λ g. test (rows.guide_of g)) gs
any_seen test [] = refl
any_seen test (g ∷ gs) = ap (λ b. test (rows.guide_of g) || b) (any_seen test gs)

-- 1 and 2
support_is : (setup : SetupValue) (sender : ℕ) (gs : SegValue)
    → support_codes (seen_setup setup) sender (seen gs).elements ≡ old.support_codes (answers.support_of setup sender gs)
support_is setup sender gs =
    ap (λ (guides : List GuideTree).
    cond (list_any (λ g. bytes_eq g.head.group (element_of gs 1) && bytes_eq g.head.version (element_of gs 8)) guides) []
    (cond (list_any (λ g. bytes_eq g.head.group (element_of gs 1)) guides) (code.VersionNotSupported ∷ []) (code.NotSupported ∷ [])))
    (guides_of_partner setup sender)
    ∙ ap (λ b. cond b [] (cond
    (list_any (λ (g : GuideTree). bytes_eq g.head.group (element_of gs 1)) (map rows.guide_of (setups.guides_of setup sender)))
    (code.VersionNotSupported ∷ []) (code.NotSupported ∷ [])))
    (any_seen (λ g. bytes_eq g.head.group (element_of gs 1) && bytes_eq g.head.version (element_of gs 8)) (setups.guides_of setup sender))
    ∙ ap (λ b. cond (has_version setup sender (element_of gs 1) (element_of gs 8)) []
    (cond b (code.VersionNotSupported ∷ []) (code.NotSupported ∷ [])))
    (any_seen (λ g. bytes_eq g.head.group (element_of gs 1)) (setups.guides_of setup sender))
    ∙ by (has_version setup sender (element_of gs 1) (element_of gs 8)) (has_group setup sender (element_of gs 1))
  where
    by : (v g : Bool) → cond v [] (cond g (code.VersionNotSupported ∷ []) (code.NotSupported ∷ []))
        ≡ old.support_codes (cond v support.Served (cond g support.VersionNotServed support.NotServed))
    by true g = refl
    by false true = refl
    by false false = refl

same_is : (m n : Option ℕ) → are_same m n ≡ are_same_number m n
same_is None None = refl
same_is None (Some n) = refl
same_is (Some m) None = refl
same_is (Some m) (Some n) = refl

number_is : (m : Option ℕ) (n : ℕ) → is_number m n ≡ are_same_number m (Some n)
number_is None n = refl
number_is (Some m) n = refl

unless_is : (b : Bool) (c : GroupCode) → code_if (not b) c ≡ unless b c
unless_is true c = refl
unless_is false c = refl

earlier_is : (b : Bool) → code_if b code.ControlNumberNotUnique ≡ earlier_group_codes b
earlier_is true = refl
earlier_is false = refl

same_turned : (m n : Option ℕ) → are_same_number m n ≡ are_same_number n m
same_turned None None = refl
same_turned None (Some n) = refl
same_turned (Some m) None = refl
same_turned (Some m) (Some n) = by (m == n) (n == m) refl refl
  where
    by : (a b : Bool) → (m == n) ≡ a → (n == m) ≡ b → a ≡ b
    by true true p q = refl
    by false false p q = refl
    by true false p q = sym (eq-eqb n m (sym (eqb-true m n p))) ∙ q
    by false true p q = sym p ∙ eq-eqb m n (sym (eqb-true n m q))

-- 3 to 5
abbrev by_trailer : Option ℕ → ℕ → Option Segment → List GroupCode
by_trailer control sets trailer = option_map_or (λ (ge : Segment).
    code_if (not (are_same (number_of 9 (element 2 ge.elements)) control)) code.ControlNumbersDiffer
    ++ code_if (not (is_number (number_of 6 (element 1 ge.elements)) sets)) code.SetCountWrong)
    trailer (code.TrailerMissing ∷ [])

trailer_is : (control : List ℕ) (sets : ℕ) (trailer : Option SegValue)
    → by_trailer (number_of 9 control) sets (option_map seen trailer)
    ≡ old.trailer_codes control (option_map answers.trailer_of trailer) sets
trailer_is control sets None = refl
trailer_is control sets (Some ge) =
    ap (λ b. code_if (not b) code.ControlNumbersDiffer ++ code_if
    (not (is_number (number_of 6 (element_of ge 1)) sets)) code.SetCountWrong)
    (same_is (number_of 9 (element_of ge 2)) (number_of 9 control))
    ∙ ap (λ cs. cs ++ code_if (not (is_number (number_of 6 (element_of ge 1)) sets)) code.SetCountWrong)
    (unless_is (are_same_number (number_of 9 (element_of ge 2)) (number_of 9 control)) code.ControlNumbersDiffer)
    ∙ ap (λ b. unless (are_same_number (number_of 9 (element_of ge 2)) (number_of 9 control)) code.ControlNumbersDiffer
    ++ code_if (not b) code.SetCountWrong) (number_is (number_of 6 (element_of ge 1)) sets)
    ∙ ap (λ cs. unless (are_same_number (number_of 9 (element_of ge 2)) (number_of 9 control)) code.ControlNumbersDiffer ++ cs)
    (unless_is (are_same_number (number_of 6 (element_of ge 1)) (Some sets)) code.SetCountWrong)

as_many : (ss : List Set) (es : List SetEnvelope) → AreSetsKept ss es → length ss ≡ length es
as_many [] [] kept = refl
as_many [] (e ∷ es) kept = absurd kept
as_many (s ∷ ss) [] kept = absurd kept
as_many (s ∷ ss) (e ∷ es) kept = ap suc (as_many ss es kept.1)

-- 19
earlier : (before : List Group) (olds : List then.GroupEntry) (e : then.GroupEntry) → AreGroupsKept before olds
    → list_any (λ g. are_same (number_of_group g) (answers.group_number e)) before ≡ answers.has_number_among olds e
earlier [] [] e kept = refl
earlier [] (f ∷ olds) e kept = absurd kept
earlier (g ∷ before) [] e kept = absurd kept
earlier (g ∷ before) (f ∷ olds) e kept =
    ap (λ (h : Segment). are_same (number_of 9 (element 6 h.elements)) (answers.group_number e)
    || list_any (λ g. are_same (number_of_group g) (answers.group_number e)) before) kept.0.header
    ∙ ap (λ b. b || list_any (λ g. are_same (number_of_group g) (answers.group_number e)) before)
    (same_is (answers.group_number f) (answers.group_number e) ∙ same_turned (answers.group_number f) (answers.group_number e))
    ∙ ap (λ b. are_same_number (answers.group_number e) (answers.group_number f) || b) (earlier before olds e kept.1)

abbrev codes_by : SetupValue → ℕ → List Group → Segment → List Set → Option Segment → List GroupCode
codes_by setup sender before header sets trailer =
    group_codes (seen_setup setup) sender before (record { header = header; sets = sets; trailer = trailer })

pub group_codes_are_one : (sent : answers.SentValue) (before : List Group) (olds : List then.GroupEntry) (g : Group) (e : then.GroupEntry)
    → AreGroupsKept before olds → IsGroupKept g e
    → group_codes (seen_setup sent.setup) sent.sender before g ≡ answers.codes_where sent (answers.has_number_among olds e) e
group_codes_are_one sent before olds g e kept is =
    let control : List ℕ = element_of e.header 6 in
    let own : List GroupCode = support_codes (seen_setup sent.setup) sent.sender (seen e.header).elements in
    let supported : List GroupCode = old.support_codes (answers.support_of sent.setup sent.sender e.header) in
    let late : List GroupCode =
    code_if (list_any (λ g. are_same (number_of_group g) (answers.group_number e)) before) code.ControlNumberNotUnique in
    let closed : List GroupCode = old.trailer_codes control (option_map answers.trailer_of e.trailer) (length e.sets) in
    ap (λ h. codes_by sent.setup sent.sender before h g.sets g.trailer) is.header
    ∙ ap (λ t. codes_by sent.setup sent.sender before (seen e.header) g.sets t) is.trailer
    ∙ ap (λ n. own ++ by_trailer (number_of 9 control) n (option_map seen e.trailer) ++ late) (as_many g.sets e.sets is.sets)
    ∙ ap (λ cs. own ++ cs ++ late) (trailer_is control (length e.sets) e.trailer)
    ∙ ap (λ cs. cs ++ closed ++ late) (support_is sent.setup sent.sender e.header)
    ∙ ap (λ b. supported ++ closed ++ code_if b code.ControlNumberNotUnique) (earlier before olds e kept)
    ∙ ap (λ cs. supported ++ closed ++ cs) (earlier_is (answers.has_number_among olds e))
