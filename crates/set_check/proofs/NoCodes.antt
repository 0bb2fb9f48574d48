-- A set without a fault has no code exactly where it has a guide, and its ST and SE and the number of its segments agree.
use Rattle.std.proofs.Common.{◌≡◌, ◌≤◌, ℕ, inl, inr, Bool, true, false, not, List, [], ◌∷◌, ◌++◌, Option, Some, None, refl}
use Rattle.std.proofs.Common.{◌∙◌, ap, arith}
use Rattle.std.specs.Prelude.{length, nat_lt, ◌&&◌, ◌⊎◌}
use Rattle.std.specs.Str.{bytes_eq}
use Rattle.std.proofs.lemmas.Bool.{not-false}
use Rattle.std.proofs.lemmas.Bool.Decides.{nat_tests, Decides-eqb}
use Rattle.std.proofs.lemmas.Slice.Eq.{bytes_eq-Decides}
use Rattle.hub_kinds.specs.Words.{number_of}
use Rattle.hub_kinds.specs.declared.set_codes.SetCode.{SetCode}
use Rattle.hub_kinds.specs.declared.set_codes.SetCode.TheVariants as code
use Rattle.guide_tree.specs.Words.{GuideTree}
use Rattle.x12_bytes.specs.declared.delims.Delims.{Delims}
use Rattle.elem_rules.specs.Divided.{is_empty}
use Rattle.x12_segs.specs.Words.{SegValue, element_of}
use Rattle.set_check.specs.Codes.{code_if, control_of, has_other_control, is_count, has_other_count, has_short_control}
use Rattle.set_check.specs.Codes.{envelope_codes, is_other, first_five}
use Rattle.set_check.specs.SetParts.{SetParts, segments_of_set}
use Rattle.set_check.specs.SetFaults.{codes_with}
use Rattle.set_check.specs.Meets.{MeetsConvention}
use Rattle.set_check.specs.declared.codes.TheConstants.{COUNT_DIGITS, LEAST_CONTROL}

-- what ST and SE have to be
pub record Enveloped (g : GuideTree) (parts : SetParts) : Type 0 where
  pub trailer : SegValue
  pub closed : parts.trailer ≡ Some trailer
  pub counted : number_of COUNT_DIGITS (element_of trailer 1) ≡ Some (segments_of_set parts)
  pub same_control : element_of trailer 2 ≡ control_of parts.header
  pub long_control : LEAST_CONTROL ≤ length (control_of parts.header)
  pub convention : MeetsConvention parts.header.delims g.head.convention (element_of parts.header 3)

left_nil : (xs ys : List SetCode) → xs ++ ys ≡ [] → xs ≡ []
left_nil [] ys h = refl
left_nil (x ∷ xs) ys h = cc

right_nil : (xs ys : List SetCode) → xs ++ ys ≡ [] → ys ≡ []
right_nil [] ys h = h
right_nil (x ∷ xs) ys h = cc

none_of_five : (xs : List SetCode) → first_five xs ≡ [] → xs ≡ []
none_of_five [] h = refl
none_of_five (x ∷ xs) h = cc

no_code : (b : Bool) (c : SetCode) → code_if b c ≡ [] → b ≡ false
no_code true c h = cc
no_code false c h = refl

same_number : (n : ℕ) (o : Option ℕ) → is_count n o ≡ true → o ≡ Some n
same_number n None h = cc
same_number n (Some m) h = ap Some ((Decides-eqb m n).0 h)

either : (e s : Bool) → (not e && not s) ≡ false → (e ≡ true) ⊎ (s ≡ true)
either true s h = inl refl
either false true h = inr refl
either false false h = cc

neither : (e s : Bool) → (e ≡ true) ⊎ (s ≡ true) → (not e && not s) ≡ false
neither true s h = refl
neither false true h = refl
neither false false (inl h) = cc
neither false false (inr h) = cc

meets_one : (d : Delims) (c given : List ℕ) → (is_empty d given ≡ true) ⊎ (bytes_eq given c ≡ true) → MeetsConvention d (Some c) given
meets_one d c given (inl e) = inl e
meets_one d c given (inr e) = inr ((bytes_eq-Decides given c).0 e)

meets_convention : (d : Delims) (o : Option (List ℕ)) (given : List ℕ) → is_other d o given ≡ false → MeetsConvention d o given
meets_convention d None given h = tt
meets_convention d (Some c) given h = meets_one d c given (either (is_empty d given) (bytes_eq given c) h)

is_not_other : (d : Delims) (o : Option (List ℕ)) (given : List ℕ) → MeetsConvention d o given → is_other d o given ≡ false
is_not_other d None given h = refl
is_not_other d (Some c) given (inl e) = neither (is_empty d given) (bytes_eq given c) (inl e)
is_not_other d (Some c) given (inr e) = neither (is_empty d given) (bytes_eq given c) (inr ((bytes_eq-Decides given c).1 e))

long_enough : (least n : ℕ) → nat_lt n least ≡ false → least ≤ n
long_enough least n h = grind (arith, nat_tests)

not_short : (least n : ℕ) → least ≤ n → nat_lt n least ≡ false
not_short least n h = grind (arith, nat_tests)

-- by the SE, if there is one
enveloped_by : (g : GuideTree) (parts : SetParts) (t : Option SegValue) → parts.trailer ≡ t
    → envelope_codes parts.header (segments_of_set parts) t ≡ []
    → MeetsConvention parts.header.delims g.head.convention (element_of parts.header 3) → Enveloped g parts
enveloped_by g parts None e h k = cc
enveloped_by g parts (Some t) e h k =
    let a = code_if (has_other_control parts.header (Some t)) code.ControlNumbersDiffer in
    let b = code_if (has_other_count (segments_of_set parts) (Some t)) code.SegmentCountWrong in
    let c = code_if (has_short_control parts.header) code.ControlNumberInvalid in
    let ab : a ++ b ≡ [] = left_nil (a ++ b) c h in
    record {
      trailer = t;
      closed = e;
      counted =
          same_number (segments_of_set parts) (number_of COUNT_DIGITS (element_of t 1))
          (not-false _ (no_code _ code.SegmentCountWrong (right_nil a b ab)));
      same_control =
          (bytes_eq-Decides (element_of t 2) (control_of parts.header)).0
          (not-false _ (no_code _ code.ControlNumbersDiffer (left_nil a b ab)));
      long_control =
          long_enough LEAST_CONTROL (length (control_of parts.header)) (no_code _ code.ControlNumberInvalid (right_nil (a ++ b) c h));
      convention = k;
    }

pub codeless : (g : GuideTree) (parts : SetParts) → codes_with (Some g) parts [] ≡ [] → Enveloped g parts
codeless g parts h =
    let e = envelope_codes parts.header (segments_of_set parts) parts.trailer in
    let i = code_if (is_other parts.header.delims g.head.convention (element_of parts.header 3)) code.ConventionNotSupported in
    let all : (e ++ []) ++ i ≡ [] = none_of_five ((e ++ []) ++ i) h in
    enveloped_by g parts parts.trailer refl (left_nil e [] (left_nil (e ++ []) i all))
    (meets_convention parts.header.delims g.head.convention (element_of parts.header 3)
    (no_code _ code.ConventionNotSupported (right_nil (e ++ []) i all)))

pub guideless_has_a_code : (parts : SetParts) → codes_with None parts [] ≡ [] → ⊥
guideless_has_a_code parts h = cc

no_envelope_code : (g : GuideTree) (parts : SetParts) (v : Enveloped g parts)
    → envelope_codes parts.header (segments_of_set parts) (Some v.trailer) ≡ []
no_envelope_code g parts v =
    let control : has_other_control parts.header (Some v.trailer) ≡ false =
    ap not ((bytes_eq-Decides (element_of v.trailer 2) (control_of parts.header)).1 v.same_control) in
    let count : has_other_count (segments_of_set parts) (Some v.trailer) ≡ false =
    ap (λ (o : Option ℕ). not (is_count (segments_of_set parts) o)) v.counted
    ∙ ap not ((Decides-eqb (segments_of_set parts) (segments_of_set parts)).1 refl) in
    let short : has_short_control parts.header ≡ false = not_short LEAST_CONTROL (length (control_of parts.header)) v.long_control in
    three_not _ _ _ control count short where
      three_not : (x y z : Bool) → x ≡ false → y ≡ false → z ≡ false
          → (code_if x code.ControlNumbersDiffer ++ code_if y code.SegmentCountWrong) ++ code_if z code.ControlNumberInvalid ≡ []
      three_not false false false a b c = refl
      three_not true y z a b c = cc
      three_not false true z a b c = cc
      three_not false false true a b c = cc

pub enveloped_codeless : (g : GuideTree) (parts : SetParts) → Enveloped g parts → codes_with (Some g) parts [] ≡ []
enveloped_codeless g parts v =
    let i = code_if (is_other parts.header.delims g.head.convention (element_of parts.header 3)) code.ConventionNotSupported in
    ap (λ (t : Option SegValue). first_five ((envelope_codes parts.header (segments_of_set parts) t ++ []) ++ i)) v.closed
    ∙ ap (λ (l : List SetCode). first_five ((l ++ []) ++ i)) (no_envelope_code g parts v)
    ∙ ap (λ (b : Bool). first_five (code_if b code.ConventionNotSupported))
    (is_not_other parts.header.delims g.head.convention (element_of parts.header 3) v.convention)
