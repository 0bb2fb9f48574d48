-- The test of a header says exactly where there is one.
use Rattle.std.proofs.Common.{◌≡◌, ◌≢◌, ℕ, ◌+◌, ◌-◌, ◌≤◌, Bool, not, ◌&&◌, nat_eq, leb, List, length, take, All, IsTrue, inl, inr, refl}
use Rattle.std.proofs.Common.{subst, arith}
use Rattle.std.specs.Prelude.{slice_index, codes}
use Rattle.std.specs.Bool.{Decides}
use Rattle.std.specs.Str.{bytes_eq}
use Rattle.std.specs.List.{list_all}
use Rattle.std.specs.Cmp.Lexicographic.{bytes_decides}
use Rattle.std.proofs.lemmas.Bool.Decides.{Decides-eqb, Decides-not, Decides-and, Decides-like, Decides-by_and, Decides-below_and}
use Rattle.std.proofs.lemmas.Bool.Decides.{leb_tells}
use Rattle.x12_bytes.specs.Bytes.{may_terminate, may_separate}
use Rattle.x12_bytes.specs.Header.{element_separator_of, component_separator_of, terminator_of, field_of, separator_place, header_at}
use Rattle.x12_bytes.specs.Header.{IsFieldByte}
use Rattle.x12_bytes.specs.Header.{IsFieldAt}
use Rattle.x12_bytes.specs.Header.{HasFields, IsHeader, Head}
use Rattle.x12_bytes.specs.HeaderTest.{is_field_byte, is_field_at, has_fields, has_delims, is_header, is_head}

decides_field_byte : (h : List ℕ) (b : ℕ) → Decides (is_field_byte h b) (IsFieldByte h b)
decides_field_byte h b =
    Decides-and (not (nat_eq b (element_separator_of h))) (not (nat_eq b (terminator_of h)))
    (Decides-not (nat_eq b (element_separator_of h)) (Decides-eqb b (element_separator_of h)))
    (Decides-not (nat_eq b (terminator_of h)) (Decides-eqb b (terminator_of h)))

pub decides_field_bytes : (h bytes : List ℕ) → Decides (list_all (is_field_byte h) bytes) (All (IsFieldByte h) bytes)
decides_field_bytes h bytes = Decides-by_and (is_field_byte h) (IsFieldByte h) (list_all (is_field_byte h)) (decides_field_byte h) refl
    (λ _ _. refl) bytes

decides_field_at : (h : List ℕ) (k : ℕ) → Decides (is_field_at h k) (IsFieldAt h k)
decides_field_at h k =
    let separator : Bool = nat_eq (slice_index h (separator_place k)) (element_separator_of h) in
    let bytes : Bool = list_all (is_field_byte h) (field_of h k) in
    Decides-like (is_field_at h k) (λ p. record { separator = p.0; bytes = p.1 }) (λ f. (f.separator, f.bytes))
    (Decides-and separator bytes (Decides-eqb (slice_index h (separator_place k)) (element_separator_of h)) (decides_field_bytes h
    (field_of h k)))

decides_fields : (h : List ℕ) → Decides (has_fields h 16) (HasFields h)
unfolding has_fields
decides_fields h =
    let each : (k : ℕ) → Decides (is_field_at h (k + 1)) (IsFieldAt h (k + 1)) = λ k. decides_field_at h (k + 1) in
    Decides-like (has_fields h 16)
    (λ below k from to. (let n : k - 1 + 1 ≡ k = omega arith in subst (IsFieldAt h) n (below (k - 1) (omega arith))))
    (λ fields k lt. fields (k + 1) (omega arith) (omega arith))
    (Decides-below_and (λ k. is_field_at h (k + 1)) (λ k. IsFieldAt h (k + 1)) (has_fields h) each refl (λ _. refl) 16)

decides_differ : (a b : ℕ) → Decides (not (nat_eq a b)) (a ≢ b)
decides_differ a b = Decides-not (nat_eq a b) (Decides-eqb a b)

-- a test that was made decides that it came out true
decides_test : (b : Bool) → Decides b (IsTrue b)
decides_test b = (λ yes. yes, λ yes. yes)

-- what the delimiters' test says
record HasDelims (h : List ℕ) : Type 0 where
  element_not_component : element_separator_of h ≢ component_separator_of h
  element_not_terminator : element_separator_of h ≢ terminator_of h
  component_not_terminator : component_separator_of h ≢ terminator_of h
  element_allowed : IsTrue (may_separate (element_separator_of h))
  component_allowed : IsTrue (may_separate (component_separator_of h))
  terminator_allowed : IsTrue (may_terminate (terminator_of h))

decides_delims : (h : List ℕ) → Decides (has_delims h) (HasDelims h)
decides_delims h =
    let e : ℕ = element_separator_of h in
    let c : ℕ = component_separator_of h in
    let t : ℕ = terminator_of h in
    let two : Bool = not (nat_eq e t) && not (nat_eq c t) in
    let three : Bool = not (nat_eq e c) && two in
    let ends : Bool = may_separate c && may_terminate t in
    let allowed : Bool = may_separate e && ends in
    Decides-like (has_delims h)
    (λ p. record {
      element_not_component = p.0.0;
      element_not_terminator = p.0.1.0;
      component_not_terminator = p.0.1.1;
      element_allowed = p.1.0;
      component_allowed = p.1.1.0;
      terminator_allowed = p.1.1.1;
    })
    (λ d. (
      (d.element_not_component, (d.element_not_terminator, d.component_not_terminator)),
      (d.element_allowed, (d.component_allowed, d.terminator_allowed)),
    ))
    (Decides-and three allowed
    (Decides-and (not (nat_eq e c)) two (decides_differ e c)
    (Decides-and (not (nat_eq e t)) (not (nat_eq c t)) (decides_differ e t) (decides_differ c t)))
    (Decides-and (may_separate e) ends (decides_test (may_separate e))
    (Decides-and (may_separate c) (may_terminate t) (decides_test (may_separate c)) (decides_test (may_terminate t)))))

pub decides_header : (h : List ℕ) → Decides (is_header h) (IsHeader h)
unfolding is_header
decides_header h =
    let rest : Bool = has_delims h && has_fields h 16 in
    let text : Bool = bytes_eq (take 3 h) (codes "ISA") && rest in
    Decides-like (is_header h)
    (λ p. record {
      len = p.0;
      isa = p.1.0;
      element_not_component = p.1.1.0.element_not_component;
      element_not_terminator = p.1.1.0.element_not_terminator;
      component_not_terminator = p.1.1.0.component_not_terminator;
      element_allowed = p.1.1.0.element_allowed;
      component_allowed = p.1.1.0.component_allowed;
      terminator_allowed = p.1.1.0.terminator_allowed;
      fields = p.1.1.1;
    })
    (λ i. (
      i.len,
      (
        i.isa,
        (
          record {
            element_not_component = i.element_not_component;
            element_not_terminator = i.element_not_terminator;
            component_not_terminator = i.component_not_terminator;
            element_allowed = i.element_allowed;
            component_allowed = i.component_allowed;
            terminator_allowed = i.terminator_allowed;
          },
          i.fields,
        ),
      ),
    ))
    (Decides-and (nat_eq (length h) 106) text (Decides-eqb (length h) 106)
    (Decides-and (bytes_eq (take 3 h) (codes "ISA")) rest (bytes_decides (take 3 h) (codes "ISA"))
    (Decides-and (has_delims h) (has_fields h 16) (decides_delims h) (decides_fields h))))

pub decides_head : (text : List ℕ) (at : ℕ) → Decides (is_head text at) (Head text at)
decides_head text at = Decides-and (leb (at + 106) (length text)) (is_header (header_at text at)) (Decides-leb (at + 106) (length text))
    (decides_header (header_at text at))
  where
    Decides-leb : (a b : ℕ) → Decides (leb a b) (a ≤ b)
    Decides-leb a b = elim (leb_tells a b)
        [ inl w ↦ (λ _. w.1, λ _. w.0) | inr w ↦ (λ yes. absurd (grind (arith, w.0, yes)), λ le. absurd (omega (arith, w.1, le))) ]
