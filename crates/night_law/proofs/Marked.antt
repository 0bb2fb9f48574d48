-- What is known of the delimiters of a partner of a sound setup.
use Rattle.std.proofs.Common.{◌≡◌, ◌≢◌, ℕ, ◌≤◌, true, false, ◌&&◌, ◌==◌, nat_le, not, List, [], ◌∷◌, Option, Some, None, map}
use Rattle.std.proofs.Common.{refl, ap, ◌∙◌, arith, inl, inr, eq-eqb, eqb-true}
use Rattle.std.specs.Option.{option_map_or}
use Rattle.std.proofs.lemmas.Bool.{and_parts, false_from_ne_true, false≢true, leb-true, or_cases}
use Rattle.std.proofs.lemmas.List.Elements.{All-weaker}
use Rattle.std.proofs.lemmas.List.Splits.{slice_split_none}
use Rattle.x12_bytes.specs.Bytes.{is_line_end}
use Rattle.x12_bytes.specs.declared.delims.Delims.{Delims}
use Rattle.x12_segs.specs.Words.{components, occurrences}
use Rattle.x12_write.specs.Delimiters.{is_this}
use Rattle.x12_write.specs.Undivided.{CanDivide, IsUndivided}
use Rattle.partner_setup.specs.Sound.{has_delimiters}
use Rattle.partner_setup.specs.SetupFaults.{are_delimiters, is_name_byte, may_delimit}
use Rattle.partner_setup.proofs.ForAbove.{Four, ends, four, no_letter}
use Rattle.night_law.specs.SetsRead.{plainly, said_in}
use Rattle.night_law.proofs.Bodies.{Lacks}
use Rattle.night_law.proofs.Changing.{AreApart, flipped}

-- the component and the repetition separator, as those of a text
abbrev pub inner_delims : Delims → (r : ℕ) → Delims
inner_delims d r = record { element = d.component; component = d.element; repetition = None; terminator = r }

pub record IsMarked (d : Delims) : Type 0 where
  pub r : ℕ
  pub has : d.repetition ≡ Some r
  pub apart : AreApart d
  pub inside : CanDivide (inner_delims d r)
  pub element_goes_on : is_line_end d.element ≡ false
  pub component_goes_on : is_line_end d.component ≡ false
  pub repetition_goes_on : is_line_end r ≡ false

least : (b : ℕ) → may_delimit b ≡ true → 28 ≤ b
least b may = elim (or_cases (nat_le 28 b && nat_le b 31) (nat_le 33 b && nat_le b 126 && not (is_name_byte b)) may) [
  | inl low ↦ leb-true 28 b (and_parts (nat_le 28 b) (nat_le b 31) low).0
  | inr high ↦
      let range = (and_parts (nat_le 33 b && nat_le b 126) (not (is_name_byte b)) high).0 in
      let l = leb-true 33 b (and_parts (nat_le 33 b) (nat_le b 126) range).0 in
      omega (arith, l)
]

goes_on : (b : ℕ) → may_delimit b ≡ true → is_line_end b ≡ false
goes_on b may = false_from_ne_true (is_line_end b) (λ on. elim (or_cases (b == 13) (b == 10) on) [
  | inl return ↦ let is = eqb-true b 13 return in let l = least b may in omega (arith, is, l)
  | inr feed ↦ let is = eqb-true b 10 feed in let l = least b may in omega (arith, is, l)
])

other : (a b : ℕ) → (a == b) ≡ false → a ≢ b
other a b off same = let on = eq-eqb a b same in cc

pub marked : (d : Delims) → has_delimiters d ≡ true → IsMarked d
marked d h = by d.repetition refl h
  where
    by : (o : Option ℕ) → d.repetition ≡ o → option_map_or (λ (r : ℕ). are_delimiters d.element d.component r d.terminator) o false ≡ true
        → IsMarked d
    by None is h = absurd (false≢true h)
    by (Some r) is h =
        let f : Four d.element d.component r d.terminator = four d.element d.component r d.terminator h in
        let this : (x : ℕ) → (x == r) ≡ false → is_this d.repetition x ≡ false =
        λ x off. ap (λ (o : Option ℕ). is_this o x) is ∙ (flipped r x ∙ off) in
        record {
          r = r;
          has = is;
          apart = record {
            element_component = f.element_component;
            element_terminator = f.element_terminator;
            component_terminator = f.component_terminator;
            repetition_element = this d.element f.element_repetition;
            repetition_component = this d.component f.component_repetition;
            repetition_terminator = this d.terminator (flipped d.terminator r ∙ f.repetition_terminator);
          };
          inside = record {
            element = no_letter d.component (ends d.component f.component);
            terminator = no_letter r (ends r f.repetition);
            apart = other d.component r f.component_repetition;
          };
          element_goes_on = goes_on d.element f.element;
          component_goes_on = goes_on d.component f.component;
          repetition_goes_on = goes_on r f.repetition;
        }

-- no byte of an undivided text is the element separator, or the terminator
pub lacks_element : (d : Delims) (text : List ℕ) → IsUndivided d text → Lacks d.element text
lacks_element d text undivided =
    All-weaker (λ b. (b ≢ d.element) × (b ≢ d.terminator)) (λ b. (b == d.element) ≡ false)
    (λ b apart. false_from_ne_true (b == d.element) (λ on. apart.0 (eqb-true b d.element on))) text undivided

pub lacks_terminator : (d : Delims) (text : List ℕ) → IsUndivided d text → Lacks d.terminator text
lacks_terminator d text undivided =
    All-weaker (λ b. (b ≢ d.element) × (b ≢ d.terminator)) (λ b. (b == d.terminator) ≡ false)
    (λ b apart. false_from_ne_true (b == d.terminator) (λ on. apart.1 (eqb-true b d.terminator on))) text undivided

-- a text without separators inside says itself
pub plainly_said : (d : Delims) (is : IsMarked d) (text : List ℕ) → IsUndivided (inner_delims d is.r) text → said_in d text ≡ plainly text
plainly_said d is text undivided =
    let inner : Delims = inner_delims d is.r in
    let one : occurrences d text ≡ text ∷ [] =
    ap (λ (o : Option ℕ). occurrences (record d { repetition = o }) text) is.has
    ∙ slice_split_none (λ b. b == is.r) text (lacks_terminator inner text undivided) in
    ap (λ (list : List (List ℕ)). map (components d) list) one
    ∙ ap (λ (list : List (List ℕ)). list ∷ []) (slice_split_none (λ b. b == d.component) text (lacks_element inner text undivided))
