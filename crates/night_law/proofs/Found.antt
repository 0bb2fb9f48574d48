-- Texts in which sets are found.
use Rattle.std.proofs.Common.{◌≡◌, ℕ, Bool, true, false, cond, ◌==◌, List, [], ◌∷◌, ◌++◌, Some, None}
use Rattle.std.proofs.Common.{map}
use Rattle.std.proofs.Common.{refl, sym, ap, ◌∙◌, append_assoc, append-nil}
use Rattle.std.specs.Prelude.{codes}
use Rattle.std.specs.List.{All}
use Rattle.std.specs.Str.{bytes_eq}
use Rattle.std.proofs.lemmas.List.{map-append}
use Rattle.std.proofs.lemmas.List.Concat.{flat_map-append}
use Rattle.std.proofs.lemmas.List.Elements.{All-append, All-cons, All-head, All-nil, All-tail}
use Rattle.std.proofs.lemmas.List.Elements.{All-weaker}
use Rattle.x12_bytes.specs.declared.delims.Delims.{Delims}
use Rattle.x12_segs.specs.Words.{parts}
use Rattle.x12_write.specs.Segment.{WrittenSegment, segment_text, trimmed}
use Rattle.x12_write.specs.Undivided.{IsUndivided}
use Rattle.ack_999.proofs.ForAbove.{IsReadable, trimmed-all}
use Rattle.night_law.specs.SetsRead.{Said, Segments, has_id, values_of_segment, sets_read, sets_found}
use Rattle.night_law.proofs.Bodies.{IsBody, Lacks, bodies_text, text_read}
use Rattle.night_law.proofs.Marked.{lacks_element, lacks_terminator}
use Rattle.night_law.proofs.SetTexts.{IsDivided, body_of, divided_body, divided_parts}

-- what sets say
abbrev pub all_said : Delims → List Segments → List (List (List Said))
all_said d sets = map (map (values_of_segment d)) sets

-- a text is made of segments in which sets are found that say this, whatever follows
pub record IsMade (d : Delims) (text : List ℕ) (said : List (List (List Said))) : Type 0 where
  pub bodies : List (List ℕ)
  pub is : text ≡ bodies_text d bodies
  pub all : All (IsBody d) bodies
  pub gives : (ss : Segments)
      → all_said d (sets_read None (map (parts d.element) bodies ++ ss)) ≡ said ++ all_said d (sets_read None ss)

pub nothing_made : (d : Delims) → IsMade d [] []
nothing_made d = record { bodies = []; is = refl; all = All-nil (IsBody d); gives = λ ss. refl }

pub made_behind : (d : Delims) (a b : List ℕ) (xs ys : List (List (List Said))) → IsMade d a xs → IsMade d b ys
    → IsMade d (a ++ b) (xs ++ ys)
made_behind d a b xs ys front back = record {
  bodies = front.bodies ++ back.bodies;
  is = ap (λ (t : List ℕ). t ++ b) front.is ∙ ap (λ (t : List ℕ). bodies_text d front.bodies ++ t) back.is
      ∙ sym (flat_map-append (λ (body : List ℕ). body ++ d.terminator ∷ []) front.bodies back.bodies);
  all = All-append (IsBody d) front.bodies back.bodies front.all back.all;
  gives = λ ss.
      ap (λ (segs : Segments). all_said d (sets_read None (segs ++ ss))) (map-append (parts d.element) front.bodies back.bodies)
      ∙ ap (λ (segs : Segments). all_said d (sets_read None segs))
      (append_assoc (map (parts d.element) front.bodies) (map (parts d.element) back.bodies) ss)
      ∙ front.gives (map (parts d.element) back.bodies ++ ss)
      ∙ ap (λ (more : List (List (List Said))). xs ++ more) (back.gives ss)
      ∙ sym (append_assoc xs ys (all_said d (sets_read None ss)));
}

-- read by the receiver, just these sets are found
pub made_found : (d : Delims) (text : List ℕ) (said : List (List (List Said))) → IsMade d text said → all_said d (sets_found d text) ≡ said
made_found d text said made =
    let segs : Segments = map (parts d.element) made.bodies in
    ap (λ (t : List ℕ). all_said d (sets_found d t)) made.is
    ∙ ap (λ (s : Segments). all_said d (sets_read None s)) (text_read d made.bodies made.all ∙ sym (append-nil segs))
    ∙ made.gives []
    ∙ append-nil said

-- a written segment
pub divided : (d : Delims) (s : WrittenSegment) → IsReadable d s → IsDivided d s.id (trimmed s.elements)
divided d s readable =
    let all : All (IsUndivided d) (trimmed s.elements) = trimmed-all (IsUndivided d) s.elements readable.elements in
    record {
      some = readable.some;
      first = readable.first;
      id_element = lacks_element d s.id readable.id;
      id_terminator = lacks_terminator d s.id readable.id;
      by_element = All-weaker (IsUndivided d) (Lacks d.element) (lacks_element d) (trimmed s.elements) all;
      by_terminator = All-weaker (IsUndivided d) (Lacks d.terminator) (lacks_terminator d) (trimmed s.elements) all;
    }

-- one that is no ST, around sets
pub other_made : (d : Delims) (s : WrittenSegment) → (d.element == d.terminator) ≡ false → IsReadable d s → bytes_eq s.id (codes "ST")
    ≡ false
    → IsMade d (segment_text d s.id s.elements) []
other_made d s other readable off = record {
  bodies = body_of d s.id (trimmed s.elements) ∷ [];
  is = sym (append-nil (segment_text d s.id s.elements));
  all = All-cons (IsBody d) (body_of d s.id (trimmed s.elements)) [] (divided_body d s.id (trimmed s.elements) other (divided d s readable))
      (All-nil (IsBody d));
  gives = λ ss.
      ap (λ (seg : List (List ℕ)). all_said d (sets_read None (seg ∷ ss)))
      (divided_parts d s.id (trimmed s.elements) (divided d s readable))
      ∙ ap (λ (b : Bool). all_said d (cond b (sets_read (Some ((s.id ∷ trimmed s.elements) ∷ [])) ss) (sets_read None ss))) off;
}

-- a set is found from its ST to its SE
abbrev pub IsBetween : List (List ℕ) → Type 0
IsBetween s = (has_id s (codes "ST") ≡ false) × (has_id s (codes "SE") ≡ false)

past_inner : (begun inner ss : Segments) → All IsBetween inner
    → sets_read (Some begun) (inner ++ ss) ≡ sets_read (Some (begun ++ inner)) ss
past_inner begun [] ss all = ap (λ (o : Segments). sets_read (Some o) ss) (sym (append-nil begun))
past_inner begun (s ∷ inner) ss all =
    let here : IsBetween s = All-head IsBetween s inner all in
    let rest : Segments = inner ++ ss in
    ap (λ (b : Bool). cond b (sets_read (Some (s ∷ [])) rest) (cond (has_id s (codes "SE")) ((begun ++ s ∷ []) ∷ sets_read None rest)
    (sets_read (Some (begun ++ s ∷ [])) rest))) here.0
    ∙ ap (λ (b : Bool). cond b ((begun ++ s ∷ []) ∷ sets_read None rest) (sets_read (Some (begun ++ s ∷ [])) rest)) here.1
    ∙ past_inner (begun ++ s ∷ []) inner ss (All-tail IsBetween s inner all)
    ∙ ap (λ (o : Segments). sets_read (Some o) ss) (append_assoc begun (s ∷ []) inner)

pub one_found : (st se : List (List ℕ)) (inner ss : Segments) → has_id st (codes "ST") ≡ true → has_id se (codes "ST") ≡ false
    → has_id se (codes "SE") ≡ true → All IsBetween inner
    → sets_read None (st ∷ (inner ++ se ∷ ss)) ≡ (st ∷ (inner ++ se ∷ [])) ∷ sets_read None ss
one_found st se inner ss begins goes_on ends all =
    let rest : Segments = inner ++ se ∷ ss in
    let begun : Segments = st ∷ inner in
    ap (λ (b : Bool). cond b (sets_read (Some (st ∷ [])) rest) (sets_read None rest)) begins
    ∙ past_inner (st ∷ []) inner (se ∷ ss) all
    ∙ ap (λ (b : Bool). cond b (sets_read (Some (se ∷ [])) ss) (cond (has_id se (codes "SE")) ((begun ++ se ∷ []) ∷ sets_read None ss)
    (sets_read (Some (begun ++ se ∷ [])) ss))) goes_on
    ∙ ap (λ (b : Bool). cond b ((begun ++ se ∷ []) ∷ sets_read None ss) (sets_read (Some (begun ++ se ∷ [])) ss)) ends
