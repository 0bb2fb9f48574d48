use Rattle.std.proofs.Common.{◌≤◌, ◌<◌, ◌-◌, [], ◌∷◌, get_or, drop, refl, ◌≡◌, ◌≢◌, ℕ, ◌+◌, List, length, true, false, None, Some, sym}
use Rattle.std.proofs.Common.{ap, subst, ◌∙◌, arith}
use Rattle.x12_bytes.specs.HeaderTest.{is_head}
use Rattle.x12_segs.specs.Words.{kind_of, is_control_letter, begins_as_control, Seg}
use Rattle.std.specs.Prelude.{slice_range}
use Rattle.std.proofs.lemmas.Bool.{both_ways, false_from_ne_true}
use Rattle.std.proofs.lemmas.List.{get_or-take, get_or-drop, length-take-le, length-drop}
use Rattle.x12_bytes.specs.declared.delims.Delims.{Delims}
use Rattle.x12_segs.proofs.ForAbove.{other_segment}
use Rattle.env_index.proofs.Surround.{head_letter}
use Rattle.x12_segs.specs.declared.part.Part.TheVariants.{Segment, Rest}
use Rattle.x12_segs.specs.declared.kind.Kind.{Kind}
use Rattle.x12_segs.specs.declared.kind.Kind.TheVariants.{InterchangeTrailer, Other}
use Rattle.env_index.specs.Reading.{state_of}
use Rattle.env_index.specs.Source.{TakesPart}
use Rattle.env_index.proofs.Finishing.{told_ok, none_at_rest, none_at_head, trailer_alone, one_more, end_on}
use Rattle.env_index.proofs.Walking.{segment_at}
use Rattle.env_index.proofs.walk.read_body.Goals as goal

pub returns-in-Rest-clause-only : goal.returns-in-Rest-clause-only
returns-in-Rest-clause-only g c =
    let text : List ℕ = c.args.text.now in
    let segs : List Seg = g.P.PartSource.segs c.loop-start.parts in
    let rest : Seg = g.P.PartSource.rest c.loop-start.parts in
    let more : List Seg = g.P.PartSource.segs c.take_part.new.self in
    let left : Seg = g.P.PartSource.rest c.take_part.new.self in
    let taken : TakesPart text segs rest (Rest c.in-Rest.start) more left =
    subst (λ (t : List ℕ). TakesPart t segs rest (Rest c.in-Rest.start) more left) c.loop-start.invariant.text c.in-Rest.ensures.part in
    told_ok text c.args.delims c.finish.result _ _ (λ text delims. state_of text delims c.loop-start.builder)
    (λ text delims. None) c.loop-start.invariant.whole
    (none_at_rest text c.args.delims segs more rest left c.in-Rest.start taken) c.finish.ensures.body

pub returns-then-begins_at_header-clause-only : goal.returns-then-begins_at_header-clause-only
returns-then-begins_at_header-clause-only g c =
    let text : List ℕ = c.args.text.now in
    let start : ℕ = c.in-Segment.start in
    let end : ℕ = c.in-Segment.end in
    let segs : List Seg = g.P.PartSource.segs c.loop-start.parts in
    let rest : Seg = g.P.PartSource.rest c.loop-start.parts in
    let more : List Seg = g.P.PartSource.segs c.take_part.new.self in
    let left : Seg = g.P.PartSource.rest c.take_part.new.self in
    let taken : TakesPart text segs rest (Segment start end) more left =
    subst (λ (t : List ℕ). TakesPart t segs rest (Segment start end) more left) c.loop-start.invariant.text c.in-Segment.ensures.part in
    let head : is_head text start ≡ true = sym c.begins_at_header.ensures ∙ c.if-begins_at_header.true in
    told_ok text c.args.delims c.finish-then-begins_at_header.result _ _
    (λ text delims. state_of text delims c.loop-start.builder) (λ text delims. None) c.loop-start.invariant.whole
    (none_at_head text c.args.delims segs more rest left start end taken head)
    c.finish-then-begins_at_header.ensures.body

pub returns-in-InterchangeTrailer-clause-only : goal.returns-in-InterchangeTrailer-clause-only
returns-in-InterchangeTrailer-clause-only g c =
    let text : List ℕ = c.args.text.now in
    let start : ℕ = c.in-Segment.start in
    let end : ℕ = c.in-Segment.end in
    let segs : List Seg = g.P.PartSource.segs c.loop-start.parts in
    let rest : Seg = g.P.PartSource.rest c.loop-start.parts in
    let more : List Seg = g.P.PartSource.segs c.take_part.new.self in
    let left : Seg = g.P.PartSource.rest c.take_part.new.self in
    let taken : TakesPart text segs rest (Segment start end) more left =
    subst (λ (t : List ℕ). TakesPart t segs rest (Segment start end) more left) c.loop-start.invariant.text c.in-Segment.ensures.part in
    let head : is_head text start ≡ false = sym c.begins_at_header.ensures ∙ c.if-begins_at_header.false in
    let is : kind_of (segment_at text c.args.delims start end) ≡ InterchangeTrailer = ap kind_of (sym c.new-segment.ensures)
    ∙ sym c.kind_of.ensures ∙ c.in-InterchangeTrailer.is in
    let lies = c.in-Segment.ensures.within in
    let long : length (g.P.PartSource.text c.loop-start.parts) ≡ length text = ap length c.loop-start.invariant.text in
    told_ok text c.args.delims c.finish-in-InterchangeTrailer.result _ _ (λ text delims. state_of text delims c.loop-start.builder)
    (λ text delims. Some (segment_at text delims start end)) c.loop-start.invariant.whole
    (trailer_alone text c.args.delims segs more rest left start end taken (omega (arith, lies.1))
    (omega (arith, lies.2, long)) head is)
    c.finish-in-InterchangeTrailer.ensures.body

pub loop-start-preserved : goal.loop-start-preserved
loop-start-preserved g c =
    let text : List ℕ = c.args.text.now in
    let start : ℕ = c.in-Segment.start in
    let end : ℕ = c.in-Segment.end in
    let segs : List Seg = g.P.PartSource.segs c.loop-start.parts in
    let rest : Seg = g.P.PartSource.rest c.loop-start.parts in
    let more : List Seg = g.P.PartSource.segs c.take_part.new.self in
    let left : Seg = g.P.PartSource.rest c.take_part.new.self in
    let taken : TakesPart text segs rest (Segment start end) more left =
    subst (λ (t : List ℕ). TakesPart t segs rest (Segment start end) more left) c.loop-start.invariant.text c.in-Segment.ensures.part in
    let k : Kind = c.kind_of.result in
    let head : is_head text start ≡ false = sym c.begins_at_header.ensures ∙ c.if-begins_at_header.false in
    let is : k ≡ kind_of (segment_at text c.args.delims start end) = c.kind_of.ensures ∙ ap kind_of c.new-segment.ensures in
    let other : k ≢ InterchangeTrailer = c.in_default.not-InterchangeTrailer in
    let lies = c.in-Segment.ensures.within in
    let at : g.P.PartSource.at c.take_part.new.self ≡ end + 1 = c.in-Segment.ensures.at in
    record {
      text = c.in-Segment.ensures.text ∙ c.loop-start.invariant.text;
      behind = omega (arith, at, lies.0, lies.1, c.loop-start.invariant.behind);
      few = omega (arith, at, lies.0, lies.1, c.loop-start.invariant.few, c.in_ok-take-in_default.ensures.seen);
      end = end_on text c.args.delims segs more rest left start end k taken head is other ∙ c.loop-start.invariant.end;
      whole = one_more text c.args.delims segs more rest left start end (state_of text c.args.delims c.loop-start.builder)
          (state_of text c.args.delims c.take.new.self) k _
          taken head is other c.loop-start.invariant.whole (c.in_ok-take-in_default.ensures.state text c.args.delims);
    }

-- a segment without the first letter of a header or a control segment
no_head_here : (text : List ℕ) (start : ℕ) → is_control_letter (get_or text start 0) ≡ false → is_head text start ≡ false
no_head_here text start other = false_from_ne_true (is_head text start) (λ is.
    both_ways (is_control_letter (get_or text start 0)) other (ap is_control_letter (head_letter text start is)))

other_kind_here : (text : List ℕ) (delims : Delims) (start end : ℕ) → start < end → end ≤ length text
    → is_control_letter (get_or text start 0) ≡ false → Other ≡ kind_of (segment_at text delims start end)
other_kind_here text delims start end lt le other =
    let bytes : List ℕ = slice_range text start end in
    let shape : bytes ≡ get_or text start 0 ∷ drop 1 bytes
    = front_of bytes 0 (omega
    (arith, length-take-le (end - start) (drop start text) (omega (arith, length-drop start text, lt, le)), lt))
    ∙ ap (λ (b : ℕ). b ∷ drop 1 bytes) (get_or-take (end - start) (drop start text) 0 0 (omega (arith, lt)) ∙ get_or-drop start text 0 0
    ∙ ap (λ n. get_or text n 0) (let z : start + 0 ≡ start = omega arith in z)) in
    sym (other_segment (segment_at text delims start end) (ap begins_as_control shape ∙ other))
  where
    front_of : (xs : List ℕ) (d : ℕ) → 0 < length xs → xs ≡ get_or xs 0 d ∷ drop 1 xs
    front_of [] d some = absurd (omega (arith, some))
    front_of (x ∷ xs) d some = refl

other_not_trailer : Other ≢ InterchangeTrailer
other_not_trailer e = let no : ⊥ = cc in no

pub loop-start-preserved-then-not-is_control_letter : goal.loop-start-preserved-then-not-is_control_letter
loop-start-preserved-then-not-is_control_letter g c =
    let text : List ℕ = c.args.text.now in
    let start : ℕ = c.in-Segment.start in
    let end : ℕ = c.in-Segment.end in
    let segs : List Seg = g.P.PartSource.segs c.loop-start.parts in
    let rest : Seg = g.P.PartSource.rest c.loop-start.parts in
    let more : List Seg = g.P.PartSource.segs c.take_part.new.self in
    let left : Seg = g.P.PartSource.rest c.take_part.new.self in
    let taken : TakesPart text segs rest (Segment start end) more left =
    subst (λ (t : List ℕ). TakesPart t segs rest (Segment start end) more left) c.loop-start.invariant.text c.in-Segment.ensures.part in
    let letter : is_control_letter (get_or text start 0) ≡ false = sym c.is_control_letter.ensures ∙ c.if-not-is_control_letter.true in
    let lies = c.in-Segment.ensures.within in
    let long : length (g.P.PartSource.text c.loop-start.parts) ≡ length text = ap length c.loop-start.invariant.text in
    let head : is_head text start ≡ false = no_head_here text start letter in
    let is : Other ≡ kind_of (segment_at text c.args.delims start end)
    = other_kind_here text c.args.delims start end (omega (arith, lies.1)) (omega (arith, lies.2, long)) letter in
    let at : g.P.PartSource.at c.take_part.new.self ≡ end + 1 = c.in-Segment.ensures.at in
    record {
      text = c.in-Segment.ensures.text ∙ c.loop-start.invariant.text;
      behind = omega (arith, at, lies.0, lies.1, c.loop-start.invariant.behind);
      few = omega (arith, at, lies.0, lies.1, c.loop-start.invariant.few, c.take_inner.ensures.seen);
      end = end_on text c.args.delims segs more rest left start end Other taken head is other_not_trailer ∙ c.loop-start.invariant.end;
      whole = one_more text c.args.delims segs more rest left start end (state_of text c.args.delims c.loop-start.builder)
          (state_of text c.args.delims c.take_inner.new.self) Other _
          taken head is other_not_trailer c.loop-start.invariant.whole (c.take_inner.ensures.state text c.args.delims);
    }
