-- What the walk answers, from what it has read and what ends it.
use Rattle.std.proofs.Common.{◌≡◌, ◌≢◌, ℕ, ◌≤◌, List, true, false, Option, Some, None, Result, length, sym, ap, ◌∙◌, IfOk}
use Rattle.std.proofs.lemmas.Result.{IfOk-weaker}
use Rattle.x12_bytes.specs.HeaderTest.{is_head}
use Rattle.x12_bytes.specs.declared.delims.Delims.{Delims}
use Rattle.x12_segs.specs.Words.{Seg, SegValue, kind_of}
use Rattle.x12_segs.specs.declared.part.Part.TheVariants.{Segment, Rest}
use Rattle.hub_kinds.specs.declared.memory.NoMemory.{NoMemory}
use Rattle.x12_segs.specs.declared.kind.Kind.{Kind}
use Rattle.x12_segs.specs.declared.kind.Kind.TheVariants.{InterchangeTrailer}
use Rattle.env_index.specs.declared.places.BodyPlace.{BodyPlace}
use Rattle.env_index.specs.Envelope.{Body, DerivesInterchange}
use Rattle.env_index.specs.Extents.{Reach, onto_reach, ends_interchange}
use Rattle.env_index.specs.Source.{TakesPart, reach_over}
use Rattle.env_index.specs.Places.{body_in}
use Rattle.env_index.specs.Reading.{State, end_all, finished, step}
use Rattle.env_index.specs.Summary.{Summary, summary_of}
use Rattle.env_index.proofs.Tails.{Tails, tails, summed, no_segments, onto}
use Rattle.env_index.proofs.Derived.{derived_sums}
use Rattle.env_index.proofs.Steps.{resume, last_tails, finish, step_onto}
use Rattle.env_index.proofs.Walking.{segment_at, reach_at_head, reach_at_trailer, reach_on, reach_at_rest, other_kind}

-- what was read ends with the segments that come
pub told : (segs whole : List SegValue) (state : State) (trailer : Option SegValue) (body : Summary) (tree : Body SegValue)
    → resume state (tails segs) ≡ summed whole → tails segs ≡ last_tails trailer
    → body ≡ finished trailer (end_all state) → DerivesInterchange kind_of whole tree → body ≡ summary_of tree
told segs whole state trailer body tree read last is derives =
    is ∙ finish trailer state ∙ ap (resume state) (sym last) ∙ read ∙ derived_sums whole tree derives

-- the same of the answer of a call
pub told_ok : (text : List ℕ) (delims : Delims) (r : Result BodyPlace NoMemory) (segs whole : List SegValue) (state : List ℕ → Delims
    → State) (trailer : List ℕ → Delims → Option SegValue)
    → resume (state text delims) (tails segs) ≡ summed whole → tails segs ≡ last_tails (trailer text delims)
    → IfOk r (λ body. (t : List ℕ) (d : Delims) → body_in t d body ≡ finished (trailer t d) (end_all (state t d)))
    → IfOk r (λ body. (tree : Body SegValue) → DerivesInterchange kind_of whole tree → body_in text delims body ≡ summary_of tree)
told_ok text delims r segs whole state trailer read last is =
    IfOk-weaker r (λ body. (t : List ℕ) (d : Delims)
    → body_in t d body ≡ finished (trailer t d) (end_all (state t d))) (λ body. (tree : Body SegValue)
    → DerivesInterchange kind_of whole tree
    → body_in text delims body ≡ summary_of tree)
    (λ body eq tree derives. told segs whole (state text delims) (trailer text delims) (body_in text delims body) tree read last
    (eq text delims) derives) is

pub none_at_rest : (text : List ℕ) (delims : Delims) (segs more : List Seg) (rest left : Seg) (start : ℕ)
    → TakesPart text segs rest (Rest start) more left
    → tails (reach_over text delims segs rest).segs ≡ last_tails None
none_at_rest text delims segs more rest left start next =
    ap (λ (r : Reach). tails r.segs) (reach_at_rest text delims segs more rest left start next)

pub none_at_head : (text : List ℕ) (delims : Delims) (segs more : List Seg) (rest left : Seg) (start end : ℕ)
    → TakesPart text segs rest (Segment start end) more left
    → is_head text start ≡ true → tails (reach_over text delims segs rest).segs ≡ last_tails None
none_at_head text delims segs more rest left start end next head =
    ap (λ (r : Reach). tails r.segs) (reach_at_head text delims segs more rest left start end next head)

pub trailer_alone : (text : List ℕ) (delims : Delims) (segs more : List Seg) (rest left : Seg) (start end : ℕ)
    → TakesPart text segs rest (Segment start end) more left
    → start ≤ end → end ≤ length text → is_head text start ≡ false
    → kind_of (segment_at text delims start end) ≡ InterchangeTrailer
    → tails (reach_over text delims segs rest).segs ≡ last_tails (Some (segment_at text delims start end))
trailer_alone text delims segs more rest left start end next order within head is =
    let seg : SegValue = segment_at text delims start end in
    ap (λ (r : Reach). tails r.segs) (reach_at_trailer text delims segs more rest left start end next order within head
    (ap ends_interchange is))
    ∙ ap (λ (k : Kind). onto k seg no_segments) is

-- one more segment is read
pub one_more : (text : List ℕ) (delims : Delims) (segs more : List Seg) (rest left : Seg) (start end : ℕ) (state new : State) (k : Kind)
    (whole : Summary) → TakesPart text segs rest (Segment start end) more left → is_head text start ≡ false
    → k ≡ kind_of (segment_at text delims start end) → k ≢ InterchangeTrailer
    → resume state (tails (reach_over text delims segs rest).segs) ≡ whole
    → new ≡ step k (segment_at text delims start end) state → resume new (tails (reach_over text delims more left).segs) ≡ whole
one_more text delims segs more rest left start end state new k whole next head is other read took =
    let seg : SegValue = segment_at text delims start end in
    let t : Tails = tails (reach_over text delims more left).segs in
    let on : reach_over text delims segs rest
    ≡ onto_reach seg (reach_over text delims more left) =
    reach_on text delims segs more rest left start end next head (ap ends_interchange (sym is) ∙ other_kind k other) in
    ap (λ (s : State). resume s t) took ∙ step_onto k seg state t other ∙ ap (λ (x : Kind). resume state (onto x seg t)) is
    ∙ ap (λ (r : Reach). resume state (tails r.segs)) (sym on) ∙ read

pub end_on : (text : List ℕ) (delims : Delims) (segs more : List Seg) (rest left : Seg) (start end : ℕ) (k : Kind)
    → TakesPart text segs rest (Segment start end) more left
    → is_head text start ≡ false
    → k ≡ kind_of (segment_at text delims start end) → k ≢ InterchangeTrailer
    → (reach_over text delims more left).end ≡ (reach_over text delims segs rest).end
end_on text delims segs more rest left start end k next head is other =
    ap (λ (r : Reach). r.end)
    (sym (reach_on text delims segs more rest left start end next head (ap ends_interchange (sym is) ∙ other_kind k other)))
