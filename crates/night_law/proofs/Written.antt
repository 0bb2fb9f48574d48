-- Texts that are segments, and the responses and TA1s that are read in them.
use Rattle.std.proofs.Common.{◌≡◌, ◌≢◌, ℕ, List, [], ◌∷◌, ◌++◌, map, refl, sym, ap, ◌∙◌, append_assoc, append-nil}
use Rattle.std.specs.List.{All}
use Rattle.std.proofs.lemmas.List.{map-append}
use Rattle.std.proofs.lemmas.List.Concat.{flat_map-append}
use Rattle.std.proofs.lemmas.List.Elements.{All-append, All-cons, All-nil}
use Rattle.x12_bytes.specs.declared.delims.Delims.{Delims}
use Rattle.x12_write.specs.Segment.{WrittenSegment, segment_text, segments_text}
use Rattle.x12_write.specs.Undivided.{CanDivide}
use Rattle.hub_kinds.specs.declared.answers.GroupAnswer.{GroupAnswer}
use Rattle.hub_kinds.specs.declared.answers.SetAnswer.{SetAnswer}
use Rattle.ack_999.specs.ReadBack.{IsQuotable, written_parts}
use Rattle.ack_999.specs.Report.{segments_999, shows_sets, text_999}
use Rattle.ack_999.proofs.ForAbove.{IsReadable, segments_text-reads_back, readable-999}
use Rattle.night_law.specs.Responses.{Response, responses_behind, responses_in}
use Rattle.night_law.specs.Ta1sRead.{Ta1, ta1s_among, ta1s_in, ta1s_of}
use Rattle.night_law.proofs.Reading.{Gives, report_read, shown_responses}
use Rattle.night_law.proofs.Silent.{report_silent}

-- a text is made of segments that are read again, with these responses and TA1s
pub record IsWritten (d : Delims) (text : List ℕ) (rs : List Response) (ts : List Ta1) : Type 0 where
  pub segs : List WrittenSegment
  pub is : text ≡ segments_text d segs
  pub readable : All (IsReadable d) segs
  pub gives : (ss : List (List (List ℕ))) (more : List Response) → Gives ss more → Gives (map written_parts segs ++ ss) (rs ++ more)
  pub ta1s : ta1s_among (map written_parts segs) ≡ ts

pub nothing_written : (d : Delims) → IsWritten d [] [] []
nothing_written d = record {
  segs = [];
  is = refl;
  readable = All-nil (IsReadable d);
  gives = λ ss more gives. gives;
  ta1s = refl;
}

pub one_behind : (d : Delims) (a b : List ℕ) (rs us : List Response) (ts vs : List Ta1) → IsWritten d a rs ts → IsWritten d b us vs
    → IsWritten d (a ++ b) (rs ++ us) (ts ++ vs)
one_behind d a b rs us ts vs front back = record {
  segs = front.segs ++ back.segs;
  is = ap (λ (t : List ℕ). t ++ b) front.is ∙ ap (λ (t : List ℕ). segments_text d front.segs ++ t) back.is
      ∙ sym (flat_map-append (λ (s : WrittenSegment). segment_text d s.id s.elements) front.segs back.segs);
  readable = All-append (IsReadable d) front.segs back.segs front.readable back.readable;
  gives = λ ss more gives i c.
      ap (λ (xs : List (List (List ℕ))). responses_behind i c (xs ++ ss)) (map-append written_parts front.segs back.segs)
      ∙ ap (responses_behind i c) (append_assoc (map written_parts front.segs) (map written_parts back.segs) ss)
      ∙ front.gives (map written_parts back.segs ++ ss) (us ++ more) (back.gives ss more gives) i c
      ∙ sym (append_assoc rs us more);
  ta1s = ap ta1s_among (map-append written_parts front.segs back.segs)
      ∙ flat_map-append ta1s_of (map written_parts front.segs) (map written_parts back.segs)
      ∙ ap (λ (xs : List Ta1). xs ++ ta1s_among (map written_parts back.segs)) front.ta1s
      ∙ ap (λ (xs : List Ta1). ts ++ xs) back.ta1s;
}

-- a segment that is neither AK2 nor IK5
pub other_written : (d : Delims) (s : WrittenSegment) (ts : List Ta1) → IsReadable d s
    → ((i c : List ℕ) (ss : List (List (List ℕ))) → responses_behind i c (written_parts s ∷ ss) ≡ responses_behind i c ss)
    → ta1s_of (written_parts s) ≡ ts → IsWritten d (segment_text d s.id s.elements) [] ts
other_written d s ts readable past same = record {
  segs = s ∷ [];
  is = sym (append-nil (segment_text d s.id s.elements));
  readable = All-cons (IsReadable d) s [] readable (All-nil (IsReadable d));
  gives = λ ss more gives i c. past i c ss ∙ gives i c;
  ta1s = append-nil (ta1s_of (written_parts s)) ∙ same;
}

pub report_written : (d : Delims) (g : GroupAnswer) (sets : List SetAnswer) (n : ℕ) → CanDivide d → IsQuotable d g sets
    → IsWritten d (text_999 d g sets n) (shown_responses (shows_sets g.codes) sets) []
report_written d g sets n can quotable = record {
  segs = segments_999 d g sets n;
  is = refl;
  readable = readable-999 d g sets n can quotable;
  gives = λ ss more gives. report_read d g sets n ss more gives;
  ta1s = report_silent d g sets n;
}

-- read again, it has these responses
pub responses_read : (d : Delims) (text : List ℕ) (rs : List Response) (ts : List Ta1) → d.element ≢ d.terminator → IsWritten d text rs ts
    → responses_in d text ≡ rs
responses_read d text rs ts apart written =
    let w : List (List (List ℕ)) = map written_parts written.segs in
    ap (responses_in d) written.is
    ∙ ap (responses_behind [] []) (segments_text-reads_back d written.segs apart written.readable ∙ sym (append-nil w))
    ∙ written.gives [] [] (λ i c. refl) [] []
    ∙ append-nil rs

-- and these TA1s
pub ta1s_read : (d : Delims) (text : List ℕ) (rs : List Response) (ts : List Ta1) → d.element ≢ d.terminator → IsWritten d text rs ts
    → ta1s_in d text ≡ ts
ta1s_read d text rs ts apart written =
    ap (ta1s_in d) written.is ∙ ap ta1s_among (segments_text-reads_back d written.segs apart written.readable) ∙ written.ta1s
