-- X12.5, ISA13, and X12.6, GS06 and ST02: the numbers under which a partner finds the sets in its mailbox.
use Rattle.std.proofs.Common.{◌≡◌, ℕ, ◌+◌, true, List, [], ◌∷◌, ◌++◌}
use Rattle.std.proofs.Common.{None, length, map, refl, sym, ap, subst, ◌∙◌, arith, append-nil}
use Rattle.std.specs.Prelude.{decimal}
use Rattle.std.specs.List.{All}
use Rattle.std.proofs.lemmas.Bool.{and_parts}
use Rattle.std.proofs.lemmas.List.Elements.{All-cons, All-head, All-nil, All-tail}
use Rattle.x12_bytes.specs.declared.delims.Delims.{Delims}
use Rattle.hub_kinds.specs.Words.{is_word}
use Rattle.x12_segs.specs.Words.{element_of, elements_of}
use Rattle.moment.specs.Moment.{IsMoment}
use Rattle.x12_write.specs.declared.envelope.Envelope.{Envelope}
use Rattle.x12_write.specs.Group.{texts_in_row}
use Rattle.x12_write.specs.Header.{header_text}
use Rattle.x12_write.specs.Number.{padded_number, set_number}
use Rattle.x12_write.specs.Segment.{WrittenSegment, segment_text, trimmed}
use Rattle.ack_999.specs.ReadBack.{written_parts}
use Rattle.ack_999.proofs.ForAbove.{IsReadable, readable}
use Rattle.count_numbers.specs.Layout.{interchanges_of}
use Rattle.count_numbers.specs.Num.{num}
use Rattle.partner_setup.specs.declared.partner.Partner.{Partner}
use Rattle.partner_setup.specs.Envelopes.{envelope_to}
use Rattle.partner_setup.specs.Setup.{SetupValue}
use Rattle.partner_setup.specs.SetupFaults.{are_ids}
use Rattle.partner_setup.specs.Sound.{IsSoundPartner}
use Rattle.answered_sets.specs.Judged.{PlacedValue, delims_in}
use Rattle.mailbox.specs.Mailbox.{box_text, delivered_group_text, delivered_text, delivered_texts, groups_text, numbered_text}
use Rattle.mailbox.specs.Numbered.{NumberedValue, groups_of, numbered_from}
use Rattle.night_law.proofs.ForAbove as box
use Rattle.night_law.proofs.ForAbove.{IsBody, IsMarked, body_of, divided, divided_body, divided_parts, groups_all, iea, isa, isa_text}
use Rattle.night_law.proofs.ForAbove.{marked, readable_iea, readable_isa, trimmed_at}
use Rattle.files_law.specs.Whole.{Elements, IsWholeSet, WholeSet, set_segments}
use Rattle.files_law.proofs.Faults.{kept_word}
use Rattle.files_law.proofs.Mailboxes.{IsSome, groups_some}
use Rattle.files_law.proofs.Numbers.{num_small}
use Rattle.files_law.proofs.Placed.{IsSent}
use Rattle.files_law.proofs.Rows.{IsOther, one_row}
use Rattle.files_law.proofs.Sets.{delivered_row, delivered_set}
use Rattle.files_law.proofs.Sets.{delivered_whole}
use Rattle.files_law.proofs.Texts.{IsMadeOf, row_made}
use Rattle.files_law.specs.Found.{found_behind, found_in, numbers_of}
use Rattle.files_law.proofs.LaidOut.{in_group, in_groups, in_interchanges}
use Rattle.files_law.proofs.Finding.{Gives, all_between, found_by, gives_both, gives_nothing, one_set, second}

module _ (setup : SetupValue) (p : Partner) (guides : ℕ) (hub_ids : are_ids setup.hub.qualifier setup.hub.id setup.hub.code ≡ true)
    (sound : IsSoundPartner guides p) (at : List ℕ) (moment : IsMoment at) where
  abbrev d : Delims
  d = p.delims

  abbrev e : Envelope
  e = envelope_to setup p

  marks : IsMarked d
  marks = marked d sound.delims

  abbrev Sent : NumberedValue → Type 0
  Sent x = IsSent d setup x.set

  abbrev gs_of : NumberedValue → (g : ℕ) → WrittenSegment
  gs_of x g = box.gs_of setup p guides hub_ids sound at moment x g

  abbrev ge_of : (sets g : ℕ) → WrittenSegment
  ge_of sets g = box.ge_of setup p guides hub_ids sound at moment sets g

  row_of : (s : WrittenSegment) → IsReadable d s → IsOther s → IsMadeOf d (segment_text d s.id s.elements) (written_parts s ∷ [])
  row_of s readable other = row_made d (segment_text d s.id s.elements) (written_parts s ∷ []) (one_row d s sound.divides readable other)

  -- one set
  set_gives : (i g : List ℕ) (x : NumberedValue) → Sent x
      → Gives d (numbered_text p x) i g ((i ∷ g ∷ set_number (num p.counters.set x.place) ∷ []) ∷ []) i g
  set_gives i g x sent =
      let n : ℕ = num p.counters.set x.place in
      let w : WholeSet = delivered_set d marks sound.divides x.set sent.ready.fit n in
      let word : is_word 3 3 (element_of x.set.set.header 1) ≡ true =
      (and_parts (is_word 3 3 (element_of x.set.set.header 1)) (is_word 1 9 (element_of x.set.set.header 2)) sent.st).0 in
      let whole : IsWholeSet w =
      delivered_whole d marks sound.divides x.set sent.ready.fit n (kept_word (delims_in x.set) d sent.plain) word
      (num_small p.counters.set x.place) in
      record {
        es = set_segments w;
        made = delivered_row d marks sound.divides x.set sent.ready.fit n;
        gives = λ ss.
            ap (map numbers_of) (one_set i g w ss refl refl refl (all_between w.inner whole.inner))
            ∙ ap (λ (st02 : List ℕ). (i ∷ g ∷ st02 ∷ []) ∷ map numbers_of (found_behind i g None ss))
            (second (elements_of x.set.set.header) _ (set_number n) word);
      }

  sets_give : (i g : List ℕ) (xs : List NumberedValue) → All Sent xs
      → Gives d (texts_in_row (map (numbered_text p) xs)) i g
      (map (λ (x : NumberedValue). i ∷ g ∷ set_number (num p.counters.set x.place) ∷ []) xs) i g
  sets_give i g [] all = gives_nothing d i g
  sets_give i g (x ∷ xs) all =
      gives_both d (numbered_text p x) (texts_in_row (map (numbered_text p) xs)) i g i g i g
      ((i ∷ g ∷ set_number (num p.counters.set x.place) ∷ []) ∷ [])
      (map (λ (x : NumberedValue). i ∷ g ∷ set_number (num p.counters.set x.place) ∷ []) xs)
      (set_gives i g x (All-head Sent x xs all)) (sets_give i g xs (All-tail Sent x xs all))

  -- one group
  gs_gives : (i g : List ℕ) (x : NumberedValue) (n : ℕ) → Sent x
      → Gives d (segment_text d (gs_of x n).id (gs_of x n).elements) i g [] i (decimal n)
  gs_gives i g x n sent = record {
    es = written_parts (gs_of x n) ∷ [];
    made = row_of (gs_of x n) (box.readable_gs_of setup p guides hub_ids sound at moment x n sent.ready)
        (record { long = omega arith; other = refl });
    gives = λ ss. ap (λ (h : List ℕ). map numbers_of (found_behind i h None ss)) (trimmed_at (gs_of x n).elements 5);
  }

  ge_gives : (i g : List ℕ) (sets n : ℕ) → Gives d (segment_text d (ge_of sets n).id (ge_of sets n).elements) i g [] i g
  ge_gives i g sets n = record {
    es = written_parts (ge_of sets n) ∷ [];
    made = row_of (ge_of sets n) (box.readable_ge_of setup p guides hub_ids sound at moment sets n)
        (record { long = omega arith; other = refl });
    gives = λ ss. refl;
  }

  group_gives : (i g : List ℕ) (n : ℕ) (x : NumberedValue) (xs : List NumberedValue) → All Sent (x ∷ xs)
      → Gives d (delivered_group_text setup p at n (x ∷ xs)) i g
      (map (λ (x : NumberedValue). i ∷ decimal n ∷ set_number (num p.counters.set x.place) ∷ []) (x ∷ xs)) i (decimal n)
  group_gives i g n x xs all =
      let texts : List (List ℕ) = map (numbered_text p) (x ∷ xs) in
      let gs : WrittenSegment = gs_of x n in
      let ge : WrittenSegment = ge_of (length texts) n in
      let first : List ℕ = segment_text d gs.id gs.elements in
      let last : List ℕ = segment_text d ge.id ge.elements in
      let numbers = map (λ (x : NumberedValue). i ∷ decimal n ∷ set_number (num p.counters.set x.place) ∷ []) (x ∷ xs) in
      subst (λ (ns : List (List (List ℕ))). Gives d (first ++ texts_in_row texts ++ last) i g ns i (decimal n)) (append-nil numbers)
      (gives_both d (first ++ texts_in_row texts) last i g i (decimal n) i (decimal n) numbers []
      (gives_both d first (texts_in_row texts) i g i (decimal n) i (decimal n) [] numbers (gs_gives i g x n (All-head Sent x xs all))
      (sets_give i (decimal n) (x ∷ xs) all)) (ge_gives i (decimal n) (length texts) n))

  -- what is read last after groups
  abbrev last_group : (g : List ℕ) → (n : ℕ) → List (List NumberedValue) → List ℕ
  last_group g n [] = g
  last_group g n (group ∷ more) = last_group (decimal (num p.counters.group n)) (n + 1) more

  groups_give : (acknowledgments groups : ℕ) (i g : List ℕ) (n : ℕ) (list : List (List NumberedValue)) → All (All Sent) list
      → All IsSome list → Gives d (groups_text setup p at n list) i g (in_groups p acknowledgments groups i n list) i (last_group g n list)
  groups_give acknowledgments groups i g n [] all some = gives_nothing d i g
  groups_give acknowledgments groups i g n ([] ∷ more) all some = absurd (omega (arith, All-head IsSome [] more some))
  groups_give acknowledgments groups i g n ((x ∷ xs) ∷ more) all some =
      let m : ℕ = num p.counters.group n in
      gives_both d (delivered_group_text setup p at m (x ∷ xs)) (groups_text setup p at (n + 1) more) i g i (decimal m) i
      (last_group (decimal m) (n + 1) more) (in_group p acknowledgments groups i n (x ∷ xs))
      (in_groups p acknowledgments groups i (n + 1) more)
      (group_gives i g m x xs (All-head (All Sent) (x ∷ xs) more all))
      (groups_give acknowledgments groups i (decimal m) (n + 1) more (All-tail (All Sent) (x ∷ xs) more all)
      (All-tail IsSome (x ∷ xs) more some))

  -- one interchange
  isa_gives : (i g : List ℕ) (n : ℕ) → Gives d (header_text e at n) i g [] (padded_number 9 n) g
  isa_gives i g n =
      let s : WrittenSegment = isa e at n in
      let readable : IsReadable d s = readable_isa setup p guides hub_ids sound at moment n in
      let is = divided d s readable in
      let body : List ℕ = body_of d s.id (trimmed s.elements) in
      record {
        es = written_parts s ∷ [];
        made = record {
          bodies = body ∷ [];
          is = isa_text e at n ∙ sym (append-nil (body ++ d.terminator ∷ []));
          all = All-cons (IsBody d) body [] (divided_body d s.id (trimmed s.elements) marks.apart.element_terminator is)
              (All-nil (IsBody d));
          elements = ap (λ (es : Elements). es ∷ []) (divided_parts d s.id (trimmed s.elements) is);
        };
        gives = λ ss. ap (λ (j : List ℕ). map numbers_of (found_behind j g None ss)) (trimmed_at s.elements 12);
      }

  iea_gives : (i g : List ℕ) (groups n : ℕ) → Gives d (segment_text d (iea groups n).id (iea groups n).elements) i g [] i g
  iea_gives i g groups n = record {
    es = written_parts (iea groups n) ∷ [];
    made = row_of (iea groups n) (readable_iea setup p guides hub_ids sound at moment groups n)
        (record { long = omega arith; other = refl });
    gives = λ ss. refl;
  }

  abbrev last_here : (g : List ℕ) → (before : ℕ) → List NumberedValue → List ℕ
  last_here g before sets = last_group g before (groups_of sets)

  interchange_gives : (acknowledgments groups : ℕ) (i g : List ℕ) (n before : ℕ) (sets : List NumberedValue) → All Sent sets
      → Gives d (delivered_text setup p at n before sets) i g
      (in_groups p acknowledgments groups (padded_number 9 n) before (groups_of sets)) (padded_number 9 n) (last_here g before sets)
  interchange_gives acknowledgments groups i g n before sets all =
      let j : List ℕ = padded_number 9 n in
      let list : List (List NumberedValue) = groups_of sets in
      let head : List ℕ = header_text e at n in
      let inner : List ℕ = groups_text setup p at before list in
      let end : WrittenSegment = iea (length list) n in
      let numbers = in_groups p acknowledgments groups j before list in
      subst (λ (ns : List (List (List ℕ))). Gives d (head ++ inner ++ segment_text d end.id end.elements) i g ns j
      (last_here g before sets))
      (append-nil numbers)
      (gives_both d (head ++ inner) (segment_text d end.id end.elements) i g j (last_here g before sets) j (last_here g before sets)
      numbers []
      (gives_both d head inner i g j g j (last_here g before sets) [] numbers (isa_gives i g n)
      (groups_give acknowledgments groups j g before list (groups_all Sent sets all) (groups_some sets)))
      (iea_gives j (last_here g before sets) (length list) n))

  -- all interchanges
  pub record Given (text : List ℕ) (i g : List ℕ) (numbers : List (List (List ℕ))) : Type 0 where
    pub last_i : List ℕ
    pub last_g : List ℕ
    pub given : Gives d text i g numbers last_i last_g

  interchanges_give : (acknowledgments groups : ℕ) (i g : List ℕ) (k before : ℕ) (chunks : List (List NumberedValue))
      → All (All Sent) chunks
      → Given (delivered_texts setup p at k before chunks) i g (in_interchanges p acknowledgments groups k before chunks)
  interchanges_give acknowledgments groups i g k before [] all = record { last_i = i; last_g = g; given = gives_nothing d i g }
  interchanges_give acknowledgments groups i g k before (sets ∷ more) all =
      let n : ℕ = num p.counters.interchange k in
      let behind : ℕ = before + length (groups_of sets) in
      let j : List ℕ = padded_number 9 n in
      let h : List ℕ = last_here g before sets in
      let rest = interchanges_give acknowledgments groups j h (k + 1) behind more (All-tail (All Sent) sets more all) in
      record {
        last_i = rest.last_i;
        last_g = rest.last_g;
        given = gives_both d (delivered_text setup p at n before sets) (delivered_texts setup p at (k + 1) behind more) i g j h rest.last_i
            rest.last_g (in_groups p acknowledgments groups j before (groups_of sets))
            (in_interchanges p acknowledgments groups (k + 1) behind more)
            (interchange_gives acknowledgments groups i g n before sets (All-head (All Sent) sets more all)) rest.given;
      }

  pub box_found : (acknowledgments groups : ℕ) (sets : List PlacedValue) → All (All Sent) (interchanges_of p.cap (numbered_from 0 sets))
      → map numbers_of (found_in d (box_text setup p at acknowledgments groups sets))
      ≡ in_interchanges p acknowledgments groups acknowledgments groups (interchanges_of p.cap (numbered_from 0 sets))
  box_found acknowledgments groups sets all =
      let chunks : List (List NumberedValue) = interchanges_of p.cap (numbered_from 0 sets) in
      let all_given = interchanges_give acknowledgments groups [] [] acknowledgments groups chunks all in
      found_by d (box_text setup p at acknowledgments groups sets) (in_interchanges p acknowledgments groups acknowledgments groups chunks)
      all_given.last_i all_given.last_g all_given.given
