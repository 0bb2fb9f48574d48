-- X12.5, interchange: a mailbox, as interchanges that are written.
use Rattle.std.proofs.Common.{◌≡◌, ℕ, suc, ◌+◌, ◌*◌, ◌<◌, ◌≤◌, ◌==◌, Bool, true, false, cond, List, [], ◌∷◌, ◌++◌}
use Rattle.std.proofs.Common.{length, map}
use Rattle.std.proofs.Common.{drop, refl, sym, ap, ◌∙◌, append_assoc, arith}
use Rattle.std.specs.Prelude.{◌&&◌, codes, decimal}
use Rattle.std.specs.List.{All, flat_map, list_all, range_with_len}
use Rattle.std.specs.Char.{is_ascii_uppercase}
use Rattle.std.proofs.lemmas.Bool.{and_from, and_parts}
use Rattle.std.proofs.lemmas.List.{length-take}
use Rattle.std.proofs.lemmas.List.Elements.{All-cons, All-head, All-map, All-nil, All-tail}
use Rattle.x12_bytes.specs.declared.delims.Delims.{Delims}
use Rattle.x12_segs.specs.Words.{element_of, part_or_empty}
use Rattle.moment.specs.Moment.{IsMoment}
use Rattle.x12_write.specs.Group.{texts_in_row}
use Rattle.x12_write.specs.Number.{padded_number}
use Rattle.x12_write.specs.Segment.{WrittenSegment, segment, segment_text}
use Rattle.x12_write.specs.declared.envelope.Envelope.{Envelope}
use Rattle.count_numbers.specs.Layout.{in_interchange, interchange_count, interchanges_of}
use Rattle.count_numbers.specs.Num.{num}
use Rattle.partner_setup.specs.declared.partner.Partner.{Partner}
use Rattle.partner_setup.specs.Envelopes.{envelope_to}
use Rattle.partner_setup.specs.Setup.{SetupValue}
use Rattle.partner_setup.specs.SetupFaults.{are_ids}
use Rattle.partner_setup.specs.Sound.{IsSoundPartner}
use Rattle.answered_sets.specs.Judged.{PlacedValue, delims_in}
use Rattle.mailbox.specs.Mailbox.{delivered_group_text, delivered_text, groups_text, numbered_text}
use Rattle.mailbox.specs.Numbered.{NumberedValue, goes_with, groups_of, numbered_from, onto_groups}
use Rattle.night_law.proofs.ForAbove as box
use Rattle.night_law.proofs.ForAbove.{IsMarked, chunks_all, everywhere, groups_all, marked, numbered_all, trimmed_at}
use Rattle.hub_kinds.specs.Words.{is_number, is_word}
use Rattle.x12_write.specs.Header.{header_text}
use Rattle.ack_999.specs.ReadBack.{written_parts}
use Rattle.partner_setup.proofs.ForAbove.{sendable}
use Rattle.files_law.specs.Whole.{Elements, IsWholeGroup, IsWholeSet, Whole, WholeGroup, WholeSet, group_segments, is_gs, set_segments}
use Rattle.files_law.specs.Whole.{kind_by, whole_segments}
use Rattle.x12_segs.specs.declared.kind.Kind.TheVariants.{Ta1}
use Rattle.files_law.specs.Mailboxes.{mailbox_texts}
use Rattle.files_law.specs.Written.{IsWritten, Written, written_text}
use Rattle.files_law.proofs.Digits.{decimal_read}
use Rattle.files_law.proofs.Acknowledgments.{iea_row}
use Rattle.files_law.proofs.Faults.{kept_word}
use Rattle.files_law.proofs.Numbers.{num_small}
use Rattle.files_law.proofs.Placed.{IsSent}
use Rattle.files_law.proofs.Rows.{one_row}
use Rattle.files_law.proofs.Sets.{delivered_row, delivered_set, delivered_whole}
use Rattle.files_law.proofs.Texts.{IsMadeOf, both_made, nothing_made, one_segments, row_made}

-- a text is an interchange that is written, under these delimiters
pub record IsDelivered (d : Delims) (text : List ℕ) : Type 0 where
  pub w : Written
  pub is : written_text w ≡ text
  pub written : IsWritten w
  pub same : w.envelope.delims ≡ d

-- the sets of a list, as whole sets
record AreWhole (p : Partner) (xs : List NumberedValue) : Type 0 where
  sets : List WholeSet
  row : IsMadeOf p.delims (texts_in_row (map (numbered_text p) xs)) (flat_map set_segments sets)
  whole : All IsWholeSet sets

-- groups, as whole groups
record AreGroups (setup : SetupValue) (p : Partner) (at : List ℕ) (g : ℕ) (groups : List (List NumberedValue)) : Type 0 where
  list : List WholeGroup
  row : IsMadeOf p.delims (groups_text setup p at g groups) (flat_map group_segments list)
  whole : All IsWholeGroup list
  count : length list ≡ length groups

-- texts that are interchanges which are written, under these delimiters
pub record AreDelivered (d : Delims) (texts : List (List ℕ)) : Type 0 where
  pub ws : List Written
  pub is : map written_text ws ≡ texts
  pub written : All IsWritten ws
  pub same : All (λ (w : Written). w.envelope.delims ≡ d) ws

-- how many groups there are at most
onto_most : (x : NumberedValue) (groups : List (List NumberedValue)) → length (onto_groups x groups) ≤ 1 + length groups
onto_most x [] = omega arith
onto_most x (group ∷ groups) = by (goes_with x group)
  where
    by : (b : Bool) → length (cond b ((x ∷ group) ∷ groups) ((x ∷ []) ∷ group ∷ groups)) ≤ 1 + length (group ∷ groups)
    by true = omega arith
    by false = omega arith

groups_most : (xs : List NumberedValue) → length (groups_of xs) ≤ length xs
groups_most [] = omega arith
groups_most (x ∷ xs) = let rest = groups_most xs in let one = onto_most x (groups_of xs) in omega (arith, rest, one)

chunk_most : {A : Type 0} (cap : ℕ) (xs : List A) → All (λ chunk. length chunk ≤ cap) (interchanges_of cap xs)
chunk_most cap xs = All-map (λ chunk. length chunk ≤ cap) (in_interchange cap xs) (range_with_len 0 (interchange_count cap (length xs)))
    (everywhere (λ n. length (in_interchange cap xs n) ≤ cap) (λ n. omega (arith, length-take cap (drop (n * cap) xs)))
    (range_with_len 0 (interchange_count cap (length xs))))

-- groups, none of which is empty
abbrev pub IsSome : List NumberedValue → Type 0
IsSome group = 0 < length group

onto_some : (x : NumberedValue) (groups : List (List NumberedValue)) → All IsSome groups → All IsSome (onto_groups x groups)
onto_some x [] some = All-cons IsSome (x ∷ []) [] (omega arith) (All-nil IsSome)
onto_some x (group ∷ groups) some = by (goes_with x group)
  where
    by : (b : Bool) → All IsSome (cond b ((x ∷ group) ∷ groups) ((x ∷ []) ∷ group ∷ groups))
    by true = All-cons IsSome (x ∷ group) groups (omega arith) (All-tail IsSome group groups some)
    by false = All-cons IsSome (x ∷ []) (group ∷ groups) (omega arith) some

pub groups_some : (xs : List NumberedValue) → All IsSome (groups_of xs)
groups_some [] = All-nil IsSome
groups_some (x ∷ xs) = onto_some x (groups_of xs) (groups_some xs)

module _ (setup : SetupValue) (p : Partner) (guides : ℕ) (hub_ids : are_ids setup.hub.qualifier setup.hub.id setup.hub.code ≡ true)
    (sound : IsSoundPartner guides p) (at : List ℕ) (moment : IsMoment at) where
  abbrev d : Delims
  d = p.delims

  abbrev e : Envelope
  e = envelope_to setup p

  marks : IsMarked d
  marks = marked d sound.delims

  abbrev Sent : NumberedValue → Type 0
  Sent x = IsSent d setup x.set

  abbrev gs_of : NumberedValue → (g : ℕ) → WrittenSegment
  gs_of x g = box.gs_of setup p guides hub_ids sound at moment x g

  abbrev ge_of : (sets g : ℕ) → WrittenSegment
  ge_of sets g = box.ge_of setup p guides hub_ids sound at moment sets g

  first_word : (x : NumberedValue) → Sent x → is_word 3 3 (element_of x.set.set.header 1) ≡ true
  first_word x sent =
      (and_parts (is_word 3 3 (element_of x.set.set.header 1)) (is_word 1 9 (element_of x.set.set.header 2)) sent.st).0

  sets_whole : (xs : List NumberedValue) → All Sent xs → AreWhole p xs
  sets_whole [] all = record { sets = []; row = nothing_made d; whole = All-nil IsWholeSet }
  sets_whole (x ∷ xs) all =
      let sent : Sent x = All-head Sent x xs all in
      let rest : AreWhole p xs = sets_whole xs (All-tail Sent x xs all) in
      let n : ℕ = num p.counters.set x.place in
      let one : WholeSet = delivered_set d marks sound.divides x.set sent.ready.fit n in
      record {
        sets = one ∷ rest.sets;
        row = both_made d (numbered_text p x) (texts_in_row (map (numbered_text p) xs)) (set_segments one) (flat_map set_segments rest.sets)
            (delivered_row d marks sound.divides x.set sent.ready.fit n) rest.row;
        whole = All-cons IsWholeSet one rest.sets
            (delivered_whole d marks sound.divides x.set sent.ready.fit n (kept_word (delims_in x.set) d sent.plain)
            (first_word x sent) (num_small p.counters.set x.place)) rest.whole;
      }

  gs_is : (x : NumberedValue) (g : ℕ) → Sent x → g ≤ 999999999 → is_gs (written_parts (gs_of x g)) ≡ true
  gs_is x g sent small =
      let f : List ℕ → List ℕ → List ℕ → Bool =
      λ a b c. (length a == 2) && list_all is_ascii_uppercase a && is_number 9 b && is_word 1 12 c in
      let els : List (List ℕ) = (gs_of x g).elements in
      let es : Elements = written_parts (gs_of x g) in
      let one : List ℕ = element_of x.set.group.header 1 in
      let six : List ℕ = element_of x.set.group.header 6 in
      let eight : List ℕ = element_of x.set.group.header 8 in
      let last = and_parts ((length one == 2) && list_all is_ascii_uppercase one && is_number 9 six) (is_word 1 12 eight) sent.gs in
      let front = and_parts ((length one == 2) && list_all is_ascii_uppercase one) (is_number 9 six) last.0 in
      ap (λ (a : List ℕ). f a (part_or_empty es 6) (part_or_empty es 8)) (trimmed_at els 0)
      ∙ ap (λ (b : List ℕ). f one b (part_or_empty es 8)) (trimmed_at els 5)
      ∙ ap (λ (c : List ℕ). f one (decimal g) c) (trimmed_at els 7)
      ∙ and_from ((length one == 2) && list_all is_ascii_uppercase one && is_number 9 (decimal g)) (is_word 1 12 eight)
      (and_from ((length one == 2) && list_all is_ascii_uppercase one) (is_number 9 (decimal g)) front.0
      (decimal_read 9 g (omega arith) (omega arith) (omega arith)).0) last.1

  -- a group of one or more sets
  one_group : (g : ℕ) → g ≤ 999999999 → (x : NumberedValue) (xs : List NumberedValue) → All Sent (x ∷ xs)
      → (group : WholeGroup) × IsMadeOf d (delivered_group_text setup p at g (x ∷ xs)) (group_segments group) × IsWholeGroup group
  one_group g small x xs all =
      let texts : List (List ℕ) = map (numbered_text p) (x ∷ xs) in
      let sent : Sent x = All-head Sent x xs all in
      let sets : AreWhole p (x ∷ xs) = sets_whole (x ∷ xs) all in
      let gs : WrittenSegment = gs_of x g in
      let ge : WrittenSegment = ge_of (length texts) g in
      let first : List ℕ = segment_text d gs.id gs.elements in
      let last : List ℕ = segment_text d ge.id ge.elements in
      let inner : List Elements = flat_map set_segments sets.sets in
      let gs_made : IsMadeOf d first (written_parts gs ∷ []) = row_made d first (written_parts gs ∷ [])
      (one_row d gs sound.divides (box.readable_gs_of setup p guides hub_ids sound at moment x g sent.ready)
      (record { long = omega arith; other = refl })) in
      let ge_made : IsMadeOf d last (written_parts ge ∷ []) = row_made d last (written_parts ge ∷ [])
      (one_row d ge sound.divides (box.readable_ge_of setup p guides hub_ids sound at moment (length texts) g)
      (record { long = omega arith; other = refl })) in (
        record { header = written_parts gs; sets = sets.sets; trailer = written_parts ge },
        both_made d (first ++ texts_in_row texts) last (written_parts gs ∷ inner) (written_parts ge ∷ [])
            (both_made d first (texts_in_row texts) (written_parts gs ∷ []) inner gs_made sets.row) ge_made,
        record { kind = refl; header = gs_is x g sent small; sets = sets.whole; trailer = refl },
      )

  groups_whole : (g : ℕ) (groups : List (List NumberedValue)) → All (All Sent) groups → All IsSome groups → AreGroups setup p at g groups
  groups_whole g [] all some = record { list = []; row = nothing_made d; whole = All-nil IsWholeGroup; count = refl }
  groups_whole g ([] ∷ groups) all some = absurd (omega (arith, All-head IsSome [] groups some))
  groups_whole g ((x ∷ xs) ∷ groups) all some =
      let n : ℕ = num p.counters.group g in
      let one = one_group n (num_small p.counters.group g) x xs (All-head (All Sent) (x ∷ xs) groups all) in
      let rest : AreGroups setup p at (g + 1) groups =
      groups_whole (g + 1) groups (All-tail (All Sent) (x ∷ xs) groups all) (All-tail IsSome (x ∷ xs) groups some) in
      record {
        list = one.0 ∷ rest.list;
        row = both_made d (delivered_group_text setup p at n (x ∷ xs)) (groups_text setup p at (g + 1) groups) (group_segments one.0)
            (flat_map group_segments rest.list) one.1 rest.row;
        whole = All-cons IsWholeGroup one.0 rest.list one.2 rest.whole;
        count = ap suc rest.count;
      }

  -- a delivered interchange
  interchange_delivered : (number before : ℕ) → number ≤ 999999999 → (sets : List NumberedValue) → length sets ≤ p.cap → All Sent sets
      → IsDelivered d (delivered_text setup p at number before sets)
  interchange_delivered number before nine sets capped all =
      let groups : List (List NumberedValue) = groups_of sets in
      let n : ℕ = length groups in
      let made : AreGroups setup p at before groups = groups_whole before groups (groups_all Sent sets all) (groups_some sets) in
      let els : List (List ℕ) = decimal n ∷ padded_number 9 number ∷ [] in
      let iea : WrittenSegment = segment (codes "IEA") els in
      let end : List ℕ = segment_text d iea.id iea.elements in
      let head : List ℕ = header_text e at number in
      let inner : List ℕ = groups_text setup p at before groups in
      let whole : Whole = record { ta1s = []; groups = made.list; trailer = written_parts iea } in
      let row : IsMadeOf d (inner ++ end) (whole_segments whole) =
      both_made d inner end (flat_map group_segments made.list) (written_parts iea ∷ []) made.row
      (row_made d end (written_parts iea ∷ []) (iea_row setup p guides hub_ids sound at moment n number)) in
      let most = groups_most sets in
      let cap = sound.cap_most in
      let count = made.count in
      let few : length made.list ≤ 99999 = omega (arith, most, cap, count, capped) in
      record {
        w = record { envelope = e; at = at; number = number; segments = row.bodies; whole = whole };
        is = ap (λ (t : List ℕ). head ++ t) (sym row.is) ∙ sym (append_assoc head inner end);
        written = record {
          sendable = sendable guides setup.hub p hub_ids sound;
          moment = moment;
          nine = nine;
          each = one_segments d row.bodies row.all;
          elements = row.elements;
          whole = record {
            ta1s = All-nil (λ x. kind_by x ≡ Ta1);
            groups = made.whole;
            few = few;
            kind = refl;
            counted = trimmed_at els 0 ∙ ap decimal (sym made.count);
            numbered = trimmed_at els 1;
          };
        };
        same = refl;
      }

  pub interchanges_delivered : (k before : ℕ) (chunks : List (List NumberedValue)) → All (All Sent) chunks
      → All (λ chunk. length chunk ≤ p.cap) chunks → AreDelivered d (mailbox_texts setup p at k before chunks)
  interchanges_delivered k before [] all capped =
      record { ws = []; is = refl; written = All-nil IsWritten; same = All-nil (λ (w : Written). w.envelope.delims ≡ d) }
  interchanges_delivered k before (sets ∷ more) all capped =
      let n : ℕ = num p.counters.interchange k in
      let C : List NumberedValue → Type 0 = λ chunk. length chunk ≤ p.cap in
      let one : IsDelivered d (delivered_text setup p at n before sets) =
      interchange_delivered n before (num_small p.counters.interchange k) sets (All-head C sets more capped)
      (All-head (All Sent) sets more all) in
      let rest = interchanges_delivered (k + 1) (before + length (groups_of sets)) more (All-tail (All Sent) sets more all)
      (All-tail C sets more capped) in
      record {
        ws = one.w ∷ rest.ws;
        is = ap (λ (t : List ℕ). t ∷ map written_text rest.ws) one.is
            ∙ ap (λ (ts : List (List ℕ)). delivered_text setup p at n before sets ∷ ts) rest.is;
        written = All-cons IsWritten one.w rest.ws one.written rest.written;
        same = All-cons (λ (w : Written). w.envelope.delims ≡ d) one.w rest.ws one.same rest.same;
      }

  pub box_delivered : (acknowledgments groups : ℕ) (sets : List PlacedValue) → All (IsSent d setup) sets
      → AreDelivered d (mailbox_texts setup p at acknowledgments groups (interchanges_of p.cap (numbered_from 0 sets)))
  box_delivered acknowledgments groups sets all =
      let numbered : List NumberedValue = numbered_from 0 sets in
      interchanges_delivered acknowledgments groups (interchanges_of p.cap numbered)
      (chunks_all Sent p.cap numbered (numbered_all (IsSent d setup) 0 sets all)) (chunk_most p.cap numbered)
