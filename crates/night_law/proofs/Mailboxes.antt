-- The sets that a partner finds in its mailbox.
use Rattle.std.proofs.Common.{◌≡◌, ℕ, zero, suc, ◌+◌, ◌*◌, ◌<◌, ◌≤◌, ◌==◌, Bool, true, false, cond, List, [], ◌∷◌, ◌++◌}
use Rattle.std.proofs.Common.{length, map}
use Rattle.std.proofs.Common.{take, drop, refl, sym, ap, subst, ◌∙◌, append-nil, arith}
use Rattle.std.specs.Prelude.{codes, decimal}
use Rattle.std.specs.List.{All, flat_map, range_with_len}
use Rattle.std.proofs.lemmas.List.{length-drop, map-append, take-append-drop}
use Rattle.std.proofs.lemmas.List.Elements.{All-cons, All-drop, All-from_recursion, All-head, All-map, All-nil, All-tail}
use Rattle.std.proofs.lemmas.List.Elements.{All-take}
use Rattle.x12_bytes.specs.declared.delims.Delims.{Delims}
use Rattle.x12_segs.specs.Words.{element_of}
use Rattle.moment.specs.Moment.{IsMoment, date_of, time_of}
use Rattle.x12_write.specs.Group.{texts_in_row}
use Rattle.x12_write.specs.Number.{padded_number}
use Rattle.x12_write.specs.Segment.{WrittenSegment, segment, segment_text}
use Rattle.x12_write.specs.Undivided.{IsUndivided}
use Rattle.x12_write.specs.declared.envelope.Envelope.{Envelope}
use Rattle.x12_write.proofs.ForAbove.{decimal-undivided, padded_number-undivided}
use Rattle.ack_999.proofs.ForAbove.{IsReadable, readable}
use Rattle.count_numbers.specs.Layout.{in_interchange, interchange_count, interchanges_of}
use Rattle.count_numbers.specs.Num.{num}
use Rattle.partner_setup.specs.declared.partner.Partner.{Partner}
use Rattle.partner_setup.specs.Envelopes.{envelope_to}
use Rattle.partner_setup.specs.Setup.{SetupValue}
use Rattle.partner_setup.specs.SetupFaults.{are_ids}
use Rattle.partner_setup.specs.Sound.{IsSoundPartner}
use Rattle.answered_sets.specs.Judged.{PlacedValue}
use Rattle.mailbox.specs.Mailbox.{box_text, delivered_group_text, delivered_text, delivered_texts, groups_text, numbered_text, sender_code}
use Rattle.mailbox.specs.Numbered.{NumberedValue, goes_with, groups_of, numbered_from, onto_groups}
use Rattle.count_numbers.proofs.ForAbove.{first_interchange, no_interchange}
use Rattle.night_law.specs.SetsRead.{AreSetsFound, Said, set_said}
use Rattle.night_law.proofs.Enveloping.{code_inside, date, inside, isa, isa_text, plain, readable_isa, time}
use Rattle.night_law.proofs.Found.{IsMade, made_behind, made_found, nothing_made, other_made}
use Rattle.night_law.proofs.OneSet.{IsFit, set_made}
use Rattle.night_law.proofs.Marked.{IsMarked, marked}
use Rattle.night_law.proofs.PlainReferences.{everywhere}

-- a delivered set that can be read again, under a GS that can
pub record IsReady (to : Delims) (setup : SetupValue) (p : PlacedValue) : Type 0 where
  pub fit : IsFit to p
  pub functional_id : IsUndivided to (element_of p.group.header 1)
  pub version : IsUndivided to (element_of p.group.header 8)
  pub sender : IsUndivided to (sender_code setup p)

-- what is made of lists of lists is made of their items
module _ {A B : Type 0} (f : A → B) where
  pub chunks_flat : (cap fuel : ℕ) (xs : List A) → 0 < cap → length xs ≤ fuel → flat_map (map f) (interchanges_of cap xs) ≡ map f xs
  chunks_flat cap fuel [] some few = ap (flat_map (map f)) (no_interchange cap [] refl)
  chunks_flat cap zero (x ∷ xs) some few = absurd (omega (arith, few))
  chunks_flat cap (suc fuel) (x ∷ xs) some few =
      let all : List A = x ∷ xs in
      ap (flat_map (map f)) (first_interchange cap all some (omega arith))
      ∙ ap (λ (more : List B). map f (take cap all) ++ more)
      (chunks_flat cap fuel (drop cap all) some (omega (arith, few, some, length-drop cap all)))
      ∙ sym (map-append f (take cap all) (drop cap all))
      ∙ ap (map f) (take-append-drop cap all)

one_flat : {B : Type 0} (f : NumberedValue → B) (x : NumberedValue) (b : Bool) (group : List NumberedValue)
    (groups : List (List NumberedValue))
    → flat_map (map f) (cond b ((x ∷ group) ∷ groups) ((x ∷ []) ∷ group ∷ groups)) ≡ f x ∷ flat_map (map f) (group ∷ groups)
one_flat f x true group groups = refl
one_flat f x false group groups = refl

onto_flat : {B : Type 0} (f : NumberedValue → B) (x : NumberedValue) (groups : List (List NumberedValue))
    → flat_map (map f) (onto_groups x groups) ≡ f x ∷ flat_map (map f) groups
onto_flat f x [] = refl
onto_flat f x (group ∷ groups) = one_flat f x (goes_with x group) group groups

groups_flat : {B : Type 0} (f : NumberedValue → B) (xs : List NumberedValue) → flat_map (map f) (groups_of xs) ≡ map f xs
groups_flat f [] = refl
groups_flat {B} f (x ∷ xs) = onto_flat f x (groups_of xs) ∙ ap (λ (more : List B). f x ∷ more) (groups_flat f xs)

module _ (P : NumberedValue → Type 0) where
  one_all : (x : NumberedValue) (b : Bool) (group : List NumberedValue) (groups : List (List NumberedValue)) → P x
      → All (All P) (group ∷ groups) → All (All P) (cond b ((x ∷ group) ∷ groups) ((x ∷ []) ∷ group ∷ groups))
  one_all x true group groups first all =
      All-cons (All P) (x ∷ group) groups (All-cons P x group first (All-head (All P) group groups all)) (All-tail (All P) group groups all)
  one_all x false group groups first all = All-cons (All P) (x ∷ []) (group ∷ groups) (All-cons P x [] first (All-nil P)) all

  onto_all : (x : NumberedValue) (groups : List (List NumberedValue)) → P x → All (All P) groups → All (All P) (onto_groups x groups)
  onto_all x [] first all = All-cons (All P) (x ∷ []) [] (All-cons P x [] first (All-nil P)) (All-nil (All P))
  onto_all x (group ∷ groups) first all = one_all x (goes_with x group) group groups first all

  pub groups_all : (xs : List NumberedValue) → All P xs → All (All P) (groups_of xs)
  groups_all [] all = All-nil (All P)
  groups_all (x ∷ xs) all = onto_all x (groups_of xs) (All-head P x xs all) (groups_all xs (All-tail P x xs all))

pub chunks_all : {A : Type 0} (P : A → Type 0) (cap : ℕ) (xs : List A) → All P xs → All (All P) (interchanges_of cap xs)
chunks_all P cap xs all = All-map (All P) (in_interchange cap xs) (range_with_len 0 (interchange_count cap (length xs)))
    (everywhere (λ n. All P (in_interchange cap xs n)) (λ n. All-take P cap (drop (n * cap) xs) (All-drop P (n * cap) xs all))
    (range_with_len 0 (interchange_count cap (length xs))))

pub numbered_all : (P : PlacedValue → Type 0) (k : ℕ) (ps : List PlacedValue) → All P ps → All (λ x. P x.set) (numbered_from k ps)
numbered_all P k [] all = All-nil (λ x. P x.set)
numbered_all P k (p ∷ ps) all =
    All-cons (λ x. P x.set) (record { place = k; set = p }) (numbered_from (k + 1) ps) (All-head P p ps all)
    (numbered_all P (k + 1) ps (All-tail P p ps all))

module _ (setup : SetupValue) (p : Partner) (guides : ℕ) (hub_ids : are_ids setup.hub.qualifier setup.hub.id setup.hub.code ≡ true)
    (sound : IsSoundPartner guides p) (at : List ℕ) (moment : IsMoment at) where
  abbrev d : Delims
  d = p.delims

  abbrev e : Envelope
  e = envelope_to setup p

  marks : IsMarked d
  marks = marked d sound.delims

  abbrev apart : (d.element == d.terminator) ≡ false
  apart = marks.apart.element_terminator

  abbrev said : NumberedValue → List (List Said)
  said x = set_said x.set (num p.counters.set x.place)

  abbrev Ready : NumberedValue → Type 0
  Ready x = IsReady d setup x.set

  row_made : (xs : List NumberedValue) → All Ready xs → IsMade d (texts_in_row (map (numbered_text p) xs)) (map said xs)
  row_made [] all = nothing_made d
  row_made (x ∷ xs) all =
      made_behind d (numbered_text p x) (texts_in_row (map (numbered_text p) xs)) (said x ∷ []) (map said xs)
      (set_made d marks sound.divides x.set (All-head Ready x xs all).fit (num p.counters.set x.place))
      (row_made xs (All-tail Ready x xs all))

  abbrev pub gs_of : NumberedValue → (g : ℕ) → WrittenSegment
  gs_of x g = segment (codes "GS")
      (element_of x.set.group.header 1 ∷ sender_code setup x.set ∷ p.code ∷ date_of at ∷ time_of at ∷ decimal g ∷ codes "X"
      ∷ element_of x.set.group.header 8 ∷ [])

  pub readable_gs_of : (x : NumberedValue) (g : ℕ) → Ready x → IsReadable d (gs_of x g)
  readable_gs_of x g ready =
      let P : List ℕ → Type 0 = IsUndivided d in
      let code : P p.code = inside setup p guides hub_ids sound at moment p.code (code_inside p.qualifier p.id p.code sound.ids) in
      let agency : P (codes "X") = plain setup p guides hub_ids sound at moment (codes "X") refl in
      readable d sound.divides (codes "GS") (gs_of x g).elements (omega arith) refl refl
      (All-from_recursion P (gs_of x g).elements (
        ready.functional_id,
        (
          ready.sender,
          (
            code,
            (
              date setup p guides hub_ids sound at moment,
              (
                time setup p guides hub_ids sound at moment,
                (decimal-undivided d sound.divides g, (agency, (ready.version, tt))),
              ),
            ),
          ),
        ),
      ))

  abbrev pub ge_of : (sets g : ℕ) → WrittenSegment
  ge_of sets g = segment (codes "GE") (decimal sets ∷ decimal g ∷ [])

  pub readable_ge_of : (sets g : ℕ) → IsReadable d (ge_of sets g)
  readable_ge_of sets g =
      let P : List ℕ → Type 0 = IsUndivided d in
      readable d sound.divides (codes "GE") (decimal sets ∷ decimal g ∷ []) (omega arith) refl refl
      (All-from_recursion P (decimal sets ∷ decimal g ∷ [])
      (decimal-undivided d sound.divides sets, (decimal-undivided d sound.divides g, tt)))

  abbrev iea_of : (groups number : ℕ) → WrittenSegment
  iea_of groups number = segment (codes "IEA") (decimal groups ∷ padded_number 9 number ∷ [])

  readable_iea_of : (groups number : ℕ) → IsReadable d (iea_of groups number)
  readable_iea_of groups number =
      let P : List ℕ → Type 0 = IsUndivided d in
      readable d sound.divides (codes "IEA") (decimal groups ∷ padded_number 9 number ∷ []) (omega arith) refl refl
      (All-from_recursion P (decimal groups ∷ padded_number 9 number ∷ [])
      (decimal-undivided d sound.divides groups, (padded_number-undivided d sound.divides 9 number, tt)))

  -- a segment before sets, and one after them
  around : (first last : WrittenSegment) (inner : List ℕ) (sets : List (List (List Said))) → IsMade d
      (segment_text d first.id first.elements) []
      → IsMade d (segment_text d last.id last.elements) [] → IsMade d inner sets
      → IsMade d (segment_text d first.id first.elements ++ inner ++ segment_text d last.id last.elements) sets
  around first last inner sets front back made =
      subst (IsMade d (segment_text d first.id first.elements ++ inner ++ segment_text d last.id last.elements)) (append-nil sets)
      (made_behind d (segment_text d first.id first.elements ++ inner) (segment_text d last.id last.elements) sets []
      (made_behind d (segment_text d first.id first.elements) inner [] sets front made) back)

  group_made : (g : ℕ) (group : List NumberedValue) → All Ready group → IsMade d (delivered_group_text setup p at g group) (map said group)
  group_made g [] all = nothing_made d
  group_made g (x ∷ xs) all =
      let texts : List (List ℕ) = map (numbered_text p) (x ∷ xs) in
      around (gs_of x g) (ge_of (length texts) g) (texts_in_row texts) (map said (x ∷ xs))
      (other_made d (gs_of x g) apart (readable_gs_of x g (All-head Ready x xs all)) refl)
      (other_made d (ge_of (length texts) g) apart (readable_ge_of (length texts) g) refl)
      (row_made (x ∷ xs) all)

  groups_made : (g : ℕ) (groups : List (List NumberedValue)) → All (All Ready) groups
      → IsMade d (groups_text setup p at g groups) (flat_map (map said) groups)
  groups_made g [] all = nothing_made d
  groups_made g (group ∷ groups) all =
      made_behind d (delivered_group_text setup p at (num p.counters.group g) group) (groups_text setup p at (g + 1) groups)
      (map said group) (flat_map (map said) groups) (group_made (num p.counters.group g) group (All-head (All Ready) group groups all))
      (groups_made (g + 1) groups (All-tail (All Ready) group groups all))

  interchange_made : (number before : ℕ) (sets : List NumberedValue) → All Ready sets
      → IsMade d (delivered_text setup p at number before sets) (map said sets)
  interchange_made number before sets all =
      let groups : List (List NumberedValue) = groups_of sets in
      let head : IsMade d (segment_text d (isa e at number).id (isa e at number).elements) [] =
      other_made d (isa e at number) apart (readable_isa setup p guides hub_ids sound at moment number) refl in
      let made = around (isa e at number) (iea_of (length groups) number) (groups_text setup p at before groups)
      (flat_map (map said) groups) head
      (other_made d (iea_of (length groups) number) apart (readable_iea_of (length groups) number) refl)
      (groups_made before groups (groups_all Ready sets all)) in
      subst (IsMade d (delivered_text setup p at number before sets)) (groups_flat said sets)
      (subst (λ (t : List ℕ). IsMade d (t ++ groups_text setup p at before groups ++ segment_text d (iea_of (length groups) number).id
      (iea_of (length groups) number).elements) (flat_map (map said) groups)) (sym (isa_text e at number)) made)

  interchanges_made : (k before : ℕ) (chunks : List (List NumberedValue)) → All (All Ready) chunks
      → IsMade d (delivered_texts setup p at k before chunks) (flat_map (map said) chunks)
  interchanges_made k before [] all = nothing_made d
  interchanges_made k before (sets ∷ more) all =
      let behind : ℕ = before + length (groups_of sets) in
      made_behind d (delivered_text setup p at (num p.counters.interchange k) before sets) (delivered_texts setup p at (k + 1) behind more)
      (map said sets) (flat_map (map said) more)
      (interchange_made (num p.counters.interchange k) before sets (All-head (All Ready) sets more all))
      (interchanges_made (k + 1) behind more (All-tail (All Ready) sets more all))

  pub sets_are_found : (acknowledgments groups : ℕ) (sets : List PlacedValue) → All (IsReady d setup) sets
      → AreSetsFound p sets (box_text setup p at acknowledgments groups sets)
  sets_are_found acknowledgments groups sets all =
      let numbered : List NumberedValue = numbered_from 0 sets in
      let chunks : List (List NumberedValue) = interchanges_of p.cap numbered in
      made_found d (box_text setup p at acknowledgments groups sets) (flat_map (map said) chunks)
      (interchanges_made acknowledgments groups chunks (chunks_all Ready p.cap numbered (numbered_all (IsReady d setup) 0 sets all)))
      ∙ chunks_flat said p.cap (length numbered) numbered sound.cap_least (omega arith)
