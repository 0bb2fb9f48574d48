-- Small interchanges, on whose places and numbers the first use of a number is computed.
use Rattle.std.proofs.Common.{◌≡◌, ℕ, ◌<◌, Bool, true, false, List, [], ◌∷◌, codes, Option, Some, None, length, refl, sym, ap, subst}
use Rattle.std.proofs.Common.{zero, suc, arith, get_or}
use Rattle.std.specs.Prelude.{Contains, slice_index_or}
use Rattle.std.proofs.lemmas.Bool.{both_ways}
use Rattle.x12_bytes.specs.declared.delims.Delims.{Delims}
use Rattle.x12_segs.specs.Words.{SegValue}
use Rattle.hub_kinds.specs.declared.place.Place.{Place}
use Rattle.env_index.specs.declared.entry.SetEnvelope.{SetEnvelope}
use Rattle.env_index.specs.Interchange.{InterchangeEntry}
use Rattle.env_index.specs.Numbers.{Number, OfGroup, OfInterchange, OfSet, Numbered, place_at, interchange_number, is_before, IsFirstUse}
use Rattle.env_index.specs.Numbers.{IsEarlier, index_places}
use Rattle.env_index.specs.Summary.{GroupEntry}

abbrev plain : Delims
plain = record { element = 42; component = 62; repetition = None; terminator = 126 }

abbrev seg : List ℕ → SegValue
seg bytes = record { start = 0; bytes = bytes; delims = plain }

abbrev header : List ℕ
header = codes "ISA*00*          *00*          *01*ACME           *ZZ*HUB            *260228*0900*^*00501*000000007*0*P*>~"

-- the same sender and number for another receiver: another id, and another qualifier of the id
abbrev to_another_id : List ℕ
to_another_id = codes "ISA*00*          *00*          *01*ACME           *ZZ*HUB2           *260228*0900*^*00501*000000007*0*P*>~"

abbrev to_another_qualifier : List ℕ
to_another_qualifier = codes "ISA*00*          *00*          *01*ACME           *01*HUB            *260228*0900*^*00501*000000007*0*P*>~"

-- each of the five fields counts
abbrev parties : (qualifier id : List ℕ) → Number
parties qualifier id = OfInterchange (codes "01" ∷ codes "ACME           " ∷ qualifier ∷ id ∷ codes "000000007" ∷ [])

pub number_by_five_fields : interchange_number header ≡ parties (codes "ZZ") (codes "HUB            ")
number_by_five_fields = refl

pub number_for_another_id : interchange_number to_another_id ≡ parties (codes "ZZ") (codes "HUB2           ")
number_for_another_id = refl

pub number_for_another_qualifier : interchange_number to_another_qualifier ≡ parties (codes "01") (codes "HUB            ")
number_for_another_qualifier = refl

-- a set by its ST, a group by its GS, and an interchange by its IEA
abbrev set : List ℕ → SetEnvelope
set st = record { header = seg st; segments = 1; trailer = None; end = 0 }

abbrev group : List ℕ → List SetEnvelope → GroupEntry
group gs sets = record { header = seg gs; sets = sets; trailer = None }

abbrev interchange : Option SegValue → List GroupEntry → InterchangeEntry
interchange trailer groups = record {
  header = header;
  start = 0;
  end = 0;
  content = record { groups = groups; ta1s = 0; misplaced = false; trailer = trailer };
}

abbrev pub first_set : SetEnvelope
first_set = set (codes "ST*850*0001")

abbrev pub twelve : List SetEnvelope → GroupEntry
twelve sets = group (codes "GS*PO*A*B*20260228*0900*12*X*005010") sets

abbrev with_zero : List SetEnvelope → GroupEntry
with_zero sets = group (codes "GS*PO*A*B*20260228*0900*012*X*005010") sets

abbrev pub one_group : GroupEntry → InterchangeEntry
one_group g = interchange (Some (seg (codes "IEA*1*000000007"))) (g ∷ [])

abbrev pub two_groups : GroupEntry → GroupEntry → InterchangeEntry
two_groups g h = interchange (Some (seg (codes "IEA*2*000000007"))) (g ∷ h ∷ [])

abbrev everyone : List ℕ → Bool
everyone sender = true

abbrev nobody : List ℕ → Bool
nobody sender = false

-- a fact of each
abbrev EachIs : (Numbered → Type 0) → List Numbered → Type 0
EachIs P [] = Unit {0}
EachIs P (x ∷ xs) = P x × EachIs P xs

each_at : (P : Numbered → Type 0) (xs : List Numbered) (k : ℕ) (d : Numbered) → k < length xs → EachIs P xs
    → P (slice_index_or xs k d)
each_at P [] k d lt each = absurd (omega (arith, lt))
each_at P (x ∷ xs) zero d lt each = each.0
each_at P (x ∷ xs) (suc k) d lt each = each_at P xs k d (omega (arith, lt)) each.1

each_of : (P : Numbered → Type 0) (xs : List Numbered) (x : Numbered) → EachIs P xs → Contains xs x → P x
each_of P xs x each (k, lt, is) = subst P is (each_at P xs k x lt each)

-- a place that has this number alone, after no other that has it, has no earlier one
none_earlier : (xs : List Numbered) (p : Place) (n : Number) → EachIs (λ x. x.place ≡ p → x.number ≡ n) xs
    → EachIs (λ x. x.number ≡ n → is_before x.place p ≡ false) xs → (q : Place) → IsFirstUse xs p q → ⊥
none_earlier xs p n own others q is =
    let same : is.number ≡ n =
    each_of (λ x. x.place ≡ p → x.number ≡ n) xs (record { place = p; number = is.number }) own is.mine refl in
    let not_before : is_before q p ≡ false =
    each_of (λ x. x.number ≡ n → is_before x.place p ≡ false) xs (record { place = q; number = is.number }) others is.its same in
    both_ways (is_before q p) not_before is.before

-- a place that another one with the number stands before isn't the first
not_first : (xs : List Numbered) (p q r : Place) (n : Number) → EachIs (λ x. x.place ≡ p → x.number ≡ n) xs
    → Contains xs (record { place = r; number = n }) → is_before r q ≡ true → IsFirstUse xs p q → ⊥
not_first xs p q r n own its before is =
    let same : is.number ≡ n =
    each_of (λ x. x.place ≡ p → x.number ≡ n) xs (record { place = p; number = is.number }) own is.mine refl in
    let there : Contains xs (record { place = r; number = is.number }) =
    subst (λ (m : Number). Contains xs (record { place = r; number = m })) (sym same) its in
    both_ways (is_before r q) (is.least r there) before

-- another place
other_isa : (p q : Place) {P : Type 0} → (p.isa ≡ q.isa → ⊥) → p ≡ q → P
other_isa p q apart same = absurd (apart (ap (λ (x : Place). x.isa) same))

other_gs : (p q : Place) {P : Type 0} → (p.gs ≡ q.gs → ⊥) → p ≡ q → P
other_gs p q apart same = absurd (apart (ap (λ (x : Place). x.gs) same))

other_st : (p q : Place) {P : Type 0} → (p.st ≡ q.st → ⊥) → p ≡ q → P
other_st p q apart same = absurd (apart (ap (λ (x : Place). x.st) same))

-- a place that has this number, and one before it that has it too, and is the first
first_is : (xs : List Numbered) (p q : Place) (n : Number) → Contains xs (record { place = p; number = n })
    → Contains xs (record { place = q; number = n }) → is_before q p ≡ true
    → EachIs (λ x. x.number ≡ n → is_before x.place q ≡ false) xs → IsFirstUse xs p q
first_is xs p q n mine its before others = record {
  number = n;
  mine = mine;
  its = its;
  before = before;
  least = λ r has.
      each_of (λ x. x.number ≡ n → is_before x.place q ≡ false) xs (record { place = r; number = n }) others has refl;
}

-- one number in two sets of a group
abbrev twice : List InterchangeEntry
twice = one_group (twelve (first_set ∷ first_set ∷ [])) ∷ []

abbrev of_first : Number
of_first = OfSet 1 1 (codes "0001")

pub second_has_first : IsEarlier everyone twice (place_at 1 1 2) (place_at 1 1 1)
second_has_first = first_is (index_places everyone twice) (place_at 1 1 2) (place_at 1 1 1) of_first (3, omega arith, refl)
    (2, omega arith, refl) refl ((λ e. cc), ((λ e. cc), ((λ e. refl), ((λ e. refl), tt))))

pub first_has_none : (q : Place) → IsEarlier everyone twice (place_at 1 1 1) q → ⊥
first_has_none q is = none_earlier (index_places everyone twice) (place_at 1 1 1) of_first (
  other_gs (place_at 1 0 0) (place_at 1 1 1) (λ e. omega (arith, e)),
  (
    other_st (place_at 1 1 0) (place_at 1 1 1) (λ e. omega (arith, e)),
    ((λ e. refl), (other_st (place_at 1 1 2) (place_at 1 1 1) (λ e. omega (arith, e)), tt)),
  ),
)
    ((λ e. cc), ((λ e. cc), ((λ e. refl), ((λ e. refl), tt)))) q is

-- in three sets: the first is the first use for both others
abbrev thrice : List InterchangeEntry
thrice = one_group (twelve (first_set ∷ first_set ∷ first_set ∷ [])) ∷ []

pub third_has_first : IsEarlier everyone thrice (place_at 1 1 3) (place_at 1 1 1)
third_has_first = first_is (index_places everyone thrice) (place_at 1 1 3) (place_at 1 1 1) of_first (4, omega arith, refl)
    (2, omega arith, refl) refl ((λ e. cc), ((λ e. cc), ((λ e. refl), ((λ e. refl), ((λ e. refl), tt)))))

pub third_has_not_second : IsEarlier everyone thrice (place_at 1 1 3) (place_at 1 1 2) → ⊥
third_has_not_second is = not_first (index_places everyone thrice) (place_at 1 1 3) (place_at 1 1 2) (place_at 1 1 1) of_first (
  other_gs (place_at 1 0 0) (place_at 1 1 3) (λ e. omega (arith, e)),
  (
    other_st (place_at 1 1 0) (place_at 1 1 3) (λ e. omega (arith, e)),
    (
      other_st (place_at 1 1 1) (place_at 1 1 3) (λ e. omega (arith, e)),
      (other_st (place_at 1 1 2) (place_at 1 1 3) (λ e. omega (arith, e)), ((λ e. refl), tt)),
    ),
  ),
)
    (2, omega arith, refl) refl is

-- in sets of two groups: none is a use of the other's number
abbrev in_two_groups : List InterchangeEntry
in_two_groups = two_groups (twelve (first_set ∷ [])) (group (codes "GS*PO*A*B*20260228*0900*13*X*005010") (first_set ∷ [])) ∷ []

pub other_group_is_apart : (q : Place) → IsEarlier everyone in_two_groups (place_at 1 2 1) q → ⊥
other_group_is_apart q is = none_earlier (index_places everyone in_two_groups) (place_at 1 2 1) (OfSet 1 2 (codes "0001")) (
  other_gs (place_at 1 0 0) (place_at 1 2 1) (λ e. omega (arith, e)),
  (
    other_gs (place_at 1 1 0) (place_at 1 2 1) (λ e. omega (arith, e)),
    (
      other_gs (place_at 1 1 1) (place_at 1 2 1) (λ e. omega (arith, e)),
      (other_st (place_at 1 2 0) (place_at 1 2 1) (λ e. omega (arith, e)), ((λ e. refl), tt)),
    ),
  ),
)
    ((λ e. cc), ((λ e. cc), ((λ e. cc), ((λ e. cc), ((λ e. refl), tt))))) q is

-- a set number is a text: 0001 and 001 differ
abbrev other_texts : List InterchangeEntry
other_texts = one_group (twelve (first_set ∷ set (codes "ST*850*001") ∷ [])) ∷ []

pub other_text_is_apart : (q : Place) → IsEarlier everyone other_texts (place_at 1 1 2) q → ⊥
other_text_is_apart q is = none_earlier (index_places everyone other_texts) (place_at 1 1 2) (OfSet 1 1 (codes "001")) (
  other_gs (place_at 1 0 0) (place_at 1 1 2) (λ e. omega (arith, e)),
  (
    other_st (place_at 1 1 0) (place_at 1 1 2) (λ e. omega (arith, e)),
    (other_st (place_at 1 1 1) (place_at 1 1 2) (λ e. omega (arith, e)), ((λ e. refl), tt)),
  ),
)
    ((λ e. cc), ((λ e. cc), ((λ e. cc), ((λ e. refl), tt)))) q is

-- a group number is a number: 012 and 12 are the same
abbrev with_zeros : List InterchangeEntry
with_zeros = two_groups (twelve []) (with_zero []) ∷ []

pub zeros_are_no_part : IsEarlier everyone with_zeros (place_at 1 2 0) (place_at 1 1 0)
zeros_are_no_part = first_is (index_places everyone with_zeros) (place_at 1 2 0) (place_at 1 1 0) (OfGroup 1 (Some 12))
    (2, omega arith, refl) (1, omega arith, refl) refl ((λ e. cc), ((λ e. refl), ((λ e. refl), tt)))

-- two interchanges with one number: the first of them is the first use, for its group and set too there is none
abbrev sent_twice : List InterchangeEntry
sent_twice = one_group (twelve []) ∷ one_group (twelve []) ∷ []

pub copy_has_first : IsEarlier everyone sent_twice (place_at 2 0 0) (place_at 1 0 0)
copy_has_first = first_is (index_places everyone sent_twice) (place_at 2 0 0) (place_at 1 0 0) (interchange_number header)
    (2, omega arith, refl) (0, omega arith, refl) refl ((λ e. refl), ((λ e. refl), ((λ e. refl), ((λ e. refl), tt))))

pub group_of_copy_is_apart : (q : Place) → IsEarlier everyone sent_twice (place_at 2 1 0) q → ⊥
group_of_copy_is_apart q is = none_earlier (index_places everyone sent_twice) (place_at 2 1 0) (OfGroup 2 (Some 12)) (
  other_isa (place_at 1 0 0) (place_at 2 1 0) (λ e. omega (arith, e)),
  (
    other_isa (place_at 1 1 0) (place_at 2 1 0) (λ e. omega (arith, e)),
    (other_gs (place_at 2 0 0) (place_at 2 1 0) (λ e. omega (arith, e)), ((λ e. refl), tt)),
  ),
)
    ((λ e. cc), ((λ e. cc), ((λ e. cc), ((λ e. refl), tt)))) q is

-- one without IEA has no places, so what is sent again after it has no earlier use; nor has one whose sender isn't known
abbrev truncated_first : List InterchangeEntry
truncated_first = interchange None (twelve [] ∷ []) ∷ one_group (twelve []) ∷ []

pub truncated_has_no_places : index_places everyone (interchange None (twelve (first_set ∷ []) ∷ []) ∷ []) ≡ []
truncated_has_no_places = refl

pub unknown_has_no_places : index_places nobody twice ≡ []
unknown_has_no_places = refl

pub truncated_is_no_use : (q : Place) → IsEarlier everyone truncated_first (place_at 2 0 0) q → ⊥
truncated_is_no_use q is = none_earlier (index_places everyone truncated_first) (place_at 2 0 0) (interchange_number header)
    ((λ e. refl), (other_gs (place_at 2 1 0) (place_at 2 0 0) (λ e. omega (arith, e)), tt))
    ((λ e. refl), ((λ e. refl), tt)) q is

-- two interchanges of one sender with one number for two receivers are no uses of one number
abbrev sent_with : List ℕ → InterchangeEntry
sent_with isa = record {
  header = isa;
  start = 0;
  end = 0;
  content = record { groups = []; ta1s = 0; misplaced = false; trailer = Some (seg (codes "IEA*0*000000007")) };
}

-- a byte of one of the five fields
abbrev byte_of : (field place : ℕ) → Number → ℕ
byte_of field place (OfInterchange fields) = get_or (get_or fields field []) place 0
byte_of field place (OfGroup isa control) = 0
byte_of field place (OfSet isa gs control) = 0

abbrev to_both : List ℕ → List InterchangeEntry
to_both other = sent_with header ∷ sent_with other ∷ []

pub another_receiver_id_is_apart : (q : Place) → IsEarlier everyone (to_both to_another_id) (place_at 2 0 0) q → ⊥
another_receiver_id_is_apart q is = none_earlier (index_places everyone (to_both to_another_id)) (place_at 2 0 0)
    (interchange_number to_another_id) (other_isa (place_at 1 0 0) (place_at 2 0 0) (λ e. omega (arith, e)), ((λ e. refl), tt))
    ((λ e. let byte : 32 ≡ 50 = ap (byte_of 3 3) e in absurd (omega (arith, byte))), ((λ e. refl), tt)) q is

pub another_receiver_qualifier_is_apart : (q : Place) → IsEarlier everyone (to_both to_another_qualifier) (place_at 2 0 0) q → ⊥
another_receiver_qualifier_is_apart q is = none_earlier (index_places everyone (to_both to_another_qualifier)) (place_at 2 0 0)
    (interchange_number to_another_qualifier) (other_isa (place_at 1 0 0) (place_at 2 0 0) (λ e. omega (arith, e)), ((λ e. refl), tt))
    ((λ e. cc), ((λ e. refl), tt)) q is
