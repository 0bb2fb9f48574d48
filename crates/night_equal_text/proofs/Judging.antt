-- The faults of the interchanges of a text, by its setup and its first uses of numbers.
use Rattle.std.proofs.Common.{◌≡◌, ℕ, List, [], ◌∷◌, ◌++◌, map, Bool, true, false, ◌&&◌, ◌||◌, cond, Option, Some, None, refl, sym, ap}
use Rattle.std.proofs.Common.{◌∙◌, append_assoc}
use Rattle.std.specs.Prelude.{filter, is_none, is_some, bytes_eq}
use Rattle.std.specs.List.{All, list_any}
use Rattle.std.proofs.lemmas.List.Elements.{All-head, All-tail}
use Rattle.x12_bytes.specs.Header.{field_of}
use Rattle.hub_kinds.specs.declared.interchange.InterchangeFault.{InterchangeFault}
use Rattle.hub_kinds.specs.declared.interchange.InterchangeFault.TheVariants as isa
use Rattle.env_index.specs.Words as then
use Rattle.number_register.specs.SeenNumbers.{is_among, interchange_key_of, number_key}
use Rattle.partner_setup.specs.Setup.{SetupValue}
use Rattle.partner_setup.specs.Setup as setups
use Rattle.set_answers.specs.Settled as settled
use Rattle.night_definition.specs.Segments.{Segment}
use Rattle.night_definition.specs.Interchanges.{Interchange, text_of}
use Rattle.night_definition.specs.Setup.{fault_by, fault_alone, fault_after, key_of, judged_after}
use Rattle.night_equal_text.specs.Seen.{AreSame}
use Rattle.night_equal_text.specs.Kept.{IsKept}
use Rattle.night_equal_text.specs.LookedUp.{seen_setup}
use Rattle.night_equal_text.specs.Faulty.{fault_with_iea, fault_to_seven, AreJudgedAs}
use Rattle.night_equal_text.proofs.GroupCodes.{turned}
use Rattle.night_equal_text.proofs.Keeping.{interchanges_are_kept}
use Rattle.night_equal_text.proofs.Faulty.{faults_are_one}
use Rattle.night_equal_text.proofs.Walking.{texts_are_indexes}

-- 8 behind the others
alone_is : (setup : SetupValue) (x : Interchange)
    → fault_alone (seen_setup setup) x ≡ settled.fault_with_sender (fault_to_seven x) (setups.sender_of setup x.header)
alone_is setup x = by x.content.iea refl
  where
    unknown : (sender : Option ℕ) → (cond (is_some sender) None (Some isa.SenderUnknown)) ≡ settled.fault_with_sender None sender
    unknown None = refl
    unknown (Some place) = refl

    by : (iea : Option Segment) → x.content.iea ≡ iea
        → fault_alone (seen_setup setup) x ≡ settled.fault_with_sender (fault_with_iea x x.content.iea) (setups.sender_of setup x.header)
    by None is = rw is refl
    by (Some iea) is = with_fault (fault_by x iea.elements) refl
      where
        with_fault : (f : Option InterchangeFault) → fault_by x iea.elements ≡ f
            → fault_alone (seen_setup setup) x ≡ settled.fault_with_sender (fault_with_iea x x.content.iea)
            (setups.sender_of setup x.header)
        with_fault (Some f) known = rw (is, known) refl
        with_fault None known = rw (is, known) (unknown (setups.sender_of setup x.header))

pub faults_alone_are_one : (setup : SetupValue) (x : Interchange) (e : then.IndexEntry) → IsKept x e.interchange
    → e.fault ≡ then.fault_of e.interchange → fault_alone (seen_setup setup) x ≡ settled.fault_alone setup e
faults_alone_are_one setup x e kept fault =
    alone_is setup x
    ∙ ap (λ f. settled.fault_with_sender f (setups.sender_of setup x.header)) (faults_are_one x e.interchange kept ∙ sym fault)
    ∙ ap (λ h. settled.fault_with_sender e.fault (setups.sender_of setup h)) kept.header

-- interchanges and entries with the same headers and the same faults 1 to 8
abbrev Paired : SetupValue → List Interchange → List then.IndexEntry → Type 0
Paired setup [] [] = Unit {0}
Paired setup [] (e ∷ es) = ⊥
Paired setup (x ∷ xs) [] = ⊥
Paired setup (x ∷ xs) (e ∷ es) =
    ((x.header ≡ e.interchange.header) × (fault_alone (seen_setup setup) x ≡ settled.fault_alone setup e)) × Paired setup xs es

paired_on : (setup : SetupValue) (xs ys : List Interchange) (es fs : List then.IndexEntry) → Paired setup xs es → Paired setup ys fs
    → Paired setup (xs ++ ys) (es ++ fs)
paired_on setup [] ys [] fs p q = q
paired_on setup [] ys (e ∷ es) fs p q = absurd p
paired_on setup (x ∷ xs) ys [] fs p q = absurd p
paired_on setup (x ∷ xs) ys (e ∷ es) fs p q = (p.0, paired_on setup xs ys es fs p.1 q)

joined : (a b c d e : List ℕ) → ((((a ++ b) ++ c) ++ d) ++ e) ≡ (a ++ (b ++ (c ++ (d ++ e))))
joined a b c d e = append_assoc ((a ++ b) ++ c) d e ∙ append_assoc (a ++ b) c (d ++ e) ∙ append_assoc a b (c ++ (d ++ e))

same_key : (header : List ℕ) → key_of header ≡ number_key header
same_key header = joined (field_of header 5) (field_of header 6) (field_of header 7) (field_of header 8) (field_of header 13)

abbrev is_earlier_in : SetupValue → List ℕ → List Interchange → Bool
is_earlier_in setup header xs = list_any (λ y. is_none (fault_alone (seen_setup setup) y) && bytes_eq (key_of y.header)
    (key_of header)) xs

-- an earlier one without a fault 1 to 8 has the number
earlier : (setup : SetupValue) (header : List ℕ) (xs : List Interchange) (es : List then.IndexEntry) → Paired setup xs es
    → list_any (λ y. is_none (fault_alone (seen_setup setup) y) && bytes_eq (key_of y.header) (key_of header)) xs
    ≡ is_among (number_key header) (settled.kept_keys setup es)
earlier setup header [] [] p = refl
earlier setup header [] (e ∷ es) p = absurd p
earlier setup header (x ∷ xs) [] p = absurd p
earlier setup header (x ∷ xs) (e ∷ es) p =
    ap (λ f. (is_none f && bytes_eq (key_of x.header) (key_of header)) || is_earlier_in setup header xs) p.0.1
    ∙ ap (λ h. (is_none (settled.fault_alone setup e) && bytes_eq (key_of h) (key_of header)) || is_earlier_in setup header xs) p.0.0
    ∙ ap (λ b. (is_none (settled.fault_alone setup e) && b) || is_earlier_in setup header xs)
    (turned (key_of e.interchange.header) (key_of header))
    ∙ ap (λ k. (is_none (settled.fault_alone setup e) && bytes_eq k (key_of e.interchange.header)) || is_earlier_in setup header xs)
    (same_key header)
    ∙ ap (λ k. (is_none (settled.fault_alone setup e) && bytes_eq (number_key header) k) || is_earlier_in setup header xs)
    (same_key e.interchange.header)
    ∙ ap (λ b. (is_none (settled.fault_alone setup e) && bytes_eq (number_key header) (interchange_key_of e)) || b)
    (earlier setup header xs es p.1)
    ∙ by (is_none (settled.fault_alone setup e))
  where
    by : (b : Bool) → ((b && bytes_eq (number_key header) (interchange_key_of e))
        || is_among (number_key header) (settled.kept_keys setup es))
        ≡ is_among (number_key header) (map interchange_key_of (cond b (e ∷ filter (λ e. is_none (settled.fault_alone setup e)) es)
        (filter (λ e. is_none (settled.fault_alone setup e)) es)))
    by true = refl
    by false = refl

behind_is : (setup : SetupValue) (before : List Interchange) (x : Interchange) (is_earlier : Bool) (f : Option InterchangeFault)
    → fault_alone (seen_setup setup) x ≡ f
    → list_any (λ y. is_none (fault_alone (seen_setup setup) y) && bytes_eq (key_of y.header) (key_of x.header)) before ≡ is_earlier
    → fault_after (seen_setup setup) before x ≡ settled.fault_if_earlier f is_earlier
behind_is setup before x is_earlier (Some f) known among = rw known refl
behind_is setup before x true None known among = rw (known, among) refl
behind_is setup before x false None known among = rw (known, among) refl

settle : (text : List ℕ) (setup : SetupValue) (before : List Interchange) (known : List then.IndexEntry) → Paired setup before known
    → (xs : List Interchange) (es : List then.IndexEntry) → AreSame text xs es → All (then.IsEntryOf text) es
    → AreJudgedAs text setup (judged_after (seen_setup setup) before xs) (then.with_faults es (settled.faults_from setup known es))
settle text setup before known p [] [] same all = tt
settle text setup before known p [] (e ∷ es) same all = absurd same
settle text setup before known p (x ∷ xs) [] same all = absurd same
settle text setup before known p (x ∷ xs) (e ∷ es) same all =
    let entry : then.IsEntryOf text e = All-head (then.IsEntryOf text) e es all in
    let kept : IsKept x e.interchange = interchanges_are_kept text x e.interchange same.0 in
    let alone : fault_alone (seen_setup setup) x ≡ settled.fault_alone setup e = faults_alone_are_one setup x e kept entry.fault in
    let among : list_any (λ y. is_none (fault_alone (seen_setup setup) y) && bytes_eq (key_of y.header) (key_of x.header)) before
    ≡ is_among (interchange_key_of e) (settled.kept_keys setup known)
    = earlier setup x.header before known p ∙ ap (λ h. is_among (number_key h) (settled.kept_keys setup known)) kept.header in
    let next : Paired setup (before ++ x ∷ []) (known ++ e ∷ [])
    = paired_on setup before (x ∷ []) known (e ∷ []) p ((kept.header, alone), tt) in (
      record {
        same = same.0;
        sender = ap (setups.sender_of setup) kept.header;
        fault = behind_is setup before x (is_among (interchange_key_of e) (settled.kept_keys setup known))
            (settled.fault_alone setup e) alone among;
      },
      settle text setup (before ++ x ∷ []) (known ++ e ∷ []) next xs es same.1 (All-tail (then.IsEntryOf text) e es all),
    )

pub nights_are_settled : (text : List ℕ) (setup : SetupValue) (index : then.IndexValue) → then.IsIndex text index
    → AreJudgedAs text setup (judged_after (seen_setup setup) [] (text_of text).interchanges)
    (settled.settled_entries setup index.entries)
nights_are_settled text setup index is =
    settle text setup [] [] tt (text_of text).interchanges index.entries (texts_are_indexes text index is).0 is.entries
