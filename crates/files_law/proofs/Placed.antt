-- X12.6, functional group and transaction set: the sets that are delivered to a partner, with what is known of their headers.
use Rattle.std.proofs.Common.{◌≡◌, ℕ, ◌+◌, true, List, [], ◌∷◌, Some, None, length, map, refl, sym, subst}
use Rattle.std.specs.Prelude.{slice_get}
use Rattle.std.specs.List.{All, list_all}
use Rattle.std.proofs.lemmas.Bool.{and_parts}
use Rattle.std.proofs.lemmas.List.Elements.{All-append, All-cons, All-head, All-nil, All-tail, All-weaker}
use Rattle.x12_bytes.specs.Header.{header_delims}
use Rattle.x12_bytes.specs.declared.delims.Delims.{Delims}
use Rattle.x12_write.specs.Undivided.{CanDivide}
use Rattle.env_index.specs.declared.entry.SetEnvelope.{SetEnvelope}
use Rattle.env_index.specs.Words.{GroupEntry, IndexEntry, has_set_headers, is_group_header, is_set_header, settled}
use Rattle.partner_setup.specs.declared.partner.Partner.{Partner}
use Rattle.partner_setup.specs.Setup.{SetupValue}
use Rattle.partner_setup.specs.Sound.{IsSoundPartner, IsSoundSetup}
use Rattle.answered_sets.specs.declared.standing.GroupStanding.{GroupStanding}
use Rattle.answered_sets.specs.Judged.{JudgedValue, PlacedValue, all_sets, delims_in, sets_of_groups_from, sets_from, sets_of, standing_at}
use Rattle.mailbox.specs.Deliveries.{is_delivered_to}
use Rattle.set_answers.specs.CheckedText.{CheckedInterchange, IsCheckedAs, judged}
use Rattle.set_answers.specs.Settled.{settled_faults}
use Rattle.night_batches.specs.Night.{IsKnown, sets_to}
use Rattle.night_law.proofs.ForAbove.{AreApart, AreElementsUndivided, IsReady, IsSettledSound, IsSource, IsThere, at_index, delivered_free}
use Rattle.night_law.proofs.ForAbove.{elements_undivided, faultless, is_ready, pairs_all, passing, settled_sound, settled_sources}
use Rattle.files_law.proofs.Faults.{ArePlain, HasPlain, have_headers, settled_plain}

-- GS and ST have their form, and what is repeated of them is undivided
pub record AreFine (to : Delims) (g : GroupEntry) (set : SetEnvelope) : Type 0 where
  pub undivided : AreElementsUndivided to g
  pub gs : is_group_header g.header ≡ true
  pub st : is_set_header set.header ≡ true

-- a set of a judged interchange, as it stands in the text
pub record IsPlaced (to : Delims) (text : List ℕ) (p : PlacedValue) : Type 0 where
  pub text_is : p.interchange.text ≡ text
  pub apart : AreApart (delims_in p)
  pub plain : ArePlain (delims_in p)
  pub there : IsThere text (delims_in p) p.set
  pub fine : p.interchange.fault ≡ None → AreFine to p.group p.set

module _ (to : Delims) (text : List ℕ) (x : JudgedValue) (text_is : x.text ≡ text)
    (apart : AreApart (header_delims x.interchange.header)) (plain : ArePlain (header_delims x.interchange.header)) where
  abbrev there_in : GroupEntry → Type 0
  there_in g = All (IsThere text (header_delims x.interchange.header)) g.sets

  abbrev fine_in : GroupEntry → Type 0
  fine_in g = All (AreFine to g) g.sets

  sets_placed : (g : GroupEntry) (standing : GroupStanding) (n : ℕ) (sets : List SetEnvelope)
      → All (IsThere text (header_delims x.interchange.header)) sets → (x.fault ≡ None → All (AreFine to g) sets)
      → All (IsPlaced to text) (sets_from x g standing n sets)
  sets_placed g standing n [] there fine = All-nil (IsPlaced to text)
  sets_placed g standing n (set ∷ sets) there fine =
      let T : SetEnvelope → Type 0 = IsThere text (header_delims x.interchange.header) in
      All-cons (IsPlaced to text) (record { interchange = x; group = g; standing = standing; index = n; set = set })
      (sets_from x g standing (n + 1) sets)
      (record {
        text_is = text_is;
        apart = apart;
        plain = plain;
        there = All-head T set sets there;
        fine = λ none. All-head (AreFine to g) set sets (fine none);
      })
      (sets_placed g standing (n + 1) sets (All-tail T set sets there) (λ none. All-tail (AreFine to g) set sets (fine none)))

  groups_placed : (n : ℕ) (gs : List GroupEntry) → All there_in gs → (x.fault ≡ None → All fine_in gs)
      → All (IsPlaced to text) (sets_of_groups_from x n gs)
  groups_placed n [] there fine = All-nil (IsPlaced to text)
  groups_placed n (g ∷ gs) there fine =
      All-append (IsPlaced to text) (sets_from x g (standing_at x.standings n) 0 g.sets) (sets_of_groups_from x (n + 1) gs)
      (sets_placed g (standing_at x.standings n) 0 g.sets (All-head there_in g gs there)
      (λ none. All-head fine_in g gs (fine none)))
      (groups_placed (n + 1) gs (All-tail there_in g gs there) (λ none. All-tail fine_in g gs (fine none)))

sets_fine : (to : Delims) (g : GroupEntry) → AreElementsUndivided to g → is_group_header g.header ≡ true → (sets : List SetEnvelope)
    → list_all (λ (set : SetEnvelope). is_set_header set.header) sets ≡ true → All (AreFine to g) sets
sets_fine to g undivided gs [] sts = All-nil (AreFine to g)
sets_fine to g undivided gs (set ∷ sets) sts =
    let both = and_parts (is_set_header set.header) (list_all (λ (set : SetEnvelope). is_set_header set.header) sets) sts in
    All-cons (AreFine to g) set sets (record { undivided = undivided; gs = gs; st = both.0 }) (sets_fine to g undivided gs sets both.1)

groups_fine : (to : Delims) (gs : List GroupEntry) → All (AreElementsUndivided to) gs
    → list_all (λ (g : GroupEntry). is_group_header g.header) gs ≡ true → list_all has_set_headers gs ≡ true
    → All (λ (g : GroupEntry). All (AreFine to g) g.sets) gs
groups_fine to [] undivided headers sets = All-nil (λ (g : GroupEntry). All (AreFine to g) g.sets)
groups_fine to (g ∷ gs) undivided headers sets =
    let U : GroupEntry → Type 0 = AreElementsUndivided to in
    let h = and_parts (is_group_header g.header) (list_all (λ (g : GroupEntry). is_group_header g.header) gs) headers in
    let s = and_parts (has_set_headers g) (list_all has_set_headers gs) sets in
    All-cons (λ (g : GroupEntry). All (AreFine to g) g.sets) g gs (sets_fine to g (All-head U g gs undivided) h.0 g.sets s.0)
    (groups_fine to gs (All-tail U g gs undivided) h.1 s.1)

-- an interchange that is known
abbrev pub IsKnownSource : (text : List ℕ) → CheckedInterchange → Type 0
IsKnownSource text x = (IsSource text x.entry.interchange × IsSettledSound x.entry) × ArePlain (header_delims x.entry.interchange.header)

known_placed : (to : Delims) → CanDivide to → (text : List ℕ) (known : List CheckedInterchange) → All (IsKnownSource text) known
    → All (IsPlaced to text) (all_sets (map (judged text) known))
known_placed to can text [] all = All-nil (IsPlaced to text)
known_placed to can text (x ∷ known) all =
    let here : IsKnownSource text x = All-head (IsKnownSource text) x known all in
    All-append (IsPlaced to text) (sets_of (judged text x)) (all_sets (map (judged text) known))
    (groups_placed to text (judged text x) refl here.0.0.0 here.1 0 x.entry.interchange.content.groups here.0.0.1
    (λ none.
    let sound = here.0.1 none in
    let headers = have_headers x.entry.interchange sound in
    groups_fine to x.entry.interchange.content.groups (elements_undivided to can x.entry.interchange sound) headers.0 headers.1))
    (known_placed to can text known (All-tail (IsKnownSource text) x known all))

-- a delivered set, and its headers
pub record IsSent (to : Delims) (setup : SetupValue) (p : PlacedValue) : Type 0 where
  pub ready : IsReady to setup p
  pub plain : ArePlain (delims_in p)
  pub gs : is_group_header p.group.header ≡ true
  pub st : is_set_header p.set.header ≡ true

ready : (setup : SetupValue) (place : ℕ) (partner : Partner) (text : List ℕ) (p : PlacedValue)
    → slice_get setup.partners place ≡ Some partner → IsSoundSetup setup → IsSoundPartner (length setup.guides) partner
    → IsPlaced partner.delims text p → is_delivered_to setup place p ≡ true → IsSent partner.delims setup p
ready setup place partner text p at_place sound own placed delivered =
    let free = delivered_free setup place partner at_place p delivered in
    let fine : AreFine partner.delims p.group p.set = placed.fine (faultless setup place partner at_place p free.0) in
    record {
      ready = is_ready setup place partner text p at_place sound own (record {
        text_is = placed.text_is;
        apart = placed.apart;
        there = placed.there;
        elements = λ none. (placed.fine none).undivided;
      }) delivered;
      plain = placed.plain;
      gs = fine.gs;
      st = fine.st;
    }

-- what is known of a night
pub sources_known : (text : List ℕ) (setup : SetupValue) (known : List CheckedInterchange) (outside : ℕ)
    → IsKnown text setup known outside → All (IsKnownSource text) known
sources_known text setup known outside is =
    let faults = settled_faults setup is.index.entries in
    let entries : List IndexEntry = (settled is.index faults).entries in
    let sources : All (λ (e : IndexEntry). IsSource text e.interchange) entries = settled_sources text is.index faults is.read in
    let sounds : All IsSettledSound entries = settled_sound text setup is.index is.read in
    let plains : All HasPlain entries = settled_plain text is.index faults is.read in
    pairs_all (λ n e x. IsCheckedAs text setup e x) (IsKnownSource text) entries known is.answered (λ n e x at_e answered.
    subst (λ (y : IndexEntry). (IsSource text y.interchange × IsSettledSound y) × HasPlain y) (sym answered.entry) (
      (
        at_index (λ (y : IndexEntry). IsSource text y.interchange) entries n e at_e sources,
        at_index IsSettledSound entries n e at_e
            sounds,
      ),
      at_index HasPlain entries n e at_e plains,
    ))

-- the sets that are delivered to a partner are sent to it
pub sets_sent : (text : List ℕ) (setup : SetupValue) (known : List CheckedInterchange) → IsSoundSetup setup
    → All (IsKnownSource text) known → (place : ℕ) (partner : Partner) → slice_get setup.partners place ≡ Some partner
    → All (IsSent partner.delims setup) (sets_to text setup known place)
sets_sent text setup known sound sources place partner at_place =
    let own = at_index (IsSoundPartner (length setup.guides)) setup.partners place partner at_place sound.partners in
    All-weaker (λ p. IsPlaced partner.delims text p × (is_delivered_to setup place p ≡ true)) (IsSent partner.delims setup)
    (λ p both. ready setup place partner text p at_place sound own both.0 both.1) (sets_to text setup known place)
    (passing (IsPlaced partner.delims text) (is_delivered_to setup place) (all_sets (map (judged text) known))
    (known_placed partner.delims own.divides text known sources))
