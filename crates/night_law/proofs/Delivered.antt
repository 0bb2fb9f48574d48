-- The sets that are delivered to a partner can be read again.
use Rattle.std.proofs.Common.{◌≡◌, ◌≢◌, ℕ, ◌+◌, Bool, true, false, cond, ◌&&◌, ◌||◌, not, List, [], ◌∷◌, Option, Some, None}
use Rattle.std.proofs.Common.{length, map, refl, sym, ap, subst, ◌∙◌, eqb-true, true≢false}
use Rattle.std.specs.Prelude.{filter, is_none, slice_get, if◌then◌else◌}
use Rattle.std.specs.List.{All, list_any}
use Rattle.std.proofs.lemmas.Bool.{and_parts, false≢true, not-true}
use Rattle.std.proofs.lemmas.List.Elements.{All-append, All-cons, All-head, All-nil, All-tail, All-weaker}
use Rattle.x12_bytes.specs.Header.{header_delims}
use Rattle.x12_bytes.specs.declared.delims.Delims.{Delims}
use Rattle.x12_segs.specs.Words.{may_stand_in_set, kind_of, element_of}
use Rattle.x12_write.specs.Undivided.{CanDivide, IsUndivided}
use Rattle.moment.specs.Moment.{IsMoment}
use Rattle.env_index.specs.declared.entry.SetEnvelope.{SetEnvelope}
use Rattle.env_index.specs.Words.{IndexEntry, settled, GroupEntry}
use Rattle.partner_setup.specs.declared.partner.Partner.{Partner}
use Rattle.partner_setup.specs.Setup.{SetupValue, route_of}
use Rattle.partner_setup.specs.SetupFaults.{may_end}
use Rattle.partner_setup.specs.Sound.{IsSoundPartner, IsSoundSetup}
use Rattle.partner_setup.proofs.ForAbove.{undivided}
use Rattle.mailbox.specs.declared.outcome.Outcome.TheVariants.{DeliveredTo, HeldForDelimiter}
use Rattle.answered_sets.specs.declared.standing.GroupStanding.{GroupStanding}
use Rattle.mailbox.specs.Deliveries.{is_not_rejected, is_blocked, is_deliverable, is_delivered_to, is_delivery_to, outcome_at}
use Rattle.mailbox.specs.Deliveries.{outcome_by, outcomes_on}
use Rattle.answered_sets.specs.Judged.{JudgedValue, PlacedValue, all_sets, delims_in, sets_of_groups_from, is_fa, is_refused, sets_from}
use Rattle.answered_sets.specs.Judged.{sets_of}
use Rattle.answered_sets.specs.Judged.{standing_at, verdict_by_standing}
use Rattle.mailbox.specs.Mailbox.{code_by}
use Rattle.mailbox.specs.Numbered.{sender_in}
use Rattle.set_answers.specs.CheckedText.{CheckedInterchange, IsCheckedAs, acknowledged_to, groups_to, judged}
use Rattle.set_answers.specs.Settled.{settled_faults}
use Rattle.night_batches.specs.declared.night.Night.{Night}
use Rattle.night_batches.specs.Night.{IsNight, box_of, sets_to}
use Rattle.night_law.specs.SetsRead.{AreBoxesRead, AreSetsFound}
use Rattle.night_law.proofs.Mailboxes.{IsReady, sets_are_found}
use Rattle.night_law.proofs.Changing.{AreApart}
use Rattle.night_law.proofs.Enveloping.{code_inside, ending}
use Rattle.night_law.proofs.Headers.{at_index}
use Rattle.night_law.proofs.Pairs.{pairs_weaker_at}
use Rattle.night_law.proofs.QuotedElements.{AreElementsUndivided, elements_undivided}
use Rattle.night_law.proofs.SettledSound.{IsSettledSound, none_is, settled_sound}
use Rattle.night_law.proofs.Sources.{IsSource, IsThere, settled_sources}
use Rattle.night_law.proofs.SpanBytes.{IsRawView, header_raw, inner_is, inner_kinds, inner_raw}
use Rattle.night_law.proofs.Together.{pairs_all}

-- a set of a judged interchange, as it stands in the text
pub record IsPlaced (to : Delims) (text : List ℕ) (p : PlacedValue) : Type 0 where
  pub text_is : p.interchange.text ≡ text
  pub apart : AreApart (delims_in p)
  pub there : IsThere text (delims_in p) p.set
  pub elements : p.interchange.fault ≡ None → AreElementsUndivided to p.group

module _ (to : Delims) (text : List ℕ) (x : JudgedValue) (text_is : x.text ≡ text)
    (apart : AreApart (header_delims x.interchange.header)) where
  abbrev there_in : GroupEntry → Type 0
  there_in g = All (IsThere text (header_delims x.interchange.header)) g.sets

  sets_placed : (g : GroupEntry) (standing : GroupStanding) (n : ℕ) (sets : List SetEnvelope)
      → All (IsThere text (header_delims x.interchange.header)) sets → (x.fault ≡ None → AreElementsUndivided to g)
      → All (IsPlaced to text) (sets_from x g standing n sets)
  sets_placed g standing n [] there elements = All-nil (IsPlaced to text)
  sets_placed g standing n (set ∷ sets) there elements =
      let T : SetEnvelope → Type 0 = IsThere text (header_delims x.interchange.header) in
      All-cons (IsPlaced to text) (record { interchange = x; group = g; standing = standing; index = n; set = set })
      (sets_from x g standing (n + 1) sets)
      (record { text_is = text_is; apart = apart; there = All-head T set sets there; elements = elements })
      (sets_placed g standing (n + 1) sets (All-tail T set sets there) elements)

  groups_placed : (n : ℕ) (gs : List GroupEntry) → All there_in gs → (x.fault ≡ None → All (AreElementsUndivided to) gs)
      → All (IsPlaced to text) (sets_of_groups_from x n gs)
  groups_placed n [] there elements = All-nil (IsPlaced to text)
  groups_placed n (g ∷ gs) there elements =
      All-append (IsPlaced to text) (sets_from x g (standing_at x.standings n) 0 g.sets) (sets_of_groups_from x (n + 1) gs)
      (sets_placed g (standing_at x.standings n) 0 g.sets (All-head there_in g gs there)
      (λ none. All-head (AreElementsUndivided to) g gs (elements none)))
      (groups_placed (n + 1) gs (All-tail there_in g gs there) (λ none. All-tail (AreElementsUndivided to) g gs (elements none)))

-- an interchange that is known
abbrev IsKnownSource : (text : List ℕ) → CheckedInterchange → Type 0
IsKnownSource text x = IsSource text x.entry.interchange × IsSettledSound x.entry

known_placed : (to : Delims) → CanDivide to → (text : List ℕ) (known : List CheckedInterchange) → All (IsKnownSource text) known
    → All (IsPlaced to text) (all_sets (map (judged text) known))
known_placed to can text [] all = All-nil (IsPlaced to text)
known_placed to can text (x ∷ known) all =
    let here : IsKnownSource text x = All-head (IsKnownSource text) x known all in
    All-append (IsPlaced to text) (sets_of (judged text x)) (all_sets (map (judged text) known))
    (groups_placed to text (judged text x) refl here.0.0 0 x.entry.interchange.content.groups here.0.1
    (λ none. elements_undivided to can x.entry.interchange (here.1 none)))
    (known_placed to can text known (All-tail (IsKnownSource text) x known all))

-- those that pass a test
pub passing : {A : Type 0} (P : A → Type 0) (test : A → Bool) (xs : List A) → All P xs → All (λ x. P x × (test x ≡ true)) (filter test xs)
passing P test [] all = All-nil (λ x. P x × (test x ≡ true))
passing {A} P test (x ∷ xs) all = by (passing P test xs (All-tail P x xs all)) (test x) refl
  where
    Q : A → Type 0
    Q y = P y × (test y ≡ true)

    by : All Q (filter test xs) → (b : Bool) → test x ≡ b → All Q (cond b (x ∷ filter test xs) (filter test xs))
    by rest true is = All-cons Q x (filter test xs) (All-head P x xs all, is) rest
    by rest false is = rest

-- what is delivered to a partner isn't blocked for it
module _ (setup : SetupValue) (place : ℕ) (partner : Partner) (at_place : slice_get setup.partners place ≡ Some partner)
    (p : PlacedValue) where
  by_target : (to : ℕ) (o : Option Partner) → slice_get setup.partners to ≡ o → is_delivery_to place (outcome_by o p to) ≡ true
      → is_blocked partner.delims p ≡ false
  by_target to None is delivered = absurd (false≢true delivered)
  by_target to (Some q) is delivered = by (is_blocked q.delims p) refl delivered
    where
      by : (b : Bool) → is_blocked q.delims p ≡ b → is_delivery_to place (if b then HeldForDelimiter to else DeliveredTo to) ≡ true
          → is_blocked partner.delims p ≡ false
      by true blocked delivered = absurd (false≢true delivered)
      by false blocked delivered =
          let same : to ≡ place = eqb-true to place delivered in
          let there : Some q ≡ Some partner = sym is ∙ ap (slice_get setup.partners) same ∙ at_place in
          let one : q ≡ partner = cc in
          subst (λ (r : Partner). is_blocked r.delims p ≡ false) one blocked

  on_targets : (ts : List ℕ) → list_any (is_delivery_to place) (map (outcome_at setup p) ts) ≡ true → is_blocked partner.delims p ≡ false
  on_targets [] any = absurd (false≢true any)
  on_targets (t ∷ ts) any = by (on_targets ts) (is_delivery_to place (outcome_at setup p t)) refl any
    where
      by : (list_any (is_delivery_to place) (map (outcome_at setup p) ts) ≡ true → is_blocked partner.delims p ≡ false) → (b : Bool)
          → is_delivery_to place (outcome_at setup p t) ≡ b
          → (b || list_any (is_delivery_to place) (map (outcome_at setup p) ts)) ≡ true → is_blocked partner.delims p ≡ false
      by rest true is any = by_target t (slice_get setup.partners t) refl is
      by rest false is any = rest any

  on_route : (route : List ℕ) → list_any (is_delivery_to place) (outcomes_on setup p route) ≡ true → is_blocked partner.delims p ≡ false
  on_route [] any = absurd (false≢true any)
  on_route (t ∷ ts) any = on_targets (t ∷ ts) any

  pub delivered_free : is_delivered_to setup place p ≡ true → (is_deliverable p ≡ true) × (is_blocked partner.delims p ≡ false)
  delivered_free delivered = by (is_deliverable p) refl delivered
    where
      route : List ℕ
      route = route_of setup (element_of p.group.header 3)

      by : (b : Bool) → is_deliverable p ≡ b → list_any (is_delivery_to place) (if b then outcomes_on setup p route else []) ≡ true
          → (is_deliverable p ≡ true) × (is_blocked partner.delims p ≡ false)
      by true is any = (is, on_route route any)
      by false is any = absurd (false≢true any)

  pub faultless : is_deliverable p ≡ true → p.interchange.fault ≡ None
  faultless deliverable =
      let last = and_parts (is_not_rejected (verdict_by_standing p) && p.standing.clear && not (is_fa p.group)) (not
      (is_refused p.interchange))
      deliverable in
      let refused : is_refused p.interchange ≡ false = not-true (is_refused p.interchange) last.1 in
      none_is p.interchange.fault (was_true (is_none p.interchange.fault) refused)
    where
      was_true : (b : Bool) → not b ≡ false → b ≡ true
      was_true true is = refl
      was_true false is = absurd (true≢false is)

-- the code of a sender holds no delimiter
code_undivided : (to : Delims) (e : (may_end to.element ≡ true) × (may_end to.terminator ≡ true)) (setup : SetupValue) → IsSoundSetup setup
    → (n : ℕ) (o : Option Partner) → slice_get setup.partners n ≡ o → IsUndivided to (code_by o)
code_undivided to marks setup sound n None is = All-nil (λ b. (b ≢ to.element) × (b ≢ to.terminator))
code_undivided to marks setup sound n (Some q) is =
    let one : IsSoundPartner (length setup.guides) q =
    at_index (IsSoundPartner (length setup.guides)) setup.partners n q is sound.partners in
    undivided to.element to.terminator marks.0 marks.1 q.code (code_inside q.qualifier q.id q.code one.ids)

-- a set that is delivered, as it stands in the text, can be read again
pub is_ready : (setup : SetupValue) (place : ℕ) (partner : Partner) (text : List ℕ) (p : PlacedValue)
    → slice_get setup.partners place ≡ Some partner → IsSoundSetup setup → IsSoundPartner (length setup.guides) partner
    → IsPlaced partner.delims text p → is_delivered_to setup place p ≡ true → IsReady partner.delims setup p
is_ready setup place partner text p at_place sound own placed delivered =
    let d : Delims = partner.delims in
    let from : Delims = delims_in p in
    let free = delivered_free setup place partner at_place p delivered in
    let elements : AreElementsUndivided d p.group = placed.elements (faultless setup place partner at_place p free.0) in
    let inner = inner_is text p placed.text_is placed.there in
    record {
      fit = record {
        apart = placed.apart;
        header = header_raw text from p.set placed.there;
        inner = subst (All (IsRawView from)) (sym inner) (inner_raw text from p.set placed.there);
        kinds = subst (All (λ seg. may_stand_in_set (kind_of seg) ≡ true)) (sym inner) (inner_kinds text from p.set placed.there);
        free = free.1;
      };
      functional_id = elements.functional_id;
      version = elements.version;
      sender = code_undivided d (ending d d.repetition own.delims) setup sound (sender_in p) (slice_get setup.partners (sender_in p)) refl;
    }

pub boxes_read_by_night : (text : List ℕ) (setup : SetupValue) (at : List ℕ) (night : Night) → IsSoundSetup setup → IsMoment at
    → IsNight text setup at night → AreBoxesRead text setup night.boxes
boxes_read_by_night text setup at night sound moment is =
    let index = is.is_known.index in
    let entries : List IndexEntry = (settled index (settled_faults setup index.entries)).entries in
    let read = is.is_known.read in
    let sources : All (λ (e : IndexEntry). IsSource text e.interchange) entries =
    settled_sources text index (settled_faults setup index.entries) read in
    let sounds : All IsSettledSound entries = settled_sound text setup index read in
    let known : All (IsKnownSource text) is.known =
    pairs_all (λ n e x. IsCheckedAs text setup e x) (IsKnownSource text) entries is.known is.is_known.answered (λ n e x at_e answered.
    subst (λ (y : IndexEntry). IsSource text y.interchange × IsSettledSound y) (sym answered.entry) (
      at_index (λ (y : IndexEntry). IsSource text y.interchange) entries n e at_e sources,
      at_index IsSettledSound entries n e at_e sounds,
    )) in
    record {
      known = is.known;
      outside = is.outside;
      is_known = is.is_known;
      each = pairs_weaker_at (λ place partner box. box ≡ box_of text setup at is.known place partner)
          (λ place partner box. AreSetsFound partner (sets_to text setup is.known place) box) setup.partners night.boxes
          (λ place partner box at_place same.
          let own = at_index (IsSoundPartner (length setup.guides)) setup.partners place partner at_place sound.partners in
          let sets = sets_to text setup is.known place in
          subst (AreSetsFound partner sets) (sym same)
          (sets_are_found setup partner (length setup.guides) sound.hub own at moment (length (acknowledged_to place is.known))
          (groups_to (acknowledged_to place is.known)) sets
          (All-weaker (λ p. IsPlaced partner.delims text p × (is_delivered_to setup place p ≡ true)) (IsReady partner.delims setup)
          (λ p both. is_ready setup place partner text p at_place sound own both.0 both.1) sets
          (passing (IsPlaced partner.delims text) (is_delivered_to setup place) (all_sets (map (judged text) is.known))
          (known_placed partner.delims own.divides text is.known known))))) is.is.boxes;
    }
