-- The sets of a text begin with ST, and S and T divide nothing in them.
use Rattle.std.proofs.Common.{ℕ, ◌+◌, List, [], ◌∷◌, map, Option, sym, subst}
use Rattle.std.specs.List.{All}
use Rattle.std.proofs.lemmas.List.Elements.{All-append, All-cons, All-filter, All-head, All-nil, All-tail}
use Rattle.x12_bytes.specs.Header.{header_delims}
use Rattle.hub_kinds.specs.declared.interchange.InterchangeFault.{InterchangeFault}
use Rattle.env_index.specs.Words.{ChainFrom, extents_of, GroupEntry, IndexEntry, IndexValue, InterchangeEntry, IsEntryOf, IsIndex}
use Rattle.env_index.specs.Words.{with_faults}
use Rattle.env_index.specs.declared.entry.SetEnvelope.{SetEnvelope}
use Rattle.partner_setup.specs.Setup.{SetupValue}
use Rattle.mailbox.specs.Deliveries.{delivered_to, is_delivered_to}
use Rattle.answered_sets.specs.Judged.{JudgedValue, all_sets, sets_from, sets_of, sets_of_groups_from, standing_at}
use Rattle.answered_sets.specs.declared.standing.GroupStanding.{GroupStanding}
use Rattle.set_answers.specs.CheckedText.{CheckedInterchange, IsCheckedAs, AreCheckedAs, judged}
use Rattle.set_answers.specs.Settled.{settled_entries, settled_faults}
use Rattle.night_law.proofs.ForAbove.{at_index, IsSource, IsThere, pairs_all, settled_sources}
use Rattle.night_equal_writing.specs.Deliveries.{IsPlain}
use Rattle.night_equal_night.proofs.There.{HasLetters, letters, begins}

abbrev IsLettered : IndexEntry → Type 0
IsLettered e = HasLetters (header_delims e.interchange.header)

chain_letters : (text : List ℕ) (from : ℕ) (es : List IndexEntry) → ChainFrom text from (extents_of es) → All (IsEntryOf text) es
    → All IsLettered es
chain_letters text from [] chain are = All-nil IsLettered
chain_letters text from (e ∷ es) chain are =
    All-cons IsLettered e es
    (subst (λ (x : InterchangeEntry). HasLetters (header_delims x.header)) (sym (All-head (IsEntryOf text) e es are).read.read)
    (letters text e.interchange.start chain.0.head))
    (chain_letters text e.interchange.end es chain.2 (All-tail (IsEntryOf text) e es are))

letters_kept : (es : List IndexEntry) (faults : List (Option InterchangeFault)) → All IsLettered es → All IsLettered (with_faults es faults)
letters_kept [] faults all = all
letters_kept (e ∷ es) [] all = all
letters_kept (e ∷ es) (f ∷ fs) all =
    All-cons IsLettered _ _ (All-head IsLettered e es all) (letters_kept es fs (All-tail IsLettered e es all))

-- an interchange that is known
abbrev IsKnownSource : (text : List ℕ) → CheckedInterchange → Type 0
IsKnownSource text c = IsSource text c.entry.interchange × IsLettered c.entry

module _ (text : List ℕ) (x : JudgedValue) (marks : HasLetters (header_delims x.interchange.header)) where
  abbrev there_in : GroupEntry → Type 0
  there_in g = All (IsThere text (header_delims x.interchange.header)) g.sets

  sets_plain : (g : GroupEntry) (standing : GroupStanding) (n : ℕ) (sets : List SetEnvelope)
      → All (IsThere text (header_delims x.interchange.header)) sets → All IsPlain (sets_from x g standing n sets)
  sets_plain g standing n [] there = All-nil IsPlain
  sets_plain g standing n (set ∷ sets) there =
      let T : SetEnvelope → Type 0 = IsThere text (header_delims x.interchange.header) in
      All-cons IsPlain (record { interchange = x; group = g; standing = standing; index = n; set = set })
      (sets_from x g standing (n + 1) sets)
      (record {
        id = begins text (header_delims x.interchange.header) set (All-head T set sets there);
        s = marks.s;
        t = marks.t;
      })
      (sets_plain g standing (n + 1) sets (All-tail T set sets there))

  groups_plain : (n : ℕ) (gs : List GroupEntry) → All there_in gs → All IsPlain (sets_of_groups_from x n gs)
  groups_plain n [] there = All-nil IsPlain
  groups_plain n (g ∷ gs) there =
      All-append IsPlain (sets_from x g (standing_at x.standings n) 0 g.sets) (sets_of_groups_from x (n + 1) gs)
      (sets_plain g (standing_at x.standings n) 0 g.sets (All-head there_in g gs there))
      (groups_plain (n + 1) gs (All-tail there_in g gs there))

known_plain : (text : List ℕ) (known : List CheckedInterchange) → All (IsKnownSource text) known
    → All IsPlain (all_sets (map (judged text) known))
known_plain text [] all = All-nil IsPlain
known_plain text (c ∷ known) all =
    let here : IsKnownSource text c = All-head (IsKnownSource text) c known all in
    All-append IsPlain (sets_of (judged text c)) (all_sets (map (judged text) known))
    (groups_plain text (judged text c) here.1 0 c.entry.interchange.content.groups here.0.1)
    (known_plain text known (All-tail (IsKnownSource text) c known all))

pub delivered_plain : (text : List ℕ) (setup : SetupValue) (index : IndexValue) (known : List CheckedInterchange) → IsIndex text index
    → AreCheckedAs text setup (settled_entries setup index.entries) known → (place : ℕ)
    → All IsPlain (delivered_to setup place (map (judged text) known))
delivered_plain text setup index known is checked place =
    let entries : List IndexEntry = settled_entries setup index.entries in
    let sources : All (λ (e : IndexEntry). IsSource text e.interchange) entries =
    settled_sources text index (settled_faults setup index.entries) is in
    let lettered : All IsLettered entries =
    letters_kept index.entries (settled_faults setup index.entries) (chain_letters text 0 index.entries is.chain is.entries) in
    All-filter (is_delivered_to setup place) IsPlain (all_sets (map (judged text) known))
    (known_plain text known (pairs_all (λ n e c. IsCheckedAs text setup e c) (IsKnownSource text) entries known checked
    (λ n e c at_e answered. subst (λ (y : IndexEntry). IsSource text y.interchange × IsLettered y) (sym answered.entry) (
      at_index (λ (y : IndexEntry). IsSource text y.interchange) entries n e at_e sources,
      at_index IsLettered entries n e at_e lettered,
    ))))
