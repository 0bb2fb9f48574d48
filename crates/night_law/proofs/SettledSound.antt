-- An interchange that is settled without a fault has none of the faults 1 to 7.
use Rattle.std.proofs.Common.{◌≡◌, ℕ, Bool, true, List, [], ◌∷◌, ◌++◌, Option, Some, None, refl, sym, ◌∙◌}
use Rattle.std.specs.Prelude.{is_none}
use Rattle.std.specs.List.{All}
use Rattle.std.proofs.lemmas.Bool.{false≢true}
use Rattle.std.proofs.lemmas.List.Elements.{All-cons, All-head, All-nil, All-tail}
use Rattle.hub_kinds.specs.declared.interchange.InterchangeFault.{InterchangeFault}
use Rattle.env_index.specs.Words.{fault_of, IndexEntry, IndexValue, IsEntryOf, IsIndex, settled, with_faults}
use Rattle.partner_setup.specs.Setup.{SetupValue, sender_of}
use Rattle.set_answers.specs.Seen.{is_among}
use Rattle.set_answers.specs.Settled.{fault_alone, fault_behind, fault_if_earlier, fault_with_sender, faults_from, kept_keys}
use Rattle.set_answers.specs.Settled.{interchange_key_of}
use Rattle.set_answers.specs.Settled.{settled_faults}

abbrev pub IsSettledSound : IndexEntry → Type 0
IsSettledSound e = e.fault ≡ None → fault_of e.interchange ≡ None

alone_none : (fault : Option InterchangeFault) (sender : Option ℕ) → fault_with_sender fault sender ≡ None → fault ≡ None
alone_none (Some f) sender none = none
alone_none None sender none = refl

behind_none : (fault : Option InterchangeFault) (earlier : Bool) → fault_if_earlier fault earlier ≡ None → fault ≡ None
behind_none (Some f) earlier none = none
behind_none None earlier none = refl

entry_sound : (text : List ℕ) (setup : SetupValue) (before : List IndexEntry) (e : IndexEntry) → IsEntryOf text e
    → fault_behind setup before e ≡ None → fault_of e.interchange ≡ None
entry_sound text setup before e is none =
    let alone : fault_alone setup e ≡ None = behind_none (fault_alone setup e) (is_among (interchange_key_of e)
    (kept_keys setup before)) none in
    sym is.fault ∙ alone_none e.fault (sender_of setup e.interchange.header) alone

entries_sound : (text : List ℕ) (setup : SetupValue) (before es : List IndexEntry) → All (IsEntryOf text) es
    → All IsSettledSound (with_faults es (faults_from setup before es))
entries_sound text setup before [] are = All-nil IsSettledSound
entries_sound text setup before (e ∷ es) are =
    All-cons IsSettledSound _ _ (entry_sound text setup before e (All-head (IsEntryOf text) e es are))
    (entries_sound text setup (before ++ e ∷ []) es (All-tail (IsEntryOf text) e es are))

pub settled_sound : (text : List ℕ) (setup : SetupValue) (index : IndexValue) → IsIndex text index
    → All IsSettledSound (settled index (settled_faults setup index.entries)).entries
settled_sound text setup index is = entries_sound text setup [] index.entries is.entries

pub none_is : {A : Type 0} (o : Option A) → is_none o ≡ true → o ≡ None
none_is None none = refl
none_is (Some a) none = absurd (false≢true none)
