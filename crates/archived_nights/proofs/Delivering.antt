-- The sets of one night more.
use Rattle.std.proofs.Common.{◌≡◌, ◌∙◌, ◌||◌, ◌+◌, ◌<◌, ℕ, Bool, true, false, List, [], ◌∷◌, ◌++◌, ap, get_or, length, map, refl}
use Rattle.std.proofs.Common.{subst, sym, take}
use Rattle.std.specs.Prelude.{reverse}
use Rattle.std.specs.Str.{bytes_eq}
use Rattle.std.proofs.lemmas.List.{reverse-append, take_more}
use Rattle.std.proofs.lemmas.List.Folds.{list_any-append}
use Rattle.hub_kinds.specs.Words.{contains_text}
use Rattle.hub_ledger.specs.declared.entry.NightEntry.{NightEntry}
use Rattle.hub_ledger.specs.Entries.{keys_of}
use Rattle.night_entries.specs.Again.{key_of}
use Rattle.night_record.specs.declared.again.AgainSet.{AgainSet}
use Rattle.archived_nights.specs.Archive.{AreDelivered, newest_first}

pub newest_more : (nights : List NightEntry) (i : ℕ) (night : NightEntry) → i < length nights → night ≡ get_or nights i night
    → newest_first (take (i + 1) nights) ≡ night ∷ newest_first (take i nights)
newest_more nights i night low is =
    ap reverse (take_more nights i night low ∙ ap (λ (n : NightEntry). take i nights ++ n ∷ []) (sym is))
    ∙ reverse-append (take i nights) (night ∷ [])

either : (a b : Bool) → (a || b) ≡ (b || a)
either true true = refl
either true false = refl
either false true = refl
either false false = refl

pub delivered_more : (nights : List NightEntry) (i : ℕ) (night : NightEntry) (old new : List AgainSet) → i < length nights
    → night ≡ get_or nights i night → map key_of new ≡ map key_of old ++ night.delivered
    → AreDelivered (newest_first (take i nights)) old → AreDelivered (newest_first (take (i + 1) nights)) new
delivered_more nights i night old new low is adds so_far =
    subst (λ (l : List NightEntry). AreDelivered l new) (sym (newest_more nights i night low is))
    (λ key. ap (λ (ks : List (List ℕ)). contains_text ks key) adds
    ∙ list_any-append (λ t. bytes_eq t key) (map key_of old) night.delivered
    ∙ either (contains_text (map key_of old) key) (contains_text night.delivered key)
    ∙ ap (λ (b : Bool). contains_text night.delivered key || b) (so_far key)
    ∙ sym (list_any-append (λ t. bytes_eq t key) night.delivered (keys_of (newest_first (take i nights)))))
