-- Sound nights go on.
use Rattle.std.proofs.Common.{◌≡◌, ℕ, List, [], ◌∷◌, ◌++◌, sym, subst, ap, ◌∙◌, append-nil, append_assoc}
use Rattle.std.specs.Prelude.{reverse}
use Rattle.std.proofs.lemmas.List.{reverse-append}
use Rattle.hub_ledger.specs.declared.entry.NightEntry.{NightEntry}
use Rattle.hub_ledger.specs.Entries.{GoOn}
use Rattle.night_breaches.specs.Sound.{AreSound}

turned : (night : NightEntry) (older nights : List NightEntry) → reverse nights ++ night ∷ older ≡ reverse (night ∷ nights) ++ older
turned night older nights =
    sym (ap (λ (l : List NightEntry). l ++ older) (reverse-append (night ∷ []) nights) ∙ append_assoc (reverse nights) (night ∷ []) older)

pub after : (limit : List ℕ) (older nights : List NightEntry) → AreSound limit older nights → GoOn older → GoOn (reverse nights ++ older)
after limit older [] sound go = go
after limit older (night ∷ nights) sound go =
    subst GoOn (turned night older nights) (after limit (night ∷ older) nights sound.1 (sound.0.goes_on, go))

pub sound_go_on : (limit : List ℕ) (nights : List NightEntry) → AreSound limit [] nights → GoOn (reverse nights)
sound_go_on limit nights sound = subst GoOn (append-nil (reverse nights)) (after limit [] nights sound tt)
