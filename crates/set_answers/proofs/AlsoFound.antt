-- Findings that come after others, put together.
use Rattle.std.proofs.Common.{◌≡◌, List, [], ◌∷◌, ◌++◌, sym, subst, append_assoc}
use Rattle.std.specs.List.{AllZip}
use Rattle.std.proofs.lemmas.List.{append-nil}
use Rattle.set_check.specs.declared.finding.Finding.{Finding}
use Rattle.set_answers.specs.AlsoFound.{AreAlsoFound}
use Rattle.set_answers.specs.Asked.{Asked, IsFound}
use Rattle.set_answers.proofs.Zipping.{zip_append}

pub none_found : (fs : List Finding) → AreAlsoFound [] fs fs
none_found fs asked h = subst (λ (l : List Asked). AllZip IsFound l fs) (sym (append-nil asked)) h

pub one_found : (a : Asked) (f : Finding) (old new : List Finding) → new ≡ old ++ f ∷ [] → IsFound a f → AreAlsoFound (a ∷ []) old new
one_found a f old new pushed is asked h =
    subst (λ (l : List Finding). AllZip IsFound (asked ++ a ∷ []) l) (sym pushed)
    (zip_append IsFound asked (a ∷ []) old (f ∷ []) h (is, tt))

pub both_found : (bs cs : List Asked) (one two three : List Finding) → AreAlsoFound bs one two → AreAlsoFound cs two three
    → AreAlsoFound (bs ++ cs) one three
both_found bs cs one two three first second asked h =
    subst (λ (l : List Asked). AllZip IsFound l three) (append_assoc asked bs cs) (second (asked ++ bs) (first asked h))

pub same_found : (bs cs : List Asked) (old new : List Finding) → bs ≡ cs → AreAlsoFound bs old new → AreAlsoFound cs old new
same_found bs cs old new same found = subst (λ (l : List Asked). AreAlsoFound l old new) same found
