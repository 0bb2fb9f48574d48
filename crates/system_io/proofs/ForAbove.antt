-- What clap found in the words of a program is what the definitions say of them; and writes one after another.
use Rattle.std.proofs.Common.{◌≡◌, ◌⊎◌, ◌++◌, ◌∙◌, ℕ, List, Option, None, Some, true, inl, inr, ap, append_assoc, subst}
use Rattle.std.specs.Io.KnownBytes.{Appends}
use Rattle.clap.specs.Words.{App, HasKind, HasMatchesOf, IsAmong, Text, all_of, fault_of, first_of, first_value, found_of}
use Rattle.clap.specs.Words.{is_simple, kind_of, matches_of, takes}
use Rattle.clap.specs.declared.error.Error.{Error}
use Rattle.clap.specs.declared.error.kind.ErrorKind.{ErrorKind}
use Rattle.clap.specs.declared.error.kind.ErrorKind.TheVariants.{DisplayHelp, DisplayVersion, OutOfMemory}
use Rattle.clap.specs.declared.parser.matches.ArgMatches.{ArgMatches}
use Rattle.clap.proofs.WalkLemmas.{first_value-rows, raw_values-rows}
use Rattle.system_io.specs.Words.{values_found}

-- the value that clap found for an argument, and the values
pub found : (app : App) → is_simple app ≡ true → (words : List Text) (m : ArgMatches) (name : Text) → HasMatchesOf app words m
    → first_value (found_of m) name ≡ first_of name (matches_of app words)
found app simple words m name has = first_value-rows (found_of m) name ∙ ap (first_of name) (has simple).0

pub all_found : (app : App) → is_simple app ≡ true → (words : List Text) (m : ArgMatches) (name : Text) → HasMatchesOf app words m
    → values_found (found_of m) name ≡ all_of name (matches_of app words)
all_found app simple words m name has = raw_values-rows (found_of m) name ∙ ap (all_of name) (has simple).0

asked_by : (app : App) (words : List Text) (e : Error) → HasKind (fault_of app words) e
    → (kind_of e ≡ DisplayHelp) ⊎ (kind_of e ≡ DisplayVersion)
    → IsAmong DisplayHelp (fault_of app words) ⊎ IsAmong DisplayVersion (fault_of app words)
asked_by app words e (inl memory) (inl help) = cc
asked_by app words e (inl memory) (inr version) = cc
asked_by app words e (inr among) (inl help) = inl (subst (λ (k : ErrorKind). IsAmong k (fault_of app words)) help among)
asked_by app words e (inr among) (inr version) = inr (subst (λ (k : ErrorKind). IsAmong k (fault_of app words)) version among)

no_memory : (kind : ErrorKind) → (kind ≡ DisplayHelp) ⊎ (kind ≡ DisplayVersion) → kind ≡ OutOfMemory → ⊥
no_memory kind (inl help) memory = cc
no_memory kind (inr version) memory = cc

-- arguments of which clap says that they ask for a text ask for it, and are none to run by
pub asks_for_text : (app : App) (words : List Text) (e : Error) → HasKind (fault_of app words) e
    → (takes app words ≡ true → kind_of e ≡ OutOfMemory) → (kind_of e ≡ DisplayHelp) ⊎ (kind_of e ≡ DisplayVersion)
    → (IsAmong DisplayHelp (fault_of app words) ⊎ IsAmong DisplayVersion (fault_of app words)) × (takes app words ≡ true → ⊥)
asks_for_text app words e kind passes is = (asked_by app words e kind is, λ taken. no_memory (kind_of e) is (passes taken))

-- two writes, where what is there is known
pub writes_on : (a b c : Option (List ℕ)) (xs ys : List ℕ) → Appends a b xs → Appends b c ys → Appends a c (xs ++ ys)
writes_on None b c xs ys first second = tt
writes_on (Some old) None c xs ys first second = absurd first
writes_on (Some old) (Some mid) None xs ys first second = absurd second
writes_on (Some old) (Some mid) (Some new) xs ys first second =
    second ∙ ap (λ (l : List ℕ). l ++ ys) first ∙ append_assoc old xs ys
