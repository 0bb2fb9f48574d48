-- The files of a night, one partner on, and files that are put one after another.
use Rattle.std.proofs.Common.{◌≡◌, inl, inr, ◌<◌, ◌+◌, ◌++◌, [], ◌∷◌, ◌∙◌, ℕ, List, Option, None, Some, drop, length}
use Rattle.std.proofs.Common.{Result, Ok, Err, IfErr, subst}
use Rattle.std.specs.Result.{IsErrAnd}
use Rattle.std.proofs.Common.{get_or, map, refl, sym, ap, append-nil, append_assoc}
use Rattle.std.proofs.lemmas.List.{drop_more, map-append}
use Rattle.partner_setup.specs.declared.partner.Partner.{Partner}
use Rattle.night_command.specs.Outbox.{AddsFiles, AddsSome, File, KeepsFiles, file_of}
use Rattle.night_batches.specs.declared.night.Night.{Night}
use Rattle.partner_setup.specs.Setup.{SetupValue}
use Rattle.night_command.specs.NightFiles.{files_of, night_files, partner_files}
use Rattle.night_command.specs.Outcome.{IsNightOfSource, LeavesFront, LeavesOutbox, PutsFront}
use Rattle.night_command.specs.Failure.{put_failure}
use Rattle.night_command.specs.declared.failure.Failure.{Failure}
use Rattle.night_command.specs.declared.outbox.NamedText.{NamedText}
use Rattle.night_command.specs.declared.put_fault.PutFault.{PutFault}
use Rattle.night_command.specs.declared.put_fault.PutFault.TheVariants.{NoMemory, Output}

files_at : (ps : List Partner) (acks boxes : List (List ℕ)) (i : ℕ) (p : Partner) (a b : List ℕ) → i < length ps → i < length acks
    → i < length boxes → p ≡ get_or ps i p → a ≡ get_or acks i a → b ≡ get_or boxes i b
    → partner_files (drop i ps) (drop i acks) (drop i boxes)
    ≡ files_of p a b ++ partner_files (drop (i + 1) ps) (drop (i + 1) acks) (drop (i + 1) boxes)
files_at ps acks boxes i p a b l m n is is_ack is_box =
    let left = partner_files (drop (i + 1) ps) (drop (i + 1) acks) (drop (i + 1) boxes) in
    ap (λ (xs : List Partner). partner_files xs (drop i acks) (drop i boxes)) (drop_more ps i p l)
    ∙ ap (λ (xs : List (List ℕ)). partner_files (get_or ps i p ∷ drop (i + 1) ps) xs (drop i boxes)) (drop_more acks i a m)
    ∙ ap (partner_files (get_or ps i p ∷ drop (i + 1) ps) (get_or acks i a ∷ drop (i + 1) acks)) (drop_more boxes i b n)
    ∙ ap (λ (x : Partner). files_of x (get_or acks i a) (get_or boxes i b) ++ left) (sym is)
    ∙ ap (λ (x : List ℕ). files_of p x (get_or boxes i b) ++ left) (sym is_ack)
    ∙ ap (λ (x : List ℕ). files_of p a x ++ left) (sym is_box)

pub one_partner_on : (out new all : List File) (ps : List Partner) (acks boxes : List (List ℕ)) (i : ℕ) (p : Partner) (a b : List ℕ)
    → i < length ps → i < length acks → i < length boxes → p ≡ get_or ps i p → a ≡ get_or acks i a → b ≡ get_or boxes i b
    → new ≡ out ++ files_of p a b → out ++ partner_files (drop i ps) (drop i acks) (drop i boxes) ≡ all
    → new ++ partner_files (drop (i + 1) ps) (drop (i + 1) acks) (drop (i + 1) boxes) ≡ all
one_partner_on out new all ps acks boxes i p a b l m n is is_ack is_box added rest =
    let left = partner_files (drop (i + 1) ps) (drop (i + 1) acks) (drop (i + 1) boxes) in
    ap (λ (xs : List File). xs ++ left) added ∙ append_assoc out (files_of p a b) left
    ∙ ap (λ (xs : List File). out ++ xs) (sym (files_at ps acks boxes i p a b l m n is is_ack is_box)) ∙ rest

pub add_two : (a b c : Option (List File)) (xs ys : List File) → AddsFiles a b xs → AddsFiles b c ys → AddsFiles a c (xs ++ ys)
add_two None b c xs ys first second = tt
add_two (Some old) None c xs ys first second = absurd first
add_two (Some old) (Some mid) None xs ys first second = absurd second
add_two (Some old) (Some mid) (Some new) xs ys first second = second ∙ ap (λ (l : List File). l ++ ys) first ∙ append_assoc old xs ys

pub add_none : (a b : Option (List File)) (xs : List File) → AddsFiles a b xs → (c : Option (List File)) → KeepsFiles b c → AddsFiles a c xs
add_none None b xs first c kept = tt
add_none (Some old) None xs first c kept = absurd first
add_none (Some old) (Some mid) xs first None kept = absurd kept
add_none (Some old) (Some mid) xs first (Some new) kept = kept ∙ first

-- two files after others
pub ending : (none first second third files : List File) (f g : File) → none ≡ [] → first ≡ none ++ files → second ≡ first ++ f ∷ []
    → third ≡ second ++ g ∷ [] → third ≡ files ++ f ∷ g ∷ []
ending none first second third files f g empty one two three =
    three ∙ ap (λ (l : List File). l ++ g ∷ []) two ∙ append_assoc first (f ∷ []) (g ∷ [])
    ∙ ap (λ (l : List File). l ++ f ∷ g ∷ []) (one ∙ ap (λ (l : List File). l ++ files) empty)

-- one of the files that were left was put
pub one_more : (files done left rest : List NamedText) (file : NamedText) → files ≡ done ++ left → left ≡ file ∷ rest
    → files ≡ (done ++ file ∷ []) ++ rest
one_more files done left rest file whole is =
    whole ∙ ap (λ (xs : List NamedText). done ++ xs) is ∙ sym (append_assoc done (file ∷ []) rest)

-- these were put, and memory was refused for the next one
pub out_of_memory : (old now new : Option (List File)) (files done left : List NamedText) → AddsFiles old now (map file_of done)
    → KeepsFiles now new → files ≡ done ++ left → AddsSome old new (map file_of files) NoMemory
out_of_memory old now new files done left added kept whole = record {
  done = map file_of done;
  left = map file_of left;
  whole = ap (map file_of) whole ∙ map-append file_of done left;
  added = add_none old now (map file_of done) added new kept;
  at = tt;
}

-- these were put, and the next one couldn't be
pub stopped : (old now new : Option (List File)) (files done left rest : List NamedText) (file : NamedText)
    → AddsFiles old now (map file_of done) → KeepsFiles now new → files ≡ done ++ left → left ≡ file ∷ rest
    → AddsSome old new (map file_of files) (Output file.name)
stopped old now new files done left rest file added kept whole is = record {
  done = map file_of done;
  left = map file_of left;
  whole = ap (map file_of) whole ∙ map-append file_of done left;
  added = add_none old now (map file_of done) added new kept;
  at = (file_of file, map file_of rest, ap (map file_of) is, refl);
}

-- all files of a night were put
pub all_put : (told : Option (List ℕ)) (setup : SetupValue) (at : List ℕ) (had has : Option (List File)) (night : Night)
    → IsNightOfSource told setup at night → AddsFiles had has (night_files setup night) → PutsFront told setup at had has
all_put told setup at had has night is added = record {
  night = night;
  by = is;
  done = night_files setup night;
  left = [];
  whole = sym (append-nil (night_files setup night));
  added = added;
}

-- what failed is of no matter for what is left
pub front_of : (told : Option (List ℕ)) (setup : SetupValue) (at : List ℕ) (had has : Option (List File)) (failed : Failure)
    → LeavesOutbox told setup at had has failed → LeavesFront told setup at had has
front_of told setup at had has failed (inl kept) = inl kept
front_of told setup at had has failed (inr front) = inr (record {
  night = front.night;
  by = front.by;
  done = front.some.done;
  left = front.some.left;
  whole = front.some.whole;
  added = front.some.added;
})

-- some files of a night were put, and then a fault came
pub some_put : (told : Option (List ℕ)) (setup : SetupValue) (at : List ℕ) (had has : Option (List File)) (night : Night)
    (fault : PutFault) → IsNightOfSource told setup at night → AddsSome had has (night_files setup night) fault
    → LeavesOutbox told setup at had has (put_failure fault)
some_put told setup at had has night fault is some =
    inr (record { night = night; by = is; fault = fault; some = some; told_as = refl })

-- what holds of the failure that a fault is reported as
pub told_fault : {A : Type 0} (r : Result A Failure) (fault : PutFault) (P : Failure → Type 0)
    → IsErrAnd r (λ (failed : Failure). failed ≡ put_failure fault) → P (put_failure fault) → IfErr r P
told_fault (Ok night) fault P told holds = tt
told_fault (Err failed) fault P told holds = subst P (sym told) holds
