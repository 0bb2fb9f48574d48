-- Changes of a place, one after another.
use Rattle.std.proofs.Common.{◌≡◌, ◌∙◌, ℕ, List, [], ◌∷◌, ◌++◌, Option, None, Some}
use Rattle.std.proofs.Common.{Result, Ok, Err, ap, append-nil, append_assoc, inl, inr, refl, sym}
use Rattle.std.specs.Prelude.{MatchResult, OnOk}
use Rattle.night_shelf.specs.Shelf.{ArePut, Changes, IsKept, IsLaid, IsMade, IsNamed, IsNamedOnDisk, IsPut}
use Rattle.night_shelf.specs.Shelf.{IsSettled, IsSynced, KeepsNights, MayLeave, MayName, Place, night_of}
use Rattle.night_shelf.specs.declared.night.KeptNight.{KeptNight}
use Rattle.night_shelf.specs.declared.night.NightFile.{NightFile}

-- two changes make one
pub both : (first second whole : Place → Place → Type 0)
    → ((a b c : Place) → first a b → second b c → whole a c) → (a b c : Option Place) → Changes first a b → Changes second b c →
    Changes whole a c
both first second whole join None b c one two = tt
both first second whole join (Some a) None c one two = absurd one
both first second whole join (Some a) (Some b) None one two = absurd two
both first second whole join (Some a) (Some b) (Some c) one two = join a b c one two

-- a change that is more than another
pub weaker : (change less : Place → Place → Type 0) → ((a b : Place) → change a b → less a b) → (a b : Option Place) → Changes change a b
    → Changes less a b
weaker change less more None b is = tt
weaker change less more (Some a) None is = absurd is
weaker change less more (Some a) (Some b) is = more a b is

-- nothing was done
pub none_done : (change : Place → Place → Type 0) → ((a : Place) → change a a) → (a : Option Place) → Changes change a a
none_done change same None = tt
none_done change same (Some a) = same a

pub keeps_same : (a : Place) → KeepsNights a a
keeps_same a = record { named = refl; left = λ nights has. has }

pub keeps_both : (a b c : Place) → KeepsNights a b → KeepsNights b c → KeepsNights a c
keeps_both a b c one two = record { named = two.named ∙ one.named; left = λ nights has. one.left nights (two.left nights has) }

pub put_none : (a : Place) → ArePut [] a a
put_none a = record { nights = keeps_same a; tonight = sym (append-nil a.tonight) }

pub put_more : (files : List NightFile) (file : NightFile) (a b c : Place) → ArePut files a b → IsPut file b c → ArePut (files ++
    file ∷ []) a c
put_more files file a b c one two = record {
  nights = keeps_both a b c one.nights two.nights;
  tonight = two.tonight ∙ ap (λ (l : List NightFile). l ++ file ∷ []) one.tonight ∙ append_assoc a.tonight files (file ∷ []);
}

pub put_keeps : (files : List NightFile) (a b c : Place) → ArePut files a b → KeepsNights b c → KeepsNights a c
put_keeps files a b c one two = keeps_both a b c one.nights two

pub are_nights : (files : List NightFile) (a b : Place) → ArePut files a b → KeepsNights a b
are_nights files a b is = is.nights

pub laid : (files : List NightFile) (a b c d e : Option Place) → Changes KeepsNights a b → Changes IsMade b c → Changes (ArePut files) c d
    → Changes IsSynced d e → Changes (IsLaid files) a e
laid files None b c d e cleared made put synced = tt
laid files (Some a) None c d e cleared made put synced = absurd cleared
laid files (Some a) (Some b) None d e cleared made put synced = absurd made
laid files (Some a) (Some b) (Some c) None e cleared made put synced = absurd put
laid files (Some a) (Some b) (Some c) (Some d) None cleared made put synced = absurd synced
laid files (Some a) (Some b) (Some c) (Some d) (Some e) cleared made put synced = record {
  nights = keeps_both a b e cleared (keeps_both b c e made.nights (keeps_both c d e put.nights synced.nights));
  tonight = synced.tonight ∙ put.tonight ∙ ap (λ (l : List NightFile). l ++ files) made.tonight;
  on_disk = synced.on_disk;
}

-- the nights through the steps of laying
pub kept_steps : (a b c : Option Place) → Changes KeepsNights a b → Changes KeepsNights b c → Changes KeepsNights a c
kept_steps a b c one two = both KeepsNights KeepsNights KeepsNights keeps_both a b c one two

pub made_nights : (a b : Option Place) → Changes IsMade a b → Changes KeepsNights a b
made_nights a b is = weaker IsMade KeepsNights (λ x y made. made.nights) a b is

pub synced_nights : (a b : Option Place) → Changes IsSynced a b → Changes KeepsNights a b
synced_nights a b is = weaker IsSynced KeepsNights (λ x y synced. synced.nights) a b is

-- a name, and that it is on the disk
pub named_settled : (name : List ℕ) (a b c : Place) → IsNamed name a b → IsSettled b c → IsNamedOnDisk name a c
named_settled name a b c one two = record {
  named = two.named ∙ one.named;
  left = λ nights has. two.left nights has ∙ one.named;
}

pub named_stopped : (name : List ℕ) (a b c : Place) → IsNamed name a b → KeepsNights b c → MayName name a c
named_stopped name a b c one two on_disk nights has = one.left on_disk nights (two.left nights has)

pub settled_stopped : (name : List ℕ) (a b c : Place) → IsNamed name a b → IsSettled b c → MayName name a c
settled_stopped name a b c one two on_disk nights has = inr (two.left nights has ∙ one.named)

-- a night that was laid gets its name
night_is : (name : List ℕ) (files : List NightFile) (a b : Place) → IsLaid files a b
    → a.named ++ record { name = name; files = files } ∷ [] ≡ b.named ++ night_of name b ∷ []
night_is name files a b laid =
    ap (λ (l : List KeptNight). l ++ record { name = name; files = files } ∷ []) (sym laid.nights.named)
    ∙ ap (λ (l : List NightFile). b.named ++ record { name = name; files = l } ∷ []) (sym laid.tonight)

pub laid_kept : (name : List ℕ) (files : List NightFile) (a b c : Place) → IsLaid files a b → IsNamedOnDisk name b c
    → IsKept (record { name = name; files = files }) a c
laid_kept name files a b c one two =
    let same = sym (night_is name files a b one) in record { named = two.named ∙ same; left = λ nights has. two.left nights has ∙ same }

pub laid_stopped : (name : List ℕ) (files : List NightFile) (a b c : Place) → IsLaid files a b → MayName name b c
    → MayLeave (record { name = name; files = files }) a c
laid_stopped name files a b c one two nights has = elim (two one.on_disk nights has) [
  | inl before ↦ inl (one.nights.left nights before)
  | inr with_it ↦ inr (with_it ∙ sym (night_is name files a b one))
]

pub only_kept : (night : KeptNight) (a b : Place) → KeepsNights a b → MayLeave night a b
only_kept night a b is nights has = inl (is.left nights has)

-- what holds when a call succeeds, and whatever it answers
pub when_ok : {T E : Type 0} (r : Result T E) (A B C : Type 0) → (A → C) → MatchResult r (λ _. A) (λ _. B) → OnOk r C
when_ok (Ok x) A B C more is = more is
when_ok (Err e) A B C more is = tt

pub always : {T E : Type 0} (r : Result T E) (A B C : Type 0) → (A → C) → (B → C) → MatchResult r (λ _. A) (λ _. B) → C
always (Ok x) A B C more less is = more is
always (Err e) A B C more less is = less is
