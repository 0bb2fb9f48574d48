-- What an element says, and the sets of a mailbox are read alike.
use Rattle.std.proofs.Common.{◌≡◌, ℕ, List, [], ◌∷◌, ◌++◌, map, Bool, true, false, Option, Some, None, refl, ap}
use Rattle.std.specs.Prelude.{bytes_eq, codes, if◌then◌else◌}
use Rattle.std.specs.Option.{option_map_or}
use Rattle.x12_bytes.specs.declared.delims.Delims.{Delims}
use Rattle.x12_segs.specs.Words as old
use Rattle.night_law.specs.SetsRead.{Segments, said_in, sets_read}
use Rattle.night_definition.specs.Header.{divided}
use Rattle.night_definition.specs.Segments.{Elements, element}
use Rattle.night_definition.specs.ReadBack.{element_content, sets_after}

pub content_is : (d : Delims) (e : List ℕ) → element_content d e ≡ said_in d e
content_is d e = by d.repetition
  where
    by : (r : Option ℕ) → map (divided d.component) (option_map_or (λ s. divided s e) r (e ∷ []))
        ≡ map (old.components d) (old.parts_by r e)
    by None = refl
    by (Some s) = refl

-- the sets of a mailbox, from each ST to its SE
abbrev is_st : Elements → Bool
is_st s = bytes_eq (element 0 s) (codes "ST")

mutual
  between : (ss : Segments) → sets_after [] ss ≡ sets_read None ss
  between [] = refl
  between (s ∷ ss) = by (is_st s) (within s [] ss) (between ss)
    where
      by : (b : Bool) → sets_after (s ∷ []) ss ≡ sets_read (Some (s ∷ [])) ss → sets_after [] ss ≡ sets_read None ss
          → sets_after (if b then s ∷ [] else []) ss ≡ (if b then sets_read (Some (s ∷ [])) ss else sets_read None ss)
      by true first later = first
      by false first later = later

  within : (st : Elements) (inner ss : Segments) → sets_after (st ∷ inner) ss ≡ sets_read (Some (st ∷ inner)) ss
  within st inner [] = refl
  within st inner (s ∷ ss) =
      by (is_st s) (bytes_eq (element 0 s) (codes "SE")) (within s [] ss) (between ss) (within st (inner ++ s ∷ []) ss)
    where
      by : (b c : Bool) → sets_after (s ∷ []) ss ≡ sets_read (Some (s ∷ [])) ss → sets_after [] ss ≡ sets_read None ss
          → sets_after (st ∷ inner ++ s ∷ []) ss ≡ sets_read (Some (st ∷ inner ++ s ∷ [])) ss
          → (if b then sets_after (s ∷ []) ss
          else if c then (st ∷ inner ++ s ∷ []) ∷ sets_after [] ss else sets_after (st ∷ inner ++ s ∷ []) ss)
          ≡ (if b then sets_read (Some (s ∷ [])) ss
          else if c then (st ∷ inner ++ s ∷ []) ∷ sets_read None ss else sets_read (Some (st ∷ inner ++ s ∷ [])) ss)
      by true c first later more = first
      by false true first later more = ap (λ (sets : List Segments). (st ∷ inner ++ s ∷ []) ∷ sets) later
      by false false first later more = more

pub sets_are : (ss : Segments) → sets_after [] ss ≡ sets_read None ss
sets_are ss = between ss
