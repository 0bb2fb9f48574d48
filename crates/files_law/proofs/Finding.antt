-- The sets that a partner finds in its mailbox, under their numbers.
use Rattle.std.proofs.Common.{◌≡◌, ℕ, Bool, true, false, if◌then◌else◌, List, [], ◌∷◌, ◌++◌}
use Rattle.std.proofs.Common.{Option, Some, None, map, take, drop, refl, sym, ap, ◌∙◌, append_assoc, append-nil}
use Rattle.std.specs.Prelude.{codes}
use Rattle.std.specs.Str.{bytes_eq}
use Rattle.std.specs.List.{All, list_all}
use Rattle.std.proofs.lemmas.Bool.{and_parts}
use Rattle.std.proofs.lemmas.List.Elements.{All-cons, All-head, All-nil, All-tail}
use Rattle.x12_bytes.specs.declared.delims.Delims.{Delims}
use Rattle.hub_kinds.specs.Words.{is_word}
use Rattle.x12_segs.specs.declared.kind.Kind.TheVariants.{InterchangeTrailer, GroupHeader, GroupTrailer, SetHeader, SetTrailer, Ta1, Other}
use Rattle.x12_segs.specs.Words.{elements_of, may_stand_in_set, part_or_empty, views}
use Rattle.x12_write.specs.Segment.{segment}
use Rattle.night_law.specs.SetsRead.{Segments, has_id, sets_read, sets_found}
use Rattle.night_law.proofs.ForAbove.{IsBetween, text_read}
use Rattle.files_law.specs.Whole.{Elements, WholeSet, kind_by, set_segments}
use Rattle.files_law.proofs.Texts.{IsMadeOf, both_made, nothing_made}
use Rattle.files_law.specs.Found.{Found, found_behind, found_in, numbers_of, read_or}

-- the sets that are found under their numbers are those that are found
found_sets_behind : (i g : List ℕ) (begun : Option Segments) (ss : Segments)
    → map (λ (f : Found). f.set) (found_behind i g begun ss) ≡ sets_read begun ss
found_sets_behind i g begun [] = refl
found_sets_behind i g None (s ∷ ss) =
    by (found_sets_behind i g (Some (s ∷ [])) ss)
    (found_sets_behind (read_or (codes "ISA") 13 s i) (read_or (codes "GS") 6 s g) None ss) (has_id s (codes "ST"))
  where
    by : map (λ (f : Found). f.set) (found_behind i g (Some (s ∷ [])) ss) ≡ sets_read (Some (s ∷ [])) ss
        → map (λ (f : Found). f.set) (found_behind (read_or (codes "ISA") 13 s i) (read_or (codes "GS") 6 s g) None ss)
        ≡ sets_read None ss
        → (b : Bool)
        → map (λ (f : Found). f.set) (if b then found_behind i g (Some (s ∷ [])) ss
        else found_behind (read_or (codes "ISA") 13 s i) (read_or (codes "GS") 6 s g) None ss)
        ≡ (if b then sets_read (Some (s ∷ [])) ss else sets_read None ss)
    by one two true = one
    by one two false = two
found_sets_behind i g (Some begun) (s ∷ ss) =
    by (found_sets_behind i g (Some (s ∷ [])) ss) (found_sets_behind i g None ss) (found_sets_behind i g (Some (begun ++ s ∷ [])) ss)
    (has_id s (codes "ST")) (has_id s (codes "SE"))
  where
    by : map (λ (f : Found). f.set) (found_behind i g (Some (s ∷ [])) ss) ≡ sets_read (Some (s ∷ [])) ss
        → map (λ (f : Found). f.set) (found_behind i g None ss) ≡ sets_read None ss
        → map (λ (f : Found). f.set) (found_behind i g (Some (begun ++ s ∷ [])) ss) ≡ sets_read (Some (begun ++ s ∷ [])) ss
        → (b c : Bool)
        → map (λ (f : Found). f.set) (if b then found_behind i g (Some (s ∷ [])) ss
        else (if c then (let f : Found = record { isa13 = i; gs06 = g; set = begun ++ s ∷ [] } in f) ∷ found_behind i g None ss
        else found_behind i g (Some (begun ++ s ∷ [])) ss))
        ≡ (if b then sets_read (Some (s ∷ [])) ss else (if c then (begun ++ s ∷ []) ∷ sets_read None ss
        else sets_read (Some (begun ++ s ∷ [])) ss))
    by one two three true c = one
    by one two three false true = ap (λ (sets : List Segments). (begun ++ s ∷ []) ∷ sets) two
    by one two three false false = three

pub found_sets : (d : Delims) (text : List ℕ) → map (λ (f : Found). f.set) (found_in d text) ≡ sets_found d text
found_sets d text = found_sets_behind [] [] None (map elements_of (views text d))

-- between ST and SE
past_inner : (i g : List ℕ) (begun inner ss : Segments) → All IsBetween inner
    → found_behind i g (Some begun) (inner ++ ss) ≡ found_behind i g (Some (begun ++ inner)) ss
past_inner i g begun [] ss all = ap (λ (o : Segments). found_behind i g (Some o) ss) (sym (append-nil begun))
past_inner i g begun (s ∷ inner) ss all =
    let here : IsBetween s = All-head IsBetween s inner all in
    let rest : Segments = inner ++ ss in
    let one : Found = record { isa13 = i; gs06 = g; set = begun ++ s ∷ [] } in
    ap (λ (b : Bool). if b then found_behind i g (Some (s ∷ [])) rest else (if has_id s (codes "SE") then one ∷ found_behind i g None rest
    else found_behind i g (Some (begun ++ s ∷ [])) rest)) here.0
    ∙ ap (λ (b : Bool). if b then one ∷ found_behind i g None rest else found_behind i g (Some (begun ++ s ∷ [])) rest) here.1
    ∙ past_inner i g (begun ++ s ∷ []) inner ss (All-tail IsBetween s inner all)
    ∙ ap (λ (o : Segments). found_behind i g (Some o) ss) (append_assoc begun (s ∷ []) inner)

-- a segment that is no ST and no SE by its kind
between_by : (a b c d e f : Bool)
    → may_stand_in_set (if a then InterchangeTrailer else if b then GroupHeader else if c then GroupTrailer else if d then SetHeader
    else if e then SetTrailer else if f then Ta1 else Other) ≡ true → (d ≡ false) × (e ≡ false)
between_by true b c d e f is = cc
between_by false true c d e f is = cc
between_by false false true d e f is = cc
between_by false false false true e f is = cc
between_by false false false false true f is = cc
between_by false false false false false f is = (refl, refl)

pub all_between : (inner : List Elements) → list_all (λ x. may_stand_in_set (kind_by x)) inner ≡ true → All IsBetween inner
all_between [] all = All-nil IsBetween
all_between (x ∷ xs) all =
    let both = and_parts (may_stand_in_set (kind_by x)) (list_all (λ x. may_stand_in_set (kind_by x)) xs) all in
    let id : List ℕ = part_or_empty x 0 in
    All-cons IsBetween x xs (between_by (bytes_eq id (codes "IEA")) (bytes_eq id (codes "GS")) (bytes_eq id (codes "GE"))
    (bytes_eq id (codes "ST")) (bytes_eq id (codes "SE")) (bytes_eq id (codes "TA1")) both.0) (all_between xs both.1)

-- a set is found from its ST to its SE
pub one_set : (i g : List ℕ) (w : WholeSet) (ss : Segments) → has_id w.header (codes "ST") ≡ true → has_id w.trailer (codes "ST") ≡ false
    → has_id w.trailer (codes "SE") ≡ true → All IsBetween w.inner
    → found_behind i g None (set_segments w ++ ss)
    ≡ (let f : Found = record { isa13 = i; gs06 = g; set = set_segments w } in f) ∷ found_behind i g None ss
one_set i g w ss begins goes_on ends all =
    let rest : Segments = w.inner ++ w.trailer ∷ ss in
    let begun : Segments = w.header ∷ w.inner in
    let one : Found = record { isa13 = i; gs06 = g; set = begun ++ w.trailer ∷ [] } in
    ap (λ (more : Segments). found_behind i g None (w.header ∷ more)) (append_assoc w.inner (w.trailer ∷ []) ss)
    ∙ ap (λ (b : Bool). if b then found_behind i g (Some (w.header ∷ [])) rest
    else found_behind (read_or (codes "ISA") 13 w.header i) (read_or (codes "GS") 6 w.header g) None rest) begins
    ∙ past_inner i g (w.header ∷ []) w.inner (w.trailer ∷ ss) all
    ∙ ap (λ (b : Bool). if b then found_behind i g (Some (w.trailer ∷ [])) ss
    else (if has_id w.trailer (codes "SE") then one ∷ found_behind i g None ss
    else found_behind i g (Some (begun ++ w.trailer ∷ [])) ss)) goes_on
    ∙ ap (λ (b : Bool). if b then one ∷ found_behind i g None ss else found_behind i g (Some (begun ++ w.trailer ∷ [])) ss) ends

-- ST02 of an ST that is written anew, where it has an ST01
pub second : (es : List (List ℕ)) (change : List ℕ → List ℕ) (number : List ℕ) → is_word 3 3 (part_or_empty es 1) ≡ true
    → part_or_empty (codes "ST" ∷ (map change (take 1 (drop 1 es)) ++ number ∷ map change (drop 2 (drop 1 es)))) 2 ≡ number
second [] change number word = cc
second (a ∷ []) change number word = cc
second (a ∷ b ∷ rest) change number word = refl

-- a text is made of segments in which these numbers are found, whatever was read before and whatever follows; and the numbers that are
-- read last go on
pub record Gives (d : Delims) (text : List ℕ) (i g : List ℕ) (numbers : List (List (List ℕ))) (j h : List ℕ) : Type 0 where
  pub es : List Elements
  pub made : IsMadeOf d text es
  pub gives : (ss : Segments)
      → map numbers_of (found_behind i g None (es ++ ss)) ≡ numbers ++ map numbers_of (found_behind j h None ss)

pub gives_nothing : (d : Delims) (i g : List ℕ) → Gives d [] i g [] i g
gives_nothing d i g = record { es = []; made = nothing_made d; gives = λ ss. refl }

pub gives_both : (d : Delims) (a b : List ℕ) (i g j h k l : List ℕ) (xs ys : List (List (List ℕ))) → Gives d a i g xs j h
    → Gives d b j h ys k l → Gives d (a ++ b) i g (xs ++ ys) k l
gives_both d a b i g j h k l xs ys one two = record {
  es = one.es ++ two.es;
  made = both_made d a b one.es two.es one.made two.made;
  gives = λ ss.
      ap (λ (segs : Segments). map numbers_of (found_behind i g None segs)) (append_assoc one.es two.es ss)
      ∙ one.gives (two.es ++ ss)
      ∙ ap (λ (ns : List (List (List ℕ))). xs ++ ns) (two.gives ss)
      ∙ sym (append_assoc xs ys (map numbers_of (found_behind k l None ss)));
}

-- read by the receiver, just these are found
pub found_by : (d : Delims) (text : List ℕ) (numbers : List (List (List ℕ))) (j h : List ℕ) → Gives d text [] [] numbers j h
    → map numbers_of (found_in d text) ≡ numbers
found_by d text numbers j h given =
    ap (λ (t : List ℕ). map numbers_of (found_in d t)) given.made.is
    ∙ ap (λ (segs : Segments). map numbers_of (found_behind [] [] None segs)) (text_read d given.made.bodies given.made.all
    ∙ given.made.elements ∙ sym (append-nil given.es))
    ∙ given.gives []
    ∙ append-nil numbers
