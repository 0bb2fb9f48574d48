-- Texts that are made of the bytes of segments, each after its terminator, read again.
use Rattle.std.proofs.Common.{◌≡◌, ℕ, ◌+◌, ◌<◌, Bool, true, false, List, [], ◌∷◌, ◌++◌, length, drop, map, refl, ap, ◌∙◌}
use Rattle.std.proofs.Common.{arith, append_assoc, eq-eqb}
use Rattle.std.specs.Prelude.{◌==◌, if◌then◌else◌}
use Rattle.std.specs.List.{All, flat_map, prefix_len}
use Rattle.std.proofs.lemmas.List.{map-append}
use Rattle.std.proofs.lemmas.List.Splits.{slice_split_at, length-slice_split}
use Rattle.std.proofs.lemmas.List.Elements.{All-head, All-tail}
use Rattle.std.proofs.lemmas.Bool.{false_from_ne_true, eqb-true}
use Rattle.x12_bytes.specs.Bytes.{is_line_end}
use Rattle.x12_bytes.specs.declared.delims.Delims.{Delims}
use Rattle.x12_segs.specs.Words.{parts, Seg, Segs, part_at, segs_of, elements_of, view_of, views}
use Rattle.x12_segs.proofs.ForAbove.{segs_of-cons}

-- no byte of a text is this one
abbrev pub Lacks : ℕ → List ℕ → Type 0
Lacks c text = All (λ b. (b == c) ≡ false) text

-- bytes that are read as one segment, whole
pub record IsBody (d : Delims) (body : List ℕ) : Type 0 where
  pub some : 0 < length body
  pub first : prefix_len is_line_end body ≡ 0
  pub lacks : Lacks d.terminator body

abbrev pub bodies_text : Delims → List (List ℕ) → List ℕ
bodies_text d bodies = flat_map (λ body. body ++ d.terminator ∷ []) bodies

chosen : {X Y : Type 0} (f : X → Y) (test : Bool) (x : X) → test ≡ false → map f (if test then [] else x ∷ []) ≡ f x ∷ []
chosen f true x off = cc
chosen f false x off = refl

part_whole : (e place : ℕ) (body : List ℕ) → 0 < length body → prefix_len is_line_end body ≡ 0
    → map (λ seg. parts e seg.bytes) (part_at place body) ≡ parts e body ∷ []
part_whole e place body some none =
    let lead : ℕ = prefix_len is_line_end body in
    let not_all : (lead == length body) ≡ false =
    false_from_ne_true (lead == length body) (λ h. let same = eqb-true lead (length body) h in omega arith) in
    chosen (λ (seg : Seg). parts e seg.bytes) (lead == length body) (record { start = place + lead; bytes = drop lead body }) not_all
    ∙ ap (λ (k : ℕ). parts e (drop k body) ∷ []) none

some_parts : (c : ℕ) (text : List ℕ) → 0 < length (parts c text)
some_parts c text = omega (arith, length-slice_split (λ b. b == c) text)

bodies_read : (d : Delims) (bodies : List (List ℕ)) (place : ℕ) → All (IsBody d) bodies
    → map (λ seg. parts d.element seg.bytes) (segs_of place (parts d.terminator (bodies_text d bodies))) ≡ map (parts d.element) bodies
bodies_read d [] place all = refl
bodies_read d (body ∷ bodies) place all =
    let e : ℕ = d.element in
    let t : ℕ = d.terminator in
    let text : List ℕ = bodies_text d bodies in
    let is : IsBody d body = All-head (IsBody d) body bodies all in
    let f : Seg → List (List ℕ) = λ seg. parts e seg.bytes in
    let next : ℕ = place + length body + 1 in
    let split : parts t ((body ++ t ∷ []) ++ text) ≡ body ∷ parts t text =
    ap (parts t) (append_assoc body (t ∷ []) text) ∙ slice_split_at (λ b. b == t) body t text is.lacks (eq-eqb t t refl) in
    ap (λ (list : List (List ℕ)). map f (segs_of place list)) split
    ∙ ap (map f) (segs_of-cons place body (parts t text) (some_parts t text))
    ∙ map-append f (part_at place body) (segs_of next (parts t text))
    ∙ ap (λ (list : List (List (List ℕ))). list ++ map f (segs_of next (parts t text))) (part_whole e place body is.some is.first)
    ∙ ap (λ (list : List (List (List ℕ))). parts e body ∷ list)
    (bodies_read d bodies next (All-tail (IsBody d) body bodies all))

elements_in : (d : Delims) (segs : List Seg) → map elements_of (map (view_of d) segs) ≡ map (λ seg. parts d.element seg.bytes) segs
elements_in d [] = refl
elements_in d (seg ∷ segs) = ap (λ (list : List (List (List ℕ))). parts d.element seg.bytes ∷ list) (elements_in d segs)

pub text_read : (d : Delims) (bodies : List (List ℕ)) → All (IsBody d) bodies
    → map elements_of (views (bodies_text d bodies) d) ≡ map (parts d.element) bodies
text_read d bodies all = elements_in d (Segs (bodies_text d bodies) d.terminator) ∙ bodies_read d bodies 0 all
