-- A text has its lines in one way.
use Rattle.std.proofs.Common.{◌≡◌, ◌∙◌, ◌==◌, ℕ, Bool, true, not, ◌&&◌, List}
use Rattle.std.proofs.Common.{[], ◌∷◌, ◌++◌, append-nil, append_assoc, ap, sym, subst, refl}
use Rattle.std.specs.List.{list_all}
use Rattle.std.proofs.lemmas.Bool.{and_parts}
use Rattle.std.proofs.lemmas.List.Folds.{list_all-append}
use Rattle.night_record.specs.Lines.{IsUnended, is_line, lines_text}

no_feed : (b : ℕ) (rest : Bool) → b ≡ 10 → (not (b == 10) && rest) ≡ true → ⊥
no_feed b rest is line =
    let same : (not (10 == 10) && rest) ≡ true = subst (λ (n : ℕ). (not (n == 10) && rest) ≡ true) is line in cc

-- the first line of a text, and what comes after it
first_line : (l p t u : List ℕ) → is_line l ≡ true → is_line p ≡ true → l ++ 10 ∷ t ≡ p ++ 10 ∷ u → (l ≡ p) × (t ≡ u)
first_line [] [] t u a b same = (refl, cc)
first_line [] (c ∷ p) t u a b same = absurd (no_feed c (is_line p) (cc) b)
first_line (c ∷ l) [] t u a b same = absurd (no_feed c (is_line l) (cc) a)
first_line (c ∷ l) (d ∷ p) t u a b same =
    let head : c ≡ d = cc in
    let rest : l ++ 10 ∷ t ≡ p ++ 10 ∷ u = cc in
    let more = first_line l p t u ((and_parts (not (c == 10)) (is_line l) a).1) ((and_parts (not (d == 10)) (is_line p) b).1) rest in
    let lines : l ≡ p = more.0 in
    (cc, more.1)

one_line : (line : List ℕ) (lines : List (List ℕ)) → lines_text (line ∷ lines) ≡ line ++ 10 ∷ lines_text lines
one_line line lines = append_assoc line (10 ∷ []) (lines_text lines)

pub record AreAfter (lines first : List (List ℕ)) (left : List ℕ) : Type 0 where
  pub rest : List (List ℕ)
  pub lines_are : lines ≡ first ++ rest
  pub text : lines_text rest ≡ left
  pub each : list_all is_line rest ≡ true

-- a text that begins with lines has these lines first
pub lines_after : (lines first : List (List ℕ)) (left : List ℕ) → list_all is_line lines ≡ true → list_all is_line first ≡ true
    → lines_text lines ≡ lines_text first ++ left → AreAfter lines first left
lines_after lines [] left each all same = record { rest = lines; lines_are = refl; text = same; each = each }
lines_after [] (p ∷ ps) left each all same =
    let long : [] ≡ (p ++ 10 ∷ lines_text ps) ++ left = same ∙ ap (λ (t : List ℕ). t ++ left) (one_line p ps) in
    absurd (none p (lines_text ps) left long)
  where
    none : (p t left : List ℕ) → [] ≡ (p ++ 10 ∷ t) ++ left → ⊥
    none [] t left is = cc
    none (b ∷ p) t left is = cc
lines_after (l ∷ ls) (p ∷ ps) left each all same =
    let mine = and_parts (is_line l) (list_all is_line ls) each in
    let theirs = and_parts (is_line p) (list_all is_line ps) all in
    let two = first_line l p (lines_text ls) (lines_text ps ++ left) mine.0 theirs.0
    (sym (one_line l ls) ∙ same ∙ ap (λ (t : List ℕ). t ++ left) (one_line p ps) ∙ append_assoc p (10 ∷ lines_text ps) left) in
    let after = lines_after ls ps left mine.1 theirs.1 two.1 in
    let head : l ≡ p = two.0 in
    let tail : ls ≡ ps ++ after.rest = after.lines_are in
    record { rest = after.rest; lines_are = cc; text = after.text; each = after.each }

-- an empty text has no lines
pub no_lines : (rest : List (List ℕ)) → lines_text rest ≡ [] → rest ≡ []
no_lines [] is = refl
no_lines ([] ∷ rest) is = absurd (cc)
no_lines ((b ∷ line) ∷ rest) is = absurd (cc)

-- a text has one list of lines
pub same_lines : (lines other : List (List ℕ)) → list_all is_line lines ≡ true → list_all is_line other ≡ true
    → lines_text lines ≡ lines_text other → lines ≡ other
same_lines lines other each all same =
    let after = lines_after lines other [] each all (same ∙ sym (append-nil (lines_text other))) in
    after.lines_are ∙ ap (λ (rest : List (List ℕ)). other ++ rest) (no_lines after.rest after.text) ∙ append-nil other

-- what is left has no line feed
unended_left : (lines : List (List ℕ)) (left : List ℕ) → is_line left ≡ true → (left ≡ [] → ⊥) → lines_text lines ≡ left → ⊥
unended_left [] left clean some is = some (sym is)
unended_left (p ∷ ps) left clean some is =
    let long : is_line (p ++ 10 ∷ lines_text ps) ≡ true =
    subst (λ (t : List ℕ). is_line t ≡ true) (sym is ∙ one_line p ps) clean in
    let parts : (is_line p && is_line (10 ∷ lines_text ps)) ≡ true = sym (list_all-append _ p (10 ∷ lines_text ps)) ∙ long in
    no_feed 10 (is_line (lines_text ps)) refl ((and_parts (is_line p) (is_line (10 ∷ lines_text ps)) parts).1)

-- a text that goes on after its last line feed
pub unended : (text : List ℕ) (lines : List (List ℕ)) (left : List ℕ) → list_all is_line lines ≡ true → text ≡ lines_text lines ++ left
    → is_line left ≡ true → (left ≡ [] → ⊥) → IsUnended text
unended text lines left each is clean some other all same =
    let after = lines_after other lines left all each (sym same ∙ is) in
    unended_left after.rest left clean some after.text
