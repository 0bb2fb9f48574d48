-- No byte of a text that a page shows is one of markup.
use Rattle.std.proofs.Common.{◌≡◌, ◌∙◌, ℕ, ◌==◌, ◌||◌, Bool, true, false, List, [], ◌∷◌, ◌++◌, refl, ap}
use Rattle.std.specs.Prelude.{codes, if◌then◌else◌}
use Rattle.std.specs.List.{flat_map, list_any}
use Rattle.std.proofs.lemmas.List.Folds.{list_any-append}
use Rattle.html_text.specs.Html.{html_byte, html_bytes, is_markup}

abbrev IsClear : List ℕ → Type 0
IsClear text = list_any is_markup text ≡ false

by_test : (t : Bool) (xs ys : List ℕ) → IsClear xs → (t ≡ false → IsClear ys) → IsClear (if t then xs else ys)
by_test true xs ys first later = first
by_test false xs ys first later = later refl

none_of : (m n o p : Bool) → m ≡ false → n ≡ false → o ≡ false → p ≡ false → ((m || (n || (o || p))) || false) ≡ false
none_of m n o p first second third fourth =
    ap (λ (t : Bool). (t || (n || (o || p))) || false) first
    ∙ (ap (λ (t : Bool). (t || (o || p)) || false) second
    ∙ (ap (λ (t : Bool). (t || p) || false) third ∙ ap (λ (t : Bool). t || false) fourth))

clear_byte : (b : ℕ) → IsClear (html_byte b)
clear_byte b =
    by_test (b == 38) (codes "&amp;") _ refl (λ _. by_test (b == 60) (codes "&lt;") _ refl (λ less.
    by_test (b == 62) (codes "&gt;") _ refl (λ more. by_test (b == 34) (codes "&quot;") _ refl (λ quote.
    by_test (b == 39) (codes "&#39;") (b ∷ []) refl (λ single.
    none_of (b == 34) (b == 39) (b == 60) (b == 62) quote single less more)))))

pub clear_bytes : (text : List ℕ) → IsClear (html_bytes text)
clear_bytes [] = refl
clear_bytes (b ∷ bs) =
    list_any-append is_markup (html_byte b) (html_bytes bs)
    ∙ (ap (λ (t : Bool). t || list_any is_markup (html_bytes bs)) (clear_byte b) ∙ clear_bytes bs)
