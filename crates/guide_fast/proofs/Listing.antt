-- The map with one more text.
use Rattle.std.proofs.Common.{◌≡◌, ℕ, suc, ◌+◌, List, [], ◌∷◌, ◌++◌, Bool, true, false, cond, length, refl, sym, ap, ◌∙◌}
use Rattle.std.proofs.Common.{Option, Some, None, arith}
use Rattle.std.specs.Prelude.{Vec}
use Rattle.std.specs.BTreeMap.{BTreeMap, get}
use Rattle.std.specs.Cmp.Lexicographic.{bytes_decides}
use Rattle.std.specs.Ordering.{is_eq}
use Rattle.std.specs.Str.{bytes_eq}
use Rattle.std.specs.declared.alloc.Global.{Global}
use Rattle.std.proofs.lemmas.List.{append-nil}
use Rattle.std.proofs.lemmas.Map.Text.{is_eq-slice_cmp}
use Rattle.hub_kinds.specs.Words.{by_text}
use Rattle.guide_fast.specs.Listed.{places_of, kept_places, Knows}
use denote.Ref.{Bor}

behind_first : (b : Bool) (k : ℕ) (rest more : List ℕ) → cond b (k ∷ rest ++ more) (rest ++ more) ≡ cond b (k ∷ rest) rest ++ more
behind_first true k rest more = refl
behind_first false k rest more = refl

one_more : (text : List ℕ) (k : ℕ) (texts : List (List ℕ)) (t : List ℕ)
    → places_of text k (texts ++ t ∷ []) ≡ places_of text k texts ++ cond (bytes_eq t text) ((k + length texts) ∷ []) []
one_more text k [] t = let e : k ≡ k + 0 = omega arith in ap (λ (n : ℕ). cond (bytes_eq t text) (n ∷ []) []) e
one_more text k (x ∷ texts) t =
    let e : (k + 1) + length texts ≡ k + suc (length texts) = omega arith in
    ap (λ (l : List ℕ). cond (bytes_eq x text) (k ∷ l) l) (one_more text (k + 1) texts t)
    ∙ behind_first (bytes_eq x text) k (places_of text (k + 1) texts) (cond (bytes_eq t text) (((k + 1) + length texts) ∷ []) [])
    ∙ ap (λ (n : ℕ). places_of text k (x ∷ texts) ++ cond (bytes_eq t text) (n ∷ []) []) e

put : (b : Bool) (o : Option (Vec ℕ Global)) (all : Vec ℕ Global) (before : List ℕ) (n : ℕ) → kept_places o ≡ before
    → (b ≡ true → all.items ≡ before ++ n ∷ []) → kept_places (cond b (Some all) (cond b None o)) ≡ before ++ cond b (n ∷ []) []
put true o all before n e h = h refl
put false o all before n e h = e ∙ sym (append-nil before)

pub knows_more : (old middle new : BTreeMap (Bor (List ℕ)) (Vec ℕ Global)) (text : Bor (List ℕ)) (all : Vec ℕ Global) (at : ℕ)
    (texts : List (List ℕ)) → length texts ≡ at → all.items ≡ kept_places (get by_text old text) ++ at ∷ []
    → ((q : Bor (List ℕ)) → get by_text middle q ≡ cond (is_eq (by_text text q)) None (get by_text old q))
    → ((q : Bor (List ℕ)) → get by_text new q ≡ cond (is_eq (by_text text q)) (Some all) (get by_text middle q))
    → Knows old texts → Knows new (texts ++ text.now ∷ [])
knows_more old middle new text all at texts n is out into knows = λ q.
    let b : Bool = bytes_eq text.now q.now in
    let same : is_eq (by_text text q) ≡ b = is_eq-slice_cmp text.now q.now in
    ap kept_places (into q ∙ ap (λ (o : Option (Vec ℕ Global)). cond (is_eq (by_text text q)) (Some all) o) (out q)
    ∙ ap (λ (c : Bool). cond c (Some all) (cond c None (get by_text old q))) same)
    ∙ put b (get by_text old q) all (places_of q.now 0 texts) at (knows q)
    (λ e. is ∙ ap (λ (l : List ℕ). l ++ at ∷ []) (knows text
    ∙ ap (λ (t : List ℕ). places_of t 0 texts) ((bytes_decides text.now q.now).0 e)))
    ∙ ap (λ (m : ℕ). places_of q.now 0 texts ++ cond b (m ∷ []) []) (let z : at ≡ 0 + length texts = omega (arith, n) in z)
    ∙ sym (one_more q.now 0 texts text.now)
