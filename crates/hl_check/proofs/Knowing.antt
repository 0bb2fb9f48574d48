-- The map and the set with one more HL.
use Rattle.std.proofs.Common.{◌≡◌, ℕ, List, [], ◌∷◌, ◌++◌, Bool, true, false, ◌||◌, ◌&&◌, cond, refl, sym, ap, ◌∙◌, true≢false}
use Rattle.std.proofs.Common.{Option, Some, None, option_map}
use Rattle.std.specs.Prelude.{is_none, is_some}
use Rattle.std.specs.Option.{option_or}
use Rattle.std.specs.Ordering.{is_eq}
use Rattle.std.specs.Str.{bytes_eq}
use Rattle.std.specs.BTreeMap.{BTreeMap, get}
use Rattle.std.specs.BTreeSet.{BTreeSet, contains}
use Rattle.std.specs.Cmp.Lexicographic.{bytes_decides}
use Rattle.std.proofs.lemmas.List.Folds.{find-append}
use Rattle.std.proofs.lemmas.Map.Text.{is_eq-slice_cmp}
use Rattle.x12_bytes.specs.declared.delims.Delims.{Delims}
use Rattle.hub_kinds.specs.Words.{by_text}
use Rattle.elem_rules.specs.Divided.{is_filled}
use Rattle.guide_tree.specs.Words.{Segment}
use Rattle.hl_check.specs.Hierarchy.{first_numbered, hierarchical_id_of, parent_id_of, level_of, is_named}
use Rattle.hl_check.specs.Known.{KnowsLevels, KnowsNamed}
use denote.Ref.{Bor}

numbered_more : (q : List ℕ) (hls : List Segment) (h : Segment)
    → first_numbered q (hls ++ h ∷ []) ≡ option_or (first_numbered q hls) (cond (bytes_eq (hierarchical_id_of h) q) (Some h) None)
numbered_more q hls h = find-append (λ x. bytes_eq (hierarchical_id_of x) q) hls (h ∷ [])

abbrev level_in : Option (Bor (List ℕ)) → Option (List ℕ)
level_in o = option_map (λ (l : Bor (List ℕ)). l.now) o

no_level : (o : Option Segment) → option_map level_of o ≡ None → o ≡ None
no_level None e = refl
no_level (Some h) e = cc

put : (b : Bool) (o : Option (Bor (List ℕ))) (level : Bor (List ℕ)) (found : Option Segment) (h : Segment)
    → (b ≡ true → found ≡ None) → level_of h ≡ level.now → level_in o ≡ option_map level_of found
    → level_in (cond b (Some level) o) ≡ option_map level_of (option_or found (cond b (Some h) None))
put true o level found h none l e =
    ap Some (sym l) ∙ sym (ap (λ (f : Option Segment). option_map level_of (option_or f (Some h))) (none refl))
put false o level None h none l e = e
put false o level (Some x) h none l e = e

kept : (b : Bool) (found : Option Segment) (h : Segment) → (b ≡ true → is_none found ≡ false)
    → found ≡ option_or found (cond b (Some h) None)
kept b (Some x) h some = refl
kept true None h some = absurd (true≢false (some refl))
kept false None h some = refl

-- where a number is this one, the map knows what it knows of this one
same_found : (levels : BTreeMap (Bor (List ℕ)) (Bor (List ℕ))) (hls : List Segment) (number : Bor (List ℕ)) (q : List ℕ)
    → KnowsLevels levels hls → bytes_eq number.now q ≡ true
    → option_map level_of (first_numbered q hls) ≡ level_in (get by_text levels number)
same_found levels hls number q knows e =
    sym (knows number ∙ ap (λ (n : List ℕ). option_map level_of (first_numbered n hls)) ((bytes_decides number.now q).0 e))

pub level_more : (old new : BTreeMap (Bor (List ℕ)) (Bor (List ℕ))) (number level : Bor (List ℕ)) (hls : List Segment) (h : Segment)
    → hierarchical_id_of h ≡ number.now → level_of h ≡ level.now → get by_text old number ≡ None
    → ((q : Bor (List ℕ)) → get by_text new q ≡ cond (is_eq (by_text number q)) (Some level) (get by_text old q))
    → KnowsLevels old hls → KnowsLevels new (hls ++ h ∷ [])
level_more old new number level hls h n l none added knows = λ q.
    let is : Bool = bytes_eq number.now q.now in
    ap level_in (added q ∙ ap (λ (b : Bool). cond b (Some level) (get by_text old q)) (is_eq-slice_cmp number.now q.now))
    ∙ put is (get by_text old q) level (first_numbered q.now hls) h
    (λ e. no_level (first_numbered q.now hls) (same_found old hls number q.now knows e ∙ ap level_in none)) l (knows q)
    ∙ ap (λ (m : List ℕ). option_map level_of (option_or (first_numbered q.now hls) (cond (bytes_eq m q.now) (Some h) None))) (sym n)
    ∙ ap (option_map level_of) (sym (numbered_more q.now hls h))

is_some_of : (o : Option Segment) (p : Option (Bor (List ℕ))) → option_map level_of o ≡ level_in p → is_none p ≡ false
    → is_none o ≡ false
is_some_of (Some h) p e s = refl
is_some_of None (Some l) e s = cc
is_some_of None None e s = s

pub level_kept : (levels : BTreeMap (Bor (List ℕ)) (Bor (List ℕ))) (number : Bor (List ℕ)) (hls : List Segment) (h : Segment)
    → hierarchical_id_of h ≡ number.now → is_none (get by_text levels number) ≡ false
    → KnowsLevels levels hls → KnowsLevels levels (hls ++ h ∷ [])
level_kept levels number hls h n some knows = λ q.
    knows q
    ∙ ap (option_map level_of) (kept (bytes_eq number.now q.now) (first_numbered q.now hls) h
    (λ e. is_some_of (first_numbered q.now hls) (get by_text levels number) (same_found levels hls number q.now knows e) some))
    ∙ ap (λ (m : List ℕ). option_map level_of (option_or (first_numbered q.now hls) (cond (bytes_eq m q.now) (Some h) None))) (sym n)
    ∙ ap (option_map level_of) (sym (numbered_more q.now hls h))

chosen : (b f c : Bool) → f ≡ true → cond b true c ≡ ((f && b) || c)
chosen true true c e = refl
chosen false true c e = refl
chosen b false c e = absurd (true≢false (sym e))

pub named_more : (old new : BTreeSet (Bor (List ℕ))) (delims : Delims) (parent : Bor (List ℕ)) (hls : List Segment) (h : Segment)
    → parent_id_of h ≡ parent.now → is_filled delims parent.now ≡ true
    → ((q : Bor (List ℕ)) → contains by_text new q ≡ cond (is_eq (by_text parent q)) true (contains by_text old q))
    → KnowsNamed old delims hls → KnowsNamed new delims (h ∷ hls)
named_more old new delims parent hls h p filled added knows = λ q.
    added q
    ∙ ap (λ (b : Bool). cond b true (contains by_text old q)) (is_eq-slice_cmp parent.now q.now)
    ∙ ap (cond (bytes_eq parent.now q.now) true) (knows q)
    ∙ chosen (bytes_eq parent.now q.now) (is_filled delims parent.now) (is_named delims hls q.now) filled
    ∙ ap (λ (m : List ℕ). (is_filled delims m && bytes_eq m q.now) || is_named delims hls q.now) (sym p)

pub none_known : {T : Type 0} (o : Option (Bor T)) (p : Option T) → option_map (λ x. x.now) o ≡ p → is_some o ≡ false → p ≡ None
none_known None p e n = sym e
none_known (Some x) p e n = absurd (true≢false n)

pub some_known : {T : Type 0} (o : Option (Bor T)) (p : Option T) → option_map (λ x. x.now) o ≡ p → is_some o ≡ true
    → is_none p ≡ false
some_known None p e n = absurd (true≢false (sym n))
some_known (Some x) p e n = sym (ap is_none e)
