-- A text stops exactly where it writes no row.
use Rattle.std.proofs.Common.{◌≡◌, ℕ, suc, ◌+◌, List, [], ◌∷◌, Option, Some, None, Result, Ok, Err}
use Rattle.std.proofs.Common.{Bool, true, false, take, drop}
use Rattle.std.proofs.Common.{option_map, refl, sym, ap, ◌∙◌, codes, if◌then◌else◌, arith}
use Rattle.std.specs.Prelude.{is_ok, is_some, is_none}
use Rattle.std.specs.List.{list_all, prefix_len, position_or_len}
use Rattle.std.specs.Str.{bytes_eq}
use Rattle.toml_keys.specs.Reads.{◌>>=◌ as ◌⊳◌}
use Rattle.guide_tree.specs.declared.element.Element.{Element}
use Rattle.guide_tree.specs.declared.element.Component.{Component}
use Rattle.guide_tree.specs.declared.element.Component.TheVariants as component
use Rattle.guide_tree.specs.declared.element.Element.TheVariants as element
use Rattle.guide_tree.specs.declared.element.Requirement.{Requirement}
use Rattle.guide_toml.specs.declared.stops.ElementStop.{ElementStop}
use Rattle.guide_toml.specs.declared.stops.Halt.{Halt}
use Rattle.guide_toml.specs.declared.stops.Wanted.{Wanted}
use Rattle.guide_toml.specs.declared.stops.Wanted.TheVariants as wanted
use Rattle.guide_toml.specs.declared.element_text.Measure.{Measure}
use Rattle.guide_toml.specs.Tokens.{token_groups, is_code, is_semicolon, tokens_of}
use Rattle.guide_toml.specs.Counts.{count_of}
use Rattle.guide_toml.specs.ElementTexts.{Tokens, codes_of, code_list, component_of, components_of_tokens, element_in, element_of_text}
use Rattle.guide_toml.specs.ElementTexts.{behind_first, components_behind, composite_of, measure_of, next_token}
use Rattle.guide_toml.specs.ElementTexts.{no_more, reference_of, requirement_of}
use Rattle.guide_toml.specs.ElementTexts.{row_of_tokens, simple_of, take_repeat, take_wide, type_of, unused_codes}
use Rattle.guide_toml.specs.ElementTexts.{used_component, used_element, alone}
use Rattle.guide_toml.specs.ElementStops as stops

by_option : {A P : Type 0} (o : Option A) → (o ≡ None → P) → ((x : A) → o ≡ Some x → P) → P
by_option None none some = none refl
by_option (Some x) none some = some x refl

by_bool : {P : Type 0} (b : Bool) → (b ≡ true → P) → (b ≡ false → P) → P
by_bool true when otherwise = when refl
by_bool false when otherwise = otherwise refl

-- all tokens are codes, where nothing is after the codes
all_codes : (ts : Tokens) → is_ok (stops.at_end wanted.UnusedCode (stops.behind_codes ts)) ≡ list_all is_code ts
all_codes [] = refl
all_codes (t ∷ ts) =
    let one : 1 + prefix_len is_code ts ≡ suc (prefix_len is_code ts) = omega arith in
    by_bool (is_code t)
    (λ h. rw h (ap (λ k. is_ok (stops.at_end wanted.UnusedCode (drop k (t ∷ ts)))) one ∙ all_codes ts))
    (λ h. rw h refl)

unused_same : (used : Tokens) (ts : Tokens) → is_ok (stops.unused_read ts) ≡ is_some (unused_codes used ts)
unused_same used [] = refl
unused_same used (t ∷ ts) =
    by_bool (bytes_eq t (codes "!"))
    (λ h. rw h (all_codes ts ∙ by_bool (list_all is_code ts) (λ a. rw a refl) (λ a. rw a refl)))
    (λ h. rw h refl)

mapped : {A B : Type 0} (f : A → B) (o : Option A) → is_some (option_map f o) ≡ is_some o
mapped f None = refl
mapped f (Some x) = refl

then_some : {A B : Type 0} (f : A → B) (o : Option A) → is_some (o ⊳ λ x. Some (f x)) ≡ is_some o
then_some f None = refl
then_some f (Some x) = refl

codes_same : (ts : Tokens) → is_ok (stops.codes_read ts) ≡ is_some (codes_of ts)
codes_same [] = refl
codes_same (t ∷ ts) =
    by_bool (bytes_eq t (codes "="))
    (λ h. rw h (unused_same (take (prefix_len is_code ts) ts) (drop (prefix_len is_code ts) ts)
    ∙ sym (mapped Some (code_list ts))))
    (λ h. rw h refl)

row_same : (reference : List ℕ) (r : Requirement) (m : Measure) (ts : Tokens)
    → is_ok (stops.row_read ts) ≡ is_some (row_of_tokens reference r m ts)
row_same reference r m ts = codes_same (take_wide ts).1 ∙ sym (mapped _ (codes_of (take_wide ts).1))

-- type, shortest and longest, and what follows
measure_same : {B C : Type 0} (kind : Wanted) (ts : Tokens) (g : Tokens → Result C Halt) (f : Measure × Tokens → Option B)
    → ((t : List ℕ) → stops.is_wanted kind t ≡ is_some (type_of t))
    → ((m : Measure) (us : Tokens) → is_ok (g us) ≡ is_some (f (m, us)))
    → is_ok (stops.◌>>=◌ (stops.measure_read kind ts) g) ≡ is_some (measure_of ts ⊳ f)
unfolding measure_of
measure_same kind [] g f e k = refl
measure_same kind (t ∷ []) g f e k =
    by_option (type_of t) (λ n. rw (e t, n) refl) (λ x s. rw (e t, s) refl)
measure_same kind (t ∷ a ∷ []) g f e k =
    by_option (type_of t) (λ n. rw (e t, n) refl)
    (λ x s. rw (e t, s) (by_option (count_of a) (λ n. rw n refl) (λ y p. rw p refl)))
measure_same kind (t ∷ a ∷ b ∷ us) g f e k =
    by_option (type_of t) (λ n. rw (e t, n) refl)
    (λ x s. rw (e t, s)
    (by_option (count_of a) (λ n. rw n refl)
    (λ y p. rw p (by_option (count_of b) (λ n. rw n refl)
    (λ z q. rw q (k (record { data_type = x; min = y; max = z }) us))))))

end_same : {A : Type 0} (x : A) (ts : Tokens) → is_ok (stops.at_end wanted.End ts) ≡ is_some (no_more x ts)
end_same x [] = refl
end_same x (t ∷ ts) = refl

later_same : (n : ℕ) (r : Result Tokens Halt) (o : Option Component) (later : Option ElementStop) (cs : Option (List Component))
    → is_ok r ≡ is_some o → is_none later ≡ is_some cs
    → is_none (stops.stop_or n r later) ≡ is_some (o ⊳ λ c. option_map (λ xs. c ∷ xs) cs)
later_same n (Ok x) None later cs e k = cc
later_same n (Ok x) (Some c) later cs e k = k ∙ sym (mapped _ cs)
later_same n (Err h) None later cs e k = refl
later_same n (Err h) (Some c) later cs e k = cc

-- what the word after the reference says, and what follows
behind_component_same : (reference word : List ℕ) (us : Tokens)
    → is_ok (stops.◌>>=◌ (stops.expected wanted.Requirement (word ∷ us)) (λ u. stops.behind_component (bytes_eq word (codes "N")) u))
    ≡ is_some (if bytes_eq word (codes "N") then no_more (component.NotUsed reference) us else used_component reference word us)
unfolding used_component
behind_component_same reference word us =
    by_bool (bytes_eq word (codes "N"))
    (λ h. rw h (end_same (component.NotUsed reference) us))
    (λ h. by_option (requirement_of word) (λ n. rw (h, n) refl)
    (λ r s. rw (h, s) (measure_same wanted.ComponentType us stops.row_read _ (λ t. refl)
    (λ m vs. row_same reference r m vs ∙ sym (then_some component.Simple (row_of_tokens reference r m vs))))))

component_same : (ts : Tokens) → is_ok (stops.component_read ts) ≡ is_some (component_of ts)
unfolding component_of
component_same [] = refl
component_same (t ∷ []) = by_option (reference_of t) (λ n. rw n refl) (λ x s. rw s refl)
component_same (t ∷ word ∷ us) =
    by_option (reference_of t) (λ n. rw n refl) (λ x s. rw s (behind_component_same x word us))

components_same : (n : ℕ) (gs : List Tokens) → is_none (stops.components_stop n gs) ≡ is_some (components_of_tokens gs)
components_same n [] = refl
components_same n (g ∷ gs) =
    later_same n (stops.component_read g) (component_of g) (stops.components_stop (n + 1) gs) (components_of_tokens gs) (component_same g)
    (components_same (n + 1) gs)

-- only a composite has something after a semicolon
alone_same : (r : Result Tokens Halt) (o : Option Element) (behind : Tokens) → is_ok r ≡ is_some o
    → is_none (stops.head_stop (stops.then_components false r) behind) ≡ is_some (alone (behind_first behind) o)
alone_same (Ok x) o [] e = e
alone_same (Ok x) o (s ∷ ts) e = refl
alone_same (Err h) o [] e = e
alone_same (Err h) o (s ∷ ts) e = refl

composite_by : (f : ℕ → List Component → Element) (n : ℕ) (ts behind : Tokens)
    → is_none (stops.head_stop (stops.then_components true (stops.at_end wanted.Components ts)) behind)
    ≡ is_some (no_more n ts ⊳ λ count. components_behind (behind_first behind) ⊳ λ cs. Some (f count cs))
composite_by f n [] [] = refl
composite_by f n [] (s ∷ ts) = components_same 1 (token_groups ts) ∙ sym (then_some (f n) (components_of_tokens (token_groups ts)))
composite_by f n (t ∷ ts) behind = refl

composite_same : (reference : List ℕ) (r : Requirement) (ks behind : Tokens)
    → is_none (stops.head_stop (stops.then_components true (stops.at_end wanted.Components (take_repeat ks).1)) behind)
    ≡ is_some (composite_of reference r ks (behind_first behind))
unfolding composite_of
composite_same reference r ks behind = composite_by _ (take_repeat ks).0 (take_repeat ks).1 behind

simple_same : (reference : List ℕ) (r : Requirement) (ts : Tokens)
    → is_ok (stops.◌>>=◌ (stops.measure_read wanted.ElementType ts) (λ m. stops.row_read (take_repeat m).1))
    ≡ is_some (simple_of reference r ts)
unfolding simple_of
simple_same reference r ts =
    measure_same wanted.ElementType ts (λ m. stops.row_read (take_repeat m).1) _ (λ t. refl)
    (λ m us. row_same reference r m (take_repeat us).1
    ∙ sym (then_some (λ row. element.Simple row (take_repeat us).0) (row_of_tokens reference r m (take_repeat us).1)))

-- what is after the requirement of an element that is used
used_same : (reference : List ℕ) (r : Requirement) (us behind : Tokens)
    → is_none (stops.head_stop (stops.behind_element false us) behind)
    ≡ is_some (next_token us ⊳ λ t. if bytes_eq t.0 (codes "C") then composite_of reference r t.1 (behind_first behind)
    else alone (behind_first behind) (simple_of reference r us))
used_same reference r [] behind = refl
used_same reference r (k ∷ ks) behind =
    by_bool (bytes_eq k (codes "C"))
    (λ h. rw h (composite_same reference r ks behind))
    (λ h. rw h (alone_same _ (simple_of reference r (k ∷ ks)) behind (simple_same reference r (k ∷ ks))))

element_same : (head behind : Tokens)
    → is_none (stops.head_stop (stops.head_read head) behind) ≡ is_some (element_in head (behind_first behind))
unfolding element_in used_element
element_same [] behind = refl
element_same (t ∷ []) behind = by_option (reference_of t) (λ n. rw n refl) (λ x s. rw s refl)
element_same (t ∷ word ∷ us) behind =
    by_option (reference_of t) (λ n. rw n refl)
    (λ x s. rw s (by_bool (bytes_eq word (codes "N"))
    (λ h. rw h (alone_same (stops.at_end wanted.End us) (no_more (element.NotUsed x) us) behind
    (end_same (element.NotUsed x) us)))
    (λ h. by_option (requirement_of word) (λ n. rw (h, n) refl) (λ r q. rw (h, q) (used_same x r us behind)))))

pub stops_exactly : (text : List ℕ) → is_none (stops.element_stop text) ≡ is_some (element_of_text text)
stops_exactly text =
    let ts = tokens_of text in
    element_same (take (position_or_len is_semicolon ts) ts) (drop (position_or_len is_semicolon ts) ts)
