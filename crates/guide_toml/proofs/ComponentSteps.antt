-- Components read one after another.
use Rattle.std.proofs.Common.{◌≡◌, ℕ, ◌+◌, ◌<◌, List, [], ◌∷◌, ◌++◌, length, take, drop, Some, option_map, sym, ap}
use Rattle.std.proofs.Common.{◌∙◌, arith, append-nil}
use Rattle.std.proofs.lemmas.List.{drop-drop, take_all}
use Rattle.std.proofs.lemmas.List.Splits.{slice_split_first}
use Rattle.std.specs.List.{position_or_len}
use Rattle.guide_tree.specs.declared.element.Component.{Component}
use Rattle.toml_keys.specs.declared.text_fault.TextFault.{TextFault}
use Rattle.toml_keys.specs.Reads.{Lacks}
use Rattle.guide_toml.specs.Tokens.{is_semicolon, token_groups}
use Rattle.guide_toml.specs.ElementTexts.{Tokens, component_of, components_of_tokens}
use Rattle.guide_toml.proofs.Cuts.{last_part}
use Rattle.toml_keys.proofs.ForAbove.{lacks_all, adds}
use Rattle.guide_toml.proofs.Groups.{first_part}

-- where the reading stands: done is read, and a group is the next one of the text
pub record Stands (done : List Component) (text : Tokens) (from end : ℕ) (rest group : Tokens) : Type 0 where
  pub rest_is : rest ≡ drop from text
  pub end_is : end ≡ position_or_len is_semicolon rest
  pub group_is : group ≡ take end rest
  pub so_far : option_map (λ ys. done ++ ys) (components_of_tokens (token_groups (drop from text))) ≡ components_of_tokens
      (token_groups text)

cut_is : (text : Tokens) (from end : ℕ) (rest group : Tokens) → rest ≡ drop from text
    → end ≡ position_or_len is_semicolon rest → group ≡ take end rest
    → take (position_or_len is_semicolon (drop from text)) (drop from text) ≡ group
cut_is text from end rest group r e g =
    ap (λ (x : Tokens). take (position_or_len is_semicolon x) x) (sym r) ∙ ap (λ (n : ℕ). take n rest) (sym e) ∙ sym g

-- the group is the first of those from here on
pub first_group : (text : Tokens) (from end : ℕ) (rest group : Tokens) → rest ≡ drop from text
    → end ≡ position_or_len is_semicolon rest → group ≡ take end rest
    → token_groups (drop from text) ≡ group ∷ (first_part is_semicolon (drop from text) []).more
first_group text from end rest group r e g =
    let p = first_part is_semicolon (drop from text) [] in
    p.is ∙ ap (λ (x : Tokens). x ∷ p.more) (cut_is text from end rest group r e g)

-- and the only one, where no semicolon stands after it
pub only_group : (text : Tokens) (from end : ℕ) (rest group : Tokens) → rest ≡ drop from text
    → end ≡ position_or_len is_semicolon rest → group ≡ take end rest → end ≡ length rest
    → token_groups (drop from text) ≡ group ∷ []
only_group text from end rest group r e g l =
    let whole : group ≡ drop from text = g ∙ take_all end rest (omega arith) ∙ r in
    let all : position_or_len is_semicolon (drop from text) ≡ length (drop from text) =
    ap (position_or_len is_semicolon) (sym r) ∙ sym e ∙ l ∙ ap length r in
    last_part is_semicolon (drop from text) all ∙ ap (λ (t : Tokens). t ∷ []) (sym whole)

-- else others follow after that semicolon
pub next_group : (text : Tokens) (from end : ℕ) (rest group : Tokens) → rest ≡ drop from text
    → end ≡ position_or_len is_semicolon rest → group ≡ take end rest → end < length rest
    → token_groups (drop from text) ≡ group ∷ token_groups (drop (from + (end + 1)) text)
next_group text from end rest group r e g l =
    let at : end ≡ position_or_len is_semicolon (drop from text) = e ∙ ap (position_or_len is_semicolon) r in
    let long = ap length r in
    let f = slice_split_first is_semicolon (drop from text) [] (omega arith) in
    f ∙ ap (λ (t : Tokens). t ∷ token_groups (drop (position_or_len is_semicolon (drop from text) + 1) (drop from text)))
    (cut_is text from end rest group r e g)
    ∙ ap (λ (n : ℕ). group ∷ token_groups (drop (n + 1) (drop from text))) (sym at)
    ∙ ap (λ (t : Tokens). group ∷ token_groups t) (drop-drop (end + 1) from text)

pub fails_here : (done : List Component) (text : Tokens) (from end : ℕ) (rest group : Tokens) (f : TextFault)
    → Stands done text from end rest group → Lacks f (component_of group) → Lacks f (components_of_tokens (token_groups text))
fails_here done text from end rest group f s h =
    let p = first_part is_semicolon (drop from text) [] in
    let e = first_group text from end rest group s.rest_is s.end_is s.group_is in
    lacks_all f (component_of group) (λ c. option_map (λ cs. c ∷ cs) (components_of_tokens p.more)) (λ ys. done ++ ys)
    (components_of_tokens (token_groups text)) h
    (ap (λ (gs : List Tokens). option_map (λ ys. done ++ ys) (components_of_tokens gs)) (sym e) ∙ s.so_far)

pub ends_here : (done : List Component) (text : Tokens) (from end : ℕ) (rest group : Tokens) (x : Component)
    → Stands done text from end rest group → component_of group ≡ Some x → end ≡ length rest
    → components_of_tokens (token_groups text) ≡ Some (done ++ x ∷ [])
ends_here done text from end rest group x s h l =
    let e = only_group text from end rest group s.rest_is s.end_is s.group_is l in
    sym (adds done x (component_of group) (Some []) (components_of_tokens (token_groups text)) h
    (ap (λ (gs : List Tokens). option_map (λ ys. done ++ ys) (components_of_tokens gs)) (sym e) ∙ s.so_far))
    ∙ ap Some (append-nil (done ++ x ∷ []))

pub goes_on : (done : List Component) (text : Tokens) (from end : ℕ) (rest group : Tokens) (x : Component)
    → Stands done text from end rest group → component_of group ≡ Some x → end < length rest
    → option_map (λ ys. (done ++ x ∷ []) ++ ys)
    (components_of_tokens (token_groups (drop (from + (end + 1)) text))) ≡ components_of_tokens (token_groups text)
goes_on done text from end rest group x s h l =
    let e = next_group text from end rest group s.rest_is s.end_is s.group_is l in
    adds done x (component_of group) (components_of_tokens (token_groups (drop (from + (end + 1)) text)))
    (components_of_tokens (token_groups text)) h
    (ap (λ (gs : List Tokens). option_map (λ ys. done ++ ys) (components_of_tokens gs)) (sym e) ∙ s.so_far)
