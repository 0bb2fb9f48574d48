-- The texts of picks, relational conditions, pairs of levels, codes and kinds.
use Rattle.std.proofs.Common.{◌≡◌, ℕ, ◌+◌, ◌-◌, ◌*◌, List, [], ◌∷◌, Option, Some, None, Bool, true, false, cond, not, ◌&&◌, ◌==◌}
use Rattle.std.proofs.Common.{option_map, option_and_then, take, drop, codes, bytes_eq, refl, sym, ap, ◌∙◌, arith, one-add, append-nil}
use Rattle.std.proofs.Common.{take-append-drop, ◌++◌, nat_le, length}
use Rattle.std.proofs.Math.Bool.{and-true}
use Rattle.std.proofs.lemmas.Bool.Decides.{Decides-eqb, same_from_decides}
use Rattle.std.specs.List.{list_all, position_or_len}
use Rattle.std.specs.Char.{is_ascii_digit, is_ascii_alphanumeric}
use Rattle.hub_kinds.specs.Words.{is_word}
use Rattle.hub_kinds.specs.declared.codes.SegmentCode.TheVariants as ik304
use Rattle.hub_kinds.specs.declared.codes.ElementCode.TheVariants as ik403
use Rattle.guide_tree.specs.declared.slot.Condition.{Condition}
use Rattle.guide_tree.specs.declared.slot.Relation.{Relation}
use Rattle.guide_tree.specs.declared.slot.Relation.TheVariants as relation
use Rattle.guide_tree.specs.declared.rows.HlPair.{HlPair}
use Rattle.guide_tree.specs.declared.rows.DependencyKind.{DependencyKind}
use Rattle.guide_tree.specs.declared.rows.DependencyKind.TheVariants as depends
use Rattle.toml.specs.Data.{Data, as_str}
use Rattle.guide_toml.specs.Tokens.{tokens_of}
use Rattle.guide_toml.specs.ElementTexts.{Tokens, next_token}
use Rattle.guide_toml.specs.Entries.{pick_of as old_pick, pick_codes, is_slash, pair_behind, parent_of, position_of}
use Rattle.guide_toml.specs.Entries as then
use Rattle.guide_toml.specs.Counts.{count_of}
use Rattle.guide_toml.specs.Values.{dependency_kind_of, dependency_kind_in}
use Rattle.night_definition.specs.Tables.{one_of}
use Rattle.night_definition.specs.GuideFile.{condition_of, element_code, pair_in, pair_of, pick_in, pick_of, positions_of, segment_code}
use Rattle.night_equal_guides.proofs.Steps.{first_if, same_steps, turned}
use Rattle.night_equal_guides.proofs.Tokens.{count_is, parts_are, parts_behind}

-- picks
picked : (ts : Tokens)
    → pick_in ts ≡ option_and_then (λ (t : List ℕ × Tokens). option_and_then (λ n. pick_codes n t.1) (count_of t.0)) (next_token ts)
picked [] = refl
picked (t ∷ ts) = ap (option_and_then (λ n. pick_codes n ts)) (count_is t)

pub pick_is : (text : List ℕ) → pick_of text ≡ old_pick text
unfolding old_pick
pick_is text = picked (tokens_of text)

-- conditions
eqb_turned : (a b : ℕ) → (a == b) ≡ (b == a)
eqb_turned a b =
    same_from_decides (a == b) (b == a) (Decides-eqb a b)
    (λ e. sym ((Decides-eqb b a).0 e), λ e. (Decides-eqb b a).1 (sym e))

-- texts of one byte
same_byte : (a b : ℕ) → bytes_eq (a ∷ []) (b ∷ []) ≡ (b == a)
same_byte a b = and-true (a == b) ∙ eqb_turned a b

abbrev relations : List (List ℕ × Relation)
relations =
    (codes "P", relation.Paired) ∷ (codes "R", relation.Required) ∷ (codes "E", relation.Exclusion)
    ∷ (codes "C", relation.Conditional) ∷ (codes "L", relation.ListConditional) ∷ []

relation_is : (b : ℕ) → one_of relations (b ∷ []) ≡ then.relation_of b
relation_is b =
    first_if relation.Paired _ _ _ _ (same_byte 80 b)
    (first_if relation.Required _ _ _ _ (same_byte 82 b)
    (first_if relation.Exclusion _ _ _ _ (same_byte 69 b)
    (first_if relation.Conditional _ _ _ _ (same_byte 67 b)
    (first_if relation.ListConditional _ _ _ _ (same_byte 76 b) refl))))

position_by : (a b : ℕ) (s t : Bool)
    → cond (s && (t && true)) (Some (10 * (10 * 0 + (a - 48)) + (b - 48))) None ≡ cond (s && t) (Some (10 * (a - 48) + (b - 48))) None
position_by a b true true = ap (λ n. Some (10 * n + (b - 48))) (omega arith)
position_by a b true false = refl
position_by a b false t = refl

abbrev with_positions : Option ℕ → Option (List ℕ) → Option (List ℕ)
with_positions o more = option_and_then (λ p. option_map (λ (ps : List ℕ). p ∷ ps) more) o

positions_are : (ds : List ℕ) → positions_of ds ≡ then.positions_of ds
positions_are [] = refl
positions_are (a ∷ []) = refl
positions_are (a ∷ b ∷ ds) =
    ap (λ o. with_positions o (positions_of ds)) (position_by a b (is_ascii_digit a) (is_ascii_digit b))
    ∙ ap (with_positions (position_of a b)) (positions_are ds)

abbrev conditioned : Option Relation → Option (List ℕ) → Option Condition
conditioned r positions = option_and_then (λ r. option_and_then (λ ps. Some (record { relation = r; positions = ps })) positions) r

pub condition_is : (text : List ℕ) → condition_of text ≡ then.condition_of text
condition_is [] = refl
condition_is (letter ∷ digits) =
    ap (λ r. conditioned r (positions_of digits)) (relation_is letter)
    ∙ ap (conditioned (then.relation_of letter)) (positions_are digits)

-- pairs of levels
no_slash_by : (b : ℕ) (bs : List ℕ) (slash letter : Bool) → (b == 47) ≡ slash → is_ascii_alphanumeric b ≡ letter
    → (letter && list_all is_ascii_alphanumeric bs) ≡ true
    → (list_all is_ascii_alphanumeric bs ≡ true → drop (position_or_len is_slash bs) bs ≡ [])
    → drop (cond (not slash) (1 + position_or_len is_slash bs) 0) (b ∷ bs) ≡ []
no_slash_by b bs true letter e f all more =
    let no : is_ascii_alphanumeric b ≡ false = ap is_ascii_alphanumeric ((Decides-eqb b 47).0 e) in
    let is : letter ≡ false = sym f ∙ no in
    let false_is_true : false ≡ true = ap (λ l. l && list_all is_ascii_alphanumeric bs) (sym is) ∙ all in cc
no_slash_by b bs false true e f all more = ap (λ n. drop n (b ∷ bs)) (one-add (position_or_len is_slash bs)) ∙ more all
no_slash_by b bs false false e f all more = let no : false ≡ true = all in cc

has_no_slash : (text : List ℕ) → list_all is_ascii_alphanumeric text ≡ true → drop (position_or_len is_slash text) text ≡ []
has_no_slash [] e = refl
has_no_slash (b ∷ bs) e = no_slash_by b bs (b == 47) (is_ascii_alphanumeric b) refl refl e (λ f. has_no_slash bs f)

last_true : (a b c : Bool) → (a && b && c) ≡ true → c ≡ true
last_true true true c e = e
last_true true false c e = let no : false ≡ true = e in cc
last_true false b c e = let no : false ≡ true = e in cc

abbrev old_pair : (parent child : List ℕ) → Option HlPair
old_pair parent child = cond (is_word 1 2 child) (option_map (λ p. record { parent = p; child = child }) (parent_of parent)) None

two_parts : (parent child : List ℕ) → pair_in (parent ∷ child ∷ []) ≡ old_pair parent child
two_parts [] child = by (is_word 1 2 child)
  where
    by : (w : Bool)
        → option_and_then (λ c. Some (let p : HlPair = record { parent = None; child = c } in p)) (cond w (Some child) None)
        ≡ cond w (Some (record { parent = None; child = child })) None
    by true = refl
    by false = refl
two_parts (b ∷ bs) child = by (is_word 1 2 (b ∷ bs)) (is_word 1 2 child)
  where
    by : (v w : Bool)
        → option_and_then (λ p. option_and_then (λ c. Some (let q : HlPair = record { parent = Some p; child = c } in q))
        (cond w (Some child) None)) (cond v (Some (b ∷ bs)) None)
        ≡ cond w (option_map (λ p. record { parent = p; child = child }) (cond v (Some (Some (b ∷ bs))) None)) None
    by true true = refl
    by true false = refl
    by false true = refl
    by false false = refl

many_parts : (parent x y : List ℕ) (more : List (List ℕ)) → pair_in (parent ∷ x ∷ y ∷ more) ≡ None
many_parts [] x y more = refl
many_parts (b ∷ bs) x y more = refl

no_word : (child : List ℕ) (b : ℕ) (bs : List ℕ) (w : Bool) → is_word 1 2 child ≡ w
    → drop (position_or_len is_slash child) child ≡ b ∷ bs → w ≡ false
no_word child b bs false e f = refl
no_word child b bs true e f =
    let all = last_true (nat_le 1 (length child)) (nat_le (length child) 2) (list_all is_ascii_alphanumeric child) e in
    let no : [] ≡ b ∷ bs = sym (has_no_slash child all) ∙ f in cc

child_is : (parent child rest : List ℕ) → drop (position_or_len is_slash child) child ≡ rest
    → pair_in (parent ∷ take (position_or_len is_slash child) child ∷ parts_behind is_slash rest) ≡ old_pair parent child
child_is parent child [] e =
    let whole : take (position_or_len is_slash child) child ≡ child =
    sym (append-nil _) ∙ ap (λ (xs : List ℕ). take (position_or_len is_slash child) child ++ xs) (sym e)
    ∙ take-append-drop (position_or_len is_slash child) child in
    ap (λ (c : List ℕ). pair_in (parent ∷ c ∷ [])) whole ∙ two_parts parent child
child_is parent child (b ∷ bs) e =
    ap (λ (more : List (List ℕ)). pair_in (parent ∷ take (position_or_len is_slash child) child ∷ more)) (parts_are is_slash bs)
    ∙ many_parts parent _ _ _
    ∙ sym (ap (λ w. cond w (option_map (λ p. let q : HlPair = record { parent = p; child = child } in q) (parent_of parent)) None)
    (no_word child b bs (is_word 1 2 child) refl e))

behind_slash : (parent rest : List ℕ) → pair_in (parent ∷ parts_behind is_slash rest) ≡ pair_behind parent rest
behind_slash [] [] = refl
behind_slash (b ∷ bs) [] = refl
behind_slash parent (slash ∷ child) =
    ap (λ (more : List (List ℕ)). pair_in (parent ∷ more)) (parts_are is_slash child) ∙ child_is parent child _ refl

pub pair_is : (text : List ℕ) → pair_of text ≡ then.pair_of text
pair_is text =
    ap pair_in (parts_are is_slash text)
    ∙ behind_slash (take (position_or_len is_slash text) text) (drop (position_or_len is_slash text) text)

-- codes, and kinds of dependencies
pub segment_code_is : (t : List ℕ) → segment_code t ≡ then.segment_code_of t
segment_code_is t =
    first_if ik304.UnrecognizedSegment _ _ _ _ (turned (codes "1") t)
    (first_if ik304.UnexpectedSegment _ _ _ _ (turned (codes "2") t)
    (first_if ik304.RequiredSegmentMissing _ _ _ _ (turned (codes "3") t)
    (first_if ik304.LoopTooOften _ _ _ _ (turned (codes "4") t)
    (first_if ik304.SegmentTooOften _ _ _ _ (turned (codes "5") t)
    (first_if ik304.NotInSet _ _ _ _ (turned (codes "6") t)
    (first_if ik304.OutOfSequence _ _ _ _ (turned (codes "7") t)
    (first_if ik304.NotUsedPresent _ _ _ _ (turned (codes "I4") t)
    (first_if ik304.DependentMissing _ _ _ _ (turned (codes "I6") t)
    (first_if ik304.LoopTooSeldom _ _ _ _ (turned (codes "I7") t)
    (first_if ik304.SegmentTooSeldom _ _ _ _ (turned (codes "I8") t)
    (first_if ik304.DependentNotUsedPresent _ _ _ _ (turned (codes "I9") t) refl)))))))))))

pub element_code_is : (t : List ℕ) → element_code t ≡ then.element_code_of t
element_code_is t =
    first_if ik403.RequiredMissing _ _ _ _ (turned (codes "1") t)
    (first_if ik403.ConditionalMissing _ _ _ _ (turned (codes "2") t)
    (first_if ik403.TooManyElements _ _ _ _ (turned (codes "3") t)
    (first_if ik403.TooShort _ _ _ _ (turned (codes "4") t)
    (first_if ik403.TooLong _ _ _ _ (turned (codes "5") t)
    (first_if ik403.InvalidCharacter _ _ _ _ (turned (codes "6") t)
    (first_if ik403.InvalidCode _ _ _ _ (turned (codes "7") t)
    (first_if ik403.InvalidDate _ _ _ _ (turned (codes "8") t)
    (first_if ik403.InvalidTime _ _ _ _ (turned (codes "9") t)
    (first_if ik403.ExclusionViolated _ _ _ _ (turned (codes "10") t)
    (first_if ik403.TooManyRepetitions _ _ _ _ (turned (codes "12") t)
    (first_if ik403.TooManyComponents _ _ _ _ (turned (codes "13") t)
    (first_if ik403.CodeNotUsed _ _ _ _ (turned (codes "I6") t)
    (first_if ik403.DependentMissing _ _ _ _ (turned (codes "I9") t)
    (first_if ik403.NotUsedPresent _ _ _ _ (turned (codes "I10") t)
    (first_if ik403.PatternFailure _ _ _ _ (turned (codes "I12") t)
    (first_if ik403.DependentNotUsedPresent _ _ _ _ (turned (codes "I13") t) refl))))))))))))))))

abbrev pub kinds : List (List ℕ × DependencyKind)
kinds = (codes "need", depends.Need) ∷ (codes "ban", depends.Ban) ∷ []

kind_of_is : (t : List ℕ) → one_of kinds t ≡ dependency_kind_of t
kind_of_is t = first_if depends.Need _ _ _ _ (turned (codes "need") t) (first_if depends.Ban _ _ _ _ (turned (codes "ban") t) refl)

pub kind_is : (d : Data) → dependency_kind_in d ≡ option_and_then (one_of kinds) (as_str d)
kind_is d = same_steps dependency_kind_of (one_of kinds) (as_str d) (λ t. sym (kind_of_is t))
