-- What is at a key of a table, and in the lists of its entries.
use Rattle.std.proofs.Common.{◌≡◌, ◌∙◌, ℕ, List, [], ◌∷◌, Option, None, Some, Bool}
use Rattle.std.proofs.Common.{Ordering, Less, Equal, Greater, nat_cmp, is_eq, cond, refl, sym, ap}
use Rattle.std.specs.Prelude.{option_and_then}
use Rattle.std.specs.Str.{bytes_eq}
use Rattle.std.specs.Cmp.Lexicographic.{slice_cmp}
use Rattle.std.specs.Ordering.{match_ordering}
use Rattle.std.proofs.lemmas.Map.Text.{is_eq-slice_cmp}
use Rattle.toml.specs.Data.{Data, Members, as_str, as_table, get_member, no_members, member}
use Rattle.guide_names.specs.Names.{entries_at, inner, inside, members_or_none, tables_of, text_at, texts_of}

text_step : (o : Ordering) (d : Data) (rest : Option Data)
    → cond (is_eq o) (as_str d) (option_and_then as_str rest) ≡ option_and_then as_str (match_ordering o rest (Some d) rest)
text_step Less d rest = refl
text_step Equal d rest = refl
text_step Greater d rest = refl

pub text_of_member : (key : List ℕ) (ms : Members) → text_at key (texts_of ms) ≡ option_and_then as_str (get_member key ms)
text_of_member key no_members = refl
text_of_member key (member k d ms) =
    ap (λ (b : Bool). cond b (as_str d) (text_at key (texts_of ms))) (sym (is_eq-slice_cmp key k))
    ∙ ap (cond (is_eq (slice_cmp nat_cmp key k)) (as_str d)) (text_of_member key ms)
    ∙ text_step (slice_cmp nat_cmp key k) d (get_member key ms)

entries_step : (o : Ordering) (d : Data) (rest : Option Data)
    → cond (is_eq o) (inner d) (texts_of (members_or_none (option_and_then as_table rest)))
    ≡ texts_of (members_or_none (option_and_then as_table (match_ordering o rest (Some d) rest)))
entries_step Less d rest = refl
entries_step Equal d rest = refl
entries_step Greater d rest = refl

pub entries_of_member : (key : List ℕ) (ms : Members) → entries_at key (tables_of ms) ≡ texts_of (inside key ms)
entries_of_member key no_members = refl
entries_of_member key (member k d ms) =
    ap (λ (b : Bool). cond b (inner d) (entries_at key (tables_of ms))) (sym (is_eq-slice_cmp key k))
    ∙ ap (cond (is_eq (slice_cmp nat_cmp key k)) (inner d)) (entries_of_member key ms)
    ∙ entries_step (slice_cmp nat_cmp key k) d (get_member key ms)
