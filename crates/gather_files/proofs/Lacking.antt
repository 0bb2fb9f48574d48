-- A file that lacks nothing, by the definition and by the layers.
use Rattle.std.proofs.Common.{◌≡◌, ℕ, suc, ◌+◌, ◌-◌, ◌<◌, ◌≤◌, List, [], ◌∷◌, true, false, length, drop, sym, ap, subst, ◌∙◌}
use Rattle.std.proofs.Common.{arith, inl, inr}
use Rattle.std.specs.Prelude.{◌↔◌, ◌==◌, slice_index_or}
use Rattle.std.specs.List.{All, prefix_len}
use Rattle.std.proofs.lemmas.Bool.{both_ways, cases_Bool, eq-eqb, eqb-true}
use Rattle.std.proofs.lemmas.List.{length-drop}
use Rattle.std.proofs.lemmas.List.Elements.{All-cons, All-head, All-nil, All-tail}
use Rattle.std.proofs.lemmas.List.Splits.{length-slice_split}
use Rattle.std.proofs.lemmas.List.Sums.{prefix_len-le-length}
use Rattle.x12_bytes.specs.Bytes.{is_line_end}
use Rattle.x12_bytes.specs.Header.{header_at, terminator_of}
use Rattle.x12_segs.specs.Words.{rest_from, rest_of}
use Rattle.x12_segs.proofs.ForAbove.{span-split, span_of}
use Rattle.env_index.specs.Words.{ChainFrom}
use Rattle.env_index.proofs.ForAbove.{chain_from_is_one, head_within}
use Rattle.whole_interchanges.specs.Begun.{may_begin}
use Rattle.night_definition.specs.Header.{divided}
use Rattle.night_definition.specs.Segments.{is_blank}
use Rattle.night_definition.specs.Interchanges.{Interchange, interchange_at, text_of}
use Rattle.night_equal.proofs.ForAbove.{heads}
use Rattle.gather_files.specs.Gathered.{IsClosed, IsClosedFile, StandsApart}
use Rattle.gather_files.specs.Unfinished.{EndsClosed, LacksNothing, MayBegin, last_part}
use Rattle.gather_files.proofs.Completing.{begun_is_one}
use Rattle.gather_files.proofs.Walks.{chain_of, each_there, extent, extents}

abbrev last_of : List (List ℕ) → List ℕ
last_of ps = slice_index_or ps (length ps - 1) []

-- the rest begins in the last part, after its CR and LF
rest_spans : (place : ℕ) (ps : List (List ℕ)) → 1 ≤ length ps
    → (rest_of place ps).start + (length (last_of ps) - prefix_len is_line_end (last_of ps)) + 1 ≡ place + span_of ps
rest_spans place [] some = absurd (omega (arith, some))
rest_spans place (rest ∷ []) some =
    let bound : prefix_len is_line_end rest ≤ length rest = prefix_len-le-length is_line_end rest in
    (omega (arith, bound))
rest_spans place (part ∷ next ∷ more) some =
    let later = rest_spans (place + length part + 1) (next ∷ more) (omega arith) in
    let index : length (part ∷ next ∷ more) - 1 ≡ suc (length (next ∷ more) - 1) = omega arith in
    let same : last_of (part ∷ next ∷ more) ≡ last_of (next ∷ more) =
    ap (λ (k : ℕ). slice_index_or (part ∷ next ∷ more) k []) index in
    ap (λ (l : List ℕ). (rest_of place (part ∷ next ∷ more)).start + (length l - prefix_len is_line_end l) + 1) same
    ∙ later ∙ (omega arith)

-- nothing but CR and LF after the last terminator
pub blank_is : (text : List ℕ) (t from : ℕ) → from ≤ length text
    → (is_blank (last_part t (drop from text)) ≡ true) ↔ ((rest_from text t from).start ≡ length text)
blank_is text t from le =
    let ps : List (List ℕ) = divided t (drop from text) in
    let last : List ℕ = last_part t (drop from text) in
    let lead : ℕ = prefix_len is_line_end last in
    let some : 1 ≤ length ps = omega (arith, length-slice_split (λ b. b == t) (drop from text)) in
    let spans : (rest_from text t from).start + (length last - lead) + 1 ≡ from + span_of ps = rest_spans from ps some in
    let all : span_of ps ≡ length (drop from text) + 1 = span-split (λ b. b == t) (drop from text) in
    let left : length (drop from text) ≡ length text - from = length-drop from text in
    let bound : lead ≤ length last = prefix_len-le-length is_line_end last in (
      λ blank. (let is : lead ≡ length last = eqb-true lead (length last) blank in omega (arith, spans, all, left, le, is)),
      λ at_end. eq-eqb lead (length last) (omega (arith, spans, all, left, le, bound, at_end)),
    )

abbrev IsThere : List ℕ → Interchange → Type 0
IsThere text x = x ≡ interchange_at text x.start

-- one interchange
module _ (file : List ℕ) (x : Interchange) (there : IsThere file x) (fits : x.start + 106 ≤ length file) where
  same_terminator : x.delims.terminator ≡ terminator_of (header_at file x.start)
  same_terminator = ap (λ (y : Interchange). y.delims.terminator) there

  by_layers : EndsClosed file x → IsClosed file (extent x)
  by_layers closed = λ at_end. (blank_is file (terminator_of (header_at file x.start)) (x.start + 106) fits).0
      (ap (λ (t : ℕ). is_blank (last_part t (drop (x.start + 106) file))) (sym same_terminator) ∙ closed at_end)

  by_definition : IsClosed file (extent x) → EndsClosed file x
  by_definition closed = λ at_end. ap (λ (t : ℕ). is_blank (last_part t (drop (x.start + 106) file))) same_terminator
      ∙ (blank_is file (terminator_of (header_at file x.start)) (x.start + 106) fits).1 (closed at_end)

all_by_layers : (file : List ℕ) (from : ℕ) (xs : List Interchange) → ChainFrom file from (extents xs) → All (IsThere file) xs
    → All (EndsClosed file) xs → All (IsClosed file) (extents xs)
all_by_layers file from [] chain there closed = All-nil (IsClosed file)
all_by_layers file from (x ∷ xs) chain there closed =
    All-cons (IsClosed file) (extent x) (extents xs)
    (by_layers file x (All-head (IsThere file) x xs there) (head_within file x.start chain.0.head) (All-head (EndsClosed file) x xs closed))
    (all_by_layers file x.end xs chain.2 (All-tail (IsThere file) x xs there) (All-tail (EndsClosed file) x xs closed))

all_by_definition : (file : List ℕ) (from : ℕ) (xs : List Interchange) → ChainFrom file from (extents xs) → All (IsThere file) xs
    → All (IsClosed file) (extents xs) → All (EndsClosed file) xs
all_by_definition file from [] chain there closed = All-nil (EndsClosed file)
all_by_definition file from (x ∷ xs) chain there closed =
    All-cons (EndsClosed file) x xs
    (by_definition file x (All-head (IsThere file) x xs there) (head_within file x.start chain.0.head)
    (All-head (IsClosed file) (extent x) (extents xs) closed))
    (all_by_definition file x.end xs chain.2 (All-tail (IsThere file) x xs there) (All-tail (IsClosed file) (extent x) (extents xs) closed))

closed_file : (file : List ℕ) → All (EndsClosed file) (text_of file).interchanges → IsClosedFile file
closed_file file closed = λ xs chain.
    (let found : List Interchange = (text_of file).interchanges in
    let same : extents found ≡ xs = chain_from_is_one file 0 (extents found) xs (chain_of file) chain in
    subst (All (IsClosed file)) same (all_by_layers file 0 found (chain_of file) (each_there file) closed))

none_begins : (file : List ℕ) (q : ℕ) → q < length file → (MayBegin file q → ⊥) → may_begin file q ≡ false
none_begins file q lt none = elim (cases_Bool (may_begin file q)) [
  | inl begun ↦ absurd (none ((begun_is_one file q (omega (arith, lt))).1 begun))
  | inr closed ↦ closed
]

pub lack_is_one : (file : List ℕ) → LacksNothing file ↔ StandsApart file
lack_is_one file = (
  λ lacks. record {
    closed = closed_file file lacks.closed;
    fit = record { begins = sym (heads file 0) ∙ lacks.begins; ends = λ q lt. none_begins file q lt (lacks.no_header q lt) };
  },
  λ apart. (
      let found : List Interchange = (text_of file).interchanges in
      record {
        begins = heads file 0 ∙ apart.fit.begins;
        closed = all_by_definition file 0 found (chain_of file) (each_there file) (apart.closed (extents found) (chain_of file));
        no_header = λ offset lt may. both_ways (may_begin file offset) (apart.fit.ends offset lt)
            ((begun_is_one file offset (omega (arith, lt))).0 may);
      }),
)
