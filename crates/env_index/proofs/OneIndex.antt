-- A text has one index at most.
use Rattle.std.proofs.Common.{◌≡◌, ℕ, List, [], ◌∷◌, Option, refl, sym, ap, subst, ◌∙◌}
use Rattle.std.specs.List.{All}
use Rattle.std.proofs.lemmas.List.Elements.{All-head, All-tail}
use Rattle.hub_kinds.specs.declared.interchange.InterchangeFault.{InterchangeFault}
use Rattle.x12_segs.specs.Words.{kind_of}
use Rattle.env_index.specs.Envelope.{DerivesInterchange}
use Rattle.env_index.specs.Extents.{Extent, reach_at, count_outside}
use Rattle.env_index.specs.Faults.{fault_of}
use Rattle.env_index.specs.Index.{IndexEntry, IndexValue, IsEntryOf, IsIndex, extent_of, extents_of}
use Rattle.env_index.specs.Interchange.{InterchangeEntry, interchange_of}
use Rattle.env_index.proofs.OneChain.{chain_from_is_one}
use Rattle.env_index.proofs.OneTree.{tree_is_one}

abbrev entry_with : InterchangeEntry → Option InterchangeFault → IndexEntry
entry_with x fault = record { interchange = x; fault = fault }

entry_is_one : (text : List ℕ) (a b : IndexEntry) → IsEntryOf text a → IsEntryOf text b → extent_of a ≡ extent_of b → a ≡ b
entry_is_one text a b p q e =
    let start : a.interchange.start ≡ b.interchange.start = ap (λ (x : Extent). x.start) e in
    let derived = subst (λ (n : ℕ). DerivesInterchange kind_of (reach_at text n).segs p.read.tree) start p.read.derived in
    let trees : p.read.tree ≡ q.read.tree = tree_is_one kind_of (reach_at text b.interchange.start).segs p.read.tree q.read.tree derived
    q.read.derived in
    let same : a.interchange ≡ b.interchange = p.read.read ∙ ap (λ (n : ℕ). interchange_of text n p.read.tree) start
    ∙ ap (interchange_of text b.interchange.start) trees ∙ sym q.read.read in
    let fault : a.fault ≡ b.fault = p.fault ∙ ap fault_of same ∙ sym q.fault in
    ap (λ (x : InterchangeEntry). entry_with x a.fault) same
    ∙ ap (λ (f : Option InterchangeFault). entry_with b.interchange f) fault

entries_are_one : (text : List ℕ) (es fs : List IndexEntry) → All (IsEntryOf text) es → All (IsEntryOf text) fs
    → extents_of es ≡ extents_of fs → es ≡ fs
entries_are_one text [] [] p q e = refl
entries_are_one text [] (f ∷ fs) p q e = cc
entries_are_one text (x ∷ es) [] p q e = cc
entries_are_one text (x ∷ es) (f ∷ fs) p q e =
    let first : extent_of x ≡ extent_of f = cc in
    let rest : extents_of es ≡ extents_of fs = cc in
    ap (λ (y : IndexEntry). y ∷ es)
    (entry_is_one text x f (All-head (IsEntryOf text) x es p) (All-head (IsEntryOf text) f fs q) first)
    ∙ ap (λ (l : List IndexEntry). f ∷ l)
    (entries_are_one text es fs (All-tail (IsEntryOf text) x es p) (All-tail (IsEntryOf text) f fs q) rest)

abbrev index_with : List ℕ → List IndexEntry → ℕ → IndexValue
index_with text entries outside = record { text = text; entries = entries; outside = outside }

pub index_is_one : (text : List ℕ) (a b : IndexValue) → IsIndex text a → IsIndex text b → a ≡ b
index_is_one text a b p q =
    let extents : extents_of a.entries ≡ extents_of b.entries
    = chain_from_is_one text 0 (extents_of a.entries) (extents_of b.entries) p.chain q.chain in
    let entries : a.entries ≡ b.entries = entries_are_one text a.entries b.entries p.entries q.entries extents in
    let outside : a.outside ≡ b.outside = p.outside ∙ ap (count_outside text 0) extents ∙ sym q.outside in
    ap (λ (t : List ℕ). index_with t a.entries a.outside) (p.same ∙ sym q.same)
    ∙ ap (λ (es : List IndexEntry). index_with b.text es a.outside) entries
    ∙ ap (λ (n : ℕ). index_with b.text b.entries n) outside
