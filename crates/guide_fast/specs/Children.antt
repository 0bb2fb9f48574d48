-- X12.6, order of segments (own): the ids that the nodes of one parent begin with, and the first of some of them that a segment fits.
use Rattle.std.specs.Prelude.{ℕ, List, [], ◌∷◌, nat_lt, cond, Option, Some, None, option_map, slice_get}
use Rattle.guide_tree.specs.declared.node.Node.{Node}
use Rattle.guide_tree.specs.Words.{Segment, Candidate, or_else, into, use_of, first_id, fit_start, view}

abbrev pub begin_id : Node → List ℕ
begin_id n = first_id (view n)

abbrev pub fit_node : Segment → Option Node → Option Candidate
fit_node s None = None
fit_node s (Some n) = fit_start s (view n)

abbrev pub fit_child : Segment → List Node → (child : ℕ) → Option Candidate
fit_child s ns k = option_map (into (use_of k 0)) (fit_node s (slice_get ns k))

abbrev pub fit_listed : Segment → List Node → (children : List ℕ) → Option Candidate
fit_listed s ns [] = None
fit_listed s ns (k ∷ ks) = or_else (fit_child s ns k) (fit_listed s ns ks)

-- the children before the first that isn't below a place
abbrev pub until : (end : ℕ) → (children : List ℕ) → List ℕ
until end [] = []
until end (k ∷ ks) = cond (nat_lt k end) (k ∷ until end ks) []
