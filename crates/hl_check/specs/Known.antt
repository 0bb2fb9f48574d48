-- X12.6, hierarchical level segment (own): what is known of the HLs so far by an ordered map of their numbers, and by an ordered
-- set of the numbers that they name. Private.
use Rattle.std.specs.Prelude.{ℕ, ◌≡◌, List, option_map}
use Rattle.std.specs.BTreeMap.{BTreeMap, get}
use Rattle.std.specs.BTreeSet.{BTreeSet, contains}
use Rattle.x12_bytes.specs.declared.delims.Delims.{Delims}
use Rattle.hub_kinds.specs.Words.{by_text}
use Rattle.guide_tree.specs.Words.{Segment}
use Rattle.hl_check.specs.Hierarchy.{first_numbered, level_of, is_named}
use denote.Ref.{Bor}

-- the map has the level of the first HL with each number
abbrev pub KnowsLevels : BTreeMap (Bor (List ℕ)) (Bor (List ℕ)) → List Segment → Type 0
KnowsLevels levels hls = (q : Bor (List ℕ)) → option_map (λ l. l.now) (get by_text levels q) ≡ option_map level_of
    (first_numbered q.now hls)

-- the set has exactly the numbers that some HL02 is
abbrev pub KnowsNamed : BTreeSet (Bor (List ℕ)) → Delims → List Segment → Type 0
KnowsNamed named delims hls = (q : Bor (List ℕ)) → contains by_text named q ≡ is_named delims hls q.now
