-- Tallies join like the stretches that they are of.
use Rattle.std.proofs.Common.{◌≡◌, ℕ, List, [], ◌∷◌, ◌++◌, refl, sym, ap, ◌∙◌, arith}
use Rattle.count_numbers.specs.declared.run.RunKey.{RunKey}
use Rattle.count_numbers.specs.declared.run.Run.{Run}
use Rattle.count_numbers.specs.Runs.{together, single, join_runs, runs_of}
use Rattle.count_numbers.specs.Tally.{Entry, Acknowledged, Delivered, PartnerTally, acknowledged_groups, acknowledgment_count}
use Rattle.count_numbers.specs.Tally.{groups_in_one, joined, keys_of, tally_of, IsCount, PieceLaws}
use Rattle.count_numbers.specs.Keys.{together_assoc}
use Rattle.count_numbers.specs.Joining.{join_nil, join_assoc, runs_append}

abbrev tally : (acknowledgments groups : ℕ) → List Run → PartnerTally
tally acknowledgments groups runs = record { acknowledgments = acknowledgments; groups = groups; runs = runs }

pub same_tally : (m n g h : ℕ) (rs ss : List Run) → m ≡ n → g ≡ h → rs ≡ ss → tally m g rs ≡ tally n h ss
same_tally m n g h rs ss e i f = ap (λ (k : ℕ). tally k g rs) e ∙ ap (λ (k : ℕ). tally n k rs) i ∙ ap (tally n h) f

together_zero : (n : ℕ) → IsCount n → together 0 n ≡ n
together_zero n h = omega arith

zero_together : (n : ℕ) → IsCount n → together n 0 ≡ n
zero_together n h = omega arith

acks_bound : (es : List Entry) → IsCount (acknowledgment_count es)
acks_bound [] = omega arith
acks_bound (Acknowledged has_group ∷ es) = omega arith
acks_bound (Delivered key ∷ es) = acks_bound es

acks_append : (xs ys : List Entry) → acknowledgment_count (xs ++ ys) ≡ together (acknowledgment_count xs) (acknowledgment_count ys)
acks_append [] ys = sym (together_zero (acknowledgment_count ys) (acks_bound ys))
acks_append (Acknowledged has_group ∷ xs) ys =
    ap (together 1) (acks_append xs ys) ∙ sym (together_assoc 1 (acknowledgment_count xs) (acknowledgment_count ys))
acks_append (Delivered key ∷ xs) ys = acks_append xs ys

groups_bound : (es : List Entry) → IsCount (acknowledged_groups es)
groups_bound [] = omega arith
groups_bound (Acknowledged has_group ∷ es) = omega arith
groups_bound (Delivered key ∷ es) = groups_bound es

groups_append : (xs ys : List Entry) → acknowledged_groups (xs ++ ys) ≡ together (acknowledged_groups xs) (acknowledged_groups ys)
groups_append [] ys = sym (together_zero (acknowledged_groups ys) (groups_bound ys))
groups_append (Acknowledged has_group ∷ xs) ys =
    ap (together (groups_in_one has_group)) (groups_append xs ys)
    ∙ sym (together_assoc (groups_in_one has_group) (acknowledged_groups xs) (acknowledged_groups ys))
groups_append (Delivered key ∷ xs) ys = groups_append xs ys

keys_append : (xs ys : List Entry) → keys_of (xs ++ ys) ≡ keys_of xs ++ keys_of ys
keys_append [] ys = refl
keys_append (Acknowledged has_group ∷ xs) ys = keys_append xs ys
keys_append (Delivered key ∷ xs) ys = ap (λ (ks : List RunKey). key ∷ ks) (keys_append xs ys)

pub tally_append : (xs ys : List Entry) → tally_of (xs ++ ys) ≡ joined (tally_of xs) (tally_of ys)
tally_append xs ys =
    same_tally _ _ _ _ _ _ (acks_append xs ys) (groups_append xs ys)
    (ap runs_of (keys_append xs ys) ∙ runs_append (keys_of xs) (keys_of ys))

pub tallies_assoc : (a b c : PartnerTally) → joined (joined a b) c ≡ joined a (joined b c)
tallies_assoc a b c =
    same_tally _ _ _ _ _ _ (together_assoc a.acknowledgments b.acknowledgments c.acknowledgments)
    (together_assoc a.groups b.groups c.groups) (join_assoc a.runs b.runs c.runs)

pub laws : PieceLaws
laws = record {
  front_unit = λ a h. same_tally _ _ _ _ _ _ (together_zero a.acknowledgments h.0) (together_zero a.groups h.1) refl;
  back_unit = λ a h.
      same_tally _ _ _ _ _ _ (zero_together a.acknowledgments h.0) (zero_together a.groups h.1) (join_nil a.runs);
  associative = tallies_assoc;
  halves = tally_append;
}

-- one delivered set more
pub set_more : (acknowledgments groups : ℕ) (rs new : List Run) (run : Run) (key : RunKey) (es : List Entry)
    → run ≡ single key → tally acknowledgments groups rs ≡ tally_of es → new ≡ join_runs rs (run ∷ [])
    → tally acknowledgments groups new ≡ tally_of (es ++ Delivered key ∷ [])
set_more acknowledgments groups rs new run key es one was is =
    same_tally _ _ _ _ _ _
    (ap (λ (t : PartnerTally). t.acknowledgments) was ∙ sym (zero_together (acknowledgment_count es) (acks_bound es)))
    (ap (λ (t : PartnerTally). t.groups) was ∙ sym (zero_together (acknowledged_groups es) (groups_bound es)))
    (is ∙ ap (λ (r : Run). join_runs rs (r ∷ [])) one ∙ ap (λ (t : PartnerTally). join_runs t.runs (single key ∷ [])) was)
    ∙ sym (tally_append es (Delivered key ∷ []))
