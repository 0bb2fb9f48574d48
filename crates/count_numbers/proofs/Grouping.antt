-- The groups of delivered interchanges are given by runs: a run is a group in each interchange that its sets lie in.
use Rattle.std.proofs.Common.{◌≡◌, ◌<◌, ◌≤◌, ℕ, zero, suc, ◌+◌, ◌-◌, ◌*◌, ◌/◌, ◌%◌, ◌==◌, ◌^◌, Bool, true, false, if◌then◌else◌}
use Rattle.std.proofs.Common.{List, [], ◌∷◌, map, take, drop, length, refl, sym, ap, subst, ◌∙◌, arith, sum_by}
use Rattle.std.proofs.Math.Nat.{add-mul, div-mul-le_self}
use Rattle.std.proofs.Math.Seq.{drop-nil, take-nil}
use Rattle.std.proofs.lemmas.List.Sums.{sum_by-cons}
use Rattle.std.proofs.lemmas.Nat.{div-mul-add, le-div, mod-mul-add}
use Rattle.count_numbers.specs.declared.run.Run.{Run}
use Rattle.count_numbers.specs.declared.run.RunKey.{RunKey}
use Rattle.count_numbers.specs.Joining.{onto_same, onto_other}
use Rattle.count_numbers.specs.Layout.{delivered_groups, group_count, group_count_behind, interchange_count, layout_of, GroupsAreCounted}
use Rattle.count_numbers.specs.Runs.{merged, onto_runs, runs_of, same_key, single, together}
use Rattle.count_numbers.proofs.Expanding.{runs_suffice}
use Rattle.count_numbers.proofs.Interchanges.{by_rest, first_interchange, no_interchange, not_none}

by_some : (r q : ℕ) → by_rest (suc r) q ≡ q + 1
by_some r q = ap (λ (b : Bool). if b then q else q + 1) (not_none r)

no_fewer : (b : Bool) (q : ℕ) → q ≤ (if b then q else q + 1)
no_fewer true q = omega arith
no_fewer false q = omega arith

-- as many interchanges hold n sets, at least, as are full before
pub full_before : (cap m n : ℕ) → 0 < cap → m ≤ n → m / cap ≤ interchange_count cap n
full_before cap m n h few =
    let whole : m / cap * cap ≤ m = div-mul-le_self m cap in
    let full : m / cap ≤ n / cap = le-div (m / cap) n cap h (omega arith) in
    let more : n / cap ≤ interchange_count cap n = no_fewer (n % cap == 0) (n / cap) in
    omega arith

-- after a full interchanges and b sets more
count_at : (cap a b n : ℕ) → n ≡ a * cap + suc b → suc b < cap → interchange_count cap n ≡ a + 1
count_at cap a b n e h =
    ap (interchange_count cap) e
    ∙ ap (λ (q : ℕ). by_rest ((a * cap + suc b) % cap) q) (div-mul-add a cap (suc b) h)
    ∙ ap (λ (r : ℕ). by_rest r a) (mod-mul-add a cap (suc b) h)
    ∙ by_some b a

count_full : (cap a n : ℕ) → n ≡ a * cap + 0 → 0 < cap → interchange_count cap n ≡ a
count_full cap a n e h =
    ap (interchange_count cap) e
    ∙ ap (λ (q : ℕ). by_rest ((a * cap + 0) % cap) q) (div-mul-add a cap 0 h)
    ∙ ap (λ (r : ℕ). by_rest r a) (mod-mul-add a cap 0 h)

full_at : (cap a b n : ℕ) → n ≡ a * cap + b → b < cap → n / cap ≡ a
full_at cap a b n e h = ap (λ (m : ℕ). m / cap) e ∙ div-mul-add a cap b h

next_full : (cap a b n : ℕ) → n ≡ a * cap + b → b + 1 ≡ cap → n + 1 ≡ (a + 1) * cap + 0
next_full cap a b n e f = let more = add-mul a 1 cap in omega (arith, more)

-- runs with one of a key in front begin with one of that key
first_onto : (key : RunKey) (ys : List Run) → (r : Run) × (rs : List Run) × (onto_runs (single key) ys ≡ r ∷ rs) × (r.key ≡ key)
first_onto key [] = (single key, [], refl, refl)
first_onto key (y ∷ ys) = cases (same_key key y.key) refl
  where
    cases : (b : Bool) → same_key key y.key ≡ b
        → (r : Run) × (rs : List Run) × (onto_runs (single key) (y ∷ ys) ≡ r ∷ rs) × (r.key ≡ key)
    cases true e = (merged (single key) y, ys, onto_same (single key) y ys e, refl)
    cases false e = (single key, y ∷ ys, onto_other (single key) y ys e, refl)

runs_first : (key : RunKey) (keys : List RunKey)
    → (r : Run) × (rs : List Run) × (runs_of (key ∷ keys) ≡ r ∷ rs) × (r.key ≡ key)
runs_first key keys = first_onto key (runs_of keys)

longer_same : (k l : RunKey) (ks : List RunKey) → same_key k l ≡ true → length (runs_of (k ∷ l ∷ ks)) ≡ length (runs_of (l ∷ ks))
longer_same k l ks h =
    let first = runs_first l ks in
    ap (λ (ys : List Run). length (onto_runs (single k) ys)) first.2
    ∙ ap (λ (ys : List Run). length ys) (onto_same (single k) first.0 first.1 (ap (same_key k) first.3 ∙ h))
    ∙ sym (ap (λ (ys : List Run). length ys) first.2)

longer_other : (k l : RunKey) (ks : List RunKey) → same_key k l ≡ false
    → length (runs_of (k ∷ l ∷ ks)) ≡ suc (length (runs_of (l ∷ ks)))
longer_other k l ks h =
    let first = runs_first l ks in
    ap (λ (ys : List Run). length (onto_runs (single k) ys)) first.2
    ∙ ap (λ (ys : List Run). length ys) (onto_other (single k) first.0 first.1 (ap (same_key k) first.3 ∙ h))
    ∙ sym (ap (λ (ys : List Run). suc (length ys)) first.2)

same_end : (p s : ℕ) → together p (together 1 s) ≡ together (p + 1) s
same_end p s = omega arith

one_end : (p : ℕ) → p + 1 < 2 ^ 64 → together p 1 ≡ p + 1
one_end p h = omega arith

no_less : (p s : ℕ) → p < 2 ^ 64 → p ≤ together p s
no_less p s h = omega arith

-- a run that begins a set earlier
earlier : (a b u t n : ℕ) → b ≤ u → a ≤ b → b ≤ a + 1 → together (u - b) t ≤ n → n < 2 ^ 64 - 1
    → together (u - a) t ≡ (b - a) + together (u - b) t
earlier a b u t n hu ha hb few h = omega arith

one_more : (a u e n : ℕ) → u ≡ a + 1 → e ≤ n → n < 2 ^ 64 - 1 → together (u - a) e ≡ 1 + e
one_more a u e n is few h = omega arith

-- runs with one key more in front, where fewer than 2^64 sets are counted
module _ (cap : ℕ) (h : 0 < cap) (p : ℕ) (k l : RunKey) (ks : List RunKey) (n : ℕ) (few : n < 2 ^ 64 - 1) (room : p + 1 < 2 ^ 64)
    (bound : group_count_behind cap (p + 1) (runs_of (l ∷ ks)) ≤ n) where
  count_same : same_key k l ≡ true → p / cap ≤ (p + 1) / cap → (p + 1) / cap ≤ p / cap + 1
      → group_count_behind cap p (runs_of (k ∷ l ∷ ks))
      ≡ ((p + 1) / cap - p / cap) + group_count_behind cap (p + 1) (runs_of (l ∷ ks))
  count_same same low high =
      let first = runs_first l ks in
      let r : Run = first.0 in
      let rs : List Run = first.1 in
      let end : ℕ = together (p + 1) r.sets in
      let told : group_count_behind cap (p + 1) (runs_of (l ∷ ks))
      ≡ together (interchange_count cap end - (p + 1) / cap) (group_count_behind cap end rs) =
      ap (group_count_behind cap (p + 1)) first.2 in
      let within : together (interchange_count cap end - (p + 1) / cap) (group_count_behind cap end rs) ≤ n = at_most _ _ n told bound in
      ap (λ (ys : List Run). group_count_behind cap p (onto_runs (single k) ys)) first.2
      ∙ ap (group_count_behind cap p) (onto_same (single k) r rs (ap (same_key k) first.3 ∙ same))
      ∙ ap (λ (e : ℕ). together (interchange_count cap e - p / cap) (group_count_behind cap e rs)) (same_end p r.sets)
      ∙ earlier (p / cap) ((p + 1) / cap) (interchange_count cap end) (group_count_behind cap end rs) n
      (full_before cap (p + 1) end h (no_less (p + 1) r.sets room)) low high within few
      ∙ sym (ap (λ (g : ℕ). ((p + 1) / cap - p / cap) + g) told)
    where
      at_most : (x y m : ℕ) → x ≡ y → x ≤ m → y ≤ m
      at_most x y m e less = omega arith

  count_other : same_key k l ≡ false → interchange_count cap (p + 1) ≡ p / cap + 1
      → group_count_behind cap p (runs_of (k ∷ l ∷ ks)) ≡ 1 + group_count_behind cap (p + 1) (runs_of (l ∷ ks))
  count_other other next =
      let first = runs_first l ks in
      ap (λ (ys : List Run). group_count_behind cap p (onto_runs (single k) ys)) first.2
      ∙ ap (group_count_behind cap p) (onto_other (single k) first.0 first.1 (ap (same_key k) first.3 ∙ other))
      ∙ sym (ap (λ (ys : List Run). group_count_behind cap p (single k ∷ ys)) first.2)
      ∙ ap (λ (e : ℕ). together (interchange_count cap e - p / cap) (group_count_behind cap e (runs_of (l ∷ ks)))) (one_end p room)
      ∙ one_more (p / cap) (interchange_count cap (p + 1)) (group_count_behind cap (p + 1) (runs_of (l ∷ ks))) n next bound few

-- the groups of keys, where as many more fit into the interchange that they begin in
abbrev groups_with_room : (cap room : ℕ) → List RunKey → ℕ
groups_with_room cap room keys = length (runs_of (take room keys)) + delivered_groups cap (drop room keys)

no_groups : (cap : ℕ) → delivered_groups cap [] ≡ 0
no_groups cap = ap (λ (xs : List (List RunKey)). sum_by length (map runs_of xs)) (no_interchange cap [] refl)

next_groups : (cap : ℕ) (keys : List RunKey) → 0 < cap → 0 < length keys → delivered_groups cap keys ≡ groups_with_room cap cap keys
next_groups cap keys h some =
    ap (λ (xs : List (List RunKey)). sum_by length (map runs_of xs)) (first_interchange cap keys h some)
    ∙ sum_by-cons (λ (rs : List Run). length rs) (runs_of (take cap keys)) (layout_of cap (drop cap keys))

one_left : (cap room : ℕ) (k : RunKey) → groups_with_room cap (suc room) (k ∷ []) ≡ 1
one_left cap room k =
    ap (λ (xs : List RunKey). length (runs_of (k ∷ xs)) + delivered_groups cap (drop room [])) (take-nil room)
    ∙ ap (λ (xs : List RunKey). 1 + delivered_groups cap xs) (drop-nil room)
    ∙ ap (λ (g : ℕ). 1 + g) (no_groups cap)

-- how many groups the runs of keys give is how many they have, and these are no more than the keys
abbrev AreTold : (cap p room : ℕ) → List RunKey → Type 0
AreTold cap p room keys =
    (group_count_behind cap p (runs_of keys) ≡ groups_with_room cap room keys) × (groups_with_room cap room keys ≤ length keys)

module _ (cap : ℕ) (h : 0 < cap) where
  next_count : (a b p room : ℕ) → p ≡ a * cap + b → b + suc room ≡ cap → interchange_count cap (p + 1) ≡ p / cap + 1
  next_count a b p zero e f =
      let here : p / cap ≡ a = full_at cap a b p e (omega arith) in
      count_full cap (a + 1) (p + 1) (next_full cap a b p e (omega arith)) h ∙ omega arith
  next_count a b p (suc room) e f =
      let here : p / cap ≡ a = full_at cap a b p e (omega arith) in
      count_at cap a b (p + 1) (omega arith) (omega arith) ∙ omega arith

  alone : (a b p room : ℕ) (k : RunKey) → p ≡ a * cap + b → b + suc room ≡ cap → p + 1 < 2 ^ 64
      → AreTold cap p (suc room) (k ∷ [])
  alone a b p room k e f few =
      let one = one_left cap room k in (
        ap (λ (n : ℕ). together (interchange_count cap n - p / cap) 0) (one_end p few)
            ∙ one_more (p / cap) (interchange_count cap (p + 1)) 0 0 (next_count a b p room e f) (omega arith) (omega arith)
            ∙ sym one,
        omega arith,
      )

  -- the first key fills an interchange
  behind_full : (a b p : ℕ) (k l : RunKey) (ks : List RunKey) → p ≡ a * cap + b → b + 1 ≡ cap → p + length (k ∷ l ∷ ks) < 2 ^ 64
      → AreTold cap (p + 1) cap (l ∷ ks) → AreTold cap p 1 (k ∷ l ∷ ks)
  behind_full a b p k l ks e f few told =
      let here : p / cap ≡ a = full_at cap a b p e (omega arith) in
      let next : (p + 1) / cap ≡ a + 1 = full_at cap (a + 1) 0 (p + 1) (next_full cap a b p e f) h in
      let groups : delivered_groups cap (l ∷ ks) ≡ groups_with_room cap cap (l ∷ ks) = next_groups cap (l ∷ ks) h (omega arith) in
      let n : ℕ = length (l ∷ ks) in
      let bound : group_count_behind cap (p + 1) (runs_of (l ∷ ks)) ≤ n = le_by _ _ _ told.0 told.1 in
      (cases (same_key k l) refl here next bound ∙ ap (λ (g : ℕ). 1 + g) (told.0 ∙ sym groups), le_one _ _ _ groups told.1)
    where
      le_by : (x y m : ℕ) → x ≡ y → y ≤ m → x ≤ m
      le_by x y m i less = omega arith

      le_one : (x y m : ℕ) → x ≡ y → y ≤ m → 1 + x ≤ suc m
      le_one x y m i less = omega arith

      from_one : (x y g : ℕ) → y ≡ x + 1 → (y - x) + g ≡ 1 + g
      from_one x y g i = omega arith

      cases : (same : Bool) → same_key k l ≡ same → p / cap ≡ a → (p + 1) / cap ≡ a + 1
          → group_count_behind cap (p + 1) (runs_of (l ∷ ks)) ≤ length (l ∷ ks)
          → group_count_behind cap p (runs_of (k ∷ l ∷ ks)) ≡ 1 + group_count_behind cap (p + 1) (runs_of (l ∷ ks))
      cases true s here next bound =
          count_same cap h p k l ks (length (l ∷ ks)) (omega arith) (omega arith) bound s (omega arith) (omega arith)
          ∙ from_one (p / cap) ((p + 1) / cap) (group_count_behind cap (p + 1) (runs_of (l ∷ ks))) (omega arith)
      cases false s here next bound =
          count_other cap h p k l ks (length (l ∷ ks)) (omega arith) (omega arith) bound s (next_count a b p 0 e (omega arith))

  -- it leaves room in it
  behind_room : (a b p room : ℕ) (k l : RunKey) (ks : List RunKey) → p ≡ a * cap + b → b + suc (suc room) ≡ cap
      → p + length (k ∷ l ∷ ks) < 2 ^ 64 → AreTold cap (p + 1) (suc room) (l ∷ ks) → AreTold cap p (suc (suc room)) (k ∷ l ∷ ks)
  behind_room a b p room k l ks e f few told =
      let here : p / cap ≡ a = full_at cap a b p e (omega arith) in
      let next : (p + 1) / cap ≡ a = full_at cap a (b + 1) (p + 1) (omega arith) (omega arith) in
      let bound : group_count_behind cap (p + 1) (runs_of (l ∷ ks)) ≤ length (l ∷ ks) = le_by _ _ _ told.0 told.1 in
      cases (same_key k l) refl here next bound
    where
      le_by : (x y m : ℕ) → x ≡ y → y ≤ m → x ≤ m
      le_by x y m i less = omega arith

      le_same : (x y m : ℕ) → x ≡ y → y ≤ m → x ≤ suc m
      le_same x y m i less = omega arith

      le_one : (x y m : ℕ) → x ≡ 1 + y → y ≤ m → x ≤ suc m
      le_one x y m i less = omega arith

      from_same : (x y g : ℕ) → y ≡ x → (y - x) + g ≡ g
      from_same x y g i = omega arith

      one_before : (x y g : ℕ) → x ≡ suc y → x + g ≡ 1 + (y + g)
      one_before x y g i = omega arith

      cases : (same : Bool) → same_key k l ≡ same → p / cap ≡ a → (p + 1) / cap ≡ a
          → group_count_behind cap (p + 1) (runs_of (l ∷ ks)) ≤ length (l ∷ ks) → AreTold cap p (suc (suc room)) (k ∷ l ∷ ks)
      cases true s here next bound =
          let as_many : groups_with_room cap (suc (suc room)) (k ∷ l ∷ ks) ≡ groups_with_room cap (suc room) (l ∷ ks) =
          ap (λ (g : ℕ). g + delivered_groups cap (drop room ks)) (longer_same k l (take room ks) s) in (
            count_same cap h p k l ks (length (l ∷ ks)) (omega arith) (omega arith) bound s (omega arith) (omega arith)
                ∙ from_same (p / cap) ((p + 1) / cap) (group_count_behind cap (p + 1) (runs_of (l ∷ ks))) (omega arith)
                ∙ told.0 ∙ sym as_many,
            le_same _ _ _ as_many told.1,
          )
      cases false s here next bound =
          let more : groups_with_room cap (suc (suc room)) (k ∷ l ∷ ks) ≡ 1 + groups_with_room cap (suc room) (l ∷ ks) =
          one_before (length (runs_of (k ∷ l ∷ take room ks))) (length (runs_of (l ∷ take room ks)))
          (delivered_groups cap (drop room ks)) (longer_other k l (take room ks) s) in (
            count_other cap h p k l ks (length (l ∷ ks)) (omega arith) (omega arith) bound s (next_count a b p (suc room) e f)
                ∙ ap (λ (g : ℕ). 1 + g) told.0 ∙ sym more,
            le_one _ _ _ more told.1,
          )

  grouped : (a b p room : ℕ) (k : RunKey) (ks : List RunKey) → p ≡ a * cap + b → b + suc room ≡ cap → p + length (k ∷ ks) < 2 ^ 64
      → AreTold cap p (suc room) (k ∷ ks)
  grouped a b p room k [] e f few = alone a b p room k e f (omega arith)
  grouped a b p zero k (l ∷ ks) e f few =
      let whole : suc (cap - 1) ≡ cap = omega arith in
      behind_full a b p k l ks e (omega arith) few
      (all_of whole (grouped (a + 1) 0 (p + 1) (cap - 1) l ks (next_full cap a b p e (omega arith)) (omega arith) (omega arith)))
    where
      all_of : {room all : ℕ} → room ≡ all → AreTold cap (p + 1) room (l ∷ ks) → AreTold cap (p + 1) all (l ∷ ks)
      all_of i told = subst (λ (r : ℕ). AreTold cap (p + 1) r (l ∷ ks)) i told
  grouped a b p (suc room) k (l ∷ ks) e f few =
      behind_room a b p room k l ks e f few (grouped a (b + 1) (p + 1) room l ks (omega arith) (omega arith) (omega arith))

groups_told : (cap : ℕ) (keys : List RunKey) → 1 ≤ cap → length keys < 2 ^ 64 → group_count cap (runs_of keys) ≡ delivered_groups cap keys
groups_told cap [] h few = sym (no_groups cap)
groups_told cap (k ∷ ks) h few =
    let whole : suc (cap - 1) ≡ cap = omega arith in
    (grouped cap h 0 0 0 (cap - 1) k ks (omega arith) (omega arith) (omega arith)).0
    ∙ ap (λ (room : ℕ). groups_with_room cap room (k ∷ ks)) whole
    ∙ sym (next_groups cap (k ∷ ks) h (omega arith))

pub groups_counted : GroupsAreCounted
groups_counted cap keys h few = (ap (λ (xs : List (List Run)). sum_by length xs) (runs_suffice cap keys few), groups_told cap keys h few)

pub groups_bound : (cap before : ℕ) (runs : List Run) → group_count_behind cap before runs ≤ 2 ^ 64 - 1
groups_bound cap before [] = omega arith
groups_bound cap before (run ∷ runs) = omega arith

-- none counted yet
pub none_counted : (cap : ℕ) (runs : List Run) → together 0 (group_count cap runs) ≡ group_count cap runs
none_counted cap runs = let bound = groups_bound cap 0 runs in omega arith
