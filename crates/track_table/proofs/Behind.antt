-- The numbers of a mailbox go on by a set.
use Rattle.std.proofs.Common.{◌≡◌, ℕ, ◌+◌, ◌-◌, ◌/◌, ◌%◌, ◌==◌, Bool, true, false, not, ◌||◌, if◌then◌else◌}
use Rattle.std.proofs.Common.{List, [], ◌∷◌, ◌++◌, Option, Some, length, refl, sym, ap, ◌∙◌, arith, length-append}
use Rattle.count_numbers.specs.Num.{num}
use Rattle.count_numbers.specs.declared.run.RunKey.{RunKey}
use Rattle.partner_setup.specs.declared.partner.Partner.{Partner}
use Rattle.answered_sets.specs.Judged.{PlacedValue}
use Rattle.mailbox.specs.Mailbox.{group_total}
use Rattle.mailbox.specs.Numbered.{group_key_of}
use Rattle.track_table.specs.Mailed.{mailed_behind}
use Rattle.track_table.specs.Walking.{CursorValue, IsBehind, advanced, begins_group, goes_with, groups_with, last_key}
use Rattle.track_table.specs.Walking.{mailed_next}
use Rattle.track_table.specs.declared.mailed.Mailed.{Mailed}
use Rattle.track_table.proofs.Chunks.{begins, group_total_snoc}

-- the number that comes after a number
num_on : (start a k : ℕ) → num (num start a) k ≡ num start (a + k)
num_on start a k = omega arith

pub last_snoc : (ps : List PlacedValue) (p : PlacedValue) → last_key (ps ++ p ∷ []) ≡ Some (group_key_of p)
last_snoc [] p = refl
last_snoc (q ∷ []) p = refl
last_snoc (q ∷ r ∷ ps) p = last_snoc (r ∷ ps) p

count_by : (b : Bool) (n : ℕ) → (if b then n + 1 else n) ≡ n + (if b then 1 else 0)
count_by true n = refl
count_by false n = omega arith

module _ (partner : Partner) (acknowledgments groups : ℕ) (sets : List PlacedValue) (p : PlacedValue) (c : CursorValue)
    (behind : IsBehind partner acknowledgments groups sets c) where
  begun : begins_group c (group_key_of p) ≡ (length sets % partner.cap == 0 || not (goes_with (last_key sets) (group_key_of p)))
  begun =
      ap (λ (n : ℕ). n % c.cap == 0 || not (goes_with c.last (group_key_of p))) behind.set_count
      ∙ ap (λ (n : ℕ). length sets % n == 0 || not (goes_with c.last (group_key_of p))) behind.cap
      ∙ ap (λ (l : Option RunKey). length sets % partner.cap == 0 || not (goes_with l (group_key_of p))) behind.last

  counted : groups_with c (group_key_of p) ≡ group_total partner.cap (sets ++ p ∷ [])
  counted =
      ap (λ (b : Bool). if b then c.groups + 1 else c.groups) begun
      ∙ count_by (length sets % partner.cap == 0 || not (goes_with (last_key sets) (group_key_of p))) c.groups
      ∙ ap (λ (n : ℕ). n + begins (length sets % partner.cap) (last_key sets) (group_key_of p)) behind.counted
      ∙ sym (group_total_snoc partner.cap sets p behind.least)

  pub behind_more : IsBehind partner acknowledgments groups (sets ++ p ∷ []) (advanced c (group_key_of p))
  behind_more = record {
    interchange = behind.interchange;
    group = behind.group;
    set = behind.set;
    cap = behind.cap;
    set_count = ap (λ (n : ℕ). n + 1) behind.set_count ∙ sym (length-append sets (p ∷ []));
    counted = counted;
    least = behind.least;
    last = sym (last_snoc sets p);
  }

  interchange_is : num c.interchange (c.sets / c.cap) ≡ num partner.counters.interchange (acknowledgments + length sets / partner.cap)
  interchange_is =
      ap (λ (n : ℕ). num c.interchange (n / c.cap)) behind.set_count
      ∙ ap (λ (n : ℕ). num c.interchange (length sets / n)) behind.cap
      ∙ ap (λ (n : ℕ). num n (length sets / partner.cap)) behind.interchange
      ∙ num_on partner.counters.interchange acknowledgments (length sets / partner.cap)

  group_is : num c.group (groups_with c (group_key_of p) - 1)
      ≡ num partner.counters.group (groups + (group_total partner.cap (sets ++ p ∷ []) - 1))
  group_is =
      ap (λ (n : ℕ). num c.group (n - 1)) counted
      ∙ ap (λ (n : ℕ). num n (group_total partner.cap (sets ++ p ∷ []) - 1)) behind.group
      ∙ num_on partner.counters.group groups (group_total partner.cap (sets ++ p ∷ []) - 1)

  set_is : num c.set c.sets ≡ num partner.counters.set (length sets)
  set_is = ap (λ (n : ℕ). num n c.sets) behind.set ∙ ap (num partner.counters.set) behind.set_count

  abbrev mailed : (interchange group set : ℕ) → Mailed
  mailed interchange group set = record { interchange = interchange; group = group; set = set }

  pub mailed_is : mailed_next c (group_key_of p) ≡ mailed_behind partner acknowledgments groups sets p
  mailed_is =
      ap (λ (n : ℕ). mailed n (num c.group (groups_with c (group_key_of p) - 1)) (num c.set c.sets)) interchange_is
      ∙ ap (λ (n : ℕ). mailed (num partner.counters.interchange (acknowledgments + length sets / partner.cap)) n (num c.set c.sets))
      group_is
      ∙ ap (λ (n : ℕ). mailed (num partner.counters.interchange (acknowledgments + length sets / partner.cap))
      (num partner.counters.group (groups + (group_total partner.cap (sets ++ p ∷ []) - 1))) n) set_is
