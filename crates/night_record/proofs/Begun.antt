-- The first lines of a text, up to one that is wrong.
use Rattle.std.proofs.Common.{◌≡◌, ◌∙◌, ℕ, ◌≤◌, true, List, [], ◌∷◌, ◌++◌, None}
use Rattle.std.proofs.Common.{Option, ap, arith, codes, drop, length, refl, sym, subst, take}
use Rattle.std.proofs.lemmas.List.{take-append-drop}
use Rattle.night_record.specs.Reading.{AreLinesBegun, BeginLines, IsHeadFault, IsHeadWrong, IsWrongFor, line}
use Rattle.night_record.specs.Record.{CanBe, before_text, head_lines, is_before, number_line, text_line, version_line}
use Rattle.night_record.specs.Values.{is_count, is_moment, is_name, is_status}
use Rattle.night_record.specs.declared.fault.Part.{Part}
use Rattle.night_record.specs.declared.fault.Part.TheVariants as part
use Rattle.night_record.specs.declared.fault.RecordFault.{RecordFault}
use Rattle.night_record.specs.declared.fault.RecordFault.TheVariants as fault
use Rattle.night_record.specs.declared.record.NightRecord.{NightRecord}

-- a line of the head is wrong, and those before it are right
pub head_fault : (wrong : Part) (lines : List (List ℕ)) (reason : Type 0) → AreLinesBegun wrong lines → (reason → IsHeadWrong wrong lines)
    → (e : RecordFault) → IsWrongFor wrong reason e → IsHeadFault lines e
head_fault wrong lines reason begun why fault.Memory is = tt
head_fault wrong lines reason begun why fault.CutOff is = absurd is
head_fault wrong lines reason begun why (fault.Wrong other) is =
    subst (λ (p : Part). AreLinesBegun p lines × IsHeadWrong p lines) (sym is.0) (begun, why is.1)

abbrev night_of : ℕ → List ℕ → List ℕ → Option (List ℕ) → ℕ → List ℕ → NightRecord
night_of n a m b s r = record {
  number = n;
  name = a;
  moment = m;
  before = b;
  status = s;
  release = r;
  clock = codes "000000000000";
  made_of = [];
  gave = [];
}

can_be : (n : ℕ) (a m : List ℕ) (b : Option (List ℕ)) (s : ℕ) (r : List ℕ) → is_count n ≡ true → is_name a ≡ true → is_moment m ≡ true
    → is_before b ≡ true → is_status s ≡ true → is_name r ≡ true → CanBe (night_of n a m b s r)
can_be n a m b s r one two three four five six = record {
  number = one;
  name = two;
  moment = three;
  before = four;
  status = five;
  release = six;
  clock = refl;
  made_of = refl;
  gave = refl;
}

-- the first lines, one by one
lines_one : (l : List (List ℕ)) → 8 ≤ length l
    → l ≡ line l 0 ∷ line l 1 ∷ line l 2 ∷ line l 3 ∷ line l 4 ∷ line l 5 ∷ line l 6 ∷ line l 7 ∷ drop 8 l
lines_one [] long = absurd (omega (arith, long))
lines_one (a ∷ []) long = absurd (omega (arith, long))
lines_one (a ∷ b ∷ []) long = absurd (omega (arith, long))
lines_one (a ∷ b ∷ c ∷ []) long = absurd (omega (arith, long))
lines_one (a ∷ b ∷ c ∷ d ∷ []) long = absurd (omega (arith, long))
lines_one (a ∷ b ∷ c ∷ d ∷ e ∷ []) long = absurd (omega (arith, long))
lines_one (a ∷ b ∷ c ∷ d ∷ e ∷ f ∷ []) long = absurd (omega (arith, long))
lines_one (a ∷ b ∷ c ∷ d ∷ e ∷ f ∷ g ∷ []) long = absurd (omega (arith, long))
lines_one (a ∷ b ∷ c ∷ d ∷ e ∷ f ∷ g ∷ h ∷ rest) long = refl

pub begun_version : (l : List (List ℕ)) → 8 ≤ length l → line l 0 ≡ version_line → BeginLines part.Version l
begun_version l long e0 =
    let first : take 1 l ≡ take 1 (head_lines (night_of 1 (codes "n") (codes "000000000000") None 0 (codes "n"))) = ap (λ (x : List
    (List ℕ)). take 1 x) (lines_one l long) ∙ (cc) in
    record {
      night = night_of 1 (codes "n") (codes "000000000000") None 0 (codes "n");
      rest = drop 1 l;
      can_be = can_be 1 (codes "n") (codes "000000000000") None 0 (codes "n") refl refl refl refl refl refl;
      lines_are = sym (take-append-drop 1 l) ∙ ap (λ (x : List (List ℕ)). x ++ drop 1 l) first;
      after = tt;
    }

pub begun_number : (l : List (List ℕ)) (n : ℕ) → 8 ≤ length l → line l 0 ≡ version_line → line l 1 ≡ number_line (codes "number") n
    → is_count n ≡ true → BeginLines part.Number l
begun_number l n long e0 e1 c1 =
    let first : take 2 l ≡ take 2 (head_lines (night_of n (codes "n") (codes "000000000000") None 0 (codes "n"))) = ap (λ (x : List
    (List ℕ)). take 2 x) (lines_one l long) ∙ (cc) in
    record {
      night = night_of n (codes "n") (codes "000000000000") None 0 (codes "n");
      rest = drop 2 l;
      can_be = can_be n (codes "n") (codes "000000000000") None 0 (codes "n") c1 refl refl refl refl refl;
      lines_are = sym (take-append-drop 2 l) ∙ ap (λ (x : List (List ℕ)). x ++ drop 2 l) first;
      after = tt;
    }

pub begun_name : (l : List (List ℕ)) (n : ℕ) (a : List ℕ) → 8 ≤ length l → line l 0 ≡ version_line → line l 1 ≡ number_line (codes
    "number") n → is_count n ≡ true → line l 2 ≡ text_line (codes "name") a → is_name a ≡ true → BeginLines part.Name l
begun_name l n a long e0 e1 c1 e2 c2 =
    let first : take 3 l ≡ take 3 (head_lines (night_of n a (codes "000000000000") None 0 (codes "n"))) = ap (λ (x : List (List
    ℕ)). take 3 x) (lines_one l long) ∙ (cc) in
    record {
      night = night_of n a (codes "000000000000") None 0 (codes "n");
      rest = drop 3 l;
      can_be = can_be n a (codes "000000000000") None 0 (codes "n") c1 c2 refl refl refl refl;
      lines_are = sym (take-append-drop 3 l) ∙ ap (λ (x : List (List ℕ)). x ++ drop 3 l) first;
      after = tt;
    }

pub begun_moment : (l : List (List ℕ)) (n : ℕ) (a : List ℕ) (m : List ℕ) → 8 ≤ length l → line l 0 ≡ version_line → line l 1 ≡
    number_line (codes "number") n → is_count n ≡ true → line l 2 ≡ text_line (codes "name") a → is_name a ≡ true → line l 3 ≡
    text_line (codes "moment") m → is_moment m ≡ true → BeginLines part.Moment l
begun_moment l n a m long e0 e1 c1 e2 c2 e3 c3 =
    let first : take 4 l ≡ take 4 (head_lines (night_of n a m None 0 (codes "n"))) = ap (λ (x : List (List ℕ)). take 4 x)
    (lines_one l long) ∙ (cc) in
    record {
      night = night_of n a m None 0 (codes "n");
      rest = drop 4 l;
      can_be = can_be n a m None 0 (codes "n") c1 c2 c3 refl refl refl;
      lines_are = sym (take-append-drop 4 l) ∙ ap (λ (x : List (List ℕ)). x ++ drop 4 l) first;
      after = tt;
    }

pub begun_before : (l : List (List ℕ)) (n : ℕ) (a : List ℕ) (m : List ℕ) (b : Option (List ℕ)) → 8 ≤ length l → line l 0 ≡
    version_line → line l 1 ≡ number_line (codes "number") n → is_count n ≡ true → line l 2 ≡ text_line (codes "name") a → is_name
    a ≡ true → line l 3 ≡ text_line (codes "moment") m → is_moment m ≡ true → line l 4 ≡ text_line (codes "before") (before_text b)
    → is_before b ≡ true → BeginLines part.Before l
begun_before l n a m b long e0 e1 c1 e2 c2 e3 c3 e4 c4 =
    let first : take 5 l ≡ take 5 (head_lines (night_of n a m b 0 (codes "n"))) = ap (λ (x : List (List ℕ)). take 5 x) (lines_one l
    long) ∙ (cc) in
    record {
      night = night_of n a m b 0 (codes "n");
      rest = drop 5 l;
      can_be = can_be n a m b 0 (codes "n") c1 c2 c3 c4 refl refl;
      lines_are = sym (take-append-drop 5 l) ∙ ap (λ (x : List (List ℕ)). x ++ drop 5 l) first;
      after = tt;
    }

pub begun_status : (l : List (List ℕ)) (n : ℕ) (a : List ℕ) (m : List ℕ) (b : Option (List ℕ)) (s : ℕ) → 8 ≤ length l → line l 0 ≡
    version_line → line l 1 ≡ number_line (codes "number") n → is_count n ≡ true → line l 2 ≡ text_line (codes "name") a → is_name
    a ≡ true → line l 3 ≡ text_line (codes "moment") m → is_moment m ≡ true → line l 4 ≡ text_line (codes "before") (before_text b)
    → is_before b ≡ true → line l 5 ≡ number_line (codes "status") s → is_status s ≡ true → BeginLines part.Status l
begun_status l n a m b s long e0 e1 c1 e2 c2 e3 c3 e4 c4 e5 c5 =
    let first : take 6 l ≡ take 6 (head_lines (night_of n a m b s (codes "n"))) = ap (λ (x : List (List ℕ)). take 6 x) (lines_one l
    long) ∙ (cc) in
    record {
      night = night_of n a m b s (codes "n");
      rest = drop 6 l;
      can_be = can_be n a m b s (codes "n") c1 c2 c3 c4 c5 refl;
      lines_are = sym (take-append-drop 6 l) ∙ ap (λ (x : List (List ℕ)). x ++ drop 6 l) first;
      after = tt;
    }

pub begun_release : (l : List (List ℕ)) (n : ℕ) (a : List ℕ) (m : List ℕ) (b : Option (List ℕ)) (s : ℕ) (r : List ℕ) → 8 ≤ length l
    → line l 0 ≡ version_line → line l 1 ≡ number_line (codes "number") n → is_count n ≡ true → line l 2 ≡ text_line (codes "name")
    a → is_name a ≡ true → line l 3 ≡ text_line (codes "moment") m → is_moment m ≡ true → line l 4 ≡ text_line (codes "before")
    (before_text b) → is_before b ≡ true → line l 5 ≡ number_line (codes "status") s → is_status s ≡ true → line l 6 ≡ text_line
    (codes "release") r → is_name r ≡ true → BeginLines part.Release l
begun_release l n a m b s r long e0 e1 c1 e2 c2 e3 c3 e4 c4 e5 c5 e6 c6 =
    let first : take 7 l ≡ take 7 (head_lines (night_of n a m b s r)) = ap (λ (x : List (List ℕ)). take 7 x) (lines_one l long) ∙ (cc) in
    record {
      night = night_of n a m b s r;
      rest = drop 7 l;
      can_be = can_be n a m b s r c1 c2 c3 c4 c5 c6;
      lines_are = sym (take-append-drop 7 l) ∙ ap (λ (x : List (List ℕ)). x ++ drop 7 l) first;
      after = tt;
    }
