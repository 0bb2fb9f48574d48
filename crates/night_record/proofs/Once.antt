-- A text is that of one record.
use Rattle.std.proofs.Common.{◌≡◌, ℕ, true, List, [], ◌∷◌, ◌++◌, None, Option, Some, ap, arith, codes, drop, length, map, refl}
use Rattle.std.specs.List.{list_all}
use Rattle.std.proofs.lemmas.Bool.{and_parts}
use Rattle.night_record.specs.Reading.{line}
use Rattle.night_record.specs.Record.{CanBe, before_text, file_line, is_before, is_file, record_lines, record_text}
use Rattle.night_record.specs.declared.record.NightRecord.{NightRecord}
use Rattle.night_record.specs.declared.record.SummedFile.{SummedFile}
use Rattle.night_record.proofs.Between.{number_once, sum_long, text_once}
use Rattle.night_record.proofs.Clean.{record_clean, small_count, small_status}
use Rattle.night_record.proofs.LineTexts.{same_lines}
use Rattle.night_record.proofs.Listed.{files_once}
use Rattle.night_record.proofs.Sliced.{files_filled, split_once}

before_once : (a b : Option (List ℕ)) → is_before a ≡ true → is_before b ≡ true → before_text a ≡ before_text b → a ≡ b
before_once None None can other same = refl
before_once None (Some t) can other same =
    let long = sum_long t other in
    let size : 4 ≡ length t = ap (λ (l : List ℕ). length l) same in absurd (omega (arith, long, size))
before_once (Some s) None can other same =
    let long = sum_long s can in
    let size : length s ≡ 4 = ap (λ (l : List ℕ). length l) same in absurd (omega (arith, long, size))
before_once (Some s) (Some t) can other same = ap Some same

nine : {A B C D : Type 0} (f : ℕ → A → A → B → ℕ → A → A → C → C → D) (n m : ℕ) (a b c d : A) (p q : B) (s t : ℕ) (e g h i : A) (x
    y z w : C)
    → n ≡ m → a ≡ b → c ≡ d → p ≡ q → s ≡ t → e ≡ g → h ≡ i → x ≡ y → z ≡ w → f n a c p s e h x z ≡ f m b d q t g i y w
nine f n m a b c d p q s t e g h i x y z w o1 o2 o3 o4 o5 o6 o7 o8 o9 = cc

pub record_once : (night other : NightRecord) → CanBe night → CanBe other → record_text night ≡ record_text other → night ≡ other
record_once night other can other_can same =
    let lines : record_lines night ≡ record_lines other =
    same_lines (record_lines night) (record_lines other) (record_clean night can) (record_clean other other_can) same in
    let at : (k : ℕ) → line (record_lines night) k ≡ line (record_lines other) k =
    λ k. ap (λ (l : List (List ℕ)). line l k) lines in
    let files : map file_line night.made_of ++ [] ∷ (codes "[gave]" ∷ map file_line night.gave)
    ≡ map file_line other.made_of ++ [] ∷ (codes "[gave]" ∷ map file_line other.gave) =
    ap (λ (l : List (List ℕ)). drop 10 l) lines in
    let two = split_once (map file_line night.made_of) (map file_line other.made_of) (codes "[gave]" ∷ map file_line night.gave)
    (codes "[gave]" ∷ map file_line other.gave) (files_filled night.made_of) (files_filled other.made_of) files in
    let make : ℕ → List ℕ → List ℕ → Option (List ℕ) → ℕ → List ℕ → List ℕ → List SummedFile → List SummedFile → NightRecord =
    λ n a m b s r k x y. record {
      number = n;
      name = a;
      moment = m;
      before = b;
      status = s;
      release = r;
      clock = k;
      made_of = x;
      gave = y;
    } in
    nine make night.number other.number night.name other.name night.moment other.moment night.before other.before night.status
    other.status
    night.release other.release night.clock other.clock night.made_of other.made_of night.gave other.gave
    (number_once (codes "number") night.number other.number (small_count night.number can.number)
    (small_count other.number other_can.number) (at 1)) (text_once (codes "name") night.name other.name (at 2))
    (text_once (codes "moment") night.moment other.moment (at 3))
    (before_once night.before other.before can.before other_can.before
    (text_once (codes "before") (before_text night.before) (before_text other.before) (at 4)))
    (number_once (codes "status") night.status other.status (small_status night.status can.status)
    (small_status other.status other_can.status) (at 5)) (text_once (codes "release") night.release other.release (at 6))
    (text_once (codes "clock") night.clock other.clock (at 7))
    (files_once night.made_of other.made_of ((and_parts (list_all is_file night.made_of) _ can.made_of).0)
    ((and_parts (list_all is_file other.made_of) _ other_can.made_of).0) two.0)
    (files_once night.gave other.gave ((and_parts (list_all is_file night.gave) _ can.gave).0)
    ((and_parts (list_all is_file other.gave) _ other_can.gave).0) (ap (λ (l : List (List ℕ)). drop 1 l) two.1))
