-- The parts of a record, by its lines.
use Rattle.std.proofs.Common.{◌≡◌, ◌∙◌, ℕ, ◌≤◌, true, List, [], ◌∷◌, ◌++◌}
use Rattle.std.proofs.Common.{ap, append-nil, append_assoc, arith, codes, drop, length, map, refl, subst, sym, take}
use Rattle.std.specs.List.{list_all}
use Rattle.std.proofs.lemmas.List.{take-append-drop}
use Rattle.night_record.specs.Reading.{AfterLines, AreLinesBegun, ArePartsOf, BeginLines, IsHead, IsHeadFault}
use Rattle.night_record.specs.Reading.{IsHeadWrong, IsLinesFault, IsMadeOf, IsNoFiles, IsNoGave, IsNoMadeOf}
use Rattle.night_record.specs.Reading.{IsPartsFault, IsPartsWrong, IsWrongFor, is_filled, joined, line}
use Rattle.night_record.specs.Record.{CanBe, file_line, files_lines, head_lines, record_lines}
use Rattle.night_record.specs.Refused.{lines_to}
use Rattle.night_record.specs.declared.fault.Part.{Part}
use Rattle.night_record.specs.declared.fault.Part.TheVariants as part
use Rattle.night_record.specs.declared.fault.RecordFault.{RecordFault}
use Rattle.night_record.specs.declared.fault.RecordFault.TheVariants as fault
use Rattle.night_record.specs.declared.head.Head.{Head}
use Rattle.night_record.specs.declared.record.NightRecord.{NightRecord}
use Rattle.night_record.specs.declared.record.SummedFile.{SummedFile}
use Rattle.night_record.proofs.Sliced.{files_filled, no_blank, split_once}

-- the files of which a night was made end at the first empty line
pub no_made_of : (lines rest first after : List (List ℕ)) → lines ≡ [] ∷ codes "[made_of]" ∷ rest → rest ≡ first ++ [] ∷ after
    → list_all is_filled first ≡ true → IsNoFiles first → IsNoMadeOf lines
no_made_of lines rest first after is cut filled none files more made =
    let same : [] ∷ codes "[made_of]" ∷ rest ≡ [] ∷ codes "[made_of]" ∷ (map file_line files ++ [] ∷ more) = sym is ∙ made.lines_are in
    let tail : rest ≡ map file_line files ++ [] ∷ more = ap (λ (l : List (List ℕ)). drop 2 l) same in
    let two = split_once first (map file_line files) after more filled (files_filled files) (sym cut ∙ tail) in
    none files (record { lines_are = two.0; can_be = made.can_be })

pub made_of_open : (lines rest : List (List ℕ)) → lines ≡ [] ∷ codes "[made_of]" ∷ rest → list_all is_filled rest ≡ true →
    IsNoMadeOf lines
made_of_open lines rest is filled files more made =
    let same : [] ∷ codes "[made_of]" ∷ rest ≡ [] ∷ codes "[made_of]" ∷ (map file_line files ++ [] ∷ more) = sym is ∙ made.lines_are in
    no_blank rest (map file_line files) more filled (ap (λ (l : List (List ℕ)). drop 2 l) same)

pub made_of_fails : (lines first : List (List ℕ)) → (IsNoFiles first → IsNoMadeOf lines) → (e : RecordFault)
    → IsWrongFor part.MadeOf (IsNoFiles first) e → IsWrongFor part.MadeOf (IsNoMadeOf lines) e
made_of_fails lines first none fault.Memory is = tt
made_of_fails lines first none fault.CutOff is = absurd is
made_of_fails lines first none (fault.Wrong other) is = (is.0, none is.1)

parts_wrong : (other wrong : Part) → other ≡ wrong → (lines : List (List ℕ)) → IsPartsWrong wrong lines → IsPartsWrong other lines
parts_wrong other wrong same lines is = subst (λ (p : Part). IsPartsWrong p lines) (sym same) is

pub made_of_wrong : (lines : List (List ℕ)) (e : RecordFault) → IsWrongFor part.MadeOf (IsNoMadeOf lines) e → IsPartsFault lines e
made_of_wrong lines fault.Memory is = tt
made_of_wrong lines fault.CutOff is = absurd is
made_of_wrong lines (fault.Wrong other) is = parts_wrong other part.MadeOf is.0 lines is.1

-- where the files of which a night was made are known, the rest is what it gave
no_gave : (lines rest : List (List ℕ)) (made_of : List SummedFile) → IsMadeOf lines made_of rest → IsNoGave rest
    → (made gave : List SummedFile) → ArePartsOf lines made gave → ⊥
no_gave lines rest made_of is none made gave are =
    let same : [] ∷ codes "[made_of]" ∷ (map file_line made_of ++ [] ∷ rest)
    ≡ [] ∷ codes "[made_of]" ∷ (map file_line made ++ [] ∷ (codes "[gave]" ∷ map file_line gave)) = sym is.lines_are ∙ are.lines_are in
    let two = split_once (map file_line made_of) (map file_line made) rest (codes "[gave]" ∷ map file_line gave) (files_filled made_of)
    (files_filled made) (ap (λ (l : List (List ℕ)). drop 2 l) same) in
    none gave (record { lines_are = two.1; can_be = are.gave_can })

pub gave_wrong : (lines rest : List (List ℕ)) (made_of : List SummedFile) → IsMadeOf lines made_of rest → (e : RecordFault)
    → IsWrongFor part.Gave (IsNoGave rest) e → IsPartsFault lines e
gave_wrong lines rest made_of is fault.Memory wrong = tt
gave_wrong lines rest made_of is fault.CutOff wrong = absurd wrong
gave_wrong lines rest made_of is (fault.Wrong other) wrong =
    parts_wrong other part.Gave wrong.0 lines ((made_of, rest, is), no_gave lines rest made_of is wrong.1)

-- a line of the head that isn't one of a record
head_begins : (wrong : Part) (lines : List (List ℕ)) → IsHeadWrong wrong (take 8 lines) → BeginLines wrong lines → ⊥
head_begins part.Version lines is begins = is (ap (λ (l : List (List ℕ)). line (take 8 l) 0) begins.lines_are)
head_begins part.Number lines is begins =
    is begins.night.number begins.can_be.number (ap (λ (l : List (List ℕ)). line (take 8 l) 1) begins.lines_are)
head_begins part.Name lines is begins =
    is begins.night.name begins.can_be.name (ap (λ (l : List (List ℕ)). line (take 8 l) 2) begins.lines_are)
head_begins part.Moment lines is begins =
    is begins.night.moment begins.can_be.moment (ap (λ (l : List (List ℕ)). line (take 8 l) 3) begins.lines_are)
head_begins part.Before lines is begins =
    is begins.night.before begins.can_be.before (ap (λ (l : List (List ℕ)). line (take 8 l) 4) begins.lines_are)
head_begins part.Status lines is begins =
    is begins.night.status begins.can_be.status (ap (λ (l : List (List ℕ)). line (take 8 l) 5) begins.lines_are)
head_begins part.Release lines is begins =
    is begins.night.release begins.can_be.release (ap (λ (l : List (List ℕ)). line (take 8 l) 6) begins.lines_are)
head_begins part.Clock lines is begins =
    is begins.night.clock begins.can_be.clock (ap (λ (l : List (List ℕ)). line (take 8 l) 7) begins.lines_are)
head_begins part.MadeOf lines is begins = absurd is
head_begins part.Gave lines is begins = absurd is

-- what the first lines begin, all lines begin
begin_first : (last : Part) (lines : List (List ℕ)) → ((rest : List (List ℕ)) → AfterLines last rest) → BeginLines last (take 8 lines)
    → BeginLines last lines
begin_first last lines may begins = record {
  night = begins.night;
  rest = begins.rest ++ drop 8 lines;
  can_be = begins.can_be;
  lines_are = sym (take-append-drop 8 lines) ∙ ap (λ (l : List (List ℕ)). l ++ drop 8 lines) begins.lines_are
      ∙ append_assoc (lines_to last begins.night) begins.rest (drop 8 lines);
  after = may (begins.rest ++ drop 8 lines);
}

begun_first : (wrong : Part) (lines : List (List ℕ)) → AreLinesBegun wrong (take 8 lines) → AreLinesBegun wrong lines
begun_first part.Version lines is = tt
begun_first part.Number lines is = begin_first part.Version lines (λ rest. tt) is
begun_first part.Name lines is = begin_first part.Number lines (λ rest. tt) is
begun_first part.Moment lines is = begin_first part.Name lines (λ rest. tt) is
begun_first part.Before lines is = begin_first part.Moment lines (λ rest. tt) is
begun_first part.Status lines is = begin_first part.Before lines (λ rest. tt) is
begun_first part.Release lines is = begin_first part.Status lines (λ rest. tt) is
begun_first part.Clock lines is = begin_first part.Release lines (λ rest. tt) is
begun_first part.MadeOf lines is = begin_first part.Clock lines (λ rest. tt) is
begun_first part.Gave lines is = begin_first part.MadeOf lines (λ rest. tt) is

pub head_fails : (lines : List (List ℕ)) (e : RecordFault) → IsHeadFault (take 8 lines) e → IsLinesFault lines e
head_fails lines fault.Memory is = tt
head_fails lines fault.CutOff is = absurd is
head_fails lines (fault.Wrong wrong) is = (begun_first wrong lines is.0, head_begins wrong lines is.1)

-- files that aren't those of a record
parts_begin : (wrong : Part) (lines : List (List ℕ)) → IsPartsWrong wrong (drop 8 lines) → BeginLines wrong lines → ⊥
parts_begin part.Version lines is begins = absurd is
parts_begin part.Number lines is begins = absurd is
parts_begin part.Name lines is begins = absurd is
parts_begin part.Moment lines is begins = absurd is
parts_begin part.Before lines is begins = absurd is
parts_begin part.Status lines is begins = absurd is
parts_begin part.Release lines is begins = absurd is
parts_begin part.Clock lines is begins = absurd is
parts_begin part.MadeOf lines is begins =
    is begins.night.made_of begins.rest (record {
      lines_are = ap (λ (l : List (List ℕ)). drop 8 l) begins.lines_are
          ∙ append_assoc (files_lines (codes "[made_of]") begins.night.made_of) ([] ∷ []) begins.rest;
      can_be = begins.can_be.made_of;
    })
parts_begin part.Gave lines is begins =
    is.1 begins.night.made_of begins.night.gave (record {
      lines_are = ap (λ (l : List (List ℕ)). drop 8 l)
          (begins.lines_are ∙ ap (λ (r : List (List ℕ)). record_lines begins.night ++ r) begins.after
          ∙ append-nil (record_lines begins.night));
      made_of_can = begins.can_be.made_of;
      gave_can = begins.can_be.gave;
    })

-- the first lines are those of the record that is made of them
pub head_is : (lines : List (List ℕ)) (head : Head) (made_of gave : List SummedFile) → 8 ≤ length lines → IsHead (take 8 lines) head
    → take 8 lines ≡ head_lines (joined head made_of gave)
head_is [] head made_of gave long is = absurd (omega (arith, long))
head_is (a ∷ []) head made_of gave long is = absurd (omega (arith, long))
head_is (a ∷ b ∷ []) head made_of gave long is = absurd (omega (arith, long))
head_is (a ∷ b ∷ c ∷ []) head made_of gave long is = absurd (omega (arith, long))
head_is (a ∷ b ∷ c ∷ d ∷ []) head made_of gave long is = absurd (omega (arith, long))
head_is (a ∷ b ∷ c ∷ d ∷ e ∷ []) head made_of gave long is = absurd (omega (arith, long))
head_is (a ∷ b ∷ c ∷ d ∷ e ∷ f ∷ []) head made_of gave long is = absurd (omega (arith, long))
head_is (a ∷ b ∷ c ∷ d ∷ e ∷ f ∷ g ∷ []) head made_of gave long is = absurd (omega (arith, long))
head_is (a ∷ b ∷ c ∷ d ∷ e ∷ f ∷ g ∷ h ∷ rest) head made_of gave long is =
    let n = is.number in
    let v = is.version in
    let m = is.name in
    let t = is.moment in
    let p = is.before in
    let s = is.status in
    let r = is.release in
    let k = is.clock in
    cc

abbrev clocked : Head → NightRecord
clocked head = joined head [] []

head_can : (lines : List (List ℕ)) (head : Head) → IsHead lines head → CanBe (clocked head)
head_can lines head is = record {
  number = is.number_can;
  name = is.name_can;
  moment = is.moment_can;
  before = is.before_can;
  status = is.status_can;
  release = is.release_can;
  clock = is.clock_can;
  made_of = refl;
  gave = refl;
}

-- the first lines are right
begun_head : (lines : List (List ℕ)) (head : Head) → 8 ≤ length lines → IsHead (take 8 lines) head → BeginLines part.Clock lines
begun_head lines head long is = record {
  night = clocked head;
  rest = drop 8 lines;
  can_be = head_can (take 8 lines) head is;
  lines_are = sym (take-append-drop 8 lines) ∙ ap (λ (l : List (List ℕ)). l ++ drop 8 lines) (head_is lines head [] [] long is);
  after = tt;
}

-- and the files that the night was made of
begun_made_of : (lines : List (List ℕ)) (head : Head) → 8 ≤ length lines → IsHead (take 8 lines) head → (files : List SummedFile)
    (rest : List (List ℕ)) → IsMadeOf (drop 8 lines) files rest → BeginLines part.MadeOf lines
begun_made_of lines head long is files rest made =
    let night : NightRecord = joined head files [] in
    let can = head_can (take 8 lines) head is in record {
      night = night;
      rest = rest;
      can_be = record {
        number = can.number;
        name = can.name;
        moment = can.moment;
        before = can.before;
        status = can.status;
        release = can.release;
        clock = can.clock;
        made_of = made.can_be;
        gave = refl;
      };
      lines_are = sym (take-append-drop 8 lines)
          ∙ ap (λ (l : List (List ℕ)). l ++ drop 8 lines) (head_is lines head files [] long is)
          ∙ ap (λ (l : List (List ℕ)). head_lines night ++ l)
          (made.lines_are ∙ sym (append_assoc (files_lines (codes "[made_of]") files) ([] ∷ []) rest))
          ∙ sym (append_assoc (head_lines night) (files_lines (codes "[made_of]") files ++ [] ∷ []) rest);
      after = tt;
    }

parts_begun : (wrong : Part) (lines : List (List ℕ)) (head : Head) → 8 ≤ length lines → IsHead (take 8 lines) head
    → IsPartsWrong wrong (drop 8 lines) → AreLinesBegun wrong lines
parts_begun part.Version lines head long is wrong = tt
parts_begun part.Number lines head long is wrong = absurd wrong
parts_begun part.Name lines head long is wrong = absurd wrong
parts_begun part.Moment lines head long is wrong = absurd wrong
parts_begun part.Before lines head long is wrong = absurd wrong
parts_begun part.Status lines head long is wrong = absurd wrong
parts_begun part.Release lines head long is wrong = absurd wrong
parts_begun part.Clock lines head long is wrong = absurd wrong
parts_begun part.MadeOf lines head long is wrong = begun_head lines head long is
parts_begun part.Gave lines head long is wrong = begun_made_of lines head long is wrong.0.0 wrong.0.1 wrong.0.2

pub parts_fail : (lines : List (List ℕ)) (head : Head) → 8 ≤ length lines → IsHead (take 8 lines) head → (e : RecordFault)
    → IsPartsFault (drop 8 lines) e → IsLinesFault lines e
parts_fail lines head long is fault.Memory wrong = tt
parts_fail lines head long is fault.CutOff wrong = absurd wrong
parts_fail lines head long is (fault.Wrong bad) wrong = (parts_begun bad lines head long is wrong, parts_begin bad lines wrong)
