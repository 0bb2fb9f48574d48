-- The headers of a text, cut in two; and the offsets between them, where none begins.
use Rattle.std.proofs.Common.{◌≡◌, ℕ, ◌+◌, ◌-◌, ◌≤◌, ◌<◌, List, [], ◌∷◌, ◌++◌, length, Bool, true, false, zero, suc, arith}
use Rattle.std.proofs.Common.{sym, ap, refl, subst, ◌∙◌, inl, inr, drop, take, get_or}
use Rattle.std.specs.List.{All}
use Rattle.std.proofs.lemmas.List.{append_cancel_right, drop_at, drop_more, get_or-drop, take-append-drop}
use Rattle.std.proofs.lemmas.List.Elements.{All-drop, All-head}
use Rattle.std.proofs.lemmas.Bool.{cases_lt}
use Rattle.x12_bytes.specs.HeaderTest.{is_head}
use Rattle.isa_scan.specs.Heads.{heads_in, head_at}
use Rattle.isa_scan.specs.declared.heads.HeadAt.{HeadAt}
use Rattle.isa_scan.proofs.ForAbove.{heads_both, heads_none}
use Rattle.env_index.specs.Shares.{AreHeadsFrom, IsReadAt, IsShare, ShareValue}
use Rattle.env_index.specs.Known.{AreMarks}
use Rattle.env_marks.specs.Marking.{MarksValue}
use Rattle.hub_kinds.specs.declared.limits.TheConstants.{LONGEST_TEXT}
use Rattle.env_index.proofs.ByHeads.{IsFirstHead, heads_first, heads_here}
use Rattle.env_index.proofs.Sharing.{begins_before, no_header}
use Rattle.env_index.proofs.Surround.{no_head_past}

-- the headers from the one at an index on
pub record IsCutAt (text : List ℕ) (a n : ℕ) (heads : List HeadAt) (k cut : ℕ) : Type 0 where
  pub low : a ≤ cut
  pub high : cut < n
  pub back : drop k heads ≡ heads_in text cut n

from_first : (text : List ℕ) (a n : ℕ) (h : HeadAt) (rest : List HeadAt) → IsFirstHead text a n h rest → h ∷ rest ≡ heads_in text a n
    → IsCutAt text a n (h ∷ rest) 0 h.start
from_first text a n h rest first is = record {
  low = first.low;
  high = first.high;
  back = is ∙ heads_both text a h.start n first.low (omega (arith, first.high))
      ∙ ap (λ (l : List HeadAt). l ++ heads_in text h.start n) (heads_none text a h.start first.low first.none);
}

pub cut_at : (k : ℕ) (text : List ℕ) (a n : ℕ) (heads : List HeadAt) → a ≤ n → k < length heads → heads ≡ heads_in text a n
    → IsCutAt text a n heads k (get_or heads k no_header).start
cut_at k text a n [] order lt is = absurd (omega (arith, lt))
cut_at zero text a n (h ∷ rest) order lt is =
    from_first text a n h rest (heads_first (n - a) text a n h rest (omega arith) order (sym is)) is
cut_at (suc k) text a n (h ∷ rest) order lt is =
    let first = heads_first (n - a) text a n h rest (omega arith) order (sym is) in
    let later = cut_at k text (h.start + 1) n rest (omega (arith, first.high)) (omega (arith, lt)) first.left in
    record { low = omega (arith, first.low, later.low); high = later.high; back = later.back }

-- the headers before it
pub front_of : (text : List ℕ) (a n : ℕ) (heads : List HeadAt) (k cut : ℕ) → heads ≡ heads_in text a n → IsCutAt text a n heads k cut
    → take k heads ≡ heads_in text a cut
front_of text a n heads k cut is c = append_cancel_right (take k heads) (heads_in text a cut) (heads_in text cut n)
    (ap (λ (l : List HeadAt). take k heads ++ l) (sym c.back) ∙ take-append-drop k heads ∙ is
    ∙ heads_both text a cut n c.low (omega (arith, c.high)))

-- where each header begins before an offset, none begins from there on
none_by : (v : Bool) (text : List ℕ) (a n end q : ℕ) → is_head text q ≡ v → All (begins_before end) (heads_in text a n) → end ≤ q → a ≤ q
    → q < n → is_head text q ≡ false
none_by false text a n end q is passed late low high = is
none_by true text a n end q is passed late low high =
    let all : heads_in text a n ≡ heads_in text a q ++ head_at text q ∷ heads_in text (q + 1) n =
    heads_both text a q n low (omega (arith, high)) ∙ ap (λ (l : List HeadAt). heads_in text a q ++ l) (heads_here text q n high is) in
    let front : List HeadAt = heads_in text a q in
    let rest : List HeadAt = heads_in text (q + 1) n in
    let there : All (begins_before end) (front ++ head_at text q ∷ rest) = subst (All (begins_before end)) all passed in
    let lt : begins_before end (head_at text q) = All-head (begins_before end) (head_at text q) rest
    (subst (All (begins_before end)) (drop_at front (head_at text q ∷ rest) (length front) refl)
    (All-drop (begins_before end) (length front) (front ++ head_at text q ∷ rest) there)) in
    absurd (omega (arith, lt, late))

pub none_between : (text : List ℕ) (from to : ℕ) (heads : List HeadAt) (s : ShareValue) (since : ℕ)
    → ((q : ℕ) → from ≤ q → q < since → is_head text q ≡ false) → heads ≡ heads_in text since to → IsReadAt text from heads s
    → (q : ℕ) → s.end ≤ q → q < to → is_head text q ≡ false
none_between text from to heads s since none is read q late high = elim (cases_lt q since) [
  | inl lt ↦ none q (omega (arith, late, read.few)) lt
  | inr ge ↦ none_by (is_head text q) text since to s.end q refl (subst (All (begins_before s.end)) is read.passed) late ge high
]

-- in all of a text none is left
pub none_after_all : (text : List ℕ) (s : ShareValue) → IsReadAt text 0 (heads_in text 0 (length text)) s → (q : ℕ) → s.end ≤ q
    → is_head text q ≡ false
none_after_all text s read q late = elim (cases_lt q (length text)) [
  | inl lt ↦ none_between text 0 (length text) (heads_in text 0 (length text)) s 0 (λ p low high. absurd (omega (arith, high))) refl read q
      late lt
  | inr ge ↦ no_head_past text q ge
]

-- headers are those from a later offset on, too
pub heads_later : (text : List ℕ) (from at : ℕ) (heads : List HeadAt) → from ≤ at → AreHeadsFrom text from heads
    → AreHeadsFrom text at heads
heads_later text from at heads order was = record {
  since = was.since;
  to = was.to;
  order = was.order;
  within = was.within;
  none = λ q low high. was.none q (omega (arith, low, order)) high;
  are = was.are;
}

-- the halves of some headers, the second from `cut` on
pub record AreHalves (text : List ℕ) (from : ℕ) (low high : List HeadAt) (cut : ℕ) : Type 0 where
  pub front : AreHeadsFrom text from low
  pub back : AreHeadsFrom text cut high
  pub within : cut ≤ length text
  pub none : (s : ShareValue) → IsReadAt text from low s → (q : ℕ) → s.end ≤ q → q < cut → is_head text q ≡ false

halves_by : (text : List ℕ) (from : ℕ) (heads low high : List HeadAt) (k cut : ℕ) (was : AreHeadsFrom text from heads)
    → IsCutAt text was.since was.to heads k cut → low ≡ take k heads → high ≡ drop k heads → AreHalves text from low high cut
halves_by text from heads low high k cut was c front back =
    let before : low ≡ heads_in text was.since cut = front ∙ front_of text was.since was.to heads k cut was.are c in
    record {
      front = record {
        since = was.since;
        to = cut;
        order = c.low;
        within = omega (arith, c.high, was.within);
        none = was.none;
        are = before;
      };
      back = record {
        since = cut;
        to = was.to;
        order = omega (arith, c.high);
        within = was.within;
        none = λ q low high. absurd (omega (arith, low, high));
        are = back ∙ c.back;
      };
      within = omega (arith, c.high, was.within);
      none = λ s read. none_between text from cut low s was.since was.none before read;
    }

pub halved : (text : List ℕ) (from : ℕ) (heads low high : List HeadAt) (k : ℕ) → k < length heads → low ≡ take k heads
    → high ≡ drop k heads → AreHeadsFrom text from heads → AreHalves text from low high (get_or high 0 no_header).start
halved text from heads low high k lt front back was =
    let c = cut_at k text was.since was.to heads was.order lt was.are in
    let here : get_or high 0 no_header ≡ get_or heads k no_header =
    ap (λ (l : List HeadAt). get_or l 0 no_header) back ∙ get_or-drop k heads 0 no_header
    ∙ ap (λ (n : ℕ). get_or heads n no_header) (let e : k + 0 ≡ k = omega arith in e) in
    halves_by text from heads low high k _ was
    (subst (IsCutAt text was.since was.to heads k) (sym (ap (λ (h : HeadAt). h.start) here)) c) front back

-- a share of other headers of the text
pub share_of : (text : List ℕ) (from at : ℕ) (heads hs : List HeadAt) (marks : List MarksValue) → IsShare text from heads marks
    → at ≤ length text → AreHeadsFrom text at hs → IsShare text at hs marks
share_of text from at heads hs marks was within listed = record {
  few = was.few;
  within = within;
  listed = listed;
  marked = was.marked;
}

-- all headers of a text
pub whole_share : (text : List ℕ) (heads : List HeadAt) (marks : List MarksValue) → length text ≤ LONGEST_TEXT
    → heads ≡ heads_in text 0 (length text) → All (AreMarks text) marks → IsShare text 0 heads marks
whole_share text heads marks few all marked = record {
  few = few;
  within = omega arith;
  listed = record {
    since = 0;
    to = length text;
    order = omega arith;
    within = omega arith;
    none = λ q low high. absurd (omega (arith, high));
    are = all;
  };
  marked = marked;
}

-- the first of the headers, and those after it
pub record IsNextLeft (text : List ℕ) (from : ℕ) (h : HeadAt) (rest : List HeadAt) : Type 0 where
  pub inside : h.start < length text
  pub head : is_head text h.start ≡ true
  pub least : (q : ℕ) → from ≤ q → q < h.start → is_head text q ≡ false
  pub left : (at : ℕ) → h.start < at → AreHeadsFrom text at rest

pub first_left : (text : List ℕ) (from : ℕ) (heads : List HeadAt) (i : ℕ) → i < length heads → AreHeadsFrom text from (drop i heads)
    → IsNextLeft text from (get_or heads i no_header) (drop (i + 1) heads)
first_left text from heads i lt was =
    let first = heads_first (was.to - was.since) text was.since was.to (get_or heads i no_header) (drop (i + 1) heads) (omega arith)
    was.order (sym was.are ∙ drop_more heads i no_header lt) in
    record {
      inside = omega (arith, first.high, was.within);
      head = first.head;
      least = λ q low high. elim (cases_lt q was.since) [
        | inl w ↦ was.none q low w
        | inr w ↦ first.none q w high
      ];
      left = λ at later. record {
        since = (get_or heads i no_header).start + 1;
        to = was.to;
        order = omega (arith, first.high);
        within = was.within;
        none = λ q low high. absurd (omega (arith, low, high, later));
        are = first.left;
      };
    }
