use Rattle.std.proofs.Common.{◌≡◌, ◌<◌, ◌+◌, ◌-◌, ℕ, List, Option, length, false, true, inl, inr, sym, ap, subst, ◌∙◌, arith}
use Rattle.std.specs.Prelude.{is_some}
use Rattle.x12_segs.specs.Words.{kind_of}
use Rattle.x12_bytes.specs.HeaderTest.{is_head}
use Rattle.env_index.specs.Envelope.{DerivesInterchange}
use Rattle.env_index.specs.Extents.{reach_at}
use Rattle.env_index.specs.Interchange.{InterchangeEntry, interchange_of}
use Rattle.std.specs.Prelude.{slice_range}
use Rattle.std.proofs.lemmas.Bool.Decides.{leb_tells}
use Rattle.env_index.proofs.Surround.{no_head_past}
use Rattle.env_index.proofs.Nexting.{no_head_between, no_head_up_to, rest_length}
use Rattle.env_index.proofs.next.next_interchange.Goals as goal

pub returns-in-Some-2-clause-next : goal.returns-in-Some-2-clause-next
returns-in-Some-2-clause-next c =
    let text : List ℕ = c.args.text.now in
    let x : InterchangeEntry = c.in-Some-2.interchange in
    let n : ℕ = c.loop-ahead.at + c.in-Some.ahead in
    let first = rw c.in-Some.is at c.memchr.ensures in
    let t = rw c.in-Some-2.is at c.in_ok-interchange.ensures.tree in
    let start : x.start ≡ n = ap (λ (e : InterchangeEntry). e.start) t.2 in
    let head : is_head text n ≡ true = sym c.in_ok-interchange.ensures.found
    ∙ ap (λ (o : Option InterchangeEntry). is_some o) c.in-Some-2.is in
    let low = c.loop-ahead.invariant.behind in
    record {
      next = record {
        behind = omega (arith, start, low);
        head = ap (is_head text) start ∙ head;
        least = λ q from below. no_head_between text c.args.from c.loop-ahead.at c.in-Some.ahead c.loop-ahead.invariant.none
            first.0.before q from (omega (arith, start));
      };
      read = record {
        tree = t.0;
        derived = subst (λ (s : ℕ). DerivesInterchange kind_of (reach_at text s).segs t.0) (sym start) t.1;
        read = subst (λ (s : ℕ). x ≡ interchange_of text s t.0) (sym start) t.2;
        spans = rw c.in-Some-2.is at c.in_ok-interchange.ensures.spans;
      };
    }

pub loop-ahead-preserved : goal.loop-ahead-preserved
loop-ahead-preserved c =
    let text : List ℕ = c.args.text.now in
    let first = rw c.in-Some.is at c.memchr.ensures in
    let none : is_head text (c.loop-ahead.at + c.in-Some.ahead) ≡ false = sym c.in_ok-interchange.ensures.found
    ∙ ap (λ (o : Option InterchangeEntry). is_some o) c.in_default-2.is in
    let long : c.in-Some.ahead < length text - c.loop-ahead.at
    = subst (λ (n : ℕ). c.in-Some.ahead < n) (rest_length text c.loop-ahead.at) first.0.high in
    let low = c.loop-ahead.invariant.behind in
    record {
      behind = omega (arith, low);
      inside = omega (arith, long);
      none = λ q from below. no_head_up_to text c.args.from (c.loop-ahead.at + c.in-Some.ahead)
          (no_head_between text c.args.from c.loop-ahead.at c.in-Some.ahead c.loop-ahead.invariant.none first.0.before) none q from
          (omega arith);
    }

pub returns-clause-none : goal.returns-clause-none
returns-clause-none c q low =
    let text : List ℕ = c.args.text.now in
    let nowhere = rw c.in_default.is at c.memchr.ensures in
    let rest = rest_length text c.loop-ahead.at in
    let inside = c.loop-ahead.invariant.inside in
    elim (leb_tells (length text) q) [
      | inl w ↦ no_head_past text q w.1
      | inr w ↦ no_head_between text c.args.from c.loop-ahead.at (length (slice_range text c.loop-ahead.at (length text)))
          c.loop-ahead.invariant.none nowhere q low (omega (arith, rest, inside, w))
    ]
