use Rattle.std.proofs.Common.{◌≡◌, ◌∙◌, ℕ, List, false, ap, sym, subst, rules}
use Rattle.x12_bytes.specs.HeaderTest.{is_head}
use Rattle.gather_files.specs.Causes.{cause_of}
use Rattle.gather_files.specs.Gathering.{IsSetAside}
use Rattle.gather_files.specs.declared.cause.Cause.{Cause}
use Rattle.gather_files.proofs.Beginning.{set_aside}
use Rattle.gather_files.proofs.Said.{taken_said}
use Rattle.gather_files.proofs.gather.gather_file.Goals as goal

pub returns-then-is_none-clause-gathered : goal.returns-then-is_none-clause-gathered
returns-then-is_none-clause-gathered g c =
    let none : is_head c.bytes.result.now 0 ≡ false = search rules in
    let here : is_head c.in_ok-held.held.bytes 0 ≡ false = subst (λ (l : List ℕ). is_head l 0 ≡ false) c.bytes.ensures none in
    let named : cause_of c.in_ok-held.held.bytes ≡ c.cause_of.result =
    ap cause_of (sym c.bytes-then-is_none.ensures) ∙ sym c.cause_of.ensures in
    subst (λ (x : Cause). IsSetAside (g.S.Source.remaining c.args.file.now) (g.W.Write.contents c.args.out.now)
    (g.W.Write.contents c.args.out.now) x) named
    (set_aside (g.S.Source.remaining c.args.file.now) (g.S.Source.remaining c.begin.new.file) (g.W.Write.contents c.args.out.now)
    c.in_ok-held.held c.in_ok-held.ensures.begun here)

pub returns-clause-gathered : goal.returns-clause-gathered
returns-clause-gathered g c =
    taken_said (g.S.Source.remaining c.args.file.now) (g.W.Write.contents c.args.out.now) (g.W.Write.contents c.pass_all.new.out)
    c.in_ok-taken.taken (c.in_ok-taken.ensures.taken (g.S.Source.remaining c.args.file.now) c.in_ok-held.ensures.begun)
