use Rattle.std.proofs.Common.{◌≡◌, ◌+◌, true, false, refl, sym, subst, rules, max}
use Rattle.x12_bytes.specs.HeaderTest.{is_head}
use Rattle.x12_segs.specs.Words.{seg_at, view_of, kind_of}
use Rattle.env_index.specs.Words.{ends_interchange}
use Rattle.whole_interchanges.specs.Begun.{may_begin}
use Rattle.whole_interchanges.specs.Steps.{Steps}
use Rattle.whole_interchanges.proofs.Looks.{ends_here, passes_on, waits_begun, waits_unended}
use Rattle.whole_interchanges.proofs.following.step_at.Goals as goal

pub returns-then-is_some : goal.returns-then-is_some
returns-then-is_some c =
    let head : is_head c.args.read.now c.args.lead ≡ true = search rules in
    ends_here c.args.read.now c.args.delims c.args.part.at c.args.lead c.args.part.lead c.args.part.seen c.requires.lead c.requires.seen
    c.requires.within c.requires.other c.requires.inner head

pub returns-then-may_begin : goal.returns-then-may_begin
returns-then-may_begin c =
    let none : is_head c.args.read.now c.args.lead ≡ false = search rules in
    let may : may_begin c.args.read.now c.args.lead ≡ true = search rules in
    let seen : c.max-seen.result ≡ max c.args.lead c.args.part.seen = search rules in
    waits_begun c.args.read.now c.args.delims c.args.part.at c.args.lead c.args.part.lead c.args.part.seen c.requires.lead c.requires.seen
    c.requires.within c.requires.other c.requires.inner c.max-seen.result seen none may

pub returns-in-Some : goal.returns-in-Some
returns-in-Some c =
    let none : is_head c.args.read.now c.args.lead ≡ false = search rules in
    let closed : may_begin c.args.read.now c.args.lead ≡ false = search rules in
    let seen : c.max-seen.result ≡ max c.args.lead c.args.part.seen = search rules in
    subst (Steps c.args.read.now c.args.delims c.args.part.at) (sym c.pass.ensures)
    (passes_on c.args.read.now c.args.delims c.args.part.at c.args.lead c.args.part.lead c.args.part.seen c.requires.lead c.requires.seen
    c.requires.within c.requires.other c.requires.inner c.max-seen.result c.in-Some.ahead seen c.in-Some.ensures none closed
    (ends_interchange (kind_of (view_of c.args.delims (seg_at c.args.read.now c.args.lead (c.max-seen.result + c.in-Some.ahead))))) refl)

pub returns-in-None : goal.returns-in-None
returns-in-None c =
    let none : is_head c.args.read.now c.args.lead ≡ false = search rules in
    let seen : c.max-seen.result ≡ max c.args.lead c.args.part.seen = search rules in
    waits_unended c.args.read.now c.args.delims c.args.part.at c.args.lead c.args.part.lead c.args.part.seen c.requires.lead c.requires.seen
    c.requires.within c.requires.other c.requires.inner c.max-seen.result seen c.in-None.ensures none
