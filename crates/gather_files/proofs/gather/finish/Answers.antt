use Rattle.std.proofs.Common.{◌≡◌, ◌∙◌, ◌+◌, ◌-◌, ℕ, List, length, take, sym, ap, subst}
use Rattle.std.specs.List.{suffix_len}
use Rattle.std.specs.Io.KnownBytes.{Appends}
use Rattle.x12_bytes.specs.Bytes.{is_line_end}
use Rattle.stream_read.specs.Held.{HeldValue}
use Rattle.gather_files.specs.Closing.{IsClosedSo, StaysApart}
use Rattle.gather_files.specs.Gathering.{IsTakenByLayers}
use Rattle.gather_files.specs.Lead.{unpadded}
use Rattle.gather_files.specs.declared.closing.Closed.{Closed}
use Rattle.gather_files.specs.declared.gather.Passing.{Passing}
use Rattle.gather_files.proofs.Finishing.{body_at, finished}
use Rattle.gather_files.proofs.gather.finish.Goals as goal

pub returns-clause-taken : goal.returns-clause-taken
returns-clause-taken g c first now was passed at_end =
    let held : HeldValue = c.args.held.now in
    let p : Passing = c.args.passing in
    let closed : Closed = c.in_ok-closed.closed in
    let body : List ℕ = unpadded p.terminator held.bytes in
    let read : List ℕ = c.unpadded-body.result.now in
    let same : read ≡ body = c.unpadded-body.ensures ∙ ap (unpadded p.terminator) c.bytes.ensures in
    let count : c.count_line_ends.result ≡ suffix_len is_line_end c.unpadded-body.result.now = c.count_line_ends.ensures.count in
    let so : IsClosedSo body (take (body_at body) body) closed =
    subst (λ (l : List ℕ). IsClosedSo l (take (body_at l) l) closed) same
    (subst (λ (n : ℕ). IsClosedSo read (take (length read - n) read) closed)
    count c.in_ok-closed.ensures.closed) in
    let apart : StaysApart body closed = subst (λ (l : List ℕ). StaysApart l closed) same c.in_ok-closed.ensures.apart in
    let wrote : Appends (g.W.Write.contents c.args.out.now) (g.W.Write.contents c.put.new.out) closed.bytes.items =
    subst (λ (l : List ℕ). Appends (g.W.Write.contents c.args.out.now) (g.W.Write.contents c.put.new.out) l) c.as_slice-bytes.ensures.value
    c.in_ok-put.ensures.written in
    subst (λ (n : ℕ). IsTakenByLayers first was (g.W.Write.contents c.put.new.out) (record {
      interchanges = p.interchanges + closed.interchanges;
      len = p.written + n;
      end = closed.end;
    }))
    (sym (ap (λ (l : List ℕ). length l) c.as_slice-bytes.ensures.value))
    (finished first now was (g.W.Write.contents c.args.out.now) (g.W.Write.contents c.put.new.out) held p closed passed at_end so
    apart wrote)
