use Rattle.std.proofs.Common.{◌≡◌, ◌-◌, ◌≤◌, ◌++◌, ℕ, List, length, take, refl, sym, ap, subst}
use Rattle.std.specs.List.{suffix_len}
use Rattle.std.specs.Io.KnownBytes.{Appends}
use Rattle.whole_interchanges.specs.Scouting.{Advances, Stands}
use Rattle.whole_interchanges.specs.declared.scout.Advanced.{Advanced}
use Rattle.stream_read.specs.Held.{HeldValue}
use Rattle.gather_files.specs.Gathering.{is_end}
use Rattle.gather_files.specs.declared.gather.Passing.{Passing}
use Rattle.gather_files.proofs.Passing.{passed_on, stands_now}
use Rattle.gather_files.proofs.gather.pass_on.Goals as goal

pub advance-count-requires : goal.advance-count-requires
advance-count-requires g c =
    let held : HeldValue = c.args.held.now in
    let p : Passing = c.args.passing in
    let e : ℕ = c.ends_of-ends.result in
    let grows : p.seen - p.ends ≤ length held.bytes - e =
    subst (λ (l : List ℕ). p.seen - p.ends ≤ length l - e) c.bytes.ensures c.ends_of-ends.ensures.grows in
    let here : Stands (take (length held.bytes - e) held.bytes) p.scout.at p.scout.inside =
    stands_now c.requires.passed.0 c.requires.passed.1 c.requires.passed.2 c.requires.passed.3 held p (length held.bytes - e) grows
    c.requires.passed.4 in
    subst (λ (l : List ℕ). Stands (take (length l - e) c.bytes-3.result.now) p.scout.at p.scout.inside) (sym c.bytes-2.ensures)
    (subst (λ (l : List ℕ). Stands (take (length held.bytes - e) l) p.scout.at p.scout.inside) (sym c.bytes-3.ensures) here)

pub returns-clause-passed : goal.returns-clause-passed
returns-clause-passed g c first now was passed =
    let held : HeldValue = c.args.held.now in
    let p : Passing = c.args.passing in
    let e : ℕ = c.ends_of-ends.result in
    let a : Advanced = c.advance-count.result in
    let kept : List ℕ = take (length held.bytes - e) held.bytes in
    let few : e ≤ length held.bytes = subst (λ (l : List ℕ). e ≤ length l) c.bytes.ensures c.ends_of-ends.ensures.within in
    let grows : p.seen - p.ends ≤ length held.bytes - e =
    subst (λ (l : List ℕ). p.seen - p.ends ≤ length l - e) c.bytes.ensures c.ends_of-ends.ensures.grows in
    let ends : ((before : List ℕ) → suffix_len is_end (before ++ take p.seen held.bytes) ≡ p.ends
    → suffix_len is_end (before ++ held.bytes) ≡ e) =
    subst (λ (l : List ℕ). (before : List ℕ) → suffix_len is_end (before ++ take p.seen l) ≡ p.ends → suffix_len is_end (before ++ l) ≡ e)
    c.bytes.ensures c.ends_of-ends.ensures.ends in
    let advances : Advances kept p.scout.at a =
    subst (λ (l : List ℕ). Advances (take (length held.bytes - e) l) p.scout.at a) c.bytes-3.ensures
    (subst (λ (l : List ℕ). Advances (take (length l - e) c.bytes-3.result.now) p.scout.at a) c.bytes-2.ensures c.advance-count.ensures) in
    let wrote : Appends (g.W.Write.contents c.args.out.now) (g.W.Write.contents c.put.new.out) (take a.scout.at held.bytes) =
    subst (λ (l : List ℕ). Appends (g.W.Write.contents c.args.out.now) (g.W.Write.contents c.put.new.out) (take a.scout.at l))
    c.bytes-4.ensures c.in_ok-put.ensures.written in
    passed_on first now was (g.W.Write.contents c.args.out.now) (g.W.Write.contents c.put.new.out) held c.give_up.new.self p _ a few
    grows ends advances wrote c.give_up.ensures.bytes c.give_up.ensures.total c.forget.ensures.at
    (c.forget.ensures.stands kept advances.stands) refl (ap (λ (l : List ℕ). length l) c.bytes-5.ensures) refl refl passed
