use Rattle.std.proofs.Common.{◌≡◌, ◌+◌, ◌-◌, ◌≤◌, ◌<◌, ℕ, List, length, drop, min, slice_range, arith, rules}
use Rattle.std.proofs.lemmas.List.{length-drop, length-take-le}
use Rattle.whole_interchanges.proofs.Letters.{free_in}
use Rattle.whole_interchanges.proofs.passing.free_from.Goals as goal

pub returns-in-Some-clause-free : goal.returns-in-Some-clause-free
returns-in-Some-clause-free c =
    let read : List ℕ = c.args.read.now in
    let at : ℕ = c.args.at in
    let end : ℕ = c.args.to + c.min-more.result in
    let more : c.min-more.result ≡ min (length read - c.args.to) 2 = search rules in
    let room : length (drop at read) ≡ length read - at = length-drop at read in
    let within : end ≤ length read = omega (arith, more, c.requires.within) in
    let size : length (slice_range read at end) ≡ end - at = length-take-le (end - at) (drop at read) (omega (arith, room, within)) in
    free_in read c.args.letters.now at end (at + c.in-Some.ahead) c.in-Some.ahead within
    (λ q low lt fit. (omega (arith, size, lt, c.in-Some.ensures.1.fits, c.requires.order), omega (arith, low, lt)))
    c.in-Some.ensures.0.before

pub returns-in-None-clause-free : goal.returns-in-None-clause-free
returns-in-None-clause-free c =
    let read : List ℕ = c.args.read.now in
    let at : ℕ = c.args.at in
    let end : ℕ = c.args.to + c.min-more.result in
    let more : c.min-more.result ≡ min (length read - c.args.to) 2 = search rules in
    let room : length (drop at read) ≡ length read - at = length-drop at read in
    let within : end ≤ length read = omega (arith, more, c.requires.within) in
    let size : length (slice_range read at end) ≡ end - at = length-take-le (end - at) (drop at read) (omega (arith, room, within)) in
    free_in read c.args.letters.now at end c.args.to (length (slice_range read at end) + 1) within
    (λ q low lt fit. (omega (arith, more, lt, fit, c.requires.letters), omega (arith, size, low, lt, c.requires.order)))
    c.in-None.ensures
