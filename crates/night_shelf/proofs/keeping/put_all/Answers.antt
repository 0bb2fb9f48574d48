use Rattle.std.proofs.Common.{◌≡◌, ◌∙◌, ℕ, ◌+◌, List, [], ◌∷◌, ◌++◌, ap, arith, subst, sym, take}
use Rattle.std.proofs.lemmas.List.{take_more}
use Rattle.night_shelf.specs.Shelf.{ArePut, IsPut, KeepsNights}
use Rattle.night_shelf.specs.declared.night.NightFile.{NightFile}
use Rattle.night_shelf.proofs.Changing.{are_nights, both, none_done, put_keeps, put_more, put_none, weaker}
use Rattle.night_shelf.proofs.keeping.put_all.Goals as goal

pub loop-i-init : goal.loop-i-init
loop-i-init g c = none_done (ArePut []) put_none (g.S.Shelf.place c.args.shelf.now)

pub loop-i-preserved : goal.loop-i-preserved
loop-i-preserved g c =
    let files : List NightFile = c.args.files.now in
    let i : ℕ = c.loop-i.i in
    let file : NightFile = c.index-files-i.result in
    let grown : take (i + 1) files ≡ take i files ++ file ∷ [] =
    take_more files i file (omega arith) ∙ ap (λ (f : NightFile). take i files ++ f ∷ []) (sym c.index-files-i.is) in
    both (ArePut (take i files)) (IsPut file) (ArePut (take (i + 1) files))
    (λ a b d one two. subst (λ (l : List NightFile). ArePut l a d) (sym grown) (put_more (take i files) file a b d one two))
    (g.S.Shelf.place c.args.shelf.now) (g.S.Shelf.place c.loop-i.shelf) (g.S.Shelf.place c.put.new.self) c.loop-i.invariant
    c.in_ok-put.ensures

pub returns-in_err-put-clause-nights : goal.returns-in_err-put-clause-nights
returns-in_err-put-clause-nights g c =
    both (ArePut (take c.loop-i.i c.args.files.now)) KeepsNights KeepsNights (put_keeps (take c.loop-i.i c.args.files.now))
    (g.S.Shelf.place c.args.shelf.now) (g.S.Shelf.place c.loop-i.shelf) (g.S.Shelf.place c.put.new.self) c.loop-i.invariant
    c.in_err-put.ensures

pub returns-clause-nights : goal.returns-clause-nights
returns-clause-nights g c =
    weaker (ArePut (take c.loop-i.i c.args.files.now)) KeepsNights (are_nights (take c.loop-i.i c.args.files.now))
    (g.S.Shelf.place c.args.shelf.now) (g.S.Shelf.place c.loop-i.shelf) c.loop-i.invariant
