use Rattle.std.proofs.Common.{◌≡◌, ◌∙◌, List, [], ◌∷◌, ◌++◌, Global, Vec, ap}
use Rattle.night_shelf.specs.Shelf.{IsNamed, MayName}
use Rattle.night_shelf.specs.declared.night.KeptNight.{KeptNight}
use Rattle.night_shelf.specs.declared.night.NightFile.{NightFile}
use Rattle.night_shelf.proofs.Faking.{either_way, more_named, none_named, place_of}
use Rattle.night_shelf.proofs.memory.MemoryShelfShelf.rename.Goals as goal

pub returns : goal.returns
returns c =
    let shelf = c.args.self.now in
    let name = c.args.name.now in
    let settled : List KeptNight = shelf.settled.items in
    let fresh : List KeptNight = shelf.fresh.items in
    let more : List KeptNight = c.push_night.new.fresh.items in
    let files : List NightFile = shelf.tonight.items in
    let left : List NightFile = c.replace-files.new.dest.items in
    let night : KeptNight = record { name = c.in_ok-name.name; files = c.from_vec.result } in
    either_way c.push_night.result (more ≡ fresh ++ night ∷ []) (more ≡ fresh)
    (IsNamed name (place_of settled fresh files shelf.is_on_disk) (place_of settled more left shelf.is_on_disk))
    (MayName name (place_of settled fresh files shelf.is_on_disk) (place_of settled more left shelf.is_on_disk))
    (λ pushed. more_named name settled fresh more files left shelf.is_on_disk shelf.is_on_disk night c.in_ok-name.ensures
    (c.from_vec.ensures ∙ ap (λ (v : Vec NightFile Global). v.items) c.replace-files.ensures.value) pushed) (λ kept. none_named
    name settled fresh more files left shelf.is_on_disk shelf.is_on_disk kept)
    c.push_night.ensures
