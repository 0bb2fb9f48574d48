-- What is printed of nights that don't continue (own): a line a breach, and a total.
use Rattle.std.specs.Prelude.{ℕ, ◌+◌, ◌==◌, List, [], ◌∷◌, ◌++◌, codes, decimal, length, if◌then◌else◌}
use Rattle.std.specs.List.{flat_map}
use Rattle.file_names.specs.Shown.{shown}
use Rattle.hub_kinds.specs.declared.counters.Counters.{Counters}
use Rattle.night_breaches.specs.declared.breach.Breach.{Breach}
use Rattle.night_breaches.specs.declared.breach.Breach.TheVariants as breach
use Rattle.night_breaches.specs.declared.breach.FileFault.{FileFault}
use Rattle.night_breaches.specs.declared.breach.FileFault.TheVariants as fault
use Rattle.night_breaches.specs.declared.breach.LastNight.{LastNight}
use Rattle.night_breaches.specs.declared.breach.LateMoment.{LateMoment}
use Rattle.night_breaches.specs.declared.breach.MomentBack.{MomentBack}
use Rattle.night_breaches.specs.declared.breach.NumberBreak.{NumberBreak}
use Rattle.night_breaches.specs.declared.breach.SecondDelivery.{SecondDelivery}
use Rattle.night_breaches.specs.declared.breach.WrongFile.{WrongFile}
use Rattle.night_marks.specs.declared.bad.BadFile.{BadFile}
use Rattle.night_marks.specs.declared.bad.FileState.{FileState}
use Rattle.night_marks.specs.declared.bad.FileState.TheVariants as state
use Rattle.night_marks.specs.declared.bad.NightFile.{NightFile}
use Rattle.night_marks.specs.declared.bad.NightFile.TheVariants as file
use Rattle.night_marks.specs.declared.link.BrokenLink.{BrokenLink}
use Rattle.breach_lines.specs.Keys.{group_of, hub_of, interchange_of, receiver_of, sender_of, set_of}

-- the night that a line is about
abbrev pub night_words : (night : List ℕ) → List ℕ
night_words night = codes "night " ++ (night ++ codes ": ")

-- a set that was delivered before
abbrev pub set_words : (key : List ℕ) → List ℕ
set_words key = codes "set " ++ (set_of key ++ (codes " of group " ++ group_of key))

-- the interchange in which it came
abbrev pub interchange_words : (key : List ℕ) → List ℕ
interchange_words key =
    codes " of interchange " ++ (interchange_of key ++ (codes " from " ++ (sender_of key ++ (codes " to " ++ hub_of key))))

-- who received it before, and in which night
abbrev pub receipt_words : (key earlier : List ℕ) → List ℕ
receipt_words key earlier = codes " was delivered to " ++ (receiver_of key ++ (codes " in night " ++ earlier))

-- that a set was delivered in a night
abbrev pub delivery_words : (key earlier : List ℕ) → List ℕ
delivery_words key earlier = set_words key ++ (interchange_words key ++ receipt_words key earlier)

abbrev pub delivered_words : SecondDelivery → List ℕ
delivered_words b = night_words b.night ++ delivery_words b.key b.earlier

-- numbers that don't begin where they were left
abbrev pub number_words : Counters → List ℕ
number_words n = codes "ISA13 " ++ (decimal n.interchange ++ (codes " GS06 " ++ (decimal n.group ++ (codes " ST02 " ++ decimal n.set))))

abbrev pub begun_words : NumberBreak → List ℕ
begun_words b = b.partner ++ (codes " (" ++ (b.address ++ (codes ") begins at " ++ number_words b.begun)))

abbrev pub left_words : NumberBreak → List ℕ
left_words b = codes ", and night " ++ (b.earlier ++ (codes " left " ++ (number_words b.left ++ (codes " to " ++ b.was))))

abbrev pub break_words : NumberBreak → List ℕ
break_words b = night_words b.night ++ (begun_words b ++ left_words b)

-- a file that isn't the one that its night gave
abbrev pub fault_words : FileFault → List ℕ
fault_words fault.OfNoPartner = codes " is of no partner"
fault_words fault.NotListed = codes " isn't listed in sums"
fault_words fault.Changed = codes " isn't the file that sums lists"

abbrev pub file_words : WrongFile → List ℕ
file_words b = night_words b.night ++ (b.file ++ fault_words b.fault)

-- moments
abbrev pub back_words : MomentBack → List ℕ
back_words b = codes "its moment " ++ (b.moment ++ (codes " is before " ++ (b.was ++ (codes " of night " ++ b.earlier))))

abbrev pub late_words : LateMoment → List ℕ
late_words b = codes "its moment " ++ (b.moment ++ codes " is ahead of the clock")

-- a night by its name, which is empty if there is none
abbrev pub named_words : (name : List ℕ) → List ℕ
named_words [] = codes "none"
named_words (b ∷ bs) = b ∷ bs

abbrev pub last_words : LastNight → List ℕ
last_words b = codes "the last night is " ++ (named_words b.last ++ (codes ", and .last names " ++ named_words b.named))

-- what a breach says
abbrev pub breach_words : Breach → List ℕ
breach_words (breach.DeliveredTwice b) = delivered_words b
breach_words (breach.NumbersBreak b) = break_words b
breach_words (breach.File b) = file_words b
breach_words (breach.MomentBack b) = night_words b.night ++ back_words b
breach_words (breach.LateMoment b) = night_words b.night ++ late_words b
breach_words (breach.LastNight b) = last_words b

-- a night that doesn't name the night before it
abbrev pub link_words : BrokenLink → List ℕ
link_words b =
    night_words b.night
    ++ (codes "from/before names " ++ (named_words b.named ++ (codes ", and the night before it is " ++ named_words b.before)))

-- a file without which nothing is kept of a night
abbrev pub file_name : NightFile → List ℕ
file_name file.Moment = codes "from/at"
file_name file.Setup = codes "from/setup.toml"
file_name file.Counters = codes "from/counters.toml"
file_name file.NextCounters = codes "out/counters.toml"
file_name file.Sums = codes "sums"
file_name file.Track = codes "track.csv"
file_name file.Input = codes "from/in.x12"
file_name file.InputSum = codes "from/in.sum"
file_name file.Again = codes "from/again.csv"
file_name file.Out = codes "out"
file_name file.Delivered = codes "delivered.csv"
file_name file.Addresses = codes "addresses.csv"

abbrev pub state_words : FileState → List ℕ
state_words state.Unread = codes " can't be read"
state_words state.Wrong = codes " isn't what the night had"

abbrev pub bad_words : BadFile → List ℕ
bad_words b = night_words b.night ++ (file_name b.file ++ state_words b.state)

-- names have any bytes, and each line is one line
abbrev pub line_of : (words : List ℕ) → List ℕ
line_of words = shown words ++ codes "\n"

-- a line each
abbrev pub bad_lines : List BadFile → List ℕ
bad_lines bad = flat_map (λ b. line_of (bad_words b)) bad

abbrev pub link_lines : List BrokenLink → List ℕ
link_lines links = flat_map (λ b. line_of (link_words b)) links

abbrev pub breach_lines : List Breach → List ℕ
breach_lines found = flat_map (λ b. line_of (breach_words b)) found

-- how many nights and addresses there are, and how many breaches
abbrev pub count_words : (nights addresses : ℕ) → List ℕ
count_words nights addresses = codes "nights " ++ (decimal nights ++ (codes ", addresses " ++ (decimal addresses ++ codes ": ")))

-- the end of the total: whether anything is amiss
abbrev pub ending : (found : ℕ) → List ℕ
ending found = if found == 0 then codes "each goes on\n" else decimal found ++ codes " amiss\n"

abbrev pub total_line : (nights addresses found : ℕ) → List ℕ
total_line nights addresses found = count_words nights addresses ++ ending found

-- all that is printed: files first, then nights that are missing, then breaches, then the total
abbrev pub report_text : (nights addresses : ℕ) → List BadFile → List BrokenLink → List Breach → List ℕ
report_text nights addresses bad links found =
    bad_lines bad
    ++ (link_lines links
    ++ (breach_lines found ++ total_line nights addresses (length bad + (length links + length found))))
