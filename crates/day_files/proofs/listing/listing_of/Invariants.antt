use Rattle.std.proofs.Common.{◌≡◌, take}
use Rattle.day_files.specs.Listing.{listing_of}
use Rattle.day_files.proofs.listing.listing_of.Given as goal

abbrev pub invariant-loop-i : goal.invariant-loop-i
invariant-loop-i l = l.listing.items ≡ listing_of (take l.i l.files)
