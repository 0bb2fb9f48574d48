-- The summary of a list of segments, from the right: what each segment adds in front, whichever of a set, a group or the interchange is
-- open there.
use Rattle.std.proofs.Common.{ℕ, ◌+◌, List, [], ◌∷◌, Bool, true, false, ◌||◌, Option, Some, None}
use Rattle.x12_segs.specs.Words.{SegValue, kind_of}
use Rattle.x12_segs.specs.declared.kind.Kind.{Kind}
use Rattle.x12_segs.specs.declared.kind.Kind.TheVariants.{InterchangeTrailer, GroupHeader, GroupTrailer, SetHeader, SetTrailer, Ta1}
use Rattle.x12_segs.specs.declared.kind.Kind.TheVariants.{Other}
use Rattle.env_index.specs.declared.entry.SetEnvelope.{SetEnvelope}
use Rattle.env_index.specs.Extents.{behind}
use Rattle.env_index.specs.Summary.{Summary}

-- if a group is open: its sets that begin here, its GE, whether a segment is out of place in it; what follows it
pub record GroupTail : Type 0 where
  pub sets : List SetEnvelope
  pub close : Option SegValue
  pub misplaced : Bool
  pub after : Summary

-- if a set is open: how many segments it goes on for, its SE among them; that SE; what follows it; and where it ends, by where its
-- segments so far end
pub record SetTail : Type 0 where
  pub count : ℕ
  pub close : Option SegValue
  pub after : GroupTail
  pub end : ℕ → ℕ

pub record Tails : Type 0 where
  pub in_set : SetTail
  pub in_group : GroupTail
  pub in_body : Summary

abbrev pub nothing : Summary
nothing = record { groups = []; ta1s = 0; misplaced = false; trailer = None }

-- a group that ends without GE
abbrev pub left_open : Summary → GroupTail
left_open after = record { sets = []; close = None; misplaced = false; after = after }

-- a set that ends without SE
abbrev pub cut_off : GroupTail → SetTail
cut_off after = record { count = 0; close = None; after = after; end = λ so_far. so_far }

abbrev pub no_segments : Tails
no_segments = record { in_set = cut_off (left_open nothing); in_group = left_open nothing; in_body = nothing }

abbrev pub with_ta1 : Summary → Summary
with_ta1 s = record s { ta1s = s.ta1s + 1 }

abbrev pub with_misplaced : Summary → Summary
with_misplaced s = record s { misplaced = true }

abbrev pub with_group : SegValue → GroupTail → Summary
with_group header t = record {
  groups = record { header = header; sets = t.sets; trailer = t.close } ∷ t.after.groups;
  ta1s = t.after.ta1s;
  misplaced = t.misplaced || t.after.misplaced;
  trailer = t.after.trailer;
}

abbrev pub with_trailer : SegValue → Summary
with_trailer seg = record { groups = []; ta1s = 0; misplaced = false; trailer = Some seg }

abbrev pub with_set : SegValue → SetTail → GroupTail
with_set header t = record {
  sets = record { header = header; segments = t.count + 1; trailer = t.close; end = t.end (behind header) } ∷ t.after.sets;
  close = t.after.close;
  misplaced = t.after.misplaced;
  after = t.after.after;
}

-- a segment in front, where no group is open
abbrev pub onto_body : Kind → SegValue → Tails → Summary
onto_body InterchangeTrailer seg t = with_trailer seg
onto_body GroupHeader seg t = with_group seg t.in_group
onto_body GroupTrailer seg t = with_misplaced t.in_body
onto_body SetHeader seg t = with_misplaced t.in_body
onto_body SetTrailer seg t = with_misplaced t.in_body
onto_body Ta1 seg t = with_ta1 t.in_body
onto_body Other seg t = with_misplaced t.in_body

-- where a group is open, and no set
abbrev pub onto_group : Kind → SegValue → Tails → GroupTail
onto_group InterchangeTrailer seg t = left_open (with_trailer seg)
onto_group GroupHeader seg t = left_open (with_group seg t.in_group)
onto_group GroupTrailer seg t = record { sets = []; close = Some seg; misplaced = false; after = t.in_body }
onto_group SetHeader seg t = with_set seg t.in_set
onto_group SetTrailer seg t = record t.in_group { misplaced = true }
onto_group Ta1 seg t = record t.in_group { misplaced = true }
onto_group Other seg t = record t.in_group { misplaced = true }

-- where a set is open
abbrev pub onto_set : Kind → SegValue → Tails → SetTail
onto_set InterchangeTrailer seg t = cut_off (left_open (with_trailer seg))
onto_set GroupHeader seg t = cut_off (left_open (with_group seg t.in_group))
onto_set GroupTrailer seg t = cut_off (record { sets = []; close = Some seg; misplaced = false; after = t.in_body })
onto_set SetHeader seg t = cut_off (with_set seg t.in_set)
onto_set SetTrailer seg t = record { count = 1; close = Some seg; after = t.in_group; end = λ so_far. behind seg }
onto_set Ta1 seg t = record t.in_set { count = t.in_set.count + 1; end = λ so_far. t.in_set.end (behind seg) }
onto_set Other seg t = record t.in_set { count = t.in_set.count + 1; end = λ so_far. t.in_set.end (behind seg) }

abbrev pub onto : Kind → SegValue → Tails → Tails
onto kind seg t = record { in_set = onto_set kind seg t; in_group = onto_group kind seg t; in_body = onto_body kind seg t }

abbrev pub tails : List SegValue → Tails
tails [] = no_segments
tails (seg ∷ segs) = onto (kind_of seg) seg (tails segs)

abbrev pub summed : List SegValue → Summary
summed segs = (tails segs).in_body
