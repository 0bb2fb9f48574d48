-- Private. The marks of bytes that lie together, as bits of numbers.
use Rattle.std.specs.Prelude.{◌≡◌, ℕ, ◌+◌, ◌-◌, ◌≤◌, ◌<◌, ◌^◌, Bool, List, length, map, slice_range}
use Rattle.std.specs.Simd.Lanes.{mask_l, chunk}
use Rattle.memchr.specs.Find.{is_byte}
use Rattle.x12_bytes.specs.declared.delims.Delims.{Delims}
use Rattle.marked_segments.specs.Marks.{is_odd}
use Rattle.marked_segments.specs.declared.block.Block.{Block}

-- the stretch lies in the text, from `base` on
pub record IsStretch (text : List ℕ) (base : ℕ) (stretch : List ℕ) : Type 0 where
  pub within : base + length stretch ≤ length text
  pub sized : base + length stretch < 2 ^ 64
  pub bytes : stretch ≡ slice_range text base (base + length stretch)

-- bit k of the mask says whether the byte at `at + k` passes the test, up to `end`
pub record IsMask (test : ℕ → Bool) (text : List ℕ) (at end mask : ℕ) : Type 0 where
  pub order : at ≤ end
  pub within : end ≤ length text
  pub short : end ≤ at + 64
  pub bits : mask ≡ mask_l (map test (chunk at (end - at) text))

-- the three masks of a block are those of its bytes
pub record IsBlock (delims : Delims) (text : List ℕ) (block : Block) : Type 0 where
  pub ends : IsMask (is_byte delims.terminator) text block.at block.end block.ends
  pub seps : IsMask (is_byte delims.element) text block.at block.end block.seps
  pub odds : IsMask (is_odd delims) text block.at block.end block.odds
