-- Files of the system by their paths (own): what was asked for, and what was written.
use Rattle.std.specs.Prelude.{◌≡◌, ℕ, Bool, true, false, List, Result, Ok, Err}
use Rattle.std.specs.Fs.{asks_append, asks_create, asks_create_new, asks_truncate, asks_write}
use Rattle.std.specs.declared.fs.options.OpenOptions.{OpenOptions}
use Rattle.std.specs.declared.io.Error.{Error}
use Rattle.system_io.specs.Outbox.{File}
use Rattle.system_io.specs.declared.looking.Presence.{Presence}
use Rattle.system_io.specs.declared.looking.Presence.TheVariants.{Nothing, Something, Unknown}

-- the file at a path was asked for: it, or why it wasn't opened
pub record Opening (F : Type 0) : Type 0 where
  pub path : List ℕ
  pub answer : Result F Error

-- a file was made at a path, as it was asked for
pub record Creation (F : Type 0) : Type 0 where
  pub path : List ℕ
  pub file : F
  pub how : OpenOptions

-- a file is asked for, to be written, where nothing is: one that is there is never opened
pub record AsksForNew (how : OpenOptions) : Type 0 where
  pub write : asks_write how ≡ true
  pub create_new : asks_create_new how ≡ true

-- a file is asked for, to be written from its first byte on: made where nothing is, emptied where one is
pub record AsksForEmptied (how : OpenOptions) : Type 0 where
  pub write : asks_write how ≡ true
  pub create : asks_create how ≡ true
  pub truncate : asks_truncate how ≡ true
  pub append : asks_append how ≡ false

-- the system was asked whether something is at a path: its answer
pub record Look : Type 0 where
  pub path : List ℕ
  pub answer : Result Bool Error

-- what is there, by that answer
abbrev pub IsPresence : Look → Presence → Type 0
IsPresence look (Nothing absent) = (look.answer ≡ Ok false) × (absent ≡ look.path)
IsPresence look Something = look.answer ≡ Ok true
IsPresence look (Unknown error) = look.answer ≡ Err error

-- a file was written: the path at which it is, its name and its bytes
pub record WrittenFile : Type 0 where
  pub path : List ℕ
  pub file : File
