-- The arguments of a program (own), in clap's definitions: what the programs of a hub have in common.
use Rattle.std.specs.Prelude.{List, Option, Some, true}
use Rattle.clap.specs.Words.{App, Rule, Text, all_of, first_of, matches_of, new_app, new_rule}
use Rattle.clap.specs.declared.builder.action.ArgAction.TheVariants.{Append, Set, SetTrue}

-- a program without its arguments: they don't begin with its name, and it has a version
abbrev pub program : (name : Text) → App
program name =
    let bare = new_app name in
    record bare { top = record bare.top { has_version = true; no_binary_name = true } }

-- an argument of this name that has a value
abbrev pub valued : (name : Text) → Rule
valued name = record (new_rule name) { value_names = 1 }

-- an option of this name, given once or not at all
abbrev pub option_free : (name : Text) → Rule
option_free name = record (valued name) { long = Some name; action = Some Set }

-- an option of this name, given any number of times
abbrev pub option_repeated : (name : Text) → Rule
option_repeated name = record (valued name) { long = Some name; action = Some Append }

-- an option of this name, without a value
abbrev pub option_flag : (name : Text) → Rule
option_flag name = record (new_rule name) { long = Some name; action = Some SetTrue }

-- an argument by its place, which is wanted
abbrev pub word : (name : Text) → Rule
word name = record (valued name) { required = true; action = Some Set }

-- arguments by their place, of which one or more are wanted
abbrev pub words : (name : Text) → Rule
words name = record (valued name) { required = true; action = Some Append }

-- the value that a program's arguments give a name
abbrev pub value_in : App → List Text → (name : Text) → Option Text
value_in app given name = first_of name (matches_of app given)

-- the values that they give it, in their order
abbrev pub values_in : App → List Text → (name : Text) → Option (List Text)
values_in app given name = all_of name (matches_of app given)
