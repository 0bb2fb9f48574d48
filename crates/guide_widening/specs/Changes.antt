-- Own: how two values of a guide differ.
use Rattle.std.specs.Prelude.{ℕ, ◌==◌, nat_le, List, [], ◌∷◌, ◌++◌, Bool, true, false, Option, Some, None, if◌then◌else◌}
use Rattle.std.specs.Str.{bytes_eq}
use Rattle.guide_tree.specs.declared.element.Requirement.{Requirement}
use Rattle.guide_tree.specs.declared.element.Requirement.TheVariants.{Mandatory, Optional}
use Rattle.guide_tree.specs.declared.element.ElementType.{ElementType}
use Rattle.guide_tree.specs.declared.element.ElementType.TheVariants as type
use Rattle.hub_kinds.specs.Words.{contains_text}
use Rattle.guide_widening.specs.Nodes.{is_same_text}
use Rattle.guide_widening.specs.Rows.{is_wider_type}
use Rattle.guide_widening.specs.declared.difference.At.{At}
use Rattle.guide_widening.specs.declared.difference.Change.{Change}
use Rattle.guide_widening.specs.declared.difference.Change.TheVariants.{Narrower, Wider, Other}
use Rattle.guide_widening.specs.declared.difference.Difference.{Difference}
use Rattle.guide_widening.specs.declared.difference.Key.{Key}
use Rattle.guide_widening.specs.declared.difference.Value.{Value}
use Rattle.guide_widening.specs.declared.difference.Value.TheVariants as value

-- the new guide takes no less
abbrev pub is_widening : Difference → Bool
is_widening d = is_wider_change d.change where
  is_wider_change : Change → Bool
  is_wider_change Narrower = false
  is_wider_change Wider = true
  is_wider_change Other = false

-- a difference, where there is a change
abbrev pub said : At → Key → Option Change → (old new : Value) → List Difference
said at key None old new = []
said at key (Some change) old new = record { at = at; key = key; change = change; old = old; new = new } ∷ []

abbrev pub unless : Bool → Change → Option Change
unless true change = None
unless false change = Some change

-- a least value that falls is wider, a greatest one that rises
abbrev pub least_change : (old new : ℕ) → Option Change
least_change old new = if old == new then None else Some (if nat_le new old then Wider else Narrower)

abbrev pub most_change : (old new : ℕ) → Option Change
most_change old new = if old == new then None else Some (if nat_le old new then Wider else Narrower)

-- what is asked for and wasn't is narrower
abbrev pub asked_change : (old new : Bool) → Option Change
asked_change false false = None
asked_change false true = Some Narrower
asked_change true false = Some Wider
asked_change true true = None

abbrev pub requirement_change : (old new : Requirement) → Option Change
requirement_change Mandatory Mandatory = None
requirement_change Mandatory Optional = Some Wider
requirement_change Optional Mandatory = Some Narrower
requirement_change Optional Optional = None

abbrev pub type_change : (old new : ElementType) → Option Change
type_change type.Text type.Identifier = Some Wider
type_change type.Identifier type.Text = Some Wider
type_change old new = unless (is_wider_type old new) Other

abbrev pub text_change : (old new : List ℕ) → Option Change
text_change old new = unless (bytes_eq old new) Other

abbrev pub label_change : (old new : Option (List ℕ)) → Option Change
label_change old new = unless (is_same_text old new) Other

-- a convention that is asked for, or another one, is narrower
abbrev pub convention_change : (old new : Option (List ℕ)) → Option Change
convention_change None None = None
convention_change None (Some new) = Some Narrower
convention_change (Some old) None = Some Wider
convention_change (Some old) (Some new) = unless (bytes_eq old new) Narrower

abbrev pub text_value : Option (List ℕ) → Value
text_value None = value.Nothing
text_value (Some text) = value.Text text

-- items that fail a test, each with what the old and the new guide say of it
abbrev pub items_differences : {X : Type 0} → (X → Bool) → At → Key → Change → (old new : X → Value) → List X → List Difference
items_differences test at key change old new [] = []
items_differences test at key change old new (x ∷ xs) =
    said at key (unless (test x) change) (old x) (new x) ++ items_differences test at key change old new xs

-- texts that were there and aren't, by the others
abbrev pub gone_texts : At → Key → (other texts : List (List ℕ)) → List Difference
gone_texts at key other [] = []
gone_texts at key other (text ∷ texts) =
    said at key (unless (contains_text other text) Narrower) (value.Text text) value.Nothing ++ gone_texts at key other texts

abbrev pub new_texts : At → Key → (other texts : List (List ℕ)) → List Difference
new_texts at key other [] = []
new_texts at key other (text ∷ texts) =
    said at key (unless (contains_text other text) Wider) value.Nothing (value.Text text) ++ new_texts at key other texts
