-- To be believed: the machine's values for the tokens so far.
use Rattle.std.specs.Prelude.{ℕ, Bool, true, false, ◌&&◌, not, if◌then◌else◌, List, [], ◌∷◌}
use Rattle.std.specs.Str.{bytes_eq}
use Rattle.kr_base.specs.declared.place.Place.{Place}
use Rattle.kr_lex.specs.declared.kind.Kind.{Kind}
use Rattle.kr_ast.specs.Tree.{Tree}
use Rattle.kr_parse_grammar.specs.declared.value.Form.{Form}
use Rattle.kr_parse_grammar.specs.declared.value.Form.TheVariants as forms
use Rattle.kr_parse_grammar.specs.declared.value.Modifiers.{Modifiers}
use Rattle.kr_parse_grammar.specs.declared.value.Tag.{Tag}
use Rattle.kr_parse_grammar.specs.declared.value.Tag.TheVariants as tags

pub data StackItem : Type 0 where
  -- a token of whose spelling nothing is needed
  mark : Kind → Place → StackItem
  -- an identifier
  word : Place → List ℕ → StackItem
  -- two identifiers with a dot between them
  pair : Place → List ℕ → List ℕ → StackItem
  -- a tree, and the place of its first token
  part : Place → Form → Tree → StackItem
  -- the modifiers of the next member, and whether its class is nested
  member : Bool → Modifiers → StackItem
  -- the name of the class whose members come, and whether it is nested
  owner : Bool → Place → List ℕ → StackItem

abbrev pub no_modifiers : Modifiers
no_modifiers = record { is_static = false; is_final = false; overrides = false }

abbrev pub tag_of_form : Form → Tag
tag_of_form forms.Target = tags.Target
tag_of_form forms.Invocation = tags.Invocation
tag_of_form forms.ArrayCreation = tags.ArrayCreation
tag_of_form forms.Type = tags.Type
tag_of_form forms.Local = tags.Local
tag_of_form forms.Other = tags.Other

-- a name, as the head of a type or an operand
abbrev pub is_name : List StackItem → Bool
is_name (word p n ∷ vs) = true
is_name (pair p o n ∷ vs) = true
is_name _ = false

abbrev pub tag_of_member : Bool → Modifiers → Tag
tag_of_member b m = if m.overrides then tags.Overriding else if m.is_static && not b then tags.Nestable else tags.Other

abbrev pub is_plain : Modifiers → Bool
is_plain m = not m.is_static && not m.is_final && not m.overrides

-- a word, by the value below it
abbrev pub tag_of_word : List ℕ → List StackItem → Tag
tag_of_word n (member b m ∷ owner c p o ∷ vs) = if is_plain m && bytes_eq n o then tags.Constructor else tags.Word
tag_of_word n _ = tags.Word

-- the shape of the values on top
abbrev pub tag : List StackItem → Tag
tag [] = tags.Other
tag (mark k p ∷ vs) = tags.Other
tag (word p n ∷ vs) = tag_of_word n vs
tag (pair p o n ∷ vs) = tags.Pair
tag (part p forms.Type t ∷ vs) = if is_name vs then tags.InnerType else tags.Type
tag (part p f t ∷ vs) = tag_of_form f
tag (member b m ∷ vs) = tag_of_member b m
tag (owner b p n ∷ vs) = tags.Other
