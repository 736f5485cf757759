-- Between crates: the parts of the parser's values.
use Rattle.std.specs.Prelude.{ℕ, Bool, true, false, if◌then◌else◌, List, [], ◌∷◌, Option, Some, None, slice_get}
use Rattle.kr_base.specs.declared.place.Place.{Place}
use Rattle.kr_base.specs.Places.{nowhere}
use Rattle.kr_lex.specs.declared.kind.Kind.{Kind}
use Rattle.kr_lex.specs.declared.kind.Kind.TheVariants.{Semicolon}
use Rattle.kr_ast.specs.declared.node.Name.{Name}
use Rattle.kr_parse_grammar.specs.declared.value.Form.{Form}
use Rattle.kr_parse_grammar.specs.declared.value.Form.TheVariants.{Other}
use Rattle.kr_parse_grammar.specs.declared.value.Modifiers.{Modifiers}
use Rattle.kr_parse_grammar.specs.Values.{no_modifiers}
use Rattle.kr_parse_reduction.specs.declared.value.Kept.{Kept}
use Rattle.kr_parse_reduction.specs.declared.value.Kept.TheVariants.{Mark, Word, Pair, Part, Member, Owner}
use Rattle.kr_parse_reduction.specs.declared.value.Sort.{Sort}
use Rattle.kr_parse_reduction.specs.declared.value.Sort.TheVariants as sort

abbrev pub no_name : Name
no_name = record { start = 0; end = 0 }

abbrev pub place_in : Option Kept → Place
place_in (Some (Mark k p)) = p
place_in (Some (Word p n)) = p
place_in (Some (Pair p o n)) = p
place_in (Some (Part p f i)) = p
place_in (Some (Owner b p n)) = p
place_in (Some (Member b m)) = nowhere
place_in None = nowhere

abbrev pub kind_in : Option Kept → Kind
kind_in (Some (Mark k p)) = k
kind_in _ = Semicolon

abbrev pub node_in : Option Kept → ℕ
node_in (Some (Part p f i)) = i
node_in _ = 0

abbrev pub form_in : Option Kept → Form
form_in (Some (Part p f i)) = f
form_in _ = Other

abbrev pub name_in : Option Kept → Name
name_in (Some (Word p n)) = n
name_in (Some (Pair p o n)) = n
name_in (Some (Owner b p n)) = n
name_in _ = no_name

abbrev pub outer_in : Option Kept → Name
outer_in (Some (Pair p o n)) = o
outer_in _ = no_name

abbrev pub modifiers_in : Option Kept → Modifiers
modifiers_in (Some (Member b m)) = m
modifiers_in _ = no_modifiers

abbrev pub nested_in : Option Kept → Bool
nested_in (Some (Member b m)) = b
nested_in (Some (Owner b p n)) = b
nested_in _ = false

abbrev pub value_in : Option Kept → Kept
value_in (Some v) = v
value_in None = Mark Semicolon nowhere

abbrev pub place_at : List Kept → ℕ → Place
place_at vs i = place_in (slice_get vs i)

abbrev pub kind_at : List Kept → ℕ → Kind
kind_at vs i = kind_in (slice_get vs i)

abbrev pub node_at : List Kept → ℕ → ℕ
node_at vs i = node_in (slice_get vs i)

abbrev pub form_at : List Kept → ℕ → Form
form_at vs i = form_in (slice_get vs i)

abbrev pub name_at : List Kept → ℕ → Name
name_at vs i = name_in (slice_get vs i)

abbrev pub outer_at : List Kept → ℕ → Name
outer_at vs i = outer_in (slice_get vs i)

abbrev pub modifiers_at : List Kept → ℕ → Modifiers
modifiers_at vs i = modifiers_in (slice_get vs i)

abbrev pub nested_at : List Kept → ℕ → Bool
nested_at vs i = nested_in (slice_get vs i)

abbrev pub value_at : List Kept → ℕ → Kept
value_at vs i = value_in (slice_get vs i)

abbrev pub is_of : Sort → Kept → Bool
is_of sort.Any v = true
is_of sort.Mark (Mark k p) = true
is_of sort.Word (Word p n) = true
is_of sort.Name (Word p n) = true
is_of sort.Name (Pair p o n) = true
is_of sort.Part (Part p f i) = true
is_of sort.Member (Member b m) = true
is_of sort.Owner (Owner b p n) = true
is_of _ _ = false

-- the values on top are of these sorts, the top one first
abbrev pub are : List Sort → List Kept → Bool
are [] vs = true
are (s ∷ ss) [] = false
are (s ∷ ss) (v ∷ vs) = if is_of s v then are ss vs else false
