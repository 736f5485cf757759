-- Between crates: the replacement of the values on top: the tree of one node above theirs, or some of these values
-- again.
use Rattle.std.specs.Prelude.{ℕ, Bool, true, false, List, [], ◌∷◌, Option, Some, None, slice_get}
use Rattle.kr_base.specs.declared.place.Place.{Place}
use Rattle.kr_base.specs.Places.{nowhere}
use Rattle.kr_lex.specs.declared.kind.Kind.{Kind}
use Rattle.kr_lex.specs.declared.kind.Kind.TheVariants as kinds
use Rattle.kr_ast.specs.declared.node.Node.{Node}
use Rattle.kr_ast.specs.declared.node.Node.TheVariants as nodes
use Rattle.kr_ast.specs.declared.node.BinaryOperator.TheVariants as binaries
use Rattle.kr_parse_grammar.specs.declared.value.Form.{Form}
use Rattle.kr_parse_grammar.specs.declared.value.Form.TheVariants as forms
use Rattle.kr_parse_grammar.specs.declared.value.Modifiers.{Modifiers}
use Rattle.kr_parse_grammar.specs.declared.goal.Make.{Make}
use Rattle.kr_parse_grammar.specs.declared.goal.Make.TheVariants as makes
use Rattle.kr_parse_grammar.specs.Values.{no_modifiers}
use Rattle.kr_parse_grammar.specs.Made.{the_primitive, the_unary, the_step_before, the_step_behind, the_binary, the_compound}
use Rattle.kr_parse_reduction.specs.declared.value.Kept.{Kept}
use Rattle.kr_parse_reduction.specs.declared.value.Kept.TheVariants.{Word, Pair, Part, Member, Owner}
use Rattle.kr_parse_reduction.specs.declared.value.Sort.{Sort}
use Rattle.kr_parse_reduction.specs.declared.value.Sort.TheVariants as sort
use Rattle.kr_parse_reduction.specs.declared.plan.Plan.{Plan}
use Rattle.kr_parse_reduction.specs.declared.moves.Move.{Move}
use Rattle.kr_parse_reduction.specs.declared.way.Way.{Way}
use Rattle.kr_parse_reduction.specs.declared.way.Way.TheVariants as ways
use Rattle.kr_parse_reduction.specs.Kept.{place_at, kind_at, node_at, name_at, outer_at, modifiers_at, nested_at, value_at, name_in}

-- the values that something is made of, the top one first
abbrev pub sorts : Make → List Sort
sorts makes.Nil = []
sorts makes.CompareAll = []
sorts makes.CompareBelow = sort.Any ∷ []
sorts makes.TypeOfMark = sort.Mark ∷ []
sorts makes.Empty = sort.Mark ∷ []
sorts makes.Jump = sort.Mark ∷ []
sorts makes.TypeOfName = sort.Name ∷ []
sorts makes.Diamond = sort.Name ∷ []
sorts makes.Variable = sort.Name ∷ []
sorts makes.Array = sort.Part ∷ []
sorts makes.ExpressionStatement = sort.Part ∷ []
sorts makes.SetStatic = sort.Member ∷ []
sorts makes.SetFinal = sort.Member ∷ []
sorts makes.SetOverrides = sort.Member ∷ []
sorts makes.MemberAhead = sort.Owner ∷ []
sorts makes.Swap = sort.Any ∷ sort.Any ∷ []
sorts makes.Pair = sort.Word ∷ sort.Word ∷ []
sorts makes.EndMembers = sort.Member ∷ sort.Owner ∷ []
sorts makes.Generic = sort.Part ∷ sort.Name ∷ []
sorts makes.CallOfName = sort.Part ∷ sort.Name ∷ []
sorts makes.Cons = sort.Part ∷ sort.Part ∷ []
sorts makes.ArrayAccess = sort.Part ∷ sort.Part ∷ []
sorts makes.Less = sort.Part ∷ sort.Part ∷ []
sorts makes.Greater = sort.Part ∷ sort.Part ∷ []
sorts makes.InstanceOf = sort.Part ∷ sort.Part ∷ []
sorts makes.Local = sort.Part ∷ sort.Part ∷ []
sorts makes.Enclosed = sort.Part ∷ sort.Mark ∷ []
sorts makes.StepBefore = sort.Part ∷ sort.Mark ∷ []
sorts makes.Unary = sort.Part ∷ sort.Mark ∷ []
sorts makes.Old = sort.Part ∷ sort.Mark ∷ []
sorts makes.Requires = sort.Part ∷ sort.Mark ∷ []
sorts makes.Ensures = sort.Part ∷ sort.Mark ∷ []
sorts makes.Block = sort.Part ∷ sort.Mark ∷ []
sorts makes.Return = sort.Part ∷ sort.Mark ∷ []
sorts makes.ConstructorCall = sort.Part ∷ sort.Mark ∷ []
sorts makes.Throw = sort.Part ∷ sort.Mark ∷ []
sorts makes.Declarator = sort.Part ∷ sort.Word ∷ []
sorts makes.Owner = sort.Part ∷ sort.Word ∷ []
sorts makes.NestedOwner = sort.Part ∷ sort.Word ∷ []
sorts makes.Nested = sort.Part ∷ sort.Member ∷ []
sorts makes.StepBehind = sort.Mark ∷ sort.Part ∷ []
sorts makes.FieldAccess = sort.Word ∷ sort.Part ∷ []
sorts makes.Parameter = sort.Word ∷ sort.Part ∷ []
sorts makes.SuperCall = sort.Part ∷ sort.Word ∷ sort.Mark ∷ []
sorts makes.ObjectCreation = sort.Part ∷ sort.Part ∷ sort.Mark ∷ []
sorts makes.ArrayCreation = sort.Part ∷ sort.Part ∷ sort.Mark ∷ []
sorts makes.Cast = sort.Part ∷ sort.Part ∷ sort.Mark ∷ []
sorts makes.IfThen = sort.Part ∷ sort.Part ∷ sort.Mark ∷ []
sorts makes.While = sort.Part ∷ sort.Part ∷ sort.Mark ∷ []
sorts makes.Do = sort.Part ∷ sort.Part ∷ sort.Mark ∷ []
sorts makes.Try = sort.Part ∷ sort.Part ∷ sort.Mark ∷ []
sorts makes.Catch = sort.Part ∷ sort.Part ∷ sort.Mark ∷ []
sorts makes.Signals = sort.Part ∷ sort.Part ∷ sort.Mark ∷ []
sorts makes.MethodCall = sort.Part ∷ sort.Word ∷ sort.Part ∷ []
sorts makes.Binary = sort.Part ∷ sort.Mark ∷ sort.Part ∷ []
sorts makes.Assign = sort.Part ∷ sort.Mark ∷ sort.Part ∷ []
sorts makes.Conditional = sort.Part ∷ sort.Part ∷ sort.Part ∷ []
sorts makes.Field = sort.Part ∷ sort.Part ∷ sort.Member ∷ []
sorts makes.ConsBelow = sort.Owner ∷ sort.Part ∷ sort.Part ∷ []
sorts makes.Class = sort.Owner ∷ sort.Part ∷ sort.Part ∷ []
sorts makes.IfElse = sort.Part ∷ sort.Part ∷ sort.Part ∷ sort.Mark ∷ []
sorts makes.For = sort.Part ∷ sort.Part ∷ sort.Part ∷ sort.Part ∷ sort.Mark ∷ []
sorts makes.Method = sort.Part ∷ sort.Part ∷ sort.Word ∷ sort.Part ∷ sort.Member ∷ []
sorts makes.ContractedMethod = sort.Part ∷ sort.Part ∷ sort.Word ∷ sort.Part ∷ sort.Member ∷ sort.Part ∷ []
sorts makes.Constructor = sort.Part ∷ sort.Part ∷ sort.Part ∷ sort.Word ∷ sort.Member ∷ []

-- how something is made of them
abbrev pub way : Make → Way
way makes.Variable = ways.Name
way makes.CallOfName = ways.Name
way makes.Generic = ways.Name
way makes.Diamond = ways.Name
way makes.ConsBelow = ways.Under
way makes.EndMembers = ways.Under
way makes.Pair = ways.Values
way makes.Swap = ways.Swap
way makes.Enclosed = ways.Values
way makes.MemberAhead = ways.Values
way makes.SetStatic = ways.Values
way makes.SetFinal = ways.Values
way makes.SetOverrides = ways.Values
way makes.Owner = ways.Values
way makes.NestedOwner = ways.Values
way makes.Nested = ways.Values
way makes.Method = ways.Method
way makes.ContractedMethod = ways.ContractedMethod
way makes.CompareBelow = ways.Compare
way makes.CompareAll = ways.Compare
way _ = ways.Node

abbrev pub tree : ℕ → Place → Form → Node → Plan
tree n p f node = record { taken = n; place = p; form = f; node = node }

abbrev pub plain : ℕ → Place → Node → Plan
plain n p node = tree n p forms.Other node

-- a name as a type
abbrev pub type_node : Option Kept → Node
type_node (Some (Pair p o n)) = nodes.QualifiedType o n
type_node v = nodes.NamedType (name_in v)

abbrev pub jump_node : Kind → Node
jump_node kinds.Break = nodes.Break
jump_node _ = nodes.Continue

abbrev pub assignment : Kind → ℕ → ℕ → Node
assignment kinds.Equal t u = nodes.Assignment t u
assignment k t u = nodes.CompoundAssignment (the_compound k) t u

-- the plan of what isn't made so: the empty list, above no values
abbrev pub nothing : Plan
nothing = plain 0 nowhere nodes.Nil

-- The node above the values, and the values that it takes: a row for each kind, in groups.
abbrev pub types : Make → List Kept → Plan
types makes.TypeOfMark vs = tree 1 (place_at vs 0) forms.Type (nodes.PrimitiveType (the_primitive (kind_at vs 0)))
types makes.TypeOfName vs = tree 1 (place_at vs 0) forms.Type (type_node (slice_get vs 0))
types makes.Array vs = tree 1 (place_at vs 0) forms.Type (nodes.ArrayType (node_at vs 0))
types _ vs = nothing

abbrev pub selections : Make → List Kept → Plan
selections makes.FieldAccess vs = tree 2 (place_at vs 1) forms.Target (nodes.FieldAccess (node_at vs 1) (name_at vs 0))
selections makes.MethodCall vs = tree 3 (place_at vs 2) forms.Invocation (nodes.MethodCall (node_at vs 2) (name_at vs 1) (node_at vs 0))
selections makes.ArrayAccess vs = tree 2 (place_at vs 1) forms.Target (nodes.ArrayAccess (node_at vs 1) (node_at vs 0))
selections _ vs = nothing

abbrev pub creations : Make → List Kept → Plan
creations makes.ObjectCreation vs = tree 3 (place_at vs 2) forms.Invocation (nodes.ObjectCreation (node_at vs 1) (node_at vs 0))
creations makes.ArrayCreation vs = tree 3 (place_at vs 2) forms.ArrayCreation (nodes.ArrayCreation (node_at vs 1) (node_at vs 0))
creations makes.SuperCall vs = tree 3 (place_at vs 2) forms.Invocation (nodes.SuperCall (name_at vs 1) (node_at vs 0))
creations _ vs = nothing

abbrev pub prefixes : Make → List Kept → Plan
prefixes makes.StepBehind vs = plain 2 (place_at vs 1) (nodes.Step (the_step_behind (kind_at vs 0)) (node_at vs 1))
prefixes makes.StepBefore vs = plain 2 (place_at vs 1) (nodes.Step (the_step_before (kind_at vs 1)) (node_at vs 0))
prefixes makes.Unary vs = plain 2 (place_at vs 1) (nodes.Unary (the_unary (kind_at vs 1)) (node_at vs 0))
prefixes makes.Cast vs = plain 3 (place_at vs 2) (nodes.Cast (node_at vs 1) (node_at vs 0))
prefixes _ vs = nothing

abbrev pub infixes : Make → List Kept → Plan
infixes makes.Binary vs = plain 3 (place_at vs 2) (nodes.Binary (the_binary (kind_at vs 1)) (node_at vs 2) (node_at vs 0))
infixes makes.Conditional vs = plain 3 (place_at vs 2) (nodes.Conditional (node_at vs 2) (node_at vs 1) (node_at vs 0))
infixes makes.Assign vs = plain 3 (place_at vs 2) (assignment (kind_at vs 1) (node_at vs 2) (node_at vs 0))
infixes _ vs = nothing

abbrev pub comparisons : Make → List Kept → Plan
comparisons makes.Less vs = plain 2 (place_at vs 1) (nodes.Binary binaries.Less (node_at vs 1) (node_at vs 0))
comparisons makes.Greater vs = plain 2 (place_at vs 1) (nodes.Binary binaries.Greater (node_at vs 1) (node_at vs 0))
comparisons makes.InstanceOf vs = plain 2 (place_at vs 1) (nodes.InstanceOf (node_at vs 1) (node_at vs 0))
comparisons _ vs = nothing

abbrev pub locals : Make → List Kept → Plan
locals makes.Declarator vs = plain 2 (place_at vs 1) (nodes.Declarator (name_at vs 1) (node_at vs 0))
locals makes.Local vs = tree 2 (place_at vs 1) forms.Local (nodes.Local (node_at vs 1) (node_at vs 0))
locals makes.ExpressionStatement vs = plain 1 (place_at vs 0) (nodes.ExpressionStatement (node_at vs 0))
locals _ vs = nothing

abbrev pub statements : Make → List Kept → Plan
statements makes.Block vs = plain 2 (place_at vs 1) (nodes.Block (node_at vs 0))
statements makes.Return vs = plain 2 (place_at vs 1) (nodes.Return (node_at vs 0))
statements makes.Throw vs = plain 2 (place_at vs 1) (nodes.Throw (node_at vs 0))
statements makes.ConstructorCall vs = plain 2 (place_at vs 1) (nodes.ConstructorCall (node_at vs 0))
statements makes.Empty vs = plain 1 (place_at vs 0) nodes.Empty
statements makes.Jump vs = plain 1 (place_at vs 0) (jump_node (kind_at vs 0))
statements _ vs = nothing

abbrev pub catches : Make → List Kept → Plan
catches makes.Try vs = plain 3 (place_at vs 2) (nodes.Try (node_at vs 1) (node_at vs 0))
catches makes.Catch vs = plain 3 (place_at vs 2) (nodes.Catch (node_at vs 1) (node_at vs 0))
catches _ vs = nothing

abbrev pub branches : Make → List Kept → Plan
branches makes.IfThen vs = plain 3 (place_at vs 2) (nodes.IfThen (node_at vs 1) (node_at vs 0))
branches makes.IfElse vs = plain 4 (place_at vs 3) (nodes.IfElse (node_at vs 2) (node_at vs 1) (node_at vs 0))
branches _ vs = nothing

abbrev pub loops : Make → List Kept → Plan
loops makes.While vs = plain 3 (place_at vs 2) (nodes.While (node_at vs 1) (node_at vs 0))
loops makes.Do vs = plain 3 (place_at vs 2) (nodes.Do (node_at vs 1) (node_at vs 0))
loops makes.For vs = plain 5 (place_at vs 4) (nodes.For (node_at vs 3) (node_at vs 2) (node_at vs 1) (node_at vs 0))
loops _ vs = nothing

abbrev pub declarations : Make → List Kept → Plan
declarations makes.Parameter vs = plain 2 (place_at vs 0) (nodes.Parameter (node_at vs 1) (name_at vs 0))
declarations makes.Field vs = plain 3 (place_at vs 1) (nodes.Field (modifiers_at vs 2).is_static (modifiers_at vs 2).is_final (node_at vs 1) (node_at vs 0))
declarations makes.Constructor vs = plain 5 (place_at vs 3) (nodes.Constructor (node_at vs 2) (node_at vs 1) (node_at vs 0))
declarations makes.Class vs = plain 3 (place_at vs 0) (nodes.Class (name_at vs 0) (node_at vs 2) (node_at vs 1))
declarations _ vs = nothing

abbrev pub contracts : Make → List Kept → Plan
contracts makes.Old vs = plain 2 (place_at vs 1) (nodes.Old (node_at vs 0))
contracts makes.Requires vs = plain 2 (place_at vs 1) (nodes.Requires (node_at vs 0))
contracts makes.Ensures vs = plain 2 (place_at vs 1) (nodes.Ensures (node_at vs 0))
contracts makes.Signals vs = plain 3 (place_at vs 2) (nodes.Signals (node_at vs 1) (node_at vs 0))
contracts _ vs = nothing

abbrev pub lists : Make → List Kept → Plan
lists makes.Cons vs = plain 2 (place_at vs 1) (nodes.Cons (node_at vs 1) (node_at vs 0))
lists makes.Nil vs = nothing
lists _ vs = nothing

abbrev pub plan : Make → List Kept → Plan
plan makes.TypeOfMark vs = types makes.TypeOfMark vs
plan makes.TypeOfName vs = types makes.TypeOfName vs
plan makes.Array vs = types makes.Array vs
plan makes.FieldAccess vs = selections makes.FieldAccess vs
plan makes.MethodCall vs = selections makes.MethodCall vs
plan makes.ArrayAccess vs = selections makes.ArrayAccess vs
plan makes.ObjectCreation vs = creations makes.ObjectCreation vs
plan makes.ArrayCreation vs = creations makes.ArrayCreation vs
plan makes.SuperCall vs = creations makes.SuperCall vs
plan makes.StepBehind vs = prefixes makes.StepBehind vs
plan makes.StepBefore vs = prefixes makes.StepBefore vs
plan makes.Unary vs = prefixes makes.Unary vs
plan makes.Cast vs = prefixes makes.Cast vs
plan makes.Binary vs = infixes makes.Binary vs
plan makes.Conditional vs = infixes makes.Conditional vs
plan makes.Assign vs = infixes makes.Assign vs
plan makes.Less vs = comparisons makes.Less vs
plan makes.Greater vs = comparisons makes.Greater vs
plan makes.InstanceOf vs = comparisons makes.InstanceOf vs
plan makes.Declarator vs = locals makes.Declarator vs
plan makes.Local vs = locals makes.Local vs
plan makes.ExpressionStatement vs = locals makes.ExpressionStatement vs
plan makes.Block vs = statements makes.Block vs
plan makes.Return vs = statements makes.Return vs
plan makes.Throw vs = statements makes.Throw vs
plan makes.ConstructorCall vs = statements makes.ConstructorCall vs
plan makes.Empty vs = statements makes.Empty vs
plan makes.Jump vs = statements makes.Jump vs
plan makes.Try vs = catches makes.Try vs
plan makes.Catch vs = catches makes.Catch vs
plan makes.IfThen vs = branches makes.IfThen vs
plan makes.IfElse vs = branches makes.IfElse vs
plan makes.While vs = loops makes.While vs
plan makes.Do vs = loops makes.Do vs
plan makes.For vs = loops makes.For vs
plan makes.Parameter vs = declarations makes.Parameter vs
plan makes.Field vs = declarations makes.Field vs
plan makes.Constructor vs = declarations makes.Constructor vs
plan makes.Class vs = declarations makes.Class vs
plan makes.Old vs = contracts makes.Old vs
plan makes.Requires vs = contracts makes.Requires vs
plan makes.Ensures vs = contracts makes.Ensures vs
plan makes.Signals vs = contracts makes.Signals vs
plan makes.Cons vs = lists makes.Cons vs
plan makes.Nil vs = lists makes.Nil vs
plan _ vs = nothing

-- the node of a name that is a word
abbrev pub variable : Option Kept → Option Plan
variable (Some (Word p n)) = Some (tree 1 p forms.Target (nodes.Variable n))
variable _ = None

abbrev pub call : Option Kept → ℕ → Option Plan
call (Some (Word p n)) i = Some (tree 2 p forms.Invocation (nodes.Call n i))
call _ i = None

abbrev pub single : Make → List Kept → Option Plan
single makes.Variable vs = variable (slice_get vs 0)
single makes.CallOfName vs = call (slice_get vs 1) (node_at vs 0)
single _ vs = None

-- the lower one of a name's two nodes
abbrev pub lower : Make → List Kept → Plan
lower makes.Generic vs = tree 0 (place_at vs 1) forms.Type (type_node (slice_get vs 1))
lower makes.Diamond vs = tree 0 (place_at vs 0) forms.Type (type_node (slice_get vs 0))
lower makes.CallOfName vs = plain 0 (place_at vs 1) (nodes.Variable (outer_at vs 1))
lower makes.Variable vs = plain 0 (place_at vs 0) (nodes.Variable (outer_at vs 0))
lower _ vs = nothing

-- the upper one of a name's two nodes
abbrev pub upper : Make → List Kept → Plan
upper makes.Generic vs = tree 3 (place_at vs 2) forms.Type (nodes.GenericType (node_at vs 0) (node_at vs 1))
upper makes.Diamond vs = tree 2 (place_at vs 1) forms.Type (nodes.DiamondType (node_at vs 0))
upper makes.CallOfName vs = tree 3 (place_at vs 2) forms.Invocation (nodes.MethodCall (node_at vs 0) (name_at vs 2) (node_at vs 1))
upper makes.Variable vs = tree 2 (place_at vs 1) forms.Target (nodes.FieldAccess (node_at vs 0) (name_at vs 1))
upper _ vs = nothing

-- the list below a value that stays on top
abbrev pub below : Make → List Kept → Plan
below makes.ConsBelow vs = plain 3 (place_at vs 2) (nodes.Cons (node_at vs 2) (node_at vs 1))
below makes.EndMembers vs = plain 2 nowhere nodes.Nil
below _ vs = nothing

-- the depth of the value that stays
abbrev pub staying : Make → ℕ
staying makes.ConsBelow = 0
staying makes.EndMembers = 1
staying _ = 0

abbrev pub one : ℕ → Kept → Move
one n v = record { taken = n; top = v; below = None }

abbrev pub over : Kept → List Kept → Move
over v vs = record { taken = 2; top = v; below = slice_get vs 0 }

abbrev pub member : ℕ → List Kept → Modifiers → Move
member n vs m = one n (Member (nested_at vs 0) m)

abbrev pub modified : Make → List Kept → Move
modified makes.SetStatic vs = member 1 vs (record (modifiers_at vs 0) { is_static = true })
modified makes.SetFinal vs = member 1 vs (record (modifiers_at vs 0) { is_final = true })
modified makes.SetOverrides vs = member 1 vs (record (modifiers_at vs 0) { overrides = true })
modified _ vs = member 0 vs no_modifiers

abbrev pub owner : Bool → List Kept → Move
owner b vs = over (Owner b (place_at vs 1) (name_at vs 1)) vs

-- values again
abbrev pub move : Make → List Kept → Move
move makes.Pair vs = one 2 (Pair (place_at vs 1) (name_at vs 1) (name_at vs 0))
move makes.Enclosed vs = one 2 (Part (place_at vs 1) forms.Other (node_at vs 0))
move makes.Owner vs = owner false vs
move makes.NestedOwner vs = owner true vs
move makes.Nested vs = one 2 (value_at vs 0)
move m vs = modified m vs
