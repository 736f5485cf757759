-- Between crates: the change of a scope from a node to its parts that declare no local.
use Rattle.std.specs.Prelude.{ℕ, Some}
use Rattle.kr_ast.specs.declared.node.Node.{Node}
use Rattle.kr_ast.specs.declared.node.Node.TheVariants as nodes
use Rattle.kr_ast.specs.declared.node.UnaryOperator.{UnaryOperator}
use Rattle.kr_ast.specs.declared.node.UnaryOperator.TheVariants.{Minus}
use Rattle.kr_ast.specs.Arena.{tree_in}
use Rattle.kr_types_meaning.specs.Scopes as typing
use Rattle.kr_types_meaning.specs.Scopes.{Scope}
use Rattle.kr_types_scopes.specs.declared.change.Change.{Change}
use Rattle.kr_types_scopes.specs.declared.change.Change.TheVariants as changes
use Rattle.kr_types_scopes.specs.Settings.{Setting, class_there}

abbrev pub operand_change : UnaryOperator → Change
operand_change Minus = changes.UnderMinus
operand_change o = changes.Value

-- for the first part
abbrev pub first_change : Node → Change
first_change (nodes.FieldAccess a n) = changes.Value
first_change (nodes.ArrayAccess a b) = changes.Value
first_change (nodes.Call n a) = changes.Value
first_change (nodes.MethodCall a n b) = changes.Value
first_change (nodes.SuperCall n a) = changes.Value
first_change (nodes.Unary o a) = operand_change o
first_change (nodes.Step o a) = changes.Value
first_change (nodes.Binary o a b) = changes.Value
first_change (nodes.InstanceOf a b) = changes.Value
first_change (nodes.Conditional a b c) = changes.Value
first_change (nodes.Assignment a b) = changes.Value
first_change (nodes.CompoundAssignment o a b) = changes.Value
first_change (nodes.Old a) = changes.InOld
first_change (nodes.ExpressionStatement a) = changes.Statement
first_change (nodes.Do a b) = changes.InLoop
first_change (nodes.Requires a) = changes.Requiring
first_change (nodes.Ensures a) = changes.Ensuring
first_change _ = changes.Same

-- for the others
abbrev pub rest_change : Node → Change
rest_change (nodes.FieldAccess a n) = changes.Value
rest_change (nodes.ArrayAccess a b) = changes.Value
rest_change (nodes.Call n a) = changes.Value
rest_change (nodes.SuperCall n a) = changes.Value
rest_change (nodes.Unary o a) = operand_change o
rest_change (nodes.Step o a) = changes.Value
rest_change (nodes.Old a) = changes.InOld
rest_change (nodes.ExpressionStatement a) = changes.Statement
rest_change (nodes.Requires a) = changes.Requiring
rest_change (nodes.Ensures a) = changes.Ensuring
rest_change (nodes.MethodCall a n b) = changes.Value
rest_change (nodes.ObjectCreation a b) = changes.Value
rest_change (nodes.ArrayCreation a b) = changes.Value
rest_change (nodes.Binary o a b) = changes.Value
rest_change (nodes.Conditional a b c) = changes.Value
rest_change (nodes.Cast a b) = changes.Value
rest_change (nodes.Assignment a b) = changes.Value
rest_change (nodes.CompoundAssignment o a b) = changes.Value
rest_change (nodes.Local a b) = changes.DeclaresLocals a
rest_change (nodes.While a b) = changes.InLoop
rest_change (nodes.Class n a b) = changes.InClass
rest_change (nodes.Field st fi a b) = changes.DeclaresFields st fi a
rest_change _ = changes.Same

-- the changed scope, in a part of the node at an index
abbrev pub changed : Setting → ℕ → Scope → Change → Scope
changed g at s changes.Same = s
changed g at s changes.Value = typing.value s
changed g at s changes.Statement = typing.statement s
changed g at s changes.UnderMinus = typing.under_minus s
changed g at s changes.InLoop = typing.in_loop s
changed g at s changes.InOld = typing.in_old s
changed g at s changes.Requiring = typing.in_contract typing.Requiring s
changed g at s changes.Ensuring = typing.in_contract typing.Ensuring s
changed g at s (changes.DeclaresLocals t) = typing.declaring typing.Locals (tree_in g.tree t) s
changed g at s (changes.DeclaresFields st fi t) = typing.static_if st (typing.declaring (typing.field_kind st fi) (tree_in g.tree t) s)
changed g at s changes.InClass = typing.scope_of s.table s.values (class_there g (Some at))
