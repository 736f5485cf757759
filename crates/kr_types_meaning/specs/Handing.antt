-- Between crates: the scope that a node hands to each of its parts, as the typing rules say.
use Rattle.std.specs.Prelude.{ℕ, zero, suc}
use Rattle.kr_ast.specs.Tree as trees
use Rattle.kr_ast.specs.Tree.{Tree}
use Rattle.kr_types_meaning.specs.Scopes.{Scope, Requiring, Ensuring, Signalling, Locals, after, value, statement, in_loop, in_contract, in_old, in_class, static_if, declaring, field_kind, bind_as}
use Rattle.kr_types_meaning.specs.Typing.{operand}

-- the first part of two, or the second
abbrev pub second : ℕ → Scope → Scope → Scope
second zero s t = s
second (suc j) s t = t

-- the first two parts of three, or the third
abbrev pub third : ℕ → Scope → Scope → Scope
third zero s t = s
third (suc zero) s t = s
third (suc (suc j)) s t = t

-- a part of a `for`, in the scope after its initial statements
abbrev pub for_part : ℕ → Scope → Scope
for_part zero s = s
for_part (suc zero) s = s
for_part (suc (suc zero)) s = statement s
for_part (suc (suc (suc j))) s = in_loop s

-- a part of a `signals`, in the scope after what it declares
abbrev pub signals_part : ℕ → Scope → Scope
signals_part zero s = s
signals_part (suc j) s = in_contract Signalling s

-- the scope of part j
abbrev pub handed : Scope → Tree → ℕ → Scope
handed s (trees.Cons a b) j = second j s (after s a)
handed s (trees.FieldAccess p e n) j = value s
handed s (trees.ArrayAccess p a i) j = value s
handed s (trees.Call p n es) j = value s
handed s (trees.MethodCall p e n es) j = value s
handed s (trees.SuperCall p n es) j = value s
handed s (trees.ObjectCreation p t es) j = second j s (value s)
handed s (trees.ArrayCreation p t e) j = second j s (value s)
handed s (trees.Unary p o e) j = operand o s
handed s (trees.Step p o e) j = value s
handed s (trees.Binary p o a b) j = value s
handed s (trees.InstanceOf p e t) j = second j (value s) s
handed s (trees.Conditional p c a b) j = value s
handed s (trees.Cast p t e) j = second j s (value s)
handed s (trees.Assignment p a b) j = value s
handed s (trees.CompoundAssignment p o a b) j = value s
handed s (trees.Old p e) j = in_old s
handed s (trees.Local p t ds) j = second j s (declaring Locals t s)
handed s (trees.Declarator p n e) j = bind_as s.declaring n s
handed s (trees.ExpressionStatement p e) j = statement s
handed s (trees.While p c a) j = second j s (in_loop s)
handed s (trees.Do p a c) j = second j (in_loop s) s
handed s (trees.For p i c u a) j = for_part j (second j s (after s i))
handed s (trees.Catch p d b) j = second j s (after s d)
handed s (trees.Class p n e ms) j = second j s (in_class n s)
handed s (trees.Field p st fi t ds) j = second j s (static_if st (declaring (field_kind st fi) t s))
handed s (trees.Method p st n g b) j = second j (static_if st s) (after (static_if st s) g)
handed s (trees.Signature p r ps cs) j = third j s (after s (trees.Signature p r ps cs))
handed s (trees.Constructor p ps call b) j = second j s (after s ps)
handed s (trees.Requires p e) j = in_contract Requiring s
handed s (trees.Ensures p e) j = in_contract Ensuring s
handed s (trees.Signals p d e) j = signals_part j (second j s (after s d))
handed s _ j = s
