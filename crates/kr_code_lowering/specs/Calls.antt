-- Between crates: methods and what is called, by numbers.
use Rattle.std.specs.Prelude.{◌≡◌, ℕ, true, false, List, Option, Some, None, slice_get, if◌then◌else◌}
use Rattle.kr_classes_table.specs.Types.{JavaType, ClassType, SetType, ListType}
use Rattle.kr_classes_table.specs.Table.{Method}
use Rattle.kr_types.specs.declared.program.Program.{Program}
use Rattle.kr_code.specs.declared.expression.Callee.{Callee}
use Rattle.kr_code.specs.declared.expression.Callee.TheVariants as callees
use Rattle.kr_code.specs.declared.expression.Expression.{Expression}
use Rattle.kr_code.specs.declared.expression.Expression.TheVariants as expressions
use Rattle.kr_code.specs.declared.expression.Nodes.{Nodes}
use Rattle.kr_code.specs.Collections.{call_named}
use Rattle.kr_code.specs.Resolved.{is_uncreatable}
use Rattle.kr_classes_members.specs.Rosters.{all_methods, method_numbered}
use Rattle.kr_code_members.specs.Nodes.{table}

-- the number of a method, if there is one
abbrev pub IsFound : Program → Option ℕ → Option Method → Type 0
IsFound p None m = m ≡ None
IsFound p (Some k) m = (n : Method) × (m ≡ Some n) × (slice_get (all_methods (table p)) k ≡ Some n)

-- the target of a call without object, if it means a method
abbrev pub IsOwnCallee : Program → Option Method → Callee → Type 0
IsOwnCallee p m callees.Unknown = m ≡ None
IsOwnCallee p m (callees.Static k) = (n : Method) × (m ≡ Some n) × (n.is_static ≡ true) × (slice_get (all_methods (table p)) k ≡ Some n)
IsOwnCallee p m (callees.Own k) = (n : Method) × (m ≡ Some n) × (n.is_static ≡ false) × (slice_get (all_methods (table p)) k ≡ Some n)
IsOwnCallee p m c = ⊥

-- likewise after a class's name
abbrev pub IsStaticCallee : Program → Option Method → Callee → Type 0
IsStaticCallee p m callees.Unknown = m ≡ None
IsStaticCallee p m (callees.Static k) = (n : Method) × (m ≡ Some n) × (slice_get (all_methods (table p)) k ≡ Some n)
IsStaticCallee p m c = ⊥

-- a call on an object of a method by its number, or of a collection's
abbrev pub IsCalledOn : Program → ℕ → List ℕ → Nodes → Option ℕ → Expression → Type 0
IsCalledOn p o x ns None e = e ≡ expressions.CallCollection o (call_named x) ns
IsCalledOn p o x ns (Some k) e = e ≡ (if (method_numbered (table p) k).is_static then expressions.StaticCallOn o k ns else expressions.CallOn o k ns)

-- the creator of an object of a type
abbrev pub IsCreator : JavaType → Callee → Type 0
IsCreator t callees.Unknown = is_uncreatable t ≡ true
IsCreator t (callees.New c) = t ≡ ClassType c
IsCreator t callees.NewSet = (u : JavaType) × (t ≡ SetType u)
IsCreator t callees.NewList = (u : JavaType) × (t ≡ ListType u)
IsCreator t c = ⊥
