-- Between crates: nodes that only hold lists together, and those that are nodes of their own.
use Rattle.std.specs.Prelude.{ℕ, Bool, true, false, List, [], ◌∷◌, if◌then◌else◌}
use Rattle.kr_ast.specs.declared.node.Node.{Node}
use Rattle.kr_ast.specs.declared.node.Node.TheVariants.{Nil, Cons}

abbrev pub is_link : Node → Bool
is_link Nil = true
is_link (Cons a b) = true
is_link n = false

-- the number of a node, where it is one of its own
abbrev pub own : Node → ℕ → List ℕ
own n i = if is_link n then [] else i ∷ []
