-- Between crates: bodies of methods and constructors, by the nodes that declare them.
use Rattle.std.specs.Prelude.{◌≡◌, ℕ, List, [], ◌∷◌, length, map, take, drop, Option}
use Rattle.kr_ast.specs.Tree as trees
use Rattle.kr_ast.specs.Tree.{Tree}
use Rattle.kr_classes_table.specs.Types.{JavaType, VoidType}
use Rattle.kr_classes_table.specs.Table.{Constructor, Heading, Method, constructors_in, items, methods_in, type_named}
use Rattle.kr_classes_table.specs.Constants.{values_of}
use Rattle.kr_types_meaning.specs.Scopes.{scope_of}
use Rattle.kr_classes_names.specs.ListedTypes.{IsGrown}
use Rattle.kr_classes_names.specs.Types.{type_at}
use Rattle.kr_types.specs.declared.program.Program.{Program}
use Rattle.kr_code.specs.declared.code.Code.{Code}
use Rattle.kr_code.specs.declared.code.MethodCode.{MethodCode}
use Rattle.kr_code.specs.declared.code.Constructor as made
use Rattle.kr_code.specs.declared.expression.Nodes.{Nodes}
use Rattle.kr_code.specs.Resolved.{AreArguments, IsConstructor, IsMethodCode}
use Rattle.kr_types_meaning.specs.Running.{running}
use Rattle.kr_code_members.specs.Walk.{AreParameters}
use Rattle.kr_code_lowering.specs.declared.site.Site.{Site}
use Rattle.kr_code_members.specs.Nodes.{run_program, table}
use Rattle.kr_code_lowering.specs.Origins.{Final, numbering_of}
use Rattle.kr_code_lowering.specs.Sites.{Becomes, scope_at, tree_at}

-- a method with a signature, of which the parameters are such a list
abbrev pub HasParameters : Tree → Type 0
HasParameters (trees.Method p st n (trees.Signature q r ps cs) b) = AreParameters ps
HasParameters t = ⊥

-- the type that a parameter names
abbrev pub parameter_type : List Heading → Tree → JavaType
parameter_type hs (trees.Parameter p t n) = type_named hs t
parameter_type hs t = VoidType

-- the links at these nodes are the types of the parameters, also when there are more
pub record AreTyped (p : Program) (ps : Tree) (links : List ℕ) (ns : Nodes) : Type 0 where
  pub count : ns.count ≡ length (items ps)
  pub types : (more : List ℕ) → IsGrown links more → map (type_at p.table.types) (take ns.count (drop ns.first more)) ≡ map (parameter_type (table p).headings) (items ps)

-- the node is among the members of the class
abbrev pub IsMember : Program → Site → ℕ → Type 0
IsMember p s c = scope_at p s ≡ scope_of (table p) (values_of (table p)) c

-- it is the code of the method that the node declares in a class, in whatever code this becomes
abbrev pub Declares : Program → List ℕ → Site → List (List ℕ) → List ℕ → MethodCode → Type 0
Declares p arrays s known linked made =
    (final : Final) (code : Code) → Becomes p known linked final code → (c : ℕ) (m : Method) → IsMember p s c → HasParameters (tree_at p s) → methods_in (table p).headings c (tree_at p s) ≡ m ∷ []
    → IsMethodCode (run_program p arrays) code (numbering_of p final) m made

-- a constructor, of which the parameters are such a list
abbrev pub TakesParameters : Tree → Type 0
TakesParameters (trees.Constructor p ps call b) = AreParameters ps
TakesParameters t = ⊥

-- likewise of a constructor
abbrev pub Constructs : Program → List ℕ → Site → List (List ℕ) → List ℕ → made.Constructor → Type 0
Constructs p arrays s known linked x =
    (final : Final) (code : Code) → Becomes p known linked final code → (c : ℕ) (k : Constructor) → IsMember p s c → TakesParameters (tree_at p s) → constructors_in (table p).headings (tree_at p s) ≡ k ∷ []
    → IsConstructor (run_program p arrays) code (numbering_of p final) c k x

-- the arguments of the call of the superclass's constructor that the node is, if it is one
abbrev pub Calls : Program → Site → List ℕ → Option Nodes → Type 0
Calls p s linked o = (known : List (List ℕ)) (final : Final) (code : Code) → Becomes p known linked final code → AreArguments code (numbering_of p final) (running (scope_at p s)) (tree_at p s) o
