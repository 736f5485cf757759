-- Between crates: the meaning of the numbers of a program's code. Expressions, statements and declarators have nodes of code: those
-- of the files, one file after another, and then those that are in no file. Other nodes of the files have the last numbers of
-- 32 bits, where no code is. The fields and methods are those of the classes, one class after another; the types have typing's
-- numbers.
use Rattle.std.specs.Prelude.{ℕ, zero, suc, ◌+◌, ◌-◌, Bool, true, false, List, [], ◌∷◌, ◌++◌, length, nat_lt, if◌then◌else◌, slice_index_or}
use Rattle.std.proofs.Common.{get_or}
use Rattle.kr_ast.specs.Arena.{Arena}
use Rattle.kr_ast.specs.Tree as trees
use Rattle.kr_types_meaning.specs.Running.{running}
use Rattle.kr_classes_names.specs.Types.{type_at}
use Rattle.kr_code_members.specs.Nodes.{table, members_scope}
use Rattle.kr_types.specs.declared.program.Program.{Program}
use Rattle.kr_types.specs.Programs.{all_entries}
use Rattle.kr_mean.specs.Code.{Node}
pub use Rattle.kr_code_members.specs.Nodes.{node_scope, node_tree, scope_in}
use Rattle.kr_code.specs.Resolved.{Numbering}
use Rattle.kr_classes_members.specs.Rosters.{field_numbered, method_numbered, no_name}

-- ---- nodes of files

-- a node of a file, with the scope that it runs in
abbrev pub node_origin : Program → ℕ → ℕ → Node
node_origin p f i = record { scope = running (node_scope p f i); tree = node_tree p f i }

abbrev pub nothing : Program → Node
nothing p = record { scope = running (members_scope p 0); tree = trees.Nil }

-- the place of a file's first node among those of all files
unfoldable pub first_node : List Arena → ℕ → ℕ
first_node files zero = 0
first_node [] (suc f) = 0
first_node (a ∷ files) (suc f) = length a.entries + first_node files f

-- the node at place k of these files, of which the first has the number f
unfoldable pub origin_from : Program → ℕ → List Arena → ℕ → Node
origin_from p f [] k = nothing p
origin_from p f (a ∷ files) k = if nat_lt k (length a.entries) then node_origin p f k else origin_from p (suc f) files (k - length a.entries)

abbrev pub file_origin : Program → ℕ → Node
file_origin p k = origin_from p 0 p.trees.items k

-- so many nodes of the files from place k on
unfoldable pub origins_from : Program → ℕ → ℕ → List Node
origins_from p k zero = []
origins_from p k (suc n) = file_origin p k ∷ origins_from p (suc k) n

abbrev pub file_count : Program → ℕ
file_count p = length (all_entries p.trees.items)

-- ---- nodes of code

-- it is an expression, a statement, a declarator or a `catch`
abbrev pub has_code : trees.Tree → Bool
has_code trees.Nil = false
has_code (trees.Cons a b) = false
has_code (trees.PrimitiveType p k) = false
has_code (trees.NamedType p n) = false
has_code (trees.QualifiedType p o n) = false
has_code (trees.GenericType p h a) = false
has_code (trees.DiamondType p h) = false
has_code (trees.ArrayType p t) = false
has_code (trees.ConstructorCall p es) = false
has_code (trees.Class p n s ms) = false
has_code (trees.Field p st fn t ds) = false
has_code (trees.Method p st n s b) = false
has_code (trees.Signature p r ps cs) = false
has_code (trees.Parameter p t n) = false
has_code (trees.Constructor p ps call b) = false
has_code (trees.Requires p e) = false
has_code (trees.Ensures p e) = false
has_code (trees.Signals p d e) = false
has_code t = true

-- which of so many nodes from place k on have code
unfoldable pub marks_from : Program → ℕ → ℕ → List Bool
marks_from p k zero = []
marks_from p k (suc n) = has_code (file_origin p k).tree ∷ marks_from p (suc k) n

unfoldable pub counted : List Bool → ℕ
counted [] = 0
counted (true ∷ bs) = suc (counted bs)
counted (false ∷ bs) = counted bs

-- those of the nodes that are marked
unfoldable pub marked : List Bool → List Node → List Node
marked [] ns = []
marked (b ∷ bs) [] = []
marked (true ∷ bs) (n ∷ ns) = n ∷ marked bs ns
marked (false ∷ bs) (n ∷ ns) = marked bs ns

-- the numbers of nodes: of those that are marked from c on, of the others from o on
unfoldable pub numbers_from : ℕ → ℕ → List Bool → List ℕ
numbers_from c o [] = []
numbers_from c o (true ∷ bs) = c ∷ numbers_from (suc c) (suc o) bs
numbers_from c o (false ∷ bs) = o ∷ numbers_from c (suc o) bs

abbrev pub marks : Program → List Bool
marks p = marks_from p 0 (file_count p)

-- how many nodes of the files have code
abbrev pub coded_count : Program → ℕ
coded_count p = counted (marks p)

-- the first number of a node without code: the numbers from there on are enough for all, where 32 bits are enough
abbrev pub others_from : Program → ℕ
others_from p = coded_count p + (4294967295 - (coded_count p + file_count p))

-- the number of the node at place k of the files
unfoldable pub number_of : Program → ℕ → ℕ
number_of p k = get_or (numbers_from 0 (others_from p) (marks p)) k 0

-- a node without code is itself
abbrev pub uncoded : Program → Node → Node
uncoded p n = if has_code n.tree then nothing p else n

-- the node of a number, with these nodes after those of the files
unfoldable pub origin_of : Program → List Node → ℕ → Node
origin_of p behind k = if nat_lt k (others_from p) then get_or (marked (marks p) (origins_from p 0 (file_count p)) ++ behind) k (nothing p) else uncoded p (file_origin p (k - others_from p))

-- ---- the whole

-- The names of fields, and the nodes after those of the files, which the code of a program has in the end beside what its files
-- give.
pub record Final : Type 0 where
  pub names : List (List ℕ)
  pub nodes : List Node

abbrev pub numbering_of : Program → Final → Numbering
numbering_of p final = record {
  name = λ k. slice_index_or final.names k (no_name (table p));
  field = field_numbered (table p);
  method = method_numbered (table p);
  type = type_at p.table.types;
  origin = origin_of p final.nodes;
}
