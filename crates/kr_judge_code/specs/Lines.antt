-- Between crates: the lines of a method's contract, and what they require and ensure.
use Rattle.std.specs.Prelude.{◌≡◌, ℕ, ◌<◌, List, ◌∷◌, map, flat_map}
use Rattle.kr_ast.specs.Tree.{Tree}
use Rattle.kr_classes_table.specs.Table.{items}
use Rattle.kr_types_meaning.specs.Scopes.{Ensuring, Requiring, Scope, in_contract}
use Rattle.kr_laws_types.specs.Derivation.{AreContractLines, IsContractLine}
use Rattle.kr_mean.specs.Code.{Node}
use Rattle.kr_mean.specs.Runs.{ensured_in, required_in}
use Rattle.kr_types.specs.declared.program.Program.{Program}
use Rattle.kr_code_lowering.specs.declared.site.Site.{Site}
use Rattle.kr_code_lowering.specs.Sites.{IsSite, scope_at, tree_at}

-- the preconditions of contract lines, where the code of this scope runs
abbrev pub required : Scope → List Tree → List Node
required s lines = map (λ e. record { scope = in_contract Requiring s; tree = e }) (flat_map required_in lines)

-- their postconditions
abbrev pub ensured : Scope → List Tree → List Node
ensured s lines = map (λ e. record { scope = in_contract Ensuring s; tree = e }) (flat_map ensured_in lines)

-- a node in the scope of the list
pub record IsWithin (p : Program) (list : Site) (node : ℕ) : Type 0 where
  pub site : IsSite p (record list { node = node })
  pub scope : scope_at p (record list { node = node }) ≡ scope_at p list

-- a list of contract lines is this line and the rest
pub record IsLine (p : Program) (list : Site) (first next : ℕ) : Type 0 where
  pub before : next < list.node
  pub line : IsWithin p list first
  pub rest : IsWithin p list next
  pub lines : items (tree_at p list) ≡ tree_at p (record list { node = first }) ∷ items (tree_at p (record list { node = next }))
  pub one : IsContractLine (tree_at p (record list { node = first }))
  pub shape : AreContractLines (tree_at p (record list { node = next }))
