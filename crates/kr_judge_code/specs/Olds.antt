-- Between crates: the `\old`s of conditions, and their nodes of code; what contract lines add to a contract.
use Rattle.std.specs.Prelude.{◌≡◌, ◌⊎◌, ℕ, ◌+◌, Bool, List, ◌++◌, flat_map, length, map}
use Rattle.kr_ast.specs.Tree.{Tree}
use Rattle.kr_laws_types.specs.DerivedExpressions.{IsCreated}
use Rattle.kr_laws_types.specs.Derivation.{AreExpressions, IsExpression}
use Rattle.kr_types_meaning.specs.Running.{running}
use Rattle.kr_types_meaning.specs.Scopes.{Scope}
use Rattle.kr_mean.specs.Code.{code}
use Rattle.kr_mean.specs.Verdicts.{OldNode, olds_among, olds_in, signals_from}
use Rattle.kr_code.specs.Resolved.{Numbering}
use Rattle.kr_types.specs.declared.program.Program.{Program}
use Rattle.kr_code_lowering.specs.Origins.{Final, node_scope, node_tree, numbering_of}
use Rattle.kr_judge_prepared.specs.Tested.{old_shown, signals_shown}
use Rattle.kr_judge_prepared.specs.declared.contract.Contract.{Contract}
use Rattle.kr_judge_prepared.specs.declared.contract.OldCode.{OldCode}
use Rattle.kr_judge_code.specs.Lines.{ensured}

-- those of code in order, where it runs in a scope; whether the thrown object has a name there
abbrev pub olds_under : Bool → Scope → Tree → List OldNode
olds_under is_named s t = olds_among is_named (code s t)

-- those below a node of a file
abbrev pub olds_below : Bool → Program → ℕ → ℕ → List OldNode
olds_below is_named p f i = olds_under is_named (running (node_scope p f i)) (node_tree p f i)

abbrev pub shown : Program → Final → List OldCode → List OldNode
shown p final olds = map (old_shown (numbering_of p final)) olds

-- the walk goes over expressions, lists of them, and types
abbrev pub IsWalked : Tree → Type 0
IsWalked t = IsExpression t ⊎ (AreExpressions t ⊎ IsCreated t)

-- The conditions after the body on these contract lines are added, where their code runs in this scope.
pub record AreAdded (n : Numbering) (s : Scope) (lines : List Tree) (old new : Contract) : Type 0 where
  pub method : new.method ≡ old.method
  pub olds : map (old_shown n) new.olds.items ≡ map (old_shown n) old.olds.items ++ flat_map (olds_in s) lines
  pub postconditions : map n.origin new.postconditions.items ≡ map n.origin old.postconditions.items ++ ensured s lines
  pub signals : signals_shown n 1 new.signals.items ≡ signals_shown n 1 old.signals.items ++ signals_from s (length old.signals.items + 1) lines
