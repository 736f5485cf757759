-- Between crates: the first place at which the predicate's code touches candidates.
use Rattle.std.specs.Prelude.{◌≡◌, List, [], ◌∷◌, All, Contains, Option, Some, None, false}
use Rattle.kr_base.specs.declared.place.Place.{Place}
use Rattle.kr_classes_table.specs.Rules.{is_earlier}
use Rattle.kr_ast.specs.declared.files.NodeId.{NodeId}
use Rattle.kr_mean.specs.Problem as problems
use Rattle.kr_mean.specs.Purity.{IsFirstImpure, touch_place}
use Rattle.kr_code_members.specs.Nodes.{node_tree}
use Rattle.kr_space_problem.specs.declared.problem.Problem.{Problem}
use Rattle.kr_space_problem.specs.Posed.{posed}
use Rattle.kr_pure_effects.specs.Nodes.{TouchesCandidates}
use Rattle.kr_pure.specs.Entries.{node_of}
use Rattle.kr_pure.specs.declared.purity.PureRefusal.{PureRefusal}
use Rattle.kr_pure.specs.declared.purity.PureRefusal.TheVariants.{Impure, NoMemory}

-- the node touches candidates, and is at this place; or it touches none
abbrev pub IsTouchAt : Problem → NodeId → Option Place → Type 0
IsTouchAt problem n None = TouchesCandidates (posed problem) (node_of problem.program n) → ⊥
IsTouchAt problem n (Some p) = TouchesCandidates (posed problem) (node_of problem.program n) × (touch_place (node_tree problem.program n.file n.node) ≡ p ∷ [])

-- one of the nodes touches candidates at the place, and none before it
pub record IsLeastTouch (problem : Problem) (nodes : List NodeId) (place : Place) : Type 0 where
  pub node : NodeId
  pub there : Contains nodes node
  pub touches : IsTouchAt problem node (Some place)
  pub first : (n : NodeId) (p : Place) → Contains nodes n → IsTouchAt problem n (Some p) → is_earlier p place ≡ false

abbrev pub IsFirstTouch : Problem → List NodeId → Option Place → Type 0
IsFirstTouch problem nodes None = All (λ n. IsTouchAt problem n None) nodes
IsFirstTouch problem nodes (Some p) = IsLeastTouch problem nodes p

-- the place is that of the first node that isn't pure; out of memory is possible at any time
abbrev pub Refuses : problems.Problem → PureRefusal → Type 0
Refuses problem (Impure place) = IsFirstImpure problem place
Refuses problem (NoMemory why) = Unit {0}
