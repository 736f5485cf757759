-- Between crates: types don't depend on whether code is in a loop, nor on which field's initial value it is.
use Rattle.std.specs.Prelude.{◌≡◌, Bool}
use Rattle.kr_ast.specs.Tree.{Tree}
use Rattle.kr_types_meaning.specs.Scopes.{Scope, after}
use Rattle.kr_types_meaning.specs.Running.{elsewhere, running}
use Rattle.kr_types_meaning.specs.Typing.{judged, type_of}

-- the type of a tree, the type of an expression as a value, and the scope after a tree
pub record AreSame (b : Bool) (s : Scope) (t : Tree) : Type 0 where
  pub typed : (judged (elsewhere b s) t).typed ≡ (judged s t).typed
  pub type : type_of (elsewhere b s) t ≡ type_of s t
  pub scope : after (elsewhere b s) t ≡ elsewhere b (after s t)

-- by it an expression has the type that typing finds, and a tree leaves the same scope
pub record IsSameRunning (s : Scope) (t : Tree) : Type 0 where
  pub type : type_of (running s) t ≡ type_of s t
  pub scope : after (running s) t ≡ running (after s t)

abbrev pub LoopsLaw : Type 0
LoopsLaw = (b : Bool) (s : Scope) (t : Tree) → AreSame b s t

abbrev pub RunningLaw : Type 0
RunningLaw = (s : Scope) (t : Tree) → IsSameRunning s t
