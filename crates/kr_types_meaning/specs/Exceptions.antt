-- Between crates: sources with `throw`, `try` and `signals`, and the first rule that each breaks.
use Rattle.std.specs.Prelude.{◌≡◌, ℕ, List, [], ◌∷◌, true, false, codes, Some, None}
use Rattle.kr_base.specs.Places.{nowhere}
use Rattle.kr_ast.specs.declared.node.Primitive.TheVariants.{Int}
use Rattle.kr_ast.specs.declared.node.BinaryOperator.TheVariants.{Equal}
use Rattle.kr_ast.specs.Tree as trees
use Rattle.kr_ast.specs.Tree.{Tree, Nil}
use Rattle.kr_types_meaning.specs.Texts.{at, list_of, type_rule_at}
use Rattle.kr_types_meaning.specs.Typing.{refusal}

abbrev pub throwable : Tree
throwable = trees.Class nowhere (codes "Throwable") Nil Nil

-- the classes E, which may be thrown, and A, which may not
abbrev pub e_type : Tree
e_type = trees.NamedType (at 0 1 1) (codes "E")

abbrev pub a_type : Tree
a_type = trees.NamedType (at 0 1 2) (codes "A")

abbrev pub int : Tree
int = trees.PrimitiveType (at 0 1 3) Int

abbrev pub new : Tree → Tree
new t = trees.ObjectCreation (at 0 1 4) t Nil

-- a name of a caught class, at its place
abbrev pub caught : Tree → List ℕ → Tree
caught t n = trees.Parameter (at 0 2 9) t n

abbrev pub throw : Tree → Tree
throw e = trees.Throw (at 0 3 1) e

abbrev pub block : List Tree → Tree
block ts = trees.Block (at 0 1 5) (list_of ts)

abbrev pub catch : Tree → List Tree → Tree
catch d ts = trees.Catch (at 0 4 1) d (block ts)

abbrev pub try : List Tree → List Tree → Tree
try ts cs = trees.Try (at 0 1 6) (block ts) (list_of cs)

abbrev pub signals : Tree → Tree → Tree
signals d e = trees.Signals (at 0 5 1) d e

abbrev pub x : Tree
x = trees.Variable (at 0 6 1) (codes "x")

abbrev pub e : Tree
e = trees.Variable (at 0 7 1) (codes "e")

-- a name that means nothing
abbrev pub unknown : Tree
unknown = trees.Variable (at 0 8 2) (codes "unknown")

abbrev pub number : Tree
number = trees.Number (at 0 1 7) 0

abbrev pub yes : Tree
yes = trees.Truth (at 0 1 8) true

abbrev pub is_0 : Tree → Tree
is_0 t = trees.Binary (at 0 1 9) Equal t number

-- class Throwable { } class E extends Throwable { } class A { CONTRACT int m(int x) { BODY } }
abbrev pub with_contract : List Tree → List Tree → List Tree
with_contract contract body =
    list_of (throwable ∷ trees.Class nowhere (codes "E") (trees.NamedType nowhere (codes "Throwable")) Nil
    ∷ trees.Class nowhere (codes "A") Nil (list_of (trees.Method nowhere false (codes "m")
    (trees.Signature nowhere int (list_of (trees.Parameter nowhere int (codes "x") ∷ [])) (list_of contract)) (list_of body) ∷ [])) ∷ []) ∷ []

abbrev pub with_body : List Tree → List Tree
with_body body = with_contract [] body

pub record Worked : Type 0 where
  pub t41 : refusal (with_body (throw (new a_type) ∷ [])) ≡ Some (type_rule_at 41 0 3 1)
  pub t41_number : refusal (with_body (throw x ∷ [])) ≡ Some (type_rule_at 41 0 3 1)
  pub t41_fine : refusal (with_body (throw (new e_type) ∷ throw (trees.Null nowhere) ∷ [])) ≡ None
  pub t42 : refusal (with_body (try [] (catch (caught a_type (codes "e")) [] ∷ []) ∷ [])) ≡ Some (type_rule_at 42 0 4 1)
  pub t42_unknown : refusal (with_body (try [] (catch (caught (trees.NamedType (at 0 1 1) (codes "B")) (codes "e")) [] ∷ []) ∷ [])) ≡ Some (type_rule_at 1 0 1 1)
  pub t42_fine : refusal (with_body (try (throw (new e_type) ∷ []) (catch (caught e_type (codes "e")) (throw e ∷ []) ∷ catch (caught (trees.NamedType nowhere (codes "Throwable")) (codes "e")) [] ∷ []) ∷ [])) ≡ None
  pub t4_caught : refusal (with_body (try [] (catch (caught e_type (codes "x")) [] ∷ []) ∷ [])) ≡ Some (type_rule_at 4 0 2 9)
  pub t3_ended : refusal (with_body (try [] (catch (caught e_type (codes "e")) [] ∷ []) ∷ throw e ∷ [])) ≡ Some (type_rule_at 3 0 7 1)
  pub t43 : refusal (with_contract (signals (caught a_type (codes "e")) yes ∷ []) []) ≡ Some (type_rule_at 43 0 5 1)
  pub t43_unnamed : refusal (with_contract (signals a_type yes ∷ []) []) ≡ Some (type_rule_at 43 0 5 1)
  pub t43_untyped : refusal (with_contract (signals (caught a_type (codes "e")) unknown ∷ []) []) ≡ Some (type_rule_at 3 0 8 2)
  pub t43_fine : refusal (with_contract (signals e_type yes ∷ signals (caught e_type (codes "e")) (trees.InstanceOf nowhere e e_type) ∷ []) []) ≡ None
  pub t28 : refusal (with_contract (signals (caught a_type (codes "e")) number ∷ []) []) ≡ Some (type_rule_at 28 0 5 1)
  pub t4_signals : refusal (with_contract (signals (caught e_type (codes "x")) yes ∷ []) []) ≡ Some (type_rule_at 4 0 2 9)
  pub t38_fine : refusal (with_contract (signals e_type (is_0 (trees.Old nowhere x)) ∷ []) []) ≡ None
  pub t38 : refusal (with_contract (signals e_type (is_0 (trees.Result (at 0 8 1))) ∷ []) []) ≡ Some (type_rule_at 38 0 8 1)
