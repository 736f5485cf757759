-- Nodes that declare nothing for what follows, or for their own parts.
use Rattle.std.proofs.Common.{◌≡◌, ℕ, zero, suc, ◌<◌, ◌≤◌, List, refl, sym, ap, ◌∙◌, arith}
use Rattle.kr_base.specs.declared.place.Place.{Place}
use Rattle.kr_ast.specs.declared.node.Name.{Name}
use Rattle.kr_ast.specs.declared.node.Node.{Node}
use Rattle.kr_ast.specs.declared.node.Node.TheVariants as nodes
use Rattle.kr_ast.specs.Tree.{Tree, Nil, size}
use Rattle.kr_ast.specs.declared.node.UnaryOperator.{UnaryOperator}
use Rattle.kr_ast.specs.declared.node.UnaryOperator.TheVariants as operators
use Rattle.kr_ast.specs.Arena.{name_in, tree_in, tree_of}
use Rattle.kr_types_meaning.specs.Typing.{operand}
use Rattle.kr_types_meaning.specs.Scopes.{Scope, scope_of, in_class, after}
use Rattle.kr_types_meaning.specs.Handing.{second, third}
use Rattle.kr_types_meaning.specs.Handing.{handed}
use Rattle.kr_types_scopes.specs.Changes.{first_change, operand_change, rest_change, changed}
use Rattle.kr_types_scopes.specs.Settings.{Setting, class_number}
use Rattle.kr_types_scopes.specs.Tasks.{IsPlain}

pub size_some : (t : Tree) → 1 ≤ size t
size_some Nil = omega arith
size_some _ = omega arith

pub after_stays : (s : Scope) (text : List ℕ) (look : ℕ → Tree) (p : Place) (n : Node) → ((a b : ℕ) → n ≡ nodes.Cons a b → ⊥) → ((a b : ℕ) → n ≡ nodes.Local a b → ⊥)
    → ((a b c : ℕ) → n ≡ nodes.Signature a b c → ⊥) → ((x : Name) (a : ℕ) → n ≡ nodes.Declarator x a → ⊥) → ((a : ℕ) (x : Name) → n ≡ nodes.Parameter a x → ⊥)
    → after s (tree_of text look p n) ≡ s
after_stays s text look p (nodes.Cons a b) c l g d m = absurd (c a b refl)
after_stays s text look p (nodes.Local a b) c l g d m = absurd (l a b refl)
after_stays s text look p (nodes.Signature x y z) c l g d m = absurd (g x y z refl)
after_stays s text look p (nodes.Declarator n a) c l g d m = absurd (d n a refl)
after_stays s text look p (nodes.Parameter a n) c l g d m = absurd (m a n refl)
after_stays s text look p _ c l g d m = refl

pub plain_of : (n : Node) → ((a b : ℕ) → n ≡ nodes.Cons a b → ⊥) → ((x : Name) (a : ℕ) → n ≡ nodes.Declarator x a → ⊥) → ((a b c d : ℕ) → n ≡ nodes.For a b c d → ⊥)
    → ((st : _) (x : Name) (a b : ℕ) → n ≡ nodes.Method st x a b → ⊥) → ((a b c : ℕ) → n ≡ nodes.Signature a b c → ⊥) → ((a b c : ℕ) → n ≡ nodes.Constructor a b c → ⊥)
    → ((a b : ℕ) → n ≡ nodes.Catch a b → ⊥) → ((a b : ℕ) → n ≡ nodes.Signals a b → ⊥) → IsPlain n
plain_of (nodes.Cons a b) c d f m s k t u = c a b refl
plain_of (nodes.Declarator x a) c d f m s k t u = d x a refl
plain_of (nodes.For x y z w) c d f m s k t u = f x y z w refl
plain_of (nodes.Method st x a b) c d f m s k t u = m st x a b refl
plain_of (nodes.Signature x y z) c d f m s k t u = s x y z refl
plain_of (nodes.Constructor x y z) c d f m s k t u = k x y z refl
plain_of (nodes.Catch a b) c d f m s k t u = t a b refl
plain_of (nodes.Signals a b) c d f m s k t u = u a b refl
plain_of _ c d f m s k t u = tt

-- which part it is
pub second_first : (j : ℕ) (s t : Scope) → j ≡ 0 → second j s t ≡ s
second_first zero s t e = refl
second_first (suc j) s t e = absurd (omega (arith, e))

pub second_later : (j : ℕ) (s t : Scope) → (j ≡ 0 → ⊥) → second j s t ≡ t
second_later zero s t n = absurd (n refl)
second_later (suc j) s t n = refl

pub third_first : (j : ℕ) (s t : Scope) → j < 2 → third j s t ≡ s
third_first zero s t l = refl
third_first (suc zero) s t l = refl
third_first (suc (suc j)) s t l = absurd (omega (arith, l))

pub third_later : (j : ℕ) (s t : Scope) → 2 ≤ j → third j s t ≡ t
third_later zero s t l = absurd (omega (arith, l))
third_later (suc zero) s t l = absurd (omega (arith, l))
third_later (suc (suc j)) s t l = refl

second_same : (j : ℕ) (s : Scope) → second j s s ≡ s
second_same zero s = refl
second_same (suc j) s = refl

operand_is : (g : Setting) (at : ℕ) (s : Scope) (o : UnaryOperator) → changed g at s (operand_change o) ≡ operand o s
operand_is g at s operators.Plus = refl
operand_is g at s _ = refl

-- the changes are what the node hands
pub plain_handed : (g : Setting) (at : ℕ) (s : Scope) (p : Place) (n : Node) (j : ℕ) → s.table ≡ g.table → tree_in g.tree at ≡ tree_of g.tree.text (tree_in g.tree) p n → IsPlain n
    → second j (changed g at s (first_change n)) (changed g at s (rest_change n)) ≡ handed s (tree_of g.tree.text (tree_in g.tree) p n) j
plain_handed g at s p (nodes.Cons a b) j t e h = absurd h
plain_handed g at s p (nodes.Declarator n a) j t e h = absurd h
plain_handed g at s p (nodes.For a b c d) j t e h = absurd h
plain_handed g at s p (nodes.Method x n a b) j t e h = absurd h
plain_handed g at s p (nodes.Signature a b c) j t e h = absurd h
plain_handed g at s p (nodes.Constructor a b c) j t e h = absurd h
plain_handed g at s p (nodes.Catch a b) j t e h = absurd h
plain_handed g at s p (nodes.Signals a b) j t e h = absurd h
plain_handed g at s p (nodes.ObjectCreation a b) j t e h = refl
plain_handed g at s p (nodes.ArrayCreation a b) j t e h = refl
plain_handed g at s p (nodes.Cast a b) j t e h = refl
plain_handed g at s p (nodes.InstanceOf a b) j t e h = refl
plain_handed g at s p (nodes.Local a b) j t e h = refl
plain_handed g at s p (nodes.While a b) j t e h = refl
plain_handed g at s p (nodes.Do a b) j t e h = refl
plain_handed g at s p (nodes.Field x y a b) j t e h = refl
plain_handed g at s p (nodes.Class n a b) j t e h = ap (second j s) (class_is g at s p n a b t e)
  where
    class_is : (g : Setting) (at : ℕ) (s : Scope) (p : Place) (n : Name) (a b : ℕ) → s.table ≡ g.table → tree_in g.tree at ≡ tree_of g.tree.text (tree_in g.tree) p (nodes.Class n a b)
        → changed g at s (rest_change (nodes.Class n a b)) ≡ in_class (name_in g.tree.text n) s
    class_is g at s p n a b t e =
        ap (λ x. scope_of s.table s.values (class_number g.table x)) e ∙ ap (λ x. scope_of s.table s.values (class_number x (tree_of g.tree.text (tree_in g.tree) p (nodes.Class n a b)))) (sym t)
plain_handed g at s p (nodes.Unary o a) j t e h = second_same j (changed g at s (operand_change o)) ∙ operand_is g at s o
plain_handed g at s p (nodes.FieldAccess a n) j t e h = second_same j _
plain_handed g at s p (nodes.ArrayAccess a b) j t e h = second_same j _
plain_handed g at s p (nodes.Call n a) j t e h = second_same j _
plain_handed g at s p (nodes.MethodCall a n b) j t e h = second_same j _
plain_handed g at s p (nodes.SuperCall n a) j t e h = second_same j _
plain_handed g at s p (nodes.Step o a) j t e h = second_same j _
plain_handed g at s p (nodes.Binary o a b) j t e h = second_same j _
plain_handed g at s p (nodes.Conditional a b c) j t e h = second_same j _
plain_handed g at s p (nodes.Assignment a b) j t e h = second_same j _
plain_handed g at s p (nodes.CompoundAssignment o a b) j t e h = second_same j _
plain_handed g at s p (nodes.Old a) j t e h = second_same j _
plain_handed g at s p (nodes.ExpressionStatement a) j t e h = second_same j _
plain_handed g at s p (nodes.Requires a) j t e h = second_same j _
plain_handed g at s p (nodes.Ensures a) j t e h = second_same j _
plain_handed g at s p _ j t e h = second_same j s
