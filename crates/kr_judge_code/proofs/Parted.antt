-- The `\old`s of a node of an expression are its own and those of its parts.
use Rattle.std.proofs.Common.{◌≡◌, Bool, true, false, refl, sym, ap, ◌∙◌, ℕ, ◌+◌, inl, inr, List, [], ◌∷◌, ◌++◌, append-nil, append_assoc}
use Rattle.std.specs.Prelude.{flat_map}
use Rattle.std.specs.List.{AllByRecursion}
use Rattle.std.proofs.lemmas.List.Concat.{flat_map-append}
use Rattle.kr_ast.specs.Tree as trees
use Rattle.kr_ast.specs.Tree.{Tree}
use Rattle.kr_ast.specs.declared.node.UnaryOperator.{UnaryOperator}
use Rattle.kr_ast.specs.declared.node.UnaryOperator.TheVariants.{Minus}
use Rattle.kr_types_meaning.specs.Laws.{IsClassName}
use Rattle.kr_types_meaning.specs.Noting.{parts_of}
use Rattle.kr_types_meaning.specs.Handing.{handed}
use Rattle.kr_types_meaning.specs.Running.{running}
use Rattle.kr_types_meaning.specs.Scopes.{Scope, after}
use Rattle.kr_types_meaning.specs.Typing.{operand}
use Rattle.kr_laws_types.specs.DerivedExpressions.{IsCreated, IsWritten, Shaped}
use Rattle.kr_laws_types.proofs.Loops.{running_same}
use Rattle.kr_mean.specs.Code.{Node, code}
use Rattle.kr_mean.specs.Verdicts.{OldNode, old_in}
use Rattle.kr_judge_code.specs.Olds.{IsWalked, olds_under}

-- those of parts from part j on, each in the scope that the tree hands to it
abbrev pub olds_from : Bool → Scope → Tree → ℕ → List Tree → List OldNode
olds_from q s t j [] = []
olds_from q s t j (u ∷ us) = olds_under q (running (handed s t j)) u ++ olds_from q s t (j + 1) us

-- a walk at a node
pub record IsParted (q : Bool) (s : Scope) (t : Tree) : Type 0 where
  pub walked : AllByRecursion IsWalked (parts_of t)
  pub olds : olds_under q (running s) t ≡ old_in q (running s) t ++ olds_from q s t 0 (parts_of t)

-- ---- types

written : (t : Tree) → IsWritten t → IsCreated t
written (trees.PrimitiveType p k) h = h
written (trees.NamedType p n) h = h
written (trees.QualifiedType p o n) h = h
written (trees.GenericType p i a) h = h
written (trees.ArrayType p e) h = h
written _ h = absurd h

named : (t : Tree) → IsClassName t → IsCreated t
named (trees.NamedType p n) h = tt
named (trees.QualifiedType p o n) h = tt
named _ h = absurd h

no_olds : (q : Bool) (s : Scope) (t : Tree) → IsCreated t → olds_under q s t ≡ []
no_olds q s (trees.PrimitiveType p k) h = refl
no_olds q s (trees.NamedType p n) h = refl
no_olds q s (trees.QualifiedType p o n) h = refl
no_olds q s (trees.GenericType p i a) h = refl
no_olds q s (trees.DiamondType p i) h = refl
no_olds q s (trees.ArrayType p e) h = refl
no_olds q s _ h = absurd h

-- those before and after a type are all
behind_none : (none rest : List OldNode) → none ≡ [] → rest ≡ none ++ rest
behind_none none rest e = ap (λ (xs : List OldNode). xs ++ rest) (sym e)

type_parted : (q : Bool) (s : Scope) (t : Tree) → IsCreated t → IsParted q s t
type_parted q s (trees.PrimitiveType p k) h = record { walked = tt; olds = refl }
type_parted q s (trees.NamedType p n) h = record { walked = tt; olds = refl }
type_parted q s (trees.QualifiedType p o n) h = record { walked = tt; olds = refl }
type_parted q s (trees.GenericType p i a) h = record {
  walked = (inr (inr (named i h.0)), (inr (inr (written a h.1)), tt));
  olds = sym (no_olds q (running s) a (written a h.1)) ∙ (sym (append-nil (olds_under q (running s) a)) ∙ behind_none (olds_under q (running s) i) (olds_under q (running s) a ++ []) (no_olds q (running s) i (named i h.0)));
}
type_parted q s (trees.DiamondType p i) h = record { walked = (inr (inr (named i h)), tt); olds = behind_none (olds_under q (running s) i) [] (no_olds q (running s) i (named i h)) }
type_parted q s (trees.ArrayType p e) h = record { walked = (inr (inr (written e h)), tt); olds = behind_none (olds_under q (running s) e) [] (no_olds q (running s) e (written e h)) }
type_parted q s _ h = absurd h

-- ---- expressions, and lists of them

operand_runs : (o : UnaryOperator) (s : Scope) → running s ≡ running (operand o s)
operand_runs Minus s = refl
operand_runs o s = refl

-- of one part, of two and of three
one : (xs : List OldNode) → xs ≡ xs ++ []
one xs = sym (append-nil xs)

two : (q : Bool) (s : Scope) (a : Tree) (r : Scope) (b : Tree) → flat_map (λ (n : Node). old_in q n.scope n.tree) (code s a ++ code r b) ≡ olds_under q s a ++ (olds_under q r b ++ [])
two q s a r b = flat_map-append (λ (n : Node). old_in q n.scope n.tree) (code s a) (code r b) ∙ ap (λ (xs : List OldNode). olds_under q s a ++ xs) (one (olds_under q r b))

three : (q : Bool) (s : Scope) (a b c : Tree) → flat_map (λ (n : Node). old_in q n.scope n.tree) (code s a ++ code s b ++ code s c) ≡ olds_under q s a ++ (olds_under q s b ++ (olds_under q s c ++ []))
three q s a b c =
    let f = λ (n : Node). old_in q n.scope n.tree in
    flat_map-append f (code s a ++ code s b) (code s c)
    ∙ (ap (λ (xs : List OldNode). xs ++ olds_under q s c) (flat_map-append f (code s a) (code s b))
    ∙ (append_assoc (olds_under q s a) (olds_under q s b) (olds_under q s c)
    ∙ ap (λ (xs : List OldNode). olds_under q s a ++ (olds_under q s b ++ xs)) (one (olds_under q s c))))

list_parted : (q : Bool) (s : Scope) (t : Tree) → Shaped true t → IsParted q s t
list_parted q s trees.Nil h = record { walked = tt; olds = refl }
list_parted q s (trees.Cons a b) h = record {
  walked = (inl h.0, (inr (inl h.1), tt));
  olds = two q (running s) a (after (running s) a) b ∙ ap (λ (r : Scope). olds_under q (running s) a ++ (olds_under q r b ++ [])) (running_same s a).scope;
}
list_parted q s _ h = absurd h

value_parted : (q : Bool) (s : Scope) (t : Tree) → Shaped false t → IsParted q s t
value_parted q s (trees.Number p n) h = record { walked = tt; olds = refl }
value_parted q s (trees.LongNumber p n) h = record { walked = tt; olds = refl }
value_parted q s (trees.Truth p b) h = record { walked = tt; olds = refl }
value_parted q s (trees.Null p) h = record { walked = tt; olds = refl }
value_parted q s (trees.This p) h = record { walked = tt; olds = refl }
value_parted q s (trees.Variable p n) h = record { walked = tt; olds = refl }
value_parted q s (trees.FieldAccess p e n) h = record { walked = (inl h, tt); olds = one (olds_under q (running s) e) }
value_parted q s (trees.ArrayAccess p a i) h = record { walked = (inl h.0, (inl h.1, tt)); olds = two q (running s) a (running s) i }
value_parted q s (trees.Call p n es) h = record { walked = (inr (inl h), tt); olds = one (olds_under q (running s) es) }
value_parted q s (trees.MethodCall p e n es) h = record { walked = (inl h.0, (inr (inl h.1), tt)); olds = two q (running s) e (running s) es }
value_parted q s (trees.SuperCall p n es) h = record { walked = (inr (inl h), tt); olds = one (olds_under q (running s) es) }
value_parted q s (trees.Unary p o e) h = record { walked = (inl h, tt); olds = one (olds_under q (running s) e) ∙ ap (λ (r : Scope). olds_under q r e ++ []) (operand_runs o s) }
value_parted q s (trees.Step p o e) h = record { walked = (inl h, tt); olds = one (olds_under q (running s) e) }
value_parted q s (trees.Binary p o a b) h = record { walked = (inl h.0, (inl h.1, tt)); olds = two q (running s) a (running s) b }
value_parted q s (trees.Conditional p c a b) h = record { walked = (inl h.0, (inl h.1, (inl h.2, tt))); olds = three q (running s) c a b }
value_parted q s (trees.Assignment p a b) h = record { walked = (inl h.0, (inl h.1, tt)); olds = two q (running s) a (running s) b }
value_parted q s (trees.CompoundAssignment p o a b) h = record { walked = (inl h.1, (inl h.2, tt)); olds = two q (running s) a (running s) b }
value_parted q s (trees.Result p) h = record { walked = tt; olds = refl }
value_parted q s (trees.Old p e) h = record { walked = (inl h, tt); olds = ap (λ (xs : List OldNode). old_in q (running s) (trees.Old p e) ++ xs) (one (olds_under q (running (handed s (trees.Old p e) 0)) e)) }
value_parted q s (trees.ObjectCreation p t es) h = record {
  walked = (inr (inr h.0), (inr (inl h.1), tt));
  olds = one (olds_under q (running s) es) ∙ behind_none (olds_under q (running s) t) (olds_under q (running s) es ++ []) (no_olds q (running s) t h.0);
}
value_parted q s (trees.ArrayCreation p t e) h = record {
  walked = (inr (inr (written t h.0)), (inl h.1, tt));
  olds = one (olds_under q (running s) e) ∙ behind_none (olds_under q (running s) t) (olds_under q (running s) e ++ []) (no_olds q (running s) t (written t h.0));
}
value_parted q s (trees.InstanceOf p e t) h = record {
  walked = (inl h.0, (inr (inr (written t h.1)), tt));
  olds = one (olds_under q (running s) e) ∙ ap (λ (xs : List OldNode). olds_under q (running s) e ++ (xs ++ [])) (sym (no_olds q (running s) t (written t h.1)));
}
value_parted q s (trees.Cast p t e) h = record {
  walked = (inr (inr (written t h.0)), (inl h.1, tt));
  olds = one (olds_under q (running s) e) ∙ behind_none (olds_under q (running s) t) (olds_under q (running s) e ++ []) (no_olds q (running s) t (written t h.0));
}
value_parted q s _ h = absurd h

pub parted : (q : Bool) (s : Scope) (t : Tree) → IsWalked t → IsParted q s t
parted q s t (inl h) = value_parted q s t h
parted q s t (inr (inl h)) = list_parted q s t h
parted q s t (inr (inr h)) = type_parted q s t h
