-- The nodes of the code of expressions and statements.
use Rattle.std.proofs.Common.{◌≡◌, refl, sym, ap, ◌∙◌, subst, inl, inr, Bool, true, false, List, [], ◌∷◌, ◌++◌, append-nil}
use Rattle.kr_ast.specs.Tree as trees
use Rattle.kr_ast.specs.Tree.{Tree}
use Rattle.kr_ast.specs.declared.node.UnaryOperator.{UnaryOperator}
use Rattle.kr_ast.specs.declared.node.UnaryOperator.TheVariants.{Minus}
use Rattle.kr_types_meaning.specs.Scopes.{Scope, Declaring, Locals, value, statement, in_loop, in_old, declaring, bind_local, bind_as, after}
use Rattle.kr_types_meaning.specs.Typing.{operand}
use Rattle.kr_types_meaning.specs.Laws.{IsClassName}
use Rattle.kr_laws_types.specs.DerivedExpressions.{IsCreated, Shaped}
use Rattle.kr_types_meaning.specs.Running.{local_type, running}
use Rattle.kr_laws_types.proofs.Loops.{running_same}
use Rattle.kr_types_meaning.specs.Handing.{handed}
use Rattle.kr_mean.specs.Code.{Node, code}
use Rattle.kr_laws_types.specs.Derivation.{AreDeclarators, AreExpressions, AreStatements, IsCaught, IsCode, IsExpression, IsVariableType, MayBeExpression, One, Several, Catch, Catches, Sort, MayCallSuper}
use Rattle.kr_pure.specs.Seen.{IsSeen, run_of}
use Rattle.kr_pure.proofs.Gathered.{both, four, none, nothing, one, only, three, two}

-- ---- types are no code

record IsNoCode (s : Scope) (t : Tree) : Type 0 where
  seen : IsSeen s t
  empty : (r : Scope) → code r t ≡ []

created : (s : Scope) (t : Tree) → IsCreated t → IsNoCode s t
created s (trees.PrimitiveType p k) h = record { seen = nothing s _ refl refl (λ a. a); empty = λ r. refl }
created s (trees.NamedType p n) h = record { seen = nothing s _ refl refl (λ a. a); empty = λ r. refl }
created s (trees.QualifiedType p o n) h = record { seen = nothing s _ refl refl (λ a. a); empty = λ r. refl }
created s (trees.GenericType p i a) h = record { seen = nothing s _ refl refl (λ a. a); empty = λ r. refl }
created s (trees.DiamondType p i) h = record { seen = nothing s _ refl refl (λ a. a); empty = λ r. refl }
created s (trees.ArrayType p e) h = record { seen = nothing s _ refl refl (λ a. a); empty = λ r. refl }
created s _ h = absurd h

declared : (s : Scope) (t : Tree) → IsVariableType t → IsNoCode s t
declared s (trees.PrimitiveType p k) h = created s (trees.PrimitiveType p k) h
declared s (trees.NamedType p n) h = created s (trees.NamedType p n) h
declared s (trees.QualifiedType p o n) h = created s (trees.QualifiedType p o n) h
declared s (trees.GenericType p i a) h = record { seen = nothing s _ refl refl (λ a. a); empty = λ r. refl }
declared s (trees.ArrayType p e) h = record { seen = nothing s _ refl refl (λ a. a); empty = λ r. refl }
declared s _ h = absurd h

class_name : (s : Scope) (t : Tree) → IsClassName t → IsNoCode s t
class_name s (trees.NamedType p n) h = created s (trees.NamedType p n) tt
class_name s (trees.QualifiedType p o n) h = created s (trees.QualifiedType p o n) tt
class_name s _ h = absurd h

-- what a `catch` declares
caught : (s : Scope) (t : Tree) → IsCaught t → IsNoCode s t
caught s (trees.Parameter p t n) h =
    let no = class_name s t h in
    record { seen = only s (trees.Parameter p t n) t refl (sym (no.empty (running s))) (λ a. a) no.seen; empty = λ r. refl }
caught s _ h = absurd h

-- a type, then code; or the other way round
behind_type : (s : Scope) (t a b : Tree) → IsNoCode (handed s t 0) a → code (running s) t ≡ run_of (record { scope = s; tree = t }) ∷ code (running (handed s t 1)) b → code (running s) t ≡ run_of (record { scope = s; tree = t }) ∷ (code (running (handed s t 0)) a ++ code (running (handed s t 1)) b)
behind_type s t a b h e = e ∙ ap (λ (ns : List Node). run_of (record { scope = s; tree = t }) ∷ (ns ++ code (running (handed s t 1)) b)) (sym (h.empty (running (handed s t 0))))

before_type : (s : Scope) (t a b : Tree) → IsNoCode (handed s t 1) b → code (running s) t ≡ run_of (record { scope = s; tree = t }) ∷ code (running (handed s t 0)) a → code (running s) t ≡ run_of (record { scope = s; tree = t }) ∷ (code (running (handed s t 0)) a ++ code (running (handed s t 1)) b)
before_type s t a b h e =
    e ∙ ap (λ (ns : List Node). run_of (record { scope = s; tree = t }) ∷ ns) (sym (append-nil (code (running (handed s t 0)) a)))
    ∙ ap (λ (ns : List Node). run_of (record { scope = s; tree = t }) ∷ (code (running (handed s t 0)) a ++ ns)) (sym (h.empty (running (handed s t 1))))

-- ---- expressions, and lists of them

operand_runs : (o : UnaryOperator) (s : Scope) → running s ≡ running (operand o s)
operand_runs Minus s = refl
operand_runs o s = refl

shaped : (b : Bool) (s : Scope) (t : Tree) → Shaped b t → IsSeen s t
shaped true s trees.Nil h = nothing s trees.Nil refl refl (λ a. a)
shaped true s (trees.Cons a b) h = both s (trees.Cons a b) a b (shaped false s a h.0) (shaped true (after s a) b h.1) refl (ap (λ (r : Scope). code (running s) a ++ code r b) (running_same s a).scope) (λ a. a)
shaped false s (trees.Number p n) h = none s (trees.Number p n) refl refl
shaped false s (trees.LongNumber p n) h = none s (trees.LongNumber p n) refl refl
shaped false s (trees.Truth p b) h = none s (trees.Truth p b) refl refl
shaped false s (trees.Null p) h = none s (trees.Null p) refl refl
shaped false s (trees.This p) h = none s (trees.This p) refl refl
shaped false s (trees.Variable p n) h = none s (trees.Variable p n) refl refl
shaped false s (trees.FieldAccess p e n) h = one s (trees.FieldAccess p e n) e refl refl (shaped false (value s) e h)
shaped false s (trees.ArrayAccess p a i) h = two s (trees.ArrayAccess p a i) a i (shaped false (value s) a h.0) (shaped false (value s) i h.1) refl refl
shaped false s (trees.Call p n es) h = one s (trees.Call p n es) es refl refl (shaped true (value s) es h)
shaped false s (trees.MethodCall p e n es) h = two s (trees.MethodCall p e n es) e es (shaped false (value s) e h.0) (shaped true (value s) es h.1) refl refl
shaped false s (trees.SuperCall p n es) h = one s (trees.SuperCall p n es) es refl refl (shaped true (value s) es h)
shaped false s (trees.Unary p o e) h = one s (trees.Unary p o e) e refl (ap (λ (r : Scope). run_of (record { scope = s; tree = trees.Unary p o e }) ∷ code r e) (operand_runs o s)) (shaped false (operand o s) e h)
shaped false s (trees.Step p o e) h = one s (trees.Step p o e) e refl refl (shaped false (value s) e h)
shaped false s (trees.Binary p o a b) h = two s (trees.Binary p o a b) a b (shaped false (value s) a h.0) (shaped false (value s) b h.1) refl refl
shaped false s (trees.Conditional p c a b) h = three s (trees.Conditional p c a b) c a b (shaped false (value s) c h.0) (shaped false (value s) a h.1) (shaped false (value s) b h.2) refl refl
shaped false s (trees.Assignment p a b) h = two s (trees.Assignment p a b) a b (shaped false (value s) a h.0) (shaped false (value s) b h.1) refl refl
shaped false s (trees.CompoundAssignment p o a b) h = two s (trees.CompoundAssignment p o a b) a b (shaped false (value s) a h.1) (shaped false (value s) b h.2) refl refl
shaped false s (trees.Result p) h = none s (trees.Result p) refl refl
shaped false s (trees.Old p e) h = one s (trees.Old p e) e refl refl (shaped false (in_old s) e h)
shaped false s (trees.ObjectCreation p t es) h =
    let no = created s t h.0 in
    two s (trees.ObjectCreation p t es) t es no.seen (shaped true (value s) es h.1) refl (behind_type s (trees.ObjectCreation p t es) t es no refl)
shaped false s (trees.ArrayCreation p t e) h =
    let no = declared s t h.0 in
    two s (trees.ArrayCreation p t e) t e no.seen (shaped false (value s) e h.1) refl (behind_type s (trees.ArrayCreation p t e) t e no refl)
shaped false s (trees.InstanceOf p e t) h =
    let no = declared s t h.1 in
    two s (trees.InstanceOf p e t) e t (shaped false (value s) e h.0) no.seen refl (before_type s (trees.InstanceOf p e t) e t no refl)
shaped false s (trees.Cast p t e) h =
    let no = declared s t h.0 in
    two s (trees.Cast p t e) t e no.seen (shaped false (value s) e h.1) refl (behind_type s (trees.Cast p t e) t e no refl)
shaped true s _ h = absurd h
shaped false s _ h = absurd h

pub expression : (s : Scope) (t : Tree) → IsExpression t → IsSeen s t
expression s t h = shaped false s t h

pub expressions : (s : Scope) (t : Tree) → AreExpressions t → IsSeen s t
expressions s t h = shaped true s t h

absent : (s : Scope) (t : Tree) → t ≡ trees.Nil → IsSeen s t
absent s t e = subst (λ (u : Tree). IsSeen s u) (sym e) (nothing s trees.Nil refl refl (λ a. a))

pub maybe : (s : Scope) (t : Tree) → MayBeExpression t → IsSeen s t
maybe s t (inl e) = absent s t e
maybe s t (inr h) = expression s t h

-- ---- declarators of locals

binds : (s : Scope) (n : _) → s.declaring ≡ Locals → bind_local n (running s).declared (running s) ≡ running (bind_as s.declaring n s)
binds s n e = ap (λ (d : Declaring). bind_local n (local_type d s.declared) (running s)) e ∙ sym (ap (λ (d : Declaring). running (bind_as d n s)) e)

keeps : (s : Scope) (n : _) → s.declaring ≡ Locals → (bind_as s.declaring n s).declaring ≡ Locals
keeps s n e = ap (λ (d : Declaring). (bind_as d n s).declaring) e ∙ e

declarators : (s : Scope) (t : Tree) → AreDeclarators t → s.declaring ≡ Locals → IsSeen s t
declarators s trees.Nil h l = nothing s trees.Nil refl refl (λ a. a)
declarators s (trees.Cons (trees.Declarator p n e) b) h l =
    both s (trees.Cons (trees.Declarator p n e) b) (trees.Declarator p n e) b
    (one s (trees.Declarator p n e) e refl (ap (λ (r : Scope). run_of (record { scope = s; tree = trees.Declarator p n e }) ∷ code r e) (binds s n l)) (maybe (bind_as s.declaring n s) e h.0))
    (declarators (bind_as s.declaring n s) b h.1 (keeps s n l)) refl
    (ap (λ (r : Scope). code (running s) (trees.Declarator p n e) ++ code r b) (running_same s (trees.Declarator p n e)).scope) (λ a. a)
declarators s (trees.Cons _ b) h l = absurd h.0
declarators s _ h l = absurd h

-- ---- statements

shaped_code : (o : Sort) (s : Scope) (t : Tree) → IsCode o t → IsSeen s t
shaped_code Several s trees.Nil h = nothing s trees.Nil refl refl (λ a. a)
shaped_code Several s (trees.Cons a b) h =
    both s (trees.Cons a b) a b (shaped_code (One true) s a h.0) (shaped_code Several (after s a) b h.1) refl (ap (λ (r : Scope). code (running s) a ++ code r b) (running_same s a).scope) (λ a. a)
shaped_code (One d) s (trees.Local p t ds) h =
    let no = declared s t h.1 in
    two s (trees.Local p t ds) t ds no.seen (declarators (declaring Locals t s) ds h.2 refl) refl (behind_type s (trees.Local p t ds) t ds no refl)
shaped_code (One d) s (trees.Empty p) h = none s (trees.Empty p) refl refl
shaped_code (One d) s (trees.Block p ts) h = one s (trees.Block p ts) ts refl refl (shaped_code Several s ts h)
shaped_code (One d) s (trees.ExpressionStatement p e) h = one s (trees.ExpressionStatement p e) e refl refl (expression (statement s) e h)
shaped_code (One d) s (trees.Return p e) h = one s (trees.Return p e) e refl refl (maybe s e h)
shaped_code (One d) s (trees.Break p) h = none s (trees.Break p) refl refl
shaped_code (One d) s (trees.Continue p) h = none s (trees.Continue p) refl refl
shaped_code (One d) s (trees.IfThen p c a) h = two s (trees.IfThen p c a) c a (expression s c h.0) (shaped_code (One false) s a h.1) refl refl
shaped_code (One d) s (trees.IfElse p c a b) h = three s (trees.IfElse p c a b) c a b (expression s c h.0) (shaped_code (One false) s a h.1) (shaped_code (One false) s b h.2) refl refl
shaped_code (One d) s (trees.While p c a) h = two s (trees.While p c a) c a (expression s c h.0) (shaped_code (One false) (in_loop s) a h.1) refl refl
shaped_code (One d) s (trees.Do p a c) h = two s (trees.Do p a c) a c (shaped_code (One false) (in_loop s) a h.0) (expression s c h.1) refl refl
shaped_code (One d) s (trees.For p i c u a) h =
    four s (trees.For p i c u a) i c u a (shaped_code Several s i h.0) (maybe (after s i) c h.1) (expressions (statement (after s i)) u h.2) (shaped_code (One false) (in_loop (after s i)) a h.3) refl
    (ap (λ (r : Scope). run_of (record { scope = s; tree = trees.For p i c u a }) ∷ (code (running s) i ++ code r c ++ code r u ++ code r a)) (running_same s i).scope)
shaped_code (One d) s (trees.Throw p e) h = one s (trees.Throw p e) e refl refl (expression s e h)
shaped_code (One d) s (trees.Try p b cs) h = two s (trees.Try p b cs) b cs (shaped_code (One false) s b h.1) (shaped_code Catches s cs h.2) refl refl
shaped_code Catch s (trees.Catch p d b) h =
    let no = caught s d h.0 in
    two s (trees.Catch p d b) d b no.seen (shaped_code (One false) (after s d) b h.1) refl
    (behind_type s (trees.Catch p d b) d b no (ap (λ (r : Scope). run_of (record { scope = s; tree = trees.Catch p d b }) ∷ code r b) (running_same s d).scope))
shaped_code Catches s trees.Nil h = nothing s trees.Nil refl refl (λ a. a)
shaped_code Catches s (trees.Cons a b) h =
    both s (trees.Cons a b) a b (shaped_code Catch s a h.0) (shaped_code Catches (after s a) b h.1) refl (ap (λ (r : Scope). code (running s) a ++ code r b) (running_same s a).scope) (λ a. a)
shaped_code Several s _ h = absurd h
shaped_code (One d) s _ h = absurd h
shaped_code Catch s _ h = absurd h
shaped_code Catches s _ h = absurd h

pub statements : (s : Scope) (t : Tree) → AreStatements t → IsSeen s t
statements s t h = shaped_code Several s t h

-- ---- the call of the superclass's constructor

pub super_call : (s : Scope) (t : Tree) → MayCallSuper t → IsSeen s t
super_call s trees.Nil h = absent s trees.Nil refl
super_call s (trees.ConstructorCall p es) h = one s (trees.ConstructorCall p es) es refl refl (expressions s es h)
super_call s _ h = absurd h
