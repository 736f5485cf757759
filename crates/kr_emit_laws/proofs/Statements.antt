-- Statements without broken nodes are judged alike in the larger table, and leave the same scopes.
use Rattle.std.proofs.Common.{◌≡◌, refl, sym, ap, ◌∙◌, subst, inl, inr, ℕ, Bool, true, false, List, [], ◌++◌}
use Rattle.kr_base.specs.declared.place.Place.{Place}
use Rattle.kr_base.proofs.ListLemmas.{append_is_nil}
use Rattle.kr_ast.specs.Tree as trees
use Rattle.kr_ast.specs.Tree.{Tree}
use Rattle.kr_classes_table.specs.Types.{JavaType}
use Rattle.kr_classes_table.specs.Table.{Table, type_named}
use Rattle.kr_types_meaning.specs.Scopes.{Scope, Declaring, Locals, Fields, Constants, statement, in_loop, declaring, bind_local, bind_as, after}
use Rattle.kr_types_meaning.specs.Rules.{condition_rule, parameter_rule, declaration_rule, return_rule, throw_rule, caught_rule}
use Rattle.kr_types_meaning.specs.Laws.{IsClassName}
use Rattle.kr_types_meaning.specs.Typing.{Judged, judge, on_one, plain, both, judged}
use Rattle.kr_laws_types.specs.Derivation.{MayBeExpression, IsVariableType, IsDeclarator, AreDeclarators, Sort, One, Several, Catch, Catches, IsCode}
use Rattle.kr_laws_types.proofs.Typed.{below_none}
use Rattle.kr_emit_laws.specs.Larger.{IsLarger}
use Rattle.kr_emit_laws.proofs.TypingNames.{IsFree}
use Rattle.kr_emit_laws.proofs.Rules.{at, return_keeps, declaration_keeps, parameter_keeps, throw_keeps, caught_keeps}
use Rattle.kr_emit_laws.proofs.Parts.{judge_keeps, one_keeps, maybe_keeps, test_keeps, append_alike}
use Rattle.kr_emit_laws.proofs.TypingExpressions.{written_same, written_alike, alike}

-- a class's name is a type of variables
pub class_variable : (k : Tree) → IsClassName k → IsVariableType k
class_variable (trees.NamedType p n) h = tt
class_variable (trees.QualifiedType p o n) h = tt
class_variable _ h = absurd h

module _ (t u : Table) (w : List ℕ) (free : IsFree w) (g : IsLarger t u w) where
  -- the scope after a node: one in the one table, and the same in the other
  pub record Leaves (s : Scope) (e : Tree) : Type 0 where
    pub to : Scope
    pub old : after (at t s) e ≡ at t to
    pub new : after (at u s) e ≡ at u to

  stays : (s : Scope) (e : Tree) → after (at t s) e ≡ at t s → after (at u s) e ≡ at u s → Leaves s e
  stays s e p q = record { to = s; old = p; new = q }

  pub follows : (s : Scope) (a b : Tree) → (first : Leaves s a) → Leaves first.to b → Leaves s (trees.Cons a b)
  follows s a b first next = record { to = next.to; old = ap (λ (z : Scope). after z b) first.old ∙ next.old; new = ap (λ (z : Scope). after z b) first.new ∙ next.new }

  -- the second of two nodes, in the scope that the first leaves
  pub alike_after : (s : Scope) (a b : Tree) → (first : Leaves s a) → ((judged (at t first.to) b).faults ≡ [] → judged (at u first.to) b ≡ judged (at t first.to) b) → (judged (after (at t s) a) b).faults ≡ [] → judged (after (at u s) a) b ≡ judged (after (at t s) a) b
  alike_after s a b first h f = ap (λ (z : Scope). judged z b) first.new ∙ (h (subst (λ (z : Scope). (judged z b).faults ≡ []) first.old f) ∙ ap (λ (z : Scope). judged z b) (sym first.old))

  pub pair : (s : Scope) (a b : Tree) → (first : Leaves s a) → ((judged (at t s) a).faults ≡ [] → judged (at u s) a ≡ judged (at t s) a) → ((judged (at t first.to) b).faults ≡ [] → judged (at u first.to) b ≡ judged (at t first.to) b)
      → (both (judged (at t s) a) (judged (after (at t s) a) b)).faults ≡ [] → both (judged (at u s) a) (judged (after (at u s) a) b) ≡ both (judged (at t s) a) (judged (after (at t s) a) b)
  pair s a b first h k f =
      let parts = append_is_nil (judged (at t s) a).faults (judged (after (at t s) a) b).faults f in
      ap (λ (z : Judged). both z (judged (after (at u s) a) b)) (h parts.0) ∙ ap (both (judged (at t s) a)) (alike_after s a b first k parts.1)

  -- ---- expressions

  pub maybe_alike : (s : Scope) (e : Tree) → MayBeExpression e → (judged (at t s) e).faults ≡ [] → judged (at u s) e ≡ judged (at t s) e
  unfolding judged
  maybe_alike s e (inl q) f = ap (judged (at u s)) q ∙ ap (judged (at t s)) (sym q)
  maybe_alike s e (inr h) f = alike t u w free g false s e h f

  -- ---- declarators

  bound : (v : Table) (what : Declaring) (n : List ℕ) (s : Scope) → bind_as what n (at v s) ≡ at v (bind_as what n s)
  bound v Locals n s = refl
  bound v Fields n s = refl
  bound v (Constants b) n s = refl

  declarator_leaves : (s : Scope) (d : Tree) → IsDeclarator d → Leaves s d
  declarator_leaves s (trees.Declarator p n e) h = record { to = bind_as s.declaring n s; old = bound t s.declaring n s; new = bound u s.declaring n s }
  declarator_leaves s _ h = absurd h

  declarators_leave : (s : Scope) (ds : Tree) → AreDeclarators ds → Leaves s ds
  declarators_leave s trees.Nil h = stays s trees.Nil refl refl
  declarators_leave s (trees.Cons a b) h = let first = declarator_leaves s a h.0 in follows s a b first (declarators_leave first.to b h.1)
  declarators_leave s _ h = absurd h

  declarator_alike : (s : Scope) (d : Tree) → IsDeclarator d → (judged (at t s) d).faults ≡ [] → judged (at u s) d ≡ judged (at t s) d
  unfolding judged
  declarator_alike s (trees.Declarator p n e) h f =
      let to = bind_as s.declaring n s in
      maybe_keeps p (declaration_rule (at t s) s.declaring p n) (declaration_rule (at u s) s.declaring p n) (judged (bind_as s.declaring n (at t s)) e) (judged (bind_as s.declaring n (at u s)) e)
      (λ b. ap (λ (z : Scope). judged z e) (bound u s.declaring n s) ∙ (maybe_alike to e h (subst (λ (z : Scope). (judged z e).faults ≡ []) (bound t s.declaring n s) b) ∙ ap (λ (z : Scope). judged z e) (sym (bound t s.declaring n s))))
      (declaration_keeps t u w free g s s.declaring p n) f
  declarator_alike s _ h f = absurd h

  pub declarators_alike : (s : Scope) (ds : Tree) → AreDeclarators ds → (judged (at t s) ds).faults ≡ [] → judged (at u s) ds ≡ judged (at t s) ds
  unfolding judged
  declarators_alike s trees.Nil h f = refl
  declarators_alike s (trees.Cons a b) h f = let first = declarator_leaves s a h.0 in pair s a b first (declarator_alike s a h.0) (declarators_alike first.to b h.1) f
  declarators_alike s _ h f = absurd h

  -- a type, and what is declared of it
  pub declared_alike : (s : Scope) (what : Declaring) (k ds : Tree) → IsVariableType k → AreDeclarators ds → (judged (at t s) k).faults ++ (judged (declaring what k (at t s)) ds).faults ≡ []
      → plain ((judged (at u s) k).faults ++ (judged (declaring what k (at u s)) ds).faults) ≡ plain ((judged (at t s) k).faults ++ (judged (declaring what k (at t s)) ds).faults)
  declared_alike s what k ds h m f =
      let parts = append_is_nil (judged (at t s) k).faults (judged (declaring what k (at t s)) ds).faults f in
      let to : Scope = record s { declaring = what; declared = type_named t.headings k } in
      ap (λ (z : Judged). plain (z.faults ++ (judged (declaring what k (at u s)) ds).faults)) (written_alike t u w free g s k h parts.0)
      ∙ ap (λ (z : Judged). plain ((judged (at t s) k).faults ++ z.faults))
      (ap (λ (z : JavaType). judged (at u (record s { declaring = what; declared = z })) ds) (written_same t u w free g s k h parts.0) ∙ declarators_alike to ds m parts.1)

  -- ---- parameters

  pub parameter_written : (s : Scope) (p : Place) (k : Tree) (n : List ℕ) → (judged (at t s) (trees.Parameter p k n)).faults ≡ [] → (judged (at t s) k).faults ≡ []
  unfolding judged
  parameter_written s p k n f = below_none p (parameter_rule (at t s) n) (judged (at t s) k).faults f

  pub parameter_leaves : (s : Scope) (p : Place) (k : Tree) (n : List ℕ) → IsVariableType k → (judged (at t s) (trees.Parameter p k n)).faults ≡ [] → Leaves s (trees.Parameter p k n)
  unfolding judged
  parameter_leaves s p k n h f = record {
    to = bind_local n (type_named t.headings k) s;
    old = refl;
    new = ap (λ (z : JavaType). at u (bind_local n z s)) (written_same t u w free g s k h (parameter_written s p k n f));
  }

  pub parameter_alike : (s : Scope) (p : Place) (k : Tree) (n : List ℕ) → IsVariableType k → (judged (at t s) (trees.Parameter p k n)).faults ≡ [] → judged (at u s) (trees.Parameter p k n) ≡ judged (at t s) (trees.Parameter p k n)
  unfolding judged
  parameter_alike s p k n h f =
      ap (λ (z : Judged). judge p (parameter_rule (at u s) n) z.faults) (written_alike t u w free g s k h (parameter_written s p k n f))
      ∙ judge_keeps p (parameter_rule (at t s) n) (parameter_rule (at u s) n) (judged (at t s) k).faults (parameter_keeps t u w free g s n) f

  -- ---- statements

  statement_leaves : (s : Scope) (d : Bool) (e : Tree) → IsCode (One d) e → (judged (at t s) e).faults ≡ [] → Leaves s e
  unfolding judged
  statement_leaves s d (trees.Local p k ds) h f =
      let parts = append_is_nil (judged (at t s) k).faults (judged (declaring Locals k (at t s)) ds).faults f in
      let from : Scope = record s { declaring = Locals; declared = type_named t.headings k } in
      let inner = declarators_leave from ds h.2 in
      record { to = inner.to; old = inner.old; new = ap (λ (z : JavaType). after (at u (record s { declaring = Locals; declared = z })) ds) (written_same t u w free g s k h.1 parts.0) ∙ inner.new }
  statement_leaves s d (trees.Empty p) h f = stays s (trees.Empty p) refl refl
  statement_leaves s d (trees.Block p b) h f = stays s (trees.Block p b) refl refl
  statement_leaves s d (trees.ExpressionStatement p e) h f = stays s (trees.ExpressionStatement p e) refl refl
  statement_leaves s d (trees.Return p e) h f = stays s (trees.Return p e) refl refl
  statement_leaves s d (trees.Break p) h f = stays s (trees.Break p) refl refl
  statement_leaves s d (trees.Continue p) h f = stays s (trees.Continue p) refl refl
  statement_leaves s d (trees.IfThen p c a) h f = stays s (trees.IfThen p c a) refl refl
  statement_leaves s d (trees.IfElse p c a b) h f = stays s (trees.IfElse p c a b) refl refl
  statement_leaves s d (trees.While p c a) h f = stays s (trees.While p c a) refl refl
  statement_leaves s d (trees.Do p a c) h f = stays s (trees.Do p a c) refl refl
  statement_leaves s d (trees.For p i c v a) h f = stays s (trees.For p i c v a) refl refl
  statement_leaves s d (trees.Throw p e) h f = stays s (trees.Throw p e) refl refl
  statement_leaves s d (trees.Try p b cs) h f = stays s (trees.Try p b cs) refl refl
  statement_leaves s d _ h f = absurd h

  pub code_leaves : (s : Scope) (b : Tree) → IsCode Several b → (judged (at t s) b).faults ≡ [] → Leaves s b
  unfolding judged
  code_leaves s trees.Nil h f = stays s trees.Nil refl refl
  code_leaves s (trees.Cons a b) h f =
      let parts = append_is_nil (judged (at t s) a).faults (judged (after (at t s) a) b).faults f in
      let first = statement_leaves s true a h.0 parts.0 in
      follows s a b first (code_leaves first.to b h.1 (subst (λ (z : Scope). (judged z b).faults ≡ []) first.old parts.1))
  code_leaves s _ h f = absurd h

  faults_of : (s v : Scope) (e : Tree) → ((judged s e).faults ≡ [] → judged v e ≡ judged s e) → (judged s e).faults ≡ [] → (judged v e).faults ≡ (judged s e).faults
  faults_of s v e h f = ap (λ (z : Judged). z.faults) (h f)

  pub code_alike : (sort : Sort) (s : Scope) (e : Tree) → IsCode sort e → (judged (at t s) e).faults ≡ [] → judged (at u s) e ≡ judged (at t s) e
  unfolding judged
  code_alike Several s trees.Nil h f = refl
  code_alike Several s (trees.Cons a b) h f =
      let parts = append_is_nil (judged (at t s) a).faults (judged (after (at t s) a) b).faults f in
      let first = statement_leaves s true a h.0 parts.0 in
      pair s a b first (code_alike (One true) s a h.0) (code_alike Several first.to b h.1) f
  code_alike Several s _ h f = absurd h
  code_alike (One d) s (trees.Local p k ds) h f = declared_alike s Locals k ds h.1 h.2 f
  code_alike (One d) s (trees.Empty p) h f = refl
  code_alike (One d) s (trees.Block p b) h f = ap (λ (z : Judged). plain z.faults) (code_alike Several s b h f)
  code_alike (One d) s (trees.ExpressionStatement p e) h f = ap (λ (z : Judged). plain z.faults) (alike t u w free g false (statement s) e h f)
  code_alike (One d) s (trees.Return p e) h f = maybe_keeps p (return_rule (at t s)) (return_rule (at u s)) (judged (at t s) e) (judged (at u s) e) (maybe_alike s e h) (return_keeps t u w free g s) f
  code_alike (One d) s (trees.Break p) h f = refl
  code_alike (One d) s (trees.Continue p) h f = refl
  code_alike (One d) s (trees.IfThen p c a) h f = test_keeps p (judged (at t s) c) (judged (at u s) c) (judged (at t s) a).faults (judged (at u s) a).faults (alike t u w free g false s c h.0) (faults_of (at t s) (at u s) a (code_alike (One false) s a h.1)) f
  code_alike (One d) s (trees.IfElse p c a b) h f =
      test_keeps p (judged (at t s) c) (judged (at u s) c) ((judged (at t s) a).faults ++ (judged (at t s) b).faults) ((judged (at u s) a).faults ++ (judged (at u s) b).faults) (alike t u w free g false s c h.0)
      (append_alike (judged (at t s) a).faults (judged (at t s) b).faults (judged (at u s) a).faults (judged (at u s) b).faults (faults_of (at t s) (at u s) a (code_alike (One false) s a h.1)) (faults_of (at t s) (at u s) b (code_alike (One false) s b h.2))) f
  code_alike (One d) s (trees.While p c a) h f =
      test_keeps p (judged (at t s) c) (judged (at u s) c) (judged (at t (in_loop s)) a).faults (judged (at u (in_loop s)) a).faults (alike t u w free g false s c h.0) (faults_of (at t (in_loop s)) (at u (in_loop s)) a (code_alike (One false) (in_loop s) a h.1)) f
  code_alike (One d) s (trees.Do p a c) h f =
      test_keeps p (judged (at t s) c) (judged (at u s) c) (judged (at t (in_loop s)) a).faults (judged (at u (in_loop s)) a).faults (alike t u w free g false s c h.1) (faults_of (at t (in_loop s)) (at u (in_loop s)) a (code_alike (One false) (in_loop s) a h.0)) f
  code_alike (One d) s (trees.For p i c v a) h f =
      let to = after (at t s) i in
      let tn = after (at u s) i in
      let below = append_is_nil (judged to c).faults ((judged (at t s) i).faults ++ (judged (statement to) v).faults ++ (judged (in_loop to) a).faults)
      (below_none p (on_one condition_rule (judged to c).typed) ((judged to c).faults ++ ((judged (at t s) i).faults ++ (judged (statement to) v).faults ++ (judged (in_loop to) a).faults)) f) in
      let front = append_is_nil ((judged (at t s) i).faults ++ (judged (statement to) v).faults) (judged (in_loop to) a).faults below.1 in
      let inner = append_is_nil (judged (at t s) i).faults (judged (statement to) v).faults front.0 in
      let first = code_leaves s i h.0 inner.0 in
      test_keeps p (judged to c) (judged tn c) ((judged (at t s) i).faults ++ (judged (statement to) v).faults ++ (judged (in_loop to) a).faults) ((judged (at u s) i).faults ++ (judged (statement tn) v).faults ++ (judged (in_loop tn) a).faults)
      (alike_after s i c first (maybe_alike first.to c h.1))
      (append_alike ((judged (at t s) i).faults ++ (judged (statement to) v).faults) (judged (in_loop to) a).faults ((judged (at u s) i).faults ++ (judged (statement tn) v).faults) (judged (in_loop tn) a).faults
      (append_alike (judged (at t s) i).faults (judged (statement to) v).faults (judged (at u s) i).faults (judged (statement tn) v).faults (faults_of (at t s) (at u s) i (code_alike Several s i h.0))
      (λ b. ap (λ (z : Scope). (judged (statement z) v).faults) first.new ∙ (ap (λ (z : Judged). z.faults) (alike t u w free g true (statement first.to) v h.2 (subst (λ (z : Scope). (judged (statement z) v).faults ≡ []) first.old b)) ∙ ap (λ (z : Scope). (judged (statement z) v).faults) (sym first.old))))
      (λ b. ap (λ (z : Scope). (judged (in_loop z) a).faults) first.new ∙ (ap (λ (z : Judged). z.faults) (code_alike (One false) (in_loop first.to) a h.3 (subst (λ (z : Scope). (judged (in_loop z) a).faults ≡ []) first.old b)) ∙ ap (λ (z : Scope). (judged (in_loop z) a).faults) (sym first.old)))) f
  code_alike (One d) s (trees.Throw p e) h f = one_keeps p (throw_rule (at t s)) (throw_rule (at u s)) (judged (at t s) e) (judged (at u s) e) (alike t u w free g false s e h) (throw_keeps t u w free g s) f
  code_alike (One d) s (trees.Try p b cs) h f =
      ap plain (append_alike (judged (at t s) b).faults (judged (at t s) cs).faults (judged (at u s) b).faults (judged (at u s) cs).faults (faults_of (at t s) (at u s) b (code_alike (One false) s b h.1)) (faults_of (at t s) (at u s) cs (code_alike Catches s cs h.2)) f)
  code_alike (One d) s _ h f = absurd h
  code_alike Catch s (trees.Catch p (trees.Parameter q k n) b) h f =
      let d = trees.Parameter q k n in
      let xs = (judged (at t s) d).faults in
      let ys = (judged (after (at t s) d) b).faults in
      let xs2 = (judged (at u s) d).faults in
      let ys2 = (judged (after (at u s) d) b).faults in
      let below = below_none p (caught_rule (at t s) 42 (type_named t.headings k)) (xs ++ ys) f in
      let parts = append_is_nil xs ys below in
      let first = parameter_leaves s q k n (class_variable k h.0) parts.0 in
      ap (λ (z : JavaType). judge p (caught_rule (at u s) 42 z) (xs2 ++ ys2)) (written_same t u w free g s k (class_variable k h.0) (parameter_written s q k n parts.0))
      ∙ (ap (judge p (caught_rule (at u s) 42 (type_named t.headings k)))
      (append_alike xs ys xs2 ys2 (faults_of (at t s) (at u s) d (parameter_alike s q k n (class_variable k h.0))) (λ e. ap (λ (z : Judged). z.faults) (alike_after s d b first (code_alike (One false) first.to b h.1) e)) below)
      ∙ judge_keeps p (caught_rule (at t s) 42 (type_named t.headings k)) (caught_rule (at u s) 42 (type_named t.headings k)) (xs ++ ys) (caught_keeps t u w free g s 42 (type_named t.headings k)) f)
  code_alike Catch s (trees.Catch p _ b) h f = absurd h.0
  code_alike Catch s _ h f = absurd h
  code_alike Catches s trees.Nil h f = refl
  code_alike Catches s (trees.Cons (trees.Catch p d x) b) h f = pair s (trees.Catch p d x) b (record { to = s; old = refl; new = refl }) (code_alike Catch s (trees.Catch p d x) h.0) (code_alike Catches s b h.1) f
  code_alike Catches s (trees.Cons _ b) h f = absurd h.0
  code_alike Catches s _ h f = absurd h
