-- A statement's resolved form does what the statement does.
use Rattle.std.proofs.Common.{◌≡◌, ℕ, Bool, true, false, if◌then◌else◌, subst, sym, List, [], ◌∷◌, length, Option, Some, None, refl, ap, ◌∙◌}
use Rattle.kr_ast.specs.Tree as trees
use Rattle.kr_ast.specs.Tree.{Tree}
use Rattle.kr_value.specs.declared.value.Value.{Value}
use Rattle.kr_classes_table.specs.Table.{items}
use Rattle.kr_types_meaning.specs.Scopes.{Scope, caught_type, after, bind_local as with_local}
use Rattle.kr_mean.specs.declared.kind.Kind.{Kind}
use Rattle.kr_mean.specs.declared.kind.Stop.TheVariants.{Stuck}
use Rattle.kr_mean.specs.Thrown.{class_of_kind, is_caught, object_of}
use Rattle.kr_code.specs.declared.statement.Catch.{Catch}
use Rattle.kr_code.specs.Steps.{taken}
use Rattle.kr_code_laws.proofs.Lookups.{throws, takes, fits}
use Rattle.kr_mean.specs.Program.{Program, default_of}
use Rattle.kr_mean.specs.Steps.{Run, stop, ◌>>◌, tick, declare}
use Rattle.kr_mean.specs.declared.flow.Flow.{Flow}
use Rattle.kr_mean.specs.Meaning.{Parts, all, condition, flow_of, initial_value, declared, all_declared, declaring_locals, catch_run, caught, statement, unbounded}
use Rattle.kr_code.specs.declared.code.Code.{Code}
use Rattle.kr_code.specs.declared.statement.Statement.{Statement}
use Rattle.kr_code.specs.declared.statement.Statement.TheVariants as statements
use Rattle.kr_code.specs.declared.statement.Declarator.{Declarator}
use Rattle.kr_code.specs.Tables.{node_at, declarator_of, catch_of, listed}
use Rattle.kr_code.specs.Doing as doings
use Rattle.kr_code.specs.Doing.{Doing, all_at, for_round, catch_at, caught_or, caught_at, statement_done}
use Rattle.kr_code.specs.Resolved as resolved
use Rattle.kr_code.specs.Resolved.{Numbering, IsPart, IsPartial, is_no_statement, IsDeclarator, AreDeclarators, IsCatch, AreCatches, IsStatement, AreTables}
use Rattle.kr_code_laws.specs.Laws.{doing_of}
use Rattle.kr_code_laws.proofs.Agreeing.{Agree, BothAgree, attempted_same, then_same, scoped_same, choose_same, on_same, round_same, update_same, loop_same}
use Rattle.kr_code_laws.proofs.Calls.{value_part, exec_part, all_parts, updates_parts}

module _ (program : Program) (code : Code) (n : Numbering) (tables : AreTables program code n) where
  abbrev d : Doing
  d = doing_of program n

  abbrev p : Parts
  p = unbounded program

  part : (s : Scope) (t : Tree) (i : ℕ) → IsPart n s t i → Agree (d.value i) (p.value s t)
  part = value_part program code n tables

  inner : (s : Scope) (t : Tree) (i : ℕ) → IsPart n s t i → Agree (d.exec i) (p.exec s t)
  inner = exec_part program code n tables

  condition_same : (s : Scope) (t : Tree) (i : Option ℕ) → IsPartial n s t i → Agree (doings.condition d i) (condition p s t)
  condition_same s trees.Nil None h = λ state. refl
  condition_same s trees.Nil (Some i) h = absurd h
  condition_same s _ None h = absurd h
  condition_same s t (Some i) h = present s t i h
    where
      present : (s : Scope) (t : Tree) (i : ℕ) → IsPart n s t i → Agree (d.value i) (p.value s t)
      present = part

  initial_same : (s : Scope) (k : ℕ) (t : Tree) (i : Option ℕ) → IsPartial n s t i → Agree (doings.initial_value d k i) (initial_value p s k t)
  initial_same s k trees.Nil None h = λ state. refl
  initial_same s k trees.Nil (Some i) h = absurd h
  initial_same s k _ None h = absurd h
  initial_same s k t (Some i) h = then_same (d.value i) (p.value s t) _ _ (part s t i h) (λ v state. refl)

  declared_same : (s : Scope) (t : Tree) (x : Option Declarator) → IsDeclarator n s t x → Agree (doings.declared d x) (declared p s t)
  declared_same s (trees.Declarator r y e) (Some x) h =
      then_same tick tick _ _ (λ state. refl) (λ u. then_same (declare x.default) (declare (default_of s.declared)) _ _ (λ state. ap (λ (v : Value). declare v state) h.1)
      (λ u state. ap (λ (k : ℕ). doings.initial_value d k x.initial state) h.0 ∙ initial_same (with_local y s.declared s) (length s.locals) e x.initial h.2 state))
  declared_same s (trees.Declarator r y e) None h = absurd h
  declared_same s _ None h = λ state. refl
  declared_same s _ (Some x) h = absurd h

  declarators_same : (s : Scope) (ts : List Tree) (is : List ℕ) → AreDeclarators code n s ts is → Agree (doings.all_declared code d is) (all_declared p s ts)
  declarators_same s [] [] h = λ state. refl
  declarators_same s (t ∷ ts) (i ∷ is) h = then_same (doings.declared d (declarator_of (node_at code i))) (declared p s t) _ _ (declared_same s t (declarator_of (node_at code i)) h.0) (λ u. declarators_same (after s t) ts is h.1)
  declarators_same s [] (i ∷ is) h = absurd h
  declarators_same s (t ∷ ts) [] h = absurd h

  returned_same : (s : Scope) (r : _) (e : Tree) (i : ℕ) → (e ≡ trees.Nil → ⊥) → IsPart n s e i → Agree (doings.flow_of code d (statements.Return i)) (flow_of program p s (trees.Return r e))
  returned_same s r trees.Nil i x h = absurd (x refl)
  returned_same s r e i x h = then_same (d.value i) (p.value s e) _ _ (part s e i h) (λ v state. refl)

  -- the catches of a `try`
  catch_same : (s : Scope) (q b : Tree) (i : ℕ) (k : Kind) → IsPart n (after s q) b i → Agree (catch_at code d i k) (catch_run program p s q b k)
  catch_same s q b i k h =
      scoped_same _ _ (then_same tick tick _ _ (λ state. refl) (λ u. then_same (taken code k) (object_of program k) _ _ (takes program code n tables k)
      (λ o. then_same (declare o) (declare o) _ _ (λ state. refl) (λ u. inner (after s q) b i h))))

  clause_same : (s : Scope) (q b : Tree) (k : Kind) (x : Option Catch) (r : _) (rest rest' : Option (Run Flow)) → IsCatch n s (trees.Catch r q b) x → BothAgree rest rest'
      → BothAgree (caught_or code d x rest k) (if is_caught program (caught_type s q) (class_of_kind program k) then Some (catch_run program p s q b k) else rest')
  clause_same s q b k None r rest rest' h g = absurd h
  clause_same s q b k (Some c) r rest rest' h g =
      subst (λ (x : Bool). BothAgree (if x then Some (catch_at code d c.body k) else rest) (if is_caught program (caught_type s q) (class_of_kind program k) then Some (catch_run program p s q b k) else rest'))
      (sym (fits program code n tables c.caught (caught_type s q) k h.0)) (go (is_caught program (caught_type s q) (class_of_kind program k)))
    where
      go : (x : Bool) → BothAgree (if x then Some (catch_at code d c.body k) else rest) (if x then Some (catch_run program p s q b k) else rest')
      go true = catch_same s q b c.body k h.1
      go false = g

  caught_same : (s : Scope) (ts : List Tree) (is : List ℕ) → AreCatches code n s ts is → (k : Kind) → BothAgree (caught_at code d is k) (caught program p s ts k)
  caught_same s [] [] h k = tt
  caught_same s (trees.Catch r q b ∷ ts) (i ∷ is) h k = clause_same s q b k (catch_of (node_at code i)) r _ _ h.0 (caught_same s ts is h.1 k)
  caught_same s (t ∷ ts) (i ∷ is) h k = none (catch_of (node_at code i)) h.0
    where
      none : (x : Option Catch) → IsCatch n s t x → BothAgree (caught_or code d x (caught_at code d is k) k) (caught program p s (t ∷ ts) k)
      none None e = tt
      none (Some c) e = absurd e
  caught_same s [] (i ∷ is) h k = absurd h
  caught_same s (t ∷ ts) [] h k = absurd h

  -- a unit, and what follows
  behind : (x : Statement) (t : Tree) (m m' : Run Flow) → Agree m m' → Agree (tick >> m) (tick >> m')
  behind x t m m' q = then_same tick tick _ _ (λ state. refl) (λ u. q)

  pub statement_same : (s : Scope) (t : Tree) (x : Statement) → IsStatement code n s t x → Agree (statement_done code d x) (statement program p s t)
  statement_same s t x (resolved.empty r) = λ state. refl
  statement_same s t x (resolved.block r ts ns h) = behind x t _ _ (scoped_same _ _ (all_parts program code n tables s (items ts) (listed code ns) h))
  statement_same s t x (resolved.evaluated r e i h) = behind x t _ _ (then_same (d.value i) (p.value s e) _ _ (part s e i h) (λ v state. refl))
  statement_same s t x (resolved.if_then r e a i j h g) = behind x t _ _ (then_same (d.value i) (p.value s e) _ _ (part s e i h) (λ v. choose_same v _ _ _ _ (inner s a j g) (λ state. refl)))
  statement_same s t x (resolved.if_else r e a b i j k h g l) = behind x t _ _ (then_same (d.value i) (p.value s e) _ _ (part s e i h) (λ v. choose_same v _ _ _ _ (inner s a j g) (inner s b k l)))
  statement_same s t x (resolved.while r e a i j h g) = behind x t _ _ (loop_same (d.value i) (p.value s e) (d.exec j) (p.exec s a) (part s e i h) (inner s a j g))
  statement_same s t x (resolved.do_while r a e i j h g) = behind x t _ _ (then_same (d.exec i) (p.exec s a) _ _ (inner s a i h) (λ f. round_same f _ _ (loop_same (d.value j) (p.value s e) (d.exec i) (p.exec s a) (part s e j g) (inner s a i h))))
  statement_same s t x (resolved.for r i e u a ns j us k h g l o) =
      behind x t _ _ (scoped_same _ _ (then_same (all_at d (listed code ns)) (all p s (items i)) _ _ (all_parts program code n tables s (items i) (listed code ns) h) (λ f. on_same f _ _
      (loop_same (doings.condition d j) (condition p (after s i) e) (for_round d k (listed code us)) _ (condition_same (after s i) e j g)
      (then_same (d.exec k) (p.exec (after s i) a) _ _ (inner (after s i) a k o) (λ f. update_same f _ _ (updates_parts program code n tables (after s i) (items u) (listed code us) l)))))))
  statement_same s t x (resolved.break r) = λ state. refl
  statement_same s t x (resolved.continue r) = λ state. refl
  statement_same s t x (resolved.leave r) = λ state. refl
  statement_same s t x (resolved.return r e i y h) = behind x t _ _ (returned_same s r e i y h)
  statement_same s t x (resolved.throw r e i h) = behind x t _ _ (then_same (d.value i) (p.value s e) _ _ (part s e i h) (λ v. throws program code n tables v))
  statement_same s t x (resolved.try r b cs i ns h g) = behind x t _ _ (attempted_same _ _ _ _ (inner s b i h) (λ k. caught_same s (items cs) (listed code ns) g k))
  statement_same s t x (resolved.declaration r u ds ns h) = declarators_same (declaring_locals s u) (items ds) (listed code ns) h
  statement_same s t x (resolved.other u e) = others u e
    where
      others : (u : Tree) → is_no_statement u ≡ true → Agree (tick >> stop Stuck) (statement program p s u)
      others (trees.Empty q) e state = absurd (cc (e))
      others (trees.Block q a) e state = absurd (cc (e))
      others (trees.Local q a b) e state = absurd (cc (e))
      others (trees.ExpressionStatement q a) e state = absurd (cc (e))
      others (trees.IfThen q a b) e state = absurd (cc (e))
      others (trees.IfElse q a b c) e state = absurd (cc (e))
      others (trees.While q a b) e state = absurd (cc (e))
      others (trees.Do q a b) e state = absurd (cc (e))
      others (trees.For q a b c k) e state = absurd (cc (e))
      others (trees.Break q) e state = absurd (cc (e))
      others (trees.Continue q) e state = absurd (cc (e))
      others (trees.Return q a) e state = absurd (cc (e))
      others (trees.Throw q a) e state = absurd (cc (e))
      others (trees.Try q a b) e state = absurd (cc (e))
      others _ e state = refl
