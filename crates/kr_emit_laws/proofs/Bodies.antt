-- Runs of bodies, line by line.
use Rattle.std.proofs.Common.{◌≡◌, ℕ, ◌+◌, ◌≤◌, List, [], ◌∷◌, ◌++◌, Some, sym, arith, subst, append_assoc}
use Rattle.std.specs.Prelude.{codes}
use Rattle.kr_base.specs.declared.place.Place.{Place}
use Rattle.kr_ast.specs.Tree as trees
use Rattle.kr_ast.specs.Tree.{Tree}
use Rattle.kr_value.specs.declared.value.Value.{Value}
use Rattle.kr_classes_table.specs.Types.{JavaType}
use Rattle.kr_classes_table.specs.Table.{items}
use Rattle.kr_types_meaning.specs.Scopes.{LocalName, Scope, after, meant}
use Rattle.kr_mean.specs.declared.flow.Flow.{Flow}
use Rattle.kr_mean.specs.declared.flow.Flow.TheVariants.{Next, Gave}
use Rattle.kr_mean.specs.Program.{Program}
use Rattle.kr_mean.specs.Steps.{local_at, plain_local, give}
use Rattle.kr_mean.specs.Meaning.{all, execute, flow_of, then_on, unbounded}
use Rattle.kr_emit_laws.specs.Syntax.{Line}
use Rattle.kr_emit_laws.specs.BuilderTree.{body_tree, line_start, return_tree, statement_end, statement_tree}
use Rattle.kr_emit_laws.proofs.Expressions.{goes_local}
use Rattle.kr_emit_laws.proofs.Goes.{Goes, Memory, goes_give, goes_more, goes_statement, goes_then, goes_tick}
use Rattle.kr_emit_laws.proofs.Names.{local_name}

-- Lines lead from a scope and memory to others, whatever comes after them.
pub record Runs (program : Program) (at : List ℕ → Place) (lines : List Line) (s : Scope) (m : Memory) (t : Scope) (n : Memory) (cost : ℕ) : Type 0 where
  pub by : (front : List ℕ) (more : List Line) (flow : Flow) (end : Memory) (d : ℕ) → ((front : List ℕ) → Goes (all (unbounded program) t (items (body_tree at front more))) n flow end d)
      → Goes (all (unbounded program) s (items (body_tree at front (lines ++ more)))) m flow end (cost + d)

module _ (program : Program) (at : List ℕ → Place) where
  pub runs_none : (s : Scope) (m : Memory) → Runs program at [] s m s m 0
  runs_none s m = record { by = λ front more flow end d rest. goes_more (0 + d) (omega arith) (rest front) }

  pub runs_one : (line : Line) (s t : Scope) (m n : Memory) (cost : ℕ) → ((front : List ℕ) → after s (statement_tree at front line) ≡ t) → ((front : List ℕ) → Goes (execute program s (statement_tree at front line)) m Next n cost)
      → Runs program at (line ∷ []) s m t n cost
  runs_one line s t m n cost scopes goes = record {
    by = λ front more flow end d rest.
        let start : List ℕ = line_start front in
        let next : List ℕ = statement_end start line in
        let later : List Tree = items (body_tree at next more) in
        goes_then (λ (f : Flow). then_on f (all (unbounded program) (after s (statement_tree at start line)) later)) (goes start)
        (subst (λ (u : Scope). Goes (all (unbounded program) u later) n flow end d) (sym (scopes start)) (rest next));
  }

  pub runs_more : {lines : List Line} {s t : Scope} {m n : Memory} {c : ℕ} (d : ℕ) → c ≤ d → Runs program at lines s m t n c → Runs program at lines s m t n d
  runs_more {lines} {s} {t} {m} {n} {c} d le runs = record { by = λ front more flow end e rest. goes_more (d + e) (omega (arith, le)) (runs.by front more flow end e rest) }

  pub runs_both : {xs ys : List Line} {s t u : Scope} {m n o : Memory} {c d : ℕ} → Runs program at xs s m t n c → Runs program at ys t n u o d → Runs program at (xs ++ ys) s m u o (c + d)
  runs_both {xs} {ys} {s} {t} {u} {m} {n} {o} {c} {d} x y = record {
    by = λ front more flow end e rest.
        goes_more (c + d + e) (omega arith)
        (subst (λ (lines : List Line). Goes (all (unbounded program) s (items (body_tree at front lines))) m flow end (c + (d + e))) (sym (append_assoc xs ys more))
        (x.by front (ys ++ more) flow end (d + e) (λ front. y.by front more flow end e rest)));
  }

  -- the return of the first object
  pub goes_return : (front : List ℕ) (s : Scope) (m : Memory) (type : JavaType) (v : Value) → meant s (local_name 0) ≡ LocalName 0 type → local_at m.locals 0 ≡ Some (plain_local v)
      → Goes (all (unbounded program) s (items (body_tree at front []))) m (Gave v) m 2
  goes_return front s m type v is here =
      let p : Place = at (line_start front) in
      let q : Place = at (line_start front ++ codes "return" ++ codes " ") in
      let variable : Tree = trees.Variable q (local_name 0) in
      let tree : Tree = return_tree p q in
      let given : Goes (flow_of program (unbounded program) s tree) m (Gave v) m 1 = goes_then (λ x. give (Gave x)) (goes_local program s q (local_name 0) 0 type m v is here) (goes_give (Gave v) m) in
      let returned : Goes (execute program s tree) m (Gave v) m 2 = goes_statement program s tree (goes_then (λ _. flow_of program (unbounded program) s tree) (goes_tick m) given) in
      goes_more 2 (omega arith) (goes_then (λ (f : Flow). then_on f (all (unbounded program) (after s tree) [])) returned (goes_give (Gave v) m))
