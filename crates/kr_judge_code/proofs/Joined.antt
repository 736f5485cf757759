-- The nodes of the code: those of the files, the call of the root's `repOk`, and initial values.
use Rattle.std.proofs.Common.{◌≡◌, refl, sym, ap, ◌∙◌, ℕ, zero, suc, ◌+◌, ◌-◌, ◌<◌, ◌≤◌, List, [], ◌∷◌, ◌++◌, length, map, get_or, subst, arith, ◌⊎◌, inl, inr, Some, None, false}
use Rattle.std.specs.Prelude.{slice_get}
use Rattle.std.proofs.lemmas.List.{get_or_append_left, get_or-append-add, get_or_past, length-append}
use Rattle.std.proofs.lemmas.Option.{get_or_from_slice_get, slice_get_cases}
use Rattle.kr_ast.specs.Tree.{Nil, This}
use Rattle.kr_types_meaning.specs.Scopes.{Locals}
use Rattle.kr_mean.specs.Code as meaning
use Rattle.kr_mean.specs.Runs.{rep_ok, root_class}
use Rattle.kr_base.specs.Places.{nowhere}
use Rattle.kr_code.specs.declared.code.Code.{Code}
use Rattle.kr_code.specs.declared.code.Initialiser.{Initialiser}
use Rattle.kr_code.specs.declared.code.Node.{Node}
use Rattle.kr_code.specs.declared.code.Node.TheVariants as nodes
use Rattle.kr_code.specs.declared.expression.Expression.{Expression}
use Rattle.kr_code.specs.declared.expression.Expression.TheVariants as expressions
use Rattle.kr_code.specs.declared.statement.Statement.TheVariants as statements
use Rattle.kr_code.specs.Resolved as resolved
use Rattle.kr_code.specs.Resolved.{IsCatch, IsDeclarator, IsExpression, IsStatement, Numbering}
use Rattle.kr_code.specs.Tables.{catch_of, declarator_of, expression_of, node_at, statement_of}
use Rattle.kr_types.specs.declared.program.Program.{Program}
use Rattle.kr_space_problem.specs.declared.problem.Problem.{Problem}
use Rattle.kr_space_problem.specs.Posed.{posed}
use Rattle.kr_code_lowering.specs.Origins.{coded_count, has_code, nothing, numbering_of, others_from}
use Rattle.kr_code_lowering.specs.Sites.{Becomes}
use Rattle.kr_code_lowering.specs.Statements.{AreDeclared}
use Rattle.kr_code_lowering.specs.Resolving.{AreNodes}
use Rattle.kr_code_lowering.proofs.Numbers.{no_code, origin_behind}
use Rattle.kr_judge_code.specs.Compiled.{CallsRepOk, call_nodes, final_of}
use Rattle.kr_judge_code.proofs.Uncoded.{no_code_catch, no_code_declarator, no_code_expression, no_code_statement}

abbrev stuck : Node
stuck = nodes.Expression expressions.Stuck

-- ---- an initial value is nothing else

abbrev initial_nodes : List Initialiser → List Node
initial_nodes xs = map nodes.Initialiser xs

no_expression : (xs : List Initialiser) (j : ℕ) → expression_of (get_or (initial_nodes xs) j stuck) ≡ expressions.Stuck
no_expression [] j = refl
no_expression (x ∷ xs) zero = refl
no_expression (x ∷ xs) (suc j) = no_expression xs j

no_statement : (xs : List Initialiser) (j : ℕ) → statement_of (get_or (initial_nodes xs) j stuck) ≡ statements.Stuck
no_statement [] j = refl
no_statement (x ∷ xs) zero = refl
no_statement (x ∷ xs) (suc j) = no_statement xs j

no_declarator : (xs : List Initialiser) (j : ℕ) → declarator_of (get_or (initial_nodes xs) j stuck) ≡ None
no_declarator [] j = refl
no_declarator (x ∷ xs) zero = refl
no_declarator (x ∷ xs) (suc j) = no_declarator xs j

no_catch : (xs : List Initialiser) (j : ℕ) → catch_of (get_or (initial_nodes xs) j stuck) ≡ None
no_catch [] j = refl
no_catch (x ∷ xs) zero = refl
no_catch (x ∷ xs) (suc j) = no_catch xs j

-- ---- nodes by their numbers

module _ (problem : Problem) (names : List (List ℕ)) (linked : List ℕ) (files : List Node) (are : AreNodes problem.program problem.arrays.items names linked files) (count : length files ≡ coded_count problem.program)
    (call : Expression) (calls : CallsRepOk problem.program (root_class (posed problem)) (length files + 1) call) (xs : List Initialiser)
    (code : Code) (all : code.nodes.items ≡ files ++ nodes.Expression call ∷ nodes.Expression expressions.This ∷ initial_nodes xs)
    (becomes : Becomes problem.program names linked (final_of problem names) code) (fits : length code.nodes.items ≤ others_from problem.program) where
  abbrev p : Program
  p = problem.program

  abbrev n : Numbering
  n = numbering_of p (final_of problem names)

  abbrev behind : List Node
  behind = nodes.Expression call ∷ nodes.Expression expressions.This ∷ initial_nodes xs

  here : (i : ℕ) → i < length files → (node : Node) × (slice_get files i ≡ Some node) × (node_at code i ≡ node)
  here i h = go (slice_get_cases files i).1
    where
      go : ((x : Node) × (i < length files) × (slice_get files i ≡ Some x) × (get_or files i x ≡ x)) ⊎ ((length files ≤ i) × (slice_get files i ≡ None)) → (node : Node) × (slice_get files i ≡ Some node) × (node_at code i ≡ node)
      go (inl w) = (w.0, w.2, ap (λ (ns : List Node). get_or ns i stuck) all ∙ (get_or_append_left files behind stuck i h ∙ get_or_from_slice_get files i w.0 stuck w.2))
      go (inr w) = absurd (omega (arith, w.0, h))

  there : (j : ℕ) → node_at code (length files + j) ≡ get_or behind j stuck
  there j = ap (λ (ns : List Node). get_or ns (length files + j) stuck) all ∙ get_or-append-add files behind j stuck

  origin_there : (j : ℕ) → length files + j < others_from p → n.origin (length files + j) ≡ get_or (call_nodes problem) j (nothing p)
  origin_there j h = ap (λ (k : ℕ). n.origin (k + j)) count ∙ origin_behind p (call_nodes problem) j (omega (arith, count, h))

  -- the call and its `this` are there
  pub call_fits : length files + 1 < others_from p
  call_fits = omega (arith, ap length all, length-append files behind, fits)

  past : (i : ℕ) → others_from p ≤ i → node_at code i ≡ stuck
  past i h = get_or_past code.nodes.items i stuck (omega (arith, fits, h))

  -- a property of the files' nodes, of those after them, and of nodes without code
  by_number : (P : meaning.Node → Node → Type 0) → ((i : ℕ) (node : Node) → slice_get files i ≡ Some node → P (n.origin i) node) → ((j : ℕ) → P (get_or (call_nodes problem) j (nothing p)) (get_or behind j stuck)) → ((o : meaning.Node) → has_code o.tree ≡ false → P o stuck)
      → (i : ℕ) → P (n.origin i) (node_at code i)
  by_number P h k none i = go (split i (length files)) (split i (others_from p))
    where
      split : (a b : ℕ) → (a < b) ⊎ (b ≤ a)
      split zero zero = inr (omega arith)
      split zero (suc b) = inl (omega arith)
      split (suc a) zero = inr (omega arith)
      split (suc a) (suc b) = elim (split a b) [ inl l ↦ inl (omega (arith, l)) | inr l ↦ inr (omega (arith, l)) ]

      go : (i < length files) ⊎ (length files ≤ i) → (i < others_from p) ⊎ (others_from p ≤ i) → P (n.origin i) (node_at code i)
      go (inl l) below = let w = here i l in subst (λ (x : Node). P (n.origin i) x) (sym w.2) (h i w.0 w.1)
      go (inr l) (inl below) =
          let j = i - length files in
          let e : length files + j ≡ i = omega (arith, l) in
          let within : length files + j < others_from p = omega (arith, e, below) in
          subst (λ (m : ℕ). P (n.origin m) (node_at code m)) e (subst (λ (o : meaning.Node). P o (node_at code (length files + j))) (sym (origin_there j within)) (subst (λ (x : Node). P (get_or (call_nodes problem) j (nothing p)) x) (sym (there j)) (k j)))
      go (inr l) (inr above) = subst (λ (x : Node). P (n.origin i) x) (sym (past i above)) (none (n.origin i) (no_code p (call_nodes problem) i above))

  abbrev Expressed : meaning.Node → Node → Type 0
  Expressed o node = IsExpression (posed problem).program code n o.scope o.tree (expression_of node)

  abbrev Stated : meaning.Node → Node → Type 0
  Stated o node = IsStatement code n o.scope o.tree (statement_of node)

  abbrev Declaring : meaning.Node → Node → Type 0
  Declaring o node = o.scope.declaring ≡ Locals → IsDeclarator n o.scope o.tree (declarator_of node)

  abbrev Catching : meaning.Node → Node → Type 0
  Catching o node = IsCatch n o.scope o.tree (catch_of node)

  expressed : (j : ℕ) → Expressed (get_or (call_nodes problem) j (nothing p)) (get_or behind j stuck)
  expressed zero = calls problem.arrays.items names linked (final_of problem names) code becomes (origin_there 1 call_fits)
  expressed (suc zero) = resolved.this nowhere
  expressed (suc (suc j)) = subst (λ (e : Expression). IsExpression (posed problem).program code n (nothing p).scope Nil e) (sym (no_expression xs j)) (resolved.other Nil refl)

  stated : (j : ℕ) → Stated (get_or (call_nodes problem) j (nothing p)) (get_or behind j stuck)
  stated zero = resolved.other rep_ok refl
  stated (suc zero) = resolved.other (This nowhere) refl
  stated (suc (suc j)) = subst (λ (e : _). IsStatement code n (nothing p).scope Nil e) (sym (no_statement xs j)) (resolved.other Nil refl)

  declaring : (j : ℕ) → Declaring (get_or (call_nodes problem) j (nothing p)) (get_or behind j stuck)
  declaring zero h = tt
  declaring (suc zero) h = tt
  declaring (suc (suc j)) h = subst (λ (e : _). IsDeclarator n (nothing p).scope Nil e) (sym (no_declarator xs j)) tt

  catching : (j : ℕ) → Catching (get_or (call_nodes problem) j (nothing p)) (get_or behind j stuck)
  catching zero = tt
  catching (suc zero) = tt
  catching (suc (suc j)) = subst (λ (e : _). IsCatch n (nothing p).scope Nil e) (sym (no_catch xs j)) tt

  pub expressions_are : (i : ℕ) → Expressed (n.origin i) (node_at code i)
  expressions_are = by_number Expressed (λ i node e. (are i node e).expression (final_of problem names) code becomes) expressed (λ o h. resolved.other o.tree (no_code_expression o.tree h))

  declared_are : AreDeclared p (final_of problem names) code
  declared_are = record {
    locals = by_number Declaring (λ i node e. (are i node e).declarator (final_of problem names)) declaring (λ o h locals. no_code_declarator n o.scope o.tree h);
    catches = by_number Catching (λ i node e. (are i node e).caught (final_of problem names)) catching (λ o h. no_code_catch n o.scope o.tree h);
  }

  pub statements_are : (i : ℕ) → Stated (n.origin i) (node_at code i)
  statements_are = by_number Stated (λ i node e. (are i node e).statement (final_of problem names) code becomes declared_are) stated (λ o h. resolved.other o.tree (no_code_statement o.tree h))
