-- Statements.
use Rattle.std.proofs.Common.{◌≡◌, refl, sym, ap, ◌∙◌, ℕ, ◌+◌, true, false, List, [], ◌∷◌, subst, Option, Some, None}
use Rattle.kr_base.specs.declared.place.Place.{Place}
use Rattle.kr_ast.specs.Tree as trees
use Rattle.kr_ast.specs.Tree.{Tree}
use Rattle.kr_ast.specs.Arena.{parts, tree_in, tree_of}
use Rattle.kr_ast.specs.declared.node.Entry.{Entry}
use Rattle.kr_ast.specs.declared.node.Node.{Node}
use Rattle.kr_ast.specs.declared.node.Node.TheVariants as nodes
use Rattle.kr_classes_table.specs.Table.{items}
use Rattle.kr_types_meaning.specs.Scopes.{Scope, Declaring, Locals, Fields, Constants, after, bind_as, declaring}
use Rattle.kr_types_meaning.specs.Running.{running}
use Rattle.kr_laws_types.proofs.Loops.{running_same}
use Rattle.kr_classes_names.specs.ListedTypes.{IsGrown}
use Rattle.kr_types.specs.declared.program.Program.{Program}
use Rattle.kr_types.specs.Programs.{IsProgram}
use Rattle.kr_mean.specs.Code as meaning
use Rattle.kr_mean.specs.Meaning.{declaring_locals}
use Rattle.kr_code.specs.declared.code.Code.{Code}
use Rattle.kr_code.specs.declared.expression.Nodes.{Nodes}
use Rattle.kr_code.specs.declared.statement.Statement.{Statement}
use Rattle.kr_code.specs.declared.statement.Statement.TheVariants as statements
use Rattle.kr_code.specs.Tables.{catch_of, declarator_of, listed, node_at}
use Rattle.kr_code.specs.Resolved as resolved
use Rattle.kr_code.specs.Resolved.{AreCatches, AreDeclarators, AreParts, IsCatch, IsDeclarator, IsPart, IsPartial, IsStatement, is_no_statement}
use Rattle.kr_code_lowering.specs.declared.site.Site.{Site}
use Rattle.kr_code_lowering.specs.Origins.{Final, node_tree, numbering_of, origin_of}
use Rattle.kr_code_lowering.specs.Sites.{Becomes, IsHere, arena_at, scope_at, number_at}
use Rattle.kr_code_lowering.specs.Kinds.{IsNumbered}
use Rattle.kr_code_lowering.specs.Lists.{AreLinked}
use Rattle.kr_code_lowering.specs.Statements.{AreDeclared, Does, IsMaybe, IsPlain, is_plain}
use Rattle.kr_code_lowering.proofs.Growth.{grown_on}
use Rattle.kr_code_lowering.proofs.Parts.{part_in, tree_is}
use Rattle.kr_code_lowering.proofs.Naming.{parts_are}
use Rattle.kr_code_lowering.proofs.Called.{arguments_are}

pub ruleset plain_forms = (resolved.empty, resolved.break, resolved.continue, resolved.evaluated, resolved.if_then, resolved.if_else, resolved.while, resolved.throw, resolved.do_while)

pub does_at : (p : Program) (s : Site) (e : Entry) (n : Node) → IsHere p s e → e.node ≡ n → (known : List (List ℕ)) (linked : List ℕ) (x : Statement)
    → ((final : Final) (code : Code) → Becomes p known linked final code → AreDeclared p final code → IsStatement code (numbering_of p final) (running (scope_at p s)) (tree_of (arena_at p s).text (tree_in (arena_at p s)) e.place n) x)
    → Does p s known linked x
does_at p s e n at is known linked x h final code b d = subst (λ (t : Tree). IsStatement code (numbering_of p final) (running (scope_at p s)) t x) (sym (tree_is p s e n at is)) (h final code b d)

-- ---- parts that may be absent

pub partial_is : (p : Program) (final : Final) (r : Scope) (t : Tree) (i : ℕ) (o : Option ℕ) → IsMaybe t i o → IsPart (numbering_of p final) r t i → IsPartial (numbering_of p final) r t o
partial_is p final r t i None h part = subst (λ (u : Tree). IsPartial (numbering_of p final) r u None) (sym h) tt
partial_is p final r t i (Some k) h part = there t h.1 (subst (λ (j : ℕ). IsPart (numbering_of p final) r t j) (sym h.0) part)
  where
    there : (u : Tree) → (u ≡ trees.Nil → ⊥) → IsPart (numbering_of p final) r u k → IsPartial (numbering_of p final) r u (Some k)
    there trees.Nil n q = absurd (n refl)
    there _ n q = q

-- ---- declarators

after_locals : (s : Scope) (t : Tree) → s.declaring ≡ Locals → (after s t).declaring ≡ Locals
after_locals s (trees.Cons a b) h = after_locals (after s a) b (after_locals s a h)
after_locals s (trees.Local p t ds) h = after_locals (declaring Locals t s) ds refl
after_locals s (trees.Declarator p n e) h = go s.declaring h
  where
    go : (d : Declaring) → s.declaring ≡ Locals → (bind_as d n s).declaring ≡ Locals
    go Locals k = k
    go Fields k = k
    go (Constants f) k = k
after_locals s (trees.Parameter p t n) h = h
after_locals s (trees.Signature p r ps cs) h = after_locals s ps h
after_locals s _ h = h

pub declarators_are : (p : Program) (final : Final) (code : Code) → AreDeclared p final code → (s : Scope) (ts : List Tree) (is : List ℕ) → s.declaring ≡ Locals → AreParts (numbering_of p final) s ts is → AreDeclarators code (numbering_of p final) s ts is
declarators_are p final code d s [] [] h ps = tt
declarators_are p final code d s [] (i ∷ is) h ps = ps
declarators_are p final code d s (t ∷ ts) [] h ps = ps
declarators_are p final code d s (t ∷ ts) (i ∷ is) h ps =
    let here : meaning.Node = record { scope = s; tree = t } in
    let locals : (origin_of p final.nodes i).scope.declaring ≡ Locals = ap (λ (o : meaning.Node). o.scope.declaring) ps.0 ∙ h in
    (subst (λ (o : meaning.Node). IsDeclarator (numbering_of p final) o.scope o.tree (declarator_of (node_at code i))) ps.0 (d.locals i locals), declarators_are p final code d (after s t) ts is (after_locals s t h) ps.1)

pub catches_are : (p : Program) (final : Final) (code : Code) → AreDeclared p final code → (s : Scope) (ts : List Tree) (is : List ℕ) → AreParts (numbering_of p final) s ts is → AreCatches code (numbering_of p final) s ts is
catches_are p final code d s [] [] ps = tt
catches_are p final code d s [] (i ∷ is) ps = ps
catches_are p final code d s (t ∷ ts) [] ps = ps
catches_are p final code d s (t ∷ ts) (i ∷ is) ps =
    (subst (λ (o : meaning.Node). IsCatch (numbering_of p final) o.scope o.tree (catch_of (node_at code i))) ps.0 (d.catches i), catches_are p final code d (after s t) ts is ps.1)

-- ---- statements

pub linked_on : (p : Program) (s : Site) (a b : List ℕ) (ns : Nodes) → IsGrown a b → AreLinked p s a ns → AreLinked p s b ns
linked_on p s a b ns g h more k = h more (grown_on a b more g k)

module _ (p : Program) (program : IsProgram p) (s : Site) (e : Entry) (at : IsHere p s e) (known : List (List ℕ)) (linked : List ℕ) where
  abbrev r : Scope
  r = running (scope_at p s)

  numbered : (final : Final) (n : Node) → e.node ≡ n → is_plain n ≡ true → IsNumbered (numbering_of p final) r (tree_in (arena_at p s)) (number_at p s) (parts n)
  numbered final nodes.Empty it h = tt
  numbered final nodes.Break it h = tt
  numbered final nodes.Continue it h = tt
  numbered final (nodes.ExpressionStatement a) it h = let ps = parts_are p s e (nodes.ExpressionStatement a) at it in (part_in p program final s e (nodes.ExpressionStatement a) at it 0 a ps.0 r refl, tt)
  numbered final (nodes.IfThen a b) it h =
      let ps = parts_are p s e (nodes.IfThen a b) at it in (part_in p program final s e (nodes.IfThen a b) at it 0 a ps.0 r refl, (part_in p program final s e (nodes.IfThen a b) at it 1 b ps.1.0 r refl, tt))
  numbered final (nodes.IfElse a b c) it h =
      let ps = parts_are p s e (nodes.IfElse a b c) at it in
      (part_in p program final s e (nodes.IfElse a b c) at it 0 a ps.0 r refl, (part_in p program final s e (nodes.IfElse a b c) at it 1 b ps.1.0 r refl, (part_in p program final s e (nodes.IfElse a b c) at it 2 c ps.1.1.0 r refl, tt)))
  numbered final (nodes.While a b) it h =
      let ps = parts_are p s e (nodes.While a b) at it in (part_in p program final s e (nodes.While a b) at it 0 a ps.0 r refl, (part_in p program final s e (nodes.While a b) at it 1 b ps.1.0 r refl, tt))
  numbered final (nodes.Do a b) it h =
      let ps = parts_are p s e (nodes.Do a b) at it in (part_in p program final s e (nodes.Do a b) at it 0 a ps.0 r refl, (part_in p program final s e (nodes.Do a b) at it 1 b ps.1.0 r refl, tt))
  numbered final (nodes.Throw a) it h = let ps = parts_are p s e (nodes.Throw a) at it in (part_in p program final s e (nodes.Throw a) at it 0 a ps.0 r refl, tt)
  numbered final _ it h = absurd (cc (h))

  pub plain_does : (x : Statement) → is_plain e.node ≡ true → IsPlain (number_at p s) e.node x → Does p s known linked x
  plain_does x h f = does_at p s e e.node at refl known linked x (λ final code b d. f code (numbering_of p final) r (arena_at p s).text (tree_in (arena_at p s)) e.place h (numbered final e.node refl h))

  pub no_statement_does : is_no_statement (tree_of (arena_at p s).text (tree_in (arena_at p s)) e.place e.node) ≡ true → Does p s known linked statements.Stuck
  no_statement_does h = does_at p s e e.node at refl known linked statements.Stuck (λ final code b d. resolved.other _ h)

  pub block_does : (a : ℕ) (ns : Nodes) → e.node ≡ nodes.Block a → AreLinked p (record s { node = a }) linked ns → Does p s known linked (statements.Block ns)
  block_does a ns is links = does_at p s e (nodes.Block a) at is known linked (statements.Block ns)
      (λ final code b d. resolved.block e.place (node_tree p s.file a) ns (arguments_are p program known linked final code b s e (nodes.Block a) at is 0 a (parts_are p s e (nodes.Block a) at is).0 ns links r refl))

  pub try_does : (a c : ℕ) (ns : Nodes) → e.node ≡ nodes.Try a c → AreLinked p (record s { node = c }) linked ns → Does p s known linked (statements.Try (number_at p s a) ns)
  try_does a c ns is links =
      let n : Node = nodes.Try a c in
      let ps = parts_are p s e n at is in
      does_at p s e n at is known linked (statements.Try (number_at p s a) ns)
      (λ final code b d. resolved.try e.place (node_tree p s.file a) (node_tree p s.file c) (number_at p s a) ns (part_in p program final s e n at is 0 a ps.0 r refl)
      (catches_are p final code d r (items (node_tree p s.file c)) (listed code ns) (arguments_are p program known linked final code b s e n at is 1 c ps.1.0 ns links r refl)))

  pub local_does : (t a : ℕ) (ns : Nodes) → e.node ≡ nodes.Local t a → AreLinked p (record s { node = a }) linked ns → Does p s known linked (statements.Declare ns)
  local_does t a ns is links =
      let inner : Scope = declaring_locals r (node_tree p s.file t) in
      does_at p s e (nodes.Local t a) at is known linked (statements.Declare ns)
      (λ final code b d. resolved.declaration e.place (node_tree p s.file t) (node_tree p s.file a) ns
      (declarators_are p final code d inner (items (node_tree p s.file a)) (listed code ns) refl (arguments_are p program known linked final code b s e (nodes.Local t a) at is 1 a (parts_are p s e (nodes.Local t a) at is).1.0 ns links inner refl)))

  pub leave_does : (a : ℕ) → e.node ≡ nodes.Return a → node_tree p s.file a ≡ trees.Nil → Does p s known linked statements.Leave
  leave_does a is nil = does_at p s e (nodes.Return a) at is known linked statements.Leave
      (λ final code b d. subst (λ (t : Tree). IsStatement code (numbering_of p final) r (trees.Return e.place t) statements.Leave) (sym nil) (resolved.leave e.place))

  pub return_does : (a i : ℕ) → e.node ≡ nodes.Return a → (node_tree p s.file a ≡ trees.Nil → ⊥) → i ≡ number_at p s a → Does p s known linked (statements.Return i)
  return_does a i is some number = does_at p s e (nodes.Return a) at is known linked (statements.Return i)
      (λ final code b d. resolved.return e.place (node_tree p s.file a) i some (subst (λ (k : ℕ). IsPart (numbering_of p final) r (node_tree p s.file a) k) (sym number) (part_in p program final s e (nodes.Return a) at is 0 a (parts_are p s e (nodes.Return a) at is).0 r refl)))

  pub for_does : (i c u a : ℕ) (ns us : Nodes) (o : Option ℕ) → e.node ≡ nodes.For i c u a → AreLinked p (record s { node = i }) linked ns → IsMaybe (node_tree p s.file c) (number_at p s c) o → AreLinked p (record s { node = u }) linked us
      → Does p s known linked (statements.For ns o us (number_at p s a))
  for_does i c u a ns us o is before test updates =
      let n : Node = nodes.For i c u a in
      let ps = parts_are p s e n at is in
      let first : Tree = node_tree p s.file i in
      let inner : Scope = after r first in
      let same : running (after (scope_at p s) first) ≡ inner = sym (running_same (scope_at p s) first).scope in
      does_at p s e n at is known linked (statements.For ns o us (number_at p s a))
      (λ final code b d. resolved.for e.place first (node_tree p s.file c) (node_tree p s.file u) (node_tree p s.file a) ns o us (number_at p s a)
      (arguments_are p program known linked final code b s e n at is 0 i ps.0 ns before r refl)
      (partial_is p final inner (node_tree p s.file c) (number_at p s c) o test (part_in p program final s e n at is 1 c ps.1.0 inner same))
      (arguments_are p program known linked final code b s e n at is 2 u ps.1.1.0 us updates inner same)
      (part_in p program final s e n at is 3 a ps.1.1.1.0 inner same))

-- other nodes are no statements
pub no_other_statement : (text : List ℕ) (look : ℕ → Tree) (pl : Place) (n : Node) → is_plain n ≡ false → ((a : ℕ) → n ≡ nodes.Block a → ⊥) → ((a c : ℕ) → n ≡ nodes.Try a c → ⊥) → ((t a : ℕ) → n ≡ nodes.Local t a → ⊥) → ((i c u a : ℕ) → n ≡ nodes.For i c u a → ⊥) → ((a : ℕ) → n ≡ nodes.Return a → ⊥)
    → is_no_statement (tree_of text look pl n) ≡ true
no_other_statement text look pl (nodes.Block a) h k c l f q = absurd (k a refl)
no_other_statement text look pl (nodes.Try a b) h k c l f q = absurd (c a b refl)
no_other_statement text look pl (nodes.Local t a) h k c l f q = absurd (l t a refl)
no_other_statement text look pl (nodes.For i x u a) h k c l f q = absurd (f i x u a refl)
no_other_statement text look pl (nodes.Return a) h k c l f q = absurd (q a refl)
no_other_statement text look pl nodes.Empty h k c l f q = absurd (cc (h))
no_other_statement text look pl nodes.Break h k c l f q = absurd (cc (h))
no_other_statement text look pl nodes.Continue h k c l f q = absurd (cc (h))
no_other_statement text look pl (nodes.ExpressionStatement a) h k c l f q = absurd (cc (h))
no_other_statement text look pl (nodes.Throw a) h k c l f q = absurd (cc (h))
no_other_statement text look pl (nodes.IfThen a b) h k c l f q = absurd (cc (h))
no_other_statement text look pl (nodes.IfElse a b d) h k c l f q = absurd (cc (h))
no_other_statement text look pl (nodes.While a b) h k c l f q = absurd (cc (h))
no_other_statement text look pl (nodes.Do a b) h k c l f q = absurd (cc (h))
no_other_statement text look pl _ h k c l f q = refl
