-- The scope of a part, and those of the code of methods and constructors.
use Rattle.std.proofs.Common.{◌≡◌, refl, sym, ap, ◌∙◌, subst, ℕ, ◌<◌, inl, inr, Bool, List, [], ◌∷◌, ◌++◌, length, map, append_assoc, append-nil, arith}
use Rattle.std.specs.Prelude.{Option, Some, None, slice_get, reverse}
use Rattle.std.proofs.lemmas.List.{reverse-append}
use Rattle.std.proofs.lemmas.Option.{slice_get_cases}
use Rattle.kr_base.specs.declared.place.Place.{Place}
use Rattle.kr_ast.specs.Tree as trees
use Rattle.kr_ast.specs.Tree.{Tree}
use Rattle.kr_ast.specs.Arena.{ArePartsFrom, IsPart, parts, tree_in, tree_of}
use Rattle.kr_ast.specs.declared.node.Entry.{Entry}
use Rattle.kr_ast.specs.declared.node.Node.{Node}
use Rattle.kr_classes_table.specs.Table.{Table, parameters_in, type_named}
use Rattle.kr_classes_table.specs.Constants.{Known, values_of}
use Rattle.kr_types_meaning.specs.Scopes.{Scope, Local, after, bind_local, scope_of, static_if, written}
use Rattle.kr_laws_types.specs.Derivation as shapes
use Rattle.kr_types_meaning.specs.Handing.{handed}
use Rattle.kr_types_meaning.specs.Running.{running}
use Rattle.kr_types.specs.declared.program.Program.{Program}
use Rattle.kr_types.specs.declared.program.TypedFile.{TypedFile}
use Rattle.kr_types.specs.Programs.{IsProgram}
use Rattle.kr_mean.specs.Program.{parameter_local, with_parameters}
use Rattle.kr_code_members.specs.Nodes.{IsHere, IsThere, arena_at, node_scope, node_tree, scope_in, table}
use Rattle.kr_code_members.specs.Walk.{AreParameters}

-- ---- parts

absent : {A : Type 0} (xs : List A) (i : ℕ) → i < length xs → slice_get xs i ≡ None → ⊥
absent xs i h e = elim (slice_get_cases xs i).1 [ inl w ↦ (let is = w.2 in cc) | inr w ↦ omega (arith, w.0, h) ]

handed_in : (p : Program) → IsProgram p → (f i j c : ℕ) → IsThere p f i → IsPart (arena_at p f).entries i j c → (o : Option TypedFile) → slice_get p.files.items f ≡ o → scope_in p f c o ≡ handed (scope_in p f i o) (node_tree p f i) j
handed_in p is f i j c at part None e = absurd (absent p.files.items f (omega (arith, is.count, at.file)) e)
handed_in p is f i j c at part (Some t) e = ((is.files f t e).scopes (table p) (values_of (table p))).hands i j c at.node part

-- a part has the scope that the node hands to it
pub part_scope : (p : Program) → IsProgram p → (f i j c : ℕ) → IsThere p f i → IsPart (arena_at p f).entries i j c → node_scope p f c ≡ handed (node_scope p f i) (node_tree p f i) j
part_scope p is f i j c at part = handed_in p is f i j c at part (slice_get p.files.items f) refl

pub part_there : (p : Program) (f i j c : ℕ) → IsThere p f i → IsPart (arena_at p f).entries i j c → IsThere p f c
part_there p f i j c at part = record { file = at.file; node = omega (arith, part.below, at.node) }

pub tree_is : (p : Program) (f i : ℕ) (e : Entry) (n : Node) → IsHere p f i e → e.node ≡ n → node_tree p f i ≡ tree_of (arena_at p f).text (tree_in (arena_at p f)) e.place n
tree_is p f i e n at is = at.tree ∙ ap (tree_of (arena_at p f).text (tree_in (arena_at p f)) e.place) is

pub parts_are : (p : Program) (f i : ℕ) (e : Entry) (n : Node) → IsHere p f i e → e.node ≡ n → ArePartsFrom (arena_at p f).entries i 0 (parts n)
parts_are p f i e n at is = subst (λ (m : Node). ArePartsFrom (arena_at p f).entries i 0 (parts m)) is at.parts

table_in_scope : (p : Program) (f i : ℕ) (o : Option TypedFile) → ((scope_in p f i o).table ≡ table p) × ((scope_in p f i o).values ≡ values_of (table p))
table_in_scope p f i None = (refl, refl)
table_in_scope p f i (Some t) = (refl, refl)

-- all scopes are of the program's class table
pub scope_table : (p : Program) (f i : ℕ) → ((node_scope p f i).table ≡ table p) × ((node_scope p f i).values ≡ values_of (table p))
scope_table p f i = table_in_scope p f i (slice_get p.files.items f)

-- ---- methods and constructors

abbrev with_locals : List Local → Scope → Scope
with_locals ls s = record s { locals = ls }

pub parameters : (t : Tree) → shapes.AreParameters t → AreParameters t
parameters trees.Nil h = tt
parameters (trees.Cons (trees.Parameter p t n) b) h = parameters b h.1
parameters (trees.Cons _ b) h = absurd h
parameters _ h = absurd h

-- parameters are the locals after them
after_parameters : (s : Scope) (ps : Tree) → AreParameters ps → after s ps ≡ with_locals (reverse (map parameter_local (parameters_in s.table.headings ps)) ++ s.locals) s
after_parameters s trees.Nil h = refl
after_parameters s (trees.Cons (trees.Parameter p t n) b) h =
    let w = written s t in
    let rest = map parameter_local (parameters_in s.table.headings b) in
    let l : Local = record { name = n; type = w } in
    after_parameters (bind_local n w s) b h
    ∙ ap (λ (ls : List Local). with_locals ls s) (sym (append_assoc (reverse rest) (l ∷ []) s.locals) ∙ ap (λ (ls : List Local). ls ++ s.locals) (sym (reverse-append (l ∷ []) rest)))
after_parameters s (trees.Cons _ b) h = absurd h
after_parameters s _ h = absurd h

-- a method's scope, as typing and the meaning have it
pub method_body : (t : Table) (v : List Known) (c : ℕ) (st : Bool) (q : Place) (r ps cs : Tree) → AreParameters ps
    → running (after (static_if st (scope_of t v c)) (trees.Signature q r ps cs)) ≡ with_parameters (parameters_in t.headings ps) (record (scope_of t v c) { is_static = st; result = type_named t.headings r })
method_body t v c st q r ps cs h =
    let s = static_if st (scope_of t v c) in
    ap (λ (z : Scope). running (record z { result = written s r })) (after_parameters s ps h ∙ ap (λ (ls : List Local). with_locals ls s) (append-nil (reverse (map parameter_local (parameters_in t.headings ps)))))

pub constructor_body : (t : Table) (v : List Known) (c : ℕ) (ps : Tree) → AreParameters ps → running (after (scope_of t v c) ps) ≡ with_parameters (parameters_in t.headings ps) (scope_of t v c)
constructor_body t v c ps h =
    let s = scope_of t v c in
    ap running (after_parameters s ps h ∙ ap (λ (ls : List Local). with_locals ls s) (append-nil (reverse (map parameter_local (parameters_in t.headings ps)))))
