-- Declarators of locals.
use Rattle.std.proofs.Common.{◌≡◌, refl, sym, ap, ◌∙◌, ℕ, ◌+◌, Bool, cond, List, length, subst, Option, Some, None}
use Rattle.std.proofs.lemmas.Slice.Eq.{bytes_eq-Decides}
use Rattle.kr_ast.specs.Tree.{Tree}
use Rattle.kr_ast.specs.Arena.{name_in}
use Rattle.kr_ast.specs.declared.node.Name.{Name}
use Rattle.kr_ast.specs.declared.node.Entry.{Entry}
use Rattle.kr_ast.specs.declared.node.Node.TheVariants as nodes
use Rattle.kr_value.specs.declared.value.Value.{Value}
use Rattle.kr_classes_table.specs.Types.{JavaType}
use Rattle.kr_classes_table.specs.Table.{Field}
use Rattle.kr_types_meaning.specs.Scopes.{Declaring, Scope, LocalName, NoName, Locals, bind_local, bind_as, meant_by}
use Rattle.kr_types_meaning.specs.Handing.{handed}
use Rattle.kr_types_meaning.specs.Running.{local_type, running}
use Rattle.kr_types.specs.declared.program.Program.{Program}
use Rattle.kr_types.specs.Programs.{IsProgram}
use Rattle.kr_mean.specs.Program.{default_of}
use Rattle.kr_code.specs.Resolved.{IsDeclarator}
use Rattle.kr_code_lowering.specs.declared.site.Site.{Site}
use Rattle.kr_code_lowering.specs.Origins.{Final, node_scope, node_tree, numbering_of}
use Rattle.kr_code_lowering.specs.Sites.{IsHere, arena_at, scope_at, tree_at, number_at}
use Rattle.kr_code_lowering.specs.Named.{IsLocal, IsNoLocal}
use Rattle.kr_code_lowering.specs.Statements.{IsMaybe}
use Rattle.kr_code_lowering.proofs.Parts.{part_in, part_scope, tree_is}
use Rattle.kr_code_lowering.proofs.Naming.{parts_are}
use Rattle.kr_code_lowering.proofs.Performed.{partial_is}

newest : (x : List ℕ) (t : JavaType) (s : Scope) (f : Option Field) → meant_by (bind_local x t s).locals f x ≡ LocalName (length s.locals) t
newest x t s f = ap (λ (b : Bool). cond b (LocalName (length s.locals) t) (meant_by s.locals f x)) ((bytes_eq-Decides x x).1 refl)

-- the number of a local in its own initial value
pub own_number : (x : List ℕ) (t : JavaType) (s r : Scope) (k : ℕ) → r ≡ bind_local x t s → IsLocal r x k → k ≡ length s.locals
own_number x t s r k e h =
    let w = h None in
    let same : LocalName k w.0 ≡ LocalName (length s.locals) t = sym w.1 ∙ (ap (λ (q : Scope). meant_by q.locals None x) e ∙ newest x t s None) in
    cc (same)

pub own_there : (x : List ℕ) (t : JavaType) (s r : Scope) → r ≡ bind_local x t s → IsNoLocal r x → ⊥
own_there x t s r e h =
    let same : NoName ≡ LocalName (length s.locals) t = sym (h None) ∙ (ap (λ (q : Scope). meant_by q.locals None x) e ∙ newest x t s None) in
    cc (same)

module _ (p : Program) (program : IsProgram p) (s : Site) (e : Entry) (at : IsHere p s e) (n : Name) (i : ℕ) (is : e.node ≡ nodes.Declarator n i) (locals : (scope_at p s).declaring ≡ Locals) where
  abbrev x : List ℕ
  x = name_in (arena_at p s).text n

  abbrev r : Scope
  r = scope_at p s

  pub initial_scope : node_scope p s.file i ≡ bind_local x r.declared r
  initial_scope = part_scope p program s at.site 0 i (parts_are p s e (nodes.Declarator n i) at is).0 ∙ (ap (λ (t : Tree). handed r t 0) (tree_is p s e (nodes.Declarator n i) at is) ∙ ap (λ (d : Declaring). bind_as d x r) locals)

  declared : (running r).declared ≡ r.declared
  declared = ap (λ (d : Declaring). local_type d r.declared) locals

  pub declares : (k : ℕ) (v : Value) (o : Option ℕ) → k ≡ length r.locals → v ≡ default_of r.declared → IsMaybe (node_tree p s.file i) (number_at p s i) o → (final : Final) → IsDeclarator (numbering_of p final) (running r) (tree_at p s) (Some (record { local = k; default = v; initial = o }))
  declares k v o number default maybe final =
      let inner : Scope = bind_local x (running r).declared (running r) in
      let same : running (bind_as r.declaring x r) ≡ inner = ap (λ (d : Declaring). running (bind_as d x r)) locals ∙ ap (λ (t : JavaType). bind_local x t (running r)) (sym declared) in
      subst (λ (t : Tree). IsDeclarator (numbering_of p final) (running r) t (Some (record { local = k; default = v; initial = o }))) (sym (tree_is p s e (nodes.Declarator n i) at is))
      (number, default ∙ ap default_of (sym declared), partial_is p final inner (node_tree p s.file i) (number_at p s i) o maybe (part_in p program final s e (nodes.Declarator n i) at is 0 i (parts_are p s e (nodes.Declarator n i) at is).0 inner same))
