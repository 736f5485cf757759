-- Contract lines, one by one.
use Rattle.std.proofs.Common.{◌≡◌, refl, sym, ap, ◌∙◌, Bool, ℕ, ◌+◌, ◌<◌, List, [], ◌∷◌, ◌++◌, map, subst, arith, append-nil, append_assoc, Option, Some, None}
use Rattle.std.specs.Prelude.{IfSome, MatchOption, flat_map}
use Rattle.std.proofs.lemmas.List.{map-append}
use Rattle.kr_ast.specs.Tree as trees
use Rattle.kr_ast.specs.Tree.{Tree}
use Rattle.kr_ast.specs.declared.node.Entry.{Entry}
use Rattle.kr_ast.specs.declared.node.Node.TheVariants as nodes
use Rattle.kr_classes_table.specs.Table.{items}
use Rattle.kr_types_meaning.specs.Scopes.{Requiring, Scope, after, in_contract, in_old}
use Rattle.kr_types_meaning.specs.Handing.{handed}
use Rattle.kr_types_meaning.specs.Running.{running}
use Rattle.kr_laws_types.specs.Derivation.{AreContractLines, IsContractLine}
use Rattle.kr_mean.specs.Code as meaning
use Rattle.kr_mean.specs.Runs.{required_in}
use Rattle.kr_types.specs.declared.program.Program.{Program}
use Rattle.kr_types.specs.Programs.{IsProgram}
use Rattle.kr_code_lowering.specs.declared.site.Site.{Site}
use Rattle.kr_code_lowering.specs.Origins.{Final, node_scope, node_tree, numbering_of}
use Rattle.kr_code_lowering.specs.Lists.{IsAhead, IsList}
use Rattle.kr_code_lowering.specs.Sites.{IsHere, IsSite, number_at, scope_at, tree_at}
use Rattle.kr_code_lowering.proofs.Parts.{part_in, part_scope, tree_is}
use Rattle.kr_code_lowering.proofs.Naming.{parts_are}
use Rattle.kr_mean.specs.Verdicts.{OldNode, old_in}
use Rattle.kr_judge_code.specs.Olds.{shown}
use Rattle.kr_judge_code.specs.Lines.{IsLine, IsWithin, required}

-- a contract line leaves the scope as it is
still : (s : Scope) (t : Tree) → IsContractLine t → after s t ≡ s
still s (trees.Requires p e) h = refl
still s (trees.Ensures p e) h = refl
still s (trees.Signals p d e) h = refl
still s _ h = absurd h

within : (p : Program) (list : Site) → IsSite p list → (c : ℕ) → c < list.node → node_scope p list.file c ≡ scope_at p list → IsWithin p list c
within p list at c h scope = record { site = record { file = at.file; node = omega (arith, at.node, h); first = at.first }; scope = scope }

line_is : (p : Program) → IsProgram p → (list : Site) (e : Entry) → IsHere p list e → AreContractLines (tree_at p list) → (a b : ℕ) → e.node ≡ nodes.Cons a b → IsLine p list a b
line_is p is list e at shape a b it =
    let ps = parts_are p list e (nodes.Cons a b) at it in
    let x : Tree = node_tree p list.file a in
    let y : Tree = node_tree p list.file b in
    let t : tree_at p list ≡ trees.Cons x y = tree_is p list e (nodes.Cons a b) at it in
    let shapes : IsContractLine x × AreContractLines y = subst AreContractLines t shape in
    let first : node_scope p list.file a ≡ scope_at p list = part_scope p is list at.site 0 a ps.0 ∙ ap (λ (u : Tree). handed (scope_at p list) u 0) t in
    let second : node_scope p list.file b ≡ scope_at p list = part_scope p is list at.site 1 b ps.1.0 ∙ (ap (λ (u : Tree). handed (scope_at p list) u 1) t ∙ still (scope_at p list) x shapes.0) in
    record {
      before = ps.1.0.below;
      line = within p list at.site a ps.0.below first;
      rest = within p list at.site b ps.1.0.below second;
      lines = ap items t;
      one = shapes.0;
      shape = shapes.1;
    }

-- a list of contract lines is empty, or a line and the rest
pub first_is : (p : Program) → IsProgram p → (list : Site) → AreContractLines (tree_at p list) → (o : Option (ℕ × ℕ)) → MatchOption o (items (tree_at p list) ≡ []) (λ q. IsAhead p list q.0 q.1) → IfSome o (λ q. IsList p list q.0 q.1)
    → MatchOption o (items (tree_at p list) ≡ []) (λ q. IsLine p list q.0 q.1)
first_is p is list shape None ahead here = ahead
first_is p is list shape (Some q) ahead here = line_is p is list here.entry here.here shape q.0 q.1 here.node

-- the condition of a precondition is where it is required
pub required_is : (p : Program) → IsProgram p → (line : Site) (e : Entry) → IsHere p line e → (a : ℕ) → e.node ≡ nodes.Requires a → (s : Scope) (final : Final) → running (scope_at p line) ≡ s → map (numbering_of p final).origin ((number_at p line a) ∷ []) ≡ required s (tree_at p line ∷ [])
required_is p is line e at a it s final runs =
    let ps = parts_are p line e (nodes.Requires a) at it in
    let t : tree_at p line ≡ trees.Requires e.place (node_tree p line.file a) = tree_is p line e (nodes.Requires a) at it in
    let here = part_in p is final line e (nodes.Requires a) at it 0 a ps.0 (in_contract Requiring s) (ap (λ (r : Scope). in_contract Requiring r) runs) in
    ap (λ n. n ∷ []) here ∙ sym (ap (λ (u : Tree). required s (u ∷ [])) t)

-- the preconditions of a line, and then those of the lines after it
pub required_more : (s : Scope) (t : Tree) (ts : List Tree) → required s (t ∷ ts) ≡ required s (t ∷ []) ++ required s ts
required_more s t ts =
    let f = λ (u : Tree). let made : meaning.Node = record { scope = in_contract Requiring s; tree = u } in made in
    map-append f (required_in t) (flat_map required_in ts) ∙ ap (λ (us : List Tree). map f us ++ required s ts) (sym (append-nil (required_in t)))

pub more_required : (p : Program) (s : Scope) (final : Final) (at : Site) (line rest : ℕ) → IsLine p at line rest → (old new some : List ℕ) → new ≡ old ++ some → map (numbering_of p final).origin some ≡ required s (tree_at p (record at { node = line }) ∷ [])
    → map (numbering_of p final).origin new ++ required s (items (tree_at p (record at { node = rest }))) ≡ map (numbering_of p final).origin old ++ required s (items (tree_at p at))
more_required p s final at line rest is old new some e h =
    let o = (numbering_of p final).origin in
    let t : Tree = tree_at p (record at { node = line }) in
    let ts : List Tree = items (tree_at p (record at { node = rest })) in
    ap (λ (is : List ℕ). map o is ++ required s ts) e
    ∙ (ap (λ (ns : List meaning.Node). ns ++ required s ts) (map-append o old some)
    ∙ (append_assoc (map o old) (map o some) (required s ts)
    ∙ (ap (λ (ns : List meaning.Node). map o old ++ (ns ++ required s ts)) h
    ∙ ap (λ (ns : List meaning.Node). map o old ++ ns) (sym (required_more s t ts) ∙ ap (required s) (sym is.lines)))))

-- ---- `\old`s

-- the operand of the `\old`
pub old_is : (named : Bool) (p : Program) → IsProgram p → (at : Site) (e : Entry) → IsHere p at e → (a : ℕ) → e.node ≡ nodes.Old a → (final : Final) → shown p final (record { place = e.place; operand = number_at p at a; is_named = named } ∷ []) ≡ old_in named (running (scope_at p at)) (tree_at p at)
old_is named p is at e here a it final =
    let ps = parts_are p at e (nodes.Old a) here it in
    let t : tree_at p at ≡ trees.Old e.place (node_tree p at.file a) = tree_is p at e (nodes.Old a) here it in
    let part = part_in p is final at e (nodes.Old a) here it 0 a ps.0 (in_old (running (scope_at p at))) refl in
    ap (λ (n : meaning.Node). let made : OldNode = record { place = e.place; is_named = named; scope = n.scope; tree = n.tree } in made ∷ []) part ∙ sym (ap (old_in named (running (scope_at p at))) t)
