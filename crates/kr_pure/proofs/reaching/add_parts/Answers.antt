use Rattle.std.proofs.Common.{◌≡◌, sym, ap, ◌∙◌, subst, ℕ, ◌+◌, ◌<◌, List, ◌++◌, ◌∷◌, [], All, Some, length, map, take, get_or, arith}
use Rattle.std.specs.Prelude.{slice_get}
use Rattle.std.proofs.lemmas.List.{map-append, take_more}
use Rattle.kr_ast.specs.Arena.{Arena}
use Rattle.kr_ast.specs.declared.node.Entry.{Entry}
use Rattle.kr_ast.specs.declared.files.NodeId.{NodeId}
use Rattle.kr_ast.specs.Files.{file_at}
use Rattle.kr_pure.specs.Walk.{walk_parts}
use Rattle.kr_pure.specs.Found.{IsAdded}
use Rattle.kr_pure.proofs.Adding.{none_added, then_added}
use Rattle.kr_pure.specs.Reach.{beside}
use Rattle.kr_pure.proofs.Lists.{take_past}
use Rattle.kr_pure.proofs.Steps.{parts_below, some_same}
use Rattle.kr_pure.proofs.reaching.add_parts.Goals as goal

pub loop-part-init : goal.loop-part-init
loop-part-init c = record { found = c.requires.found; added = none_added c.args.found.now.nodes.items }

pub add-requires-clause-node : goal.add-requires-clause-node
add-requires-clause-node c =
    let xs = c.as_slice-part-items.result.now in
    let i = c.loop-part.part-index in
    let l : i < length xs = omega arith in
    let all = parts_below c.tree_of.result.now.entries c.args.at.node c.entry-entry.result.node c.entry-entry.ensures.parts in
    let here : xs ≡ walk_parts c.entry-entry.result.node = c.as_slice-part-items.ensures.all ∙ c.walked_parts-parts.ensures in
    let below : get_or xs i 0 < c.args.at.node = subst (λ (ys : List ℕ). All (λ k. k < c.args.at.node) ys) (sym here) all i 0 l in
    let trees : c.deref-in-loop-part.result.now ≡ c.args.program.now.trees.items = c.deref-in-loop-part.ensures.value in
    subst (λ (ts : List Arena). Rattle.kr_ast.specs.Files.IsNode ts (record { file = c.args.at.file; node = get_or xs i 0 })) (sym trees)
    (record { file = c.requires.node.file; node = let n = c.requires.node.node in omega (arith, below, n) })

pub loop-part-preserved : goal.loop-part-preserved
loop-part-preserved c =
    let xs = c.as_slice-part-items.result.now in
    let i = c.loop-part.part-index in
    let l : i < length xs = omega arith in
    let old = c.args.found.now.nodes.items in
    let new = c.add.new.self.nodes.items in
    let more : map (beside c.args.at) (take (i + 1) xs) ≡ map (beside c.args.at) (take i xs) ++ beside c.args.at (get_or xs i 0) ∷ [] =
    ap (map (beside c.args.at)) (take_more xs i 0 l) ∙ map-append (beside c.args.at) (take i xs) (get_or xs i 0 ∷ []) in
    record {
      found = subst (λ (ts : List Arena). Rattle.kr_pure.specs.Found.AreFound ts c.add.new.self) c.deref-in-loop-part.ensures.value c.in_ok-add.ensures.found;
      added = subst (λ (ys : List NodeId). IsAdded old ys new) (sym more) (then_added old (map (beside c.args.at) (take i xs)) c.loop-part.found.nodes.items (beside c.args.at (get_or xs i 0) ∷ []) new c.loop-part.invariant.added c.in_ok-add.ensures.added);
    }

pub returns-clause-added : goal.returns-clause-added
returns-clause-added c =
    let p = c.args.program.now in
    let xs = c.as_slice-part-items.result.now in
    let here : xs ≡ walk_parts c.entry-entry.result.node = c.as_slice-part-items.ensures.all ∙ c.walked_parts-parts.ensures in
    let file : c.tree_of.result.now ≡ file_at p.trees.items c.args.at.file = c.tree_of.ensures ∙ ap (λ (ts : List Arena). file_at ts c.args.at.file) c.deref.ensures.value in
    let at : slice_get (file_at p.trees.items c.args.at.file).entries c.args.at.node ≡ Some c.entry-entry.result = subst (λ (a : Arena). slice_get a.entries c.args.at.node ≡ Some c.entry-entry.result) file c.entry-entry.ensures.here in
    let whole = take_past xs c.loop-part.part-index (omega arith) in
    λ e q.
    let same : c.entry-entry.result ≡ e = some_same c.entry-entry.result e (sym at ∙ q) in
    subst (λ (ys : List NodeId). IsAdded c.args.found.now.nodes.items ys c.loop-part.found.nodes.items) (ap (map (beside c.args.at)) (whole ∙ (here ∙ ap (λ (x : Entry). walk_parts x.node) same))) c.loop-part.invariant.added
