use Rattle.std.proofs.Common.{◌≡◌, sym, ap, ◌∙◌, ℕ, ◌+◌, ◌-◌, ◌≤◌, List, [], ◌∷◌, ◌++◌, length, map, take, drop, arith, append-nil, append_assoc, length-drop}
use Rattle.std.proofs.lemmas.List.{length-map, map-append}
use Rattle.kr_ast.specs.Tree.{Tree}
use Rattle.kr_classes_table.specs.Types.{JavaType}
use Rattle.kr_classes_table.specs.Table.{items}
use Rattle.kr_classes_names.specs.Types.{type_at}
use Rattle.kr_code_members.specs.Nodes.{table}
use Rattle.kr_code_lowering.specs.declared.site.Site.{Site}
use Rattle.kr_code_lowering.specs.Origins.{node_tree}
use Rattle.kr_code_lowering.specs.Sites.{tree_at}
use Rattle.kr_code_lowering.specs.Bodies.{parameter_type}
use Rattle.kr_code_lowering.proofs.Growth.{drop_push, grown_length, grown_push, take_grown}
use Rattle.kr_code_lowering.proofs.parameters.parameter_links.Goals as goal

pub loop-item-preserved : goal.loop-item-preserved
loop-item-preserved c =
    let p = c.args.program.now in
    let at = c.loop-item.at in
    let i = c.loop-item.invariant in
    let k = c.len-start.result in
    let links = c.loop-item.links in
    let look = type_at p.table.types in
    let named = parameter_type (table p).headings in
    let x = c.parameter_type.result in
    let item = node_tree p at.file c.in-Some.item in
    let rest = items (node_tree p at.file c.in-Some.rest) in
    let l : k ≤ length links = omega (arith, i.start, grown_length c.args.links.now links i.grown) in
    let typed : look x ≡ named item = (rw c.at.ensures at c.parameter_type.ensures).type_is in
    let pushed : drop k c.push.new.self ≡ drop k links ++ x ∷ [] = sym (append-nil (drop k c.push.new.self)) ∙ drop_push k links c.push.new.self [] x l c.in_ok-push.ensures.added in
    record {
      site = rw c.at-at.ensures (record { file = i.site.file; node = omega (arith, c.in-Some.ensures.behind, i.site.node); first = i.site.first });
      start = i.start;
      grown = grown_push c.args.links.now links c.push.new.self x i.grown c.in_ok-push.ensures.added;
      ahead =
          ap (λ (s : Site). map look (drop k c.push.new.self) ++ map named (items (tree_at p s))) c.at-at.ensures
          ∙ ap (λ (xs : List ℕ). map look xs ++ map named rest) pushed
          ∙ ap (λ (ts : List JavaType). ts ++ map named rest) (map-append look (drop k links) (x ∷ []))
          ∙ append_assoc (map look (drop k links)) (look x ∷ []) (map named rest)
          ∙ ap (λ (t : JavaType). map look (drop k links) ++ (t ∷ map named rest)) typed
          ∙ ap (λ (ts : List Tree). map look (drop k links) ++ map named ts) (sym c.in-Some.ensures.shown)
          ∙ i.ahead;
    }

pub returns-clause-typed : goal.returns-clause-typed
returns-clause-typed c =
    let p = c.args.program.now in
    let at = c.loop-item.at in
    let i = c.loop-item.invariant in
    let k = c.len-start.result in
    let links = c.loop-item.links in
    let look = type_at p.table.types in
    let named = parameter_type (table p).headings in
    let all = items (tree_at p c.args.list) in
    let l : k ≤ length links = omega (arith, i.start, grown_length c.args.links.now links i.grown) in
    let types : map look (drop k links) ≡ map named all = sym (append-nil (map look (drop k links))) ∙ ap (λ (ts : List Tree). map look (drop k links) ++ map named ts) (sym c.in_default.ensures.shown) ∙ i.ahead in
    record {
      count = omega (arith, c.len.ensures, length-drop k links, l, length-map (drop k links) look, length-map all named, ap (λ (ts : List JavaType). length ts) types);
      types = λ more g. ap (λ (n : ℕ). map look (take (n - k) (drop k more))) c.len.ensures ∙ ap (map look) (take_grown k links more l g) ∙ types;
    }
