use Rattle.std.proofs.Common.{◌≡◌, ◌∙◌, sym, ap, true, false, ◌&&◌, ◌+◌, map, drop, get_or, arith, rules}
use Rattle.kr_ast.specs.Arena.{Arena, tree_in}
use Rattle.kr_classes_table.specs.Table.{type_named}
use Rattle.kr_classes_members.specs.Shown.{headings_in, table_in}
use Rattle.kr_classes_names.specs.Types.{type_at}
use Rattle.kr_types_judging.specs.Shown.{goes_into}
use Rattle.kr_types_judging.specs.Arguments.{arguments_go_into, listed_types}
use Rattle.kr_types_judging.proofs.Walking.{one_more, none_left}
use Rattle.kr_types_judging.proofs.arguments.arguments_fit.Goals as goal

pub returns-in-None : goal.returns-in-None
returns-in-None c =
    let files = c.args.classes.now.trees.now in
    let l = c.args.classes.now.types.now in
    let xs = c.args.arguments.now in
    let i = c.loop-argument.argument-index in
    let t = table_in files in
    let hs = headings_in files in
    let here = listed_types c.tree_of-tree.result.now c.loop-argument.at in
    sym (none_left t hs (type_at l) xs i here (omega arith) c.in-None.ensures.shown) ∙ c.loop-argument.invariant.same

pub returns-then-not-takes : goal.returns-then-not-takes
returns-then-not-takes c =
    let files = c.args.classes.now.trees.now in
    let l = c.args.classes.now.types.now in
    let xs = c.args.arguments.now in
    let i = c.loop-argument.argument-index in
    let t = table_in files in
    let hs = headings_in files in
    let here = listed_types c.tree_of-tree.result.now c.loop-argument.at in
    let tree = c.tree_of-tree.result.now in
    let rest = listed_types tree c.in-Some.next.rest in
    let p = tree_in tree c.in-Some.next.declared in
    let named : type_at l c.number-to.result ≡ type_named hs p =
    ap (type_at l) c.number-to.ensures ∙ (c.requires.classes.numbers c.args.file c.in-Some.next.declared).type_is ∙ ap (λ (a : Arena). type_named hs (tree_in a c.in-Some.next.declared)) (sym c.tree_of-tree.ensures) in
    let taken : c.takes.result ≡ goes_into t (type_named hs p) (type_at l (get_or xs i 0)) = c.takes.ensures files c.requires.classes.members ∙ ap (λ x. goes_into t x (type_at l (get_or xs i 0))) named in
    let more = one_more t hs (type_at l) xs i here rest p (omega arith) c.in-Some.ensures.shown in
    let refused : c.takes.result ≡ false = grind (arith, rules) in
    sym (more ∙ ap (λ b. b && arguments_go_into t hs (map (type_at l) (drop (i + 1) xs)) rest) (sym taken ∙ refused)) ∙ c.loop-argument.invariant.same

pub loop-argument-preserved : goal.loop-argument-preserved
loop-argument-preserved c =
    let files = c.args.classes.now.trees.now in
    let l = c.args.classes.now.types.now in
    let xs = c.args.arguments.now in
    let i = c.loop-argument.argument-index in
    let t = table_in files in
    let hs = headings_in files in
    let here = listed_types c.tree_of-tree.result.now c.loop-argument.at in
    let tree = c.tree_of-tree.result.now in
    let rest = listed_types tree c.in-Some.next.rest in
    let p = tree_in tree c.in-Some.next.declared in
    let named : type_at l c.number-to.result ≡ type_named hs p =
    ap (type_at l) c.number-to.ensures ∙ (c.requires.classes.numbers c.args.file c.in-Some.next.declared).type_is ∙ ap (λ (a : Arena). type_named hs (tree_in a c.in-Some.next.declared)) (sym c.tree_of-tree.ensures) in
    let taken : c.takes.result ≡ goes_into t (type_named hs p) (type_at l (get_or xs i 0)) = c.takes.ensures files c.requires.classes.members ∙ ap (λ x. goes_into t x (type_at l (get_or xs i 0))) named in
    let more = one_more t hs (type_at l) xs i here rest p (omega arith) c.in-Some.ensures.shown in
    let went : c.takes.result ≡ true = grind (arith, rules) in
    record {
      tree = c.tree_of-tree.ensures;
      at = let b = c.in-Some.ensures.behind in let a = c.loop-argument.invariant.at in omega (arith, a, b);
      same = sym (more ∙ ap (λ b. b && arguments_go_into t hs (map (type_at l) (drop (i + 1) xs)) rest) (sym taken ∙ went)) ∙ c.loop-argument.invariant.same;
    }
