use Rattle.std.proofs.Common.{◌≡◌, refl, sym, ap, ◌∙◌, ◌+◌, ◌<◌, List, suc, length, add-one, arith}
use Rattle.kr_ast.specs.Arena.{Arena}
use Rattle.kr_ast.specs.Files.{file_at}
use Rattle.kr_code_lowering.specs.Origins.{first_node}
use Rattle.kr_code_lowering.proofs.Gathered.{first_small}
use Rattle.kr_code_lowering.proofs.Numbers.{first_next}
use Rattle.kr_code_lowering.proofs.site.Site.of.Goals as goal

pub loop-before-init : goal.loop-before-init
unfolding first_node
loop-before-init c = refl

-- with the nodes of the file
counted : (c : goal.After-nodes-first) → c.loop-before.first + c.nodes-first.result ≡ first_node c.args.program.now.trees.items (suc c.loop-before.before)
counted c =
    let trees = c.args.program.now.trees.items in
    let before = c.loop-before.before in
    let here : before < length trees = omega (arith, c.loop-before-test.true, c.requires.file) in
    let nodes : c.nodes-first.result ≡ length (file_at trees before).entries = c.nodes-first.ensures.count ∙ ap (λ (a : Arena). length a.entries) (c.tree_of.ensures ∙ ap (λ (ts : List Arena). file_at ts before) c.deref.ensures.value) in
    omega (arith, first_next trees before here, nodes, c.loop-before.invariant)

pub overflow_add-first : goal.overflow_add-first
overflow_add-first c = omega (arith, counted c, first_small c.args.program.now.trees.items (suc c.loop-before.before), c.requires.program.small)

pub loop-before-preserved : goal.loop-before-preserved
loop-before-preserved c = counted c ∙ ap (first_node c.args.program.now.trees.items) (sym (add-one c.loop-before.before))
