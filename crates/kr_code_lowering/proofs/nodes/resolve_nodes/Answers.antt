use Rattle.std.proofs.Common.{◌≡◌, refl, ap, sym, ◌∙◌, subst, ℕ, List, ◌+◌, ◌<◌, length, suc, add-one, arith, codes}
use Rattle.kr_ast.specs.Arena.{Arena}
use Rattle.kr_ast.specs.Files.{file_at}
use Rattle.kr_code_lowering.specs.Numbered.{IsCodedTo}
use Rattle.kr_code_lowering.specs.Origins.{file_count, first_node}
use Rattle.kr_code_lowering.proofs.Begun.{coded_all, none_coded}
use Rattle.kr_code_lowering.proofs.Growth.{got_grown}
use Rattle.kr_code_lowering.proofs.Gathered.{first_end, first_small, nodes_none}
use Rattle.kr_code_lowering.proofs.Numbers.{first_next}
use Rattle.kr_code_lowering.proofs.nodes.resolve_nodes.Goals as goal

pub loop-file-init : goal.loop-file-init
unfolding first_node
loop-file-init c = record {
  first = refl;
  before = none_coded c.args.program.now (length c.in_ok-nodes.nodes.items) (ap length c.in_ok-nodes.ensures.items);
  names = c.in_ok-names.ensures.first;
  nodes = nodes_none c.args.program.now c.args.arrays.now c.in_ok-names.names c.new-links.result c.in_ok-nodes.nodes.items c.in_ok-nodes.ensures.items;
}

-- with the nodes of the file
counted : (c : goal.After-nodes-first) → c.loop-file.first + c.nodes-first.result ≡ first_node c.args.program.now.trees.items (suc c.loop-file.file)
counted c =
    let trees = c.args.program.now.trees.items in
    let file = c.loop-file.file in
    let here : file < length trees = omega (arith, c.loop-file-test.true, c.loop-file.auto.file-end, c.len-files.ensures, c.args.program.now.trees.ok.0) in
    let nodes : c.nodes-first.result ≡ length (file_at trees file).entries = c.nodes-first.ensures.count ∙ ap (λ (a : Arena). length a.entries) (c.tree_of.ensures ∙ ap (λ (ts : List Arena). file_at ts file) c.deref.ensures.value) in
    omega (arith, first_next trees file here, nodes, c.loop-file.invariant.first)

pub overflow_add-first : goal.overflow_add-first
overflow_add-first c = omega (arith, counted c, first_small c.args.program.now.trees.items (suc c.loop-file.file), c.requires.program.small)

pub loop-file-preserved : goal.loop-file-preserved
loop-file-preserved c =
    let p = c.args.program.now in
    let all = counted c in
    record {
      first = all ∙ ap (first_node p.trees.items) (sym (add-one c.loop-file.file));
      before = subst (λ (k : ℕ). IsCodedTo p k (length c.add_file.new.nodes.items)) (sym all) c.in_ok-add_file.ensures.before;
      names = got_grown c.loop-file.names c.add_file.new.names 0 (codes "length") c.in_ok-add_file.ensures.names c.loop-file.invariant.names;
      nodes = c.in_ok-add_file.ensures.nodes;
    }

pub returns-clause-count : goal.returns-clause-count
returns-clause-count c =
    let p = c.args.program.now in
    let all : c.loop-file.file ≡ length p.trees.items = omega (arith, c.loop-file-test.false, c.loop-file.auto.file-end, c.len-files.ensures, p.trees.ok.0) in
    let end : c.loop-file.first ≡ file_count p = c.loop-file.invariant.first ∙ (ap (first_node p.trees.items) all ∙ first_end p.trees.items) in
    coded_all p c.loop-file.first (length c.loop-file.nodes.items) end c.loop-file.invariant.before
