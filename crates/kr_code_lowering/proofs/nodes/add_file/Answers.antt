use Rattle.std.proofs.Common.{◌≡◌, ap, sym, ◌∙◌, subst, ℕ, List, ◌+◌, length, suc, arith}
use Rattle.kr_ast.specs.Arena.{Arena}
use Rattle.kr_ast.specs.Files.{file_at}
use Rattle.kr_code_lowering.specs.Numbered.{IsCodedTo}
use Rattle.kr_code_lowering.specs.Origins.{first_node}
use Rattle.kr_code_lowering.proofs.Growth.{grown_none, grown_on}
use Rattle.kr_code_lowering.proofs.Numbers.{first_next}
use Rattle.kr_code_lowering.proofs.nodes.add_file.Goals as goal

pub loop-node-init : goal.loop-node-init
loop-node-init c =
    let p = c.args.program.now in
    let none : c.args.first ≡ c.args.first + 0 = omega arith in
    record {
      before = subst (λ (k : ℕ). IsCodedTo p k (length c.args.nodes.now.items)) none c.requires.before;
      names = grown_none c.args.names.now;
      links = grown_none c.args.links.now;
      nodes = c.requires.nodes;
    }

pub loop-node-preserved : goal.loop-node-preserved
loop-node-preserved c =
    let p = c.args.program.now in
    let i = c.loop-node.invariant in
    let added = c.in_ok-add_node.ensures in
    let next : suc (c.args.first + c.loop-node.node) ≡ c.args.first + (c.loop-node.node + 1) = omega arith in
    record {
      before = subst (λ (k : ℕ). IsCodedTo p k (length c.add_node.new.nodes.items)) next added.before;
      names = grown_on c.args.names.now c.loop-node.names c.add_node.new.names i.names added.names;
      links = grown_on c.args.links.now c.loop-node.links c.add_node.new.links i.links added.links;
      nodes = added.nodes;
    }

pub returns-clause-before : goal.returns-clause-before
returns-clause-before c =
    let p = c.args.program.now in
    let tree = ap (λ (a : Arena). length a.entries) (c.tree_of.ensures ∙ ap (λ (ts : List Arena). file_at ts c.args.file) c.deref.ensures.value) in
    let all : c.args.first + c.loop-node.node ≡ first_node p.trees.items (suc c.args.file) = omega (arith, first_next p.trees.items c.args.file c.requires.file, c.requires.first, c.nodes-entries.ensures.count, tree, c.loop-node-test.false, c.loop-node.auto.node-end) in
    subst (λ (k : ℕ). IsCodedTo p k (length c.loop-node.nodes.items)) all c.loop-node.invariant.before
