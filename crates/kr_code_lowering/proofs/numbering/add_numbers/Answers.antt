use Rattle.std.proofs.Common.{◌≡◌, ap, ◌∙◌, subst, ℕ, List, ◌+◌, ◌<◌, length, suc, arith}
use Rattle.kr_ast.specs.Arena.{Arena, tree_in}
use Rattle.kr_ast.specs.Files.{file_at}
use Rattle.kr_code_lowering.specs.declared.site.Site.{Site}
use Rattle.kr_code_lowering.specs.Numbered.{AreBegun}
use Rattle.kr_code_lowering.specs.Origins.{file_count, first_node}
use Rattle.kr_code_lowering.specs.Sites.{IsSite, arena_at}
use Rattle.kr_code_lowering.proofs.Begun.{begun_more, site_code, site_there, site_within}
use Rattle.kr_code_lowering.proofs.Gathered.{first_small}
use Rattle.kr_code_lowering.proofs.Numbers.{first_next}
use Rattle.kr_code_lowering.proofs.numbering.add_numbers.Goals as goal

pub overflow_cast-first : goal.overflow_cast-first
overflow_cast-first c =
    let p = c.args.program.now in
    omega (arith, c.len-first.ensures, c.args.numbers.now.all.ok.0, c.requires.begun.long, first_small p.trees.items c.args.file, c.requires.program.small)

pub loop-node-init : goal.loop-node-init
loop-node-init c =
    let p = c.args.program.now in
    let first : c.len-first.result ≡ first_node p.trees.items c.args.file = omega (arith, c.len-first.ensures, c.args.numbers.now.all.ok.0, c.requires.begun.long) in
    let here : first_node p.trees.items c.args.file ≡ c.len-first.result + 0 = omega (arith, first) in
    subst (λ (k : ℕ). AreBegun p c.args.others k c.args.numbers.now) here c.requires.begun

pub overflow_add-other : goal.overflow_add-other
overflow_add-other c =
    let p = c.args.program.now in
    let first : c.len-first.result ≡ first_node p.trees.items c.args.file = omega (arith, c.len-first.ensures, c.args.numbers.now.all.ok.0, c.requires.begun.long) in
    omega (arith, first, first_small p.trees.items c.args.file, c.requires.others)

pub overflow_add-other-in-loop-node : goal.overflow_add-other-in-loop-node
overflow_add-other-in-loop-node c =
    let p = c.args.program.now in
    let first : c.len-first.result ≡ first_node p.trees.items c.args.file = omega (arith, c.len-first.ensures, c.args.numbers.now.all.ok.0, c.requires.begun.long) in
    let tree : c.nodes-entries.result ≡ length (file_at p.trees.items c.args.file).entries = c.nodes-entries.ensures.count ∙ ap (λ (a : Arena). length a.entries) (c.tree_of.ensures ∙ ap (λ (ts : List Arena). file_at ts c.args.file) c.deref.ensures.value) in
    let below : c.loop-node.node < c.nodes-entries.result = omega (arith, c.loop-node-test.true, c.loop-node.auto.node-end) in
    let within = site_within p (record { file = c.args.file; node = c.loop-node.node; first = c.len-first.result }) (site_there p c.args.file c.loop-node.node c.len-first.result c.nodes-entries.result c.requires.file first tree below) in
    omega (arith, within, c.requires.others)

pub entry-requires : goal.entry-requires
entry-requires c =
    let p = c.args.program.now in
    let first : c.len-first.result ≡ first_node p.trees.items c.args.file = omega (arith, c.len-first.ensures, c.args.numbers.now.all.ok.0, c.requires.begun.long) in
    let tree : c.nodes-entries.result ≡ length (file_at p.trees.items c.args.file).entries = c.nodes-entries.ensures.count ∙ ap (λ (a : Arena). length a.entries) (c.tree_of.ensures ∙ ap (λ (ts : List Arena). file_at ts c.args.file) c.deref.ensures.value) in
    let below : c.loop-node.node < c.nodes-entries.result = omega (arith, c.loop-node-test.true, c.loop-node.auto.node-end) in
    site_there p c.args.file c.loop-node.node c.len-first.result c.nodes-entries.result c.requires.file first tree below

pub add_number-requires : goal.add_number-requires
add_number-requires c =
    let p = c.args.program.now in
    let first : c.len-first.result ≡ first_node p.trees.items c.args.file = omega (arith, c.len-first.ensures, c.args.numbers.now.all.ok.0, c.requires.begun.long) in
    let tree : c.nodes-entries.result ≡ length (file_at p.trees.items c.args.file).entries = c.nodes-entries.ensures.count ∙ ap (λ (a : Arena). length a.entries) (c.tree_of.ensures ∙ ap (λ (ts : List Arena). file_at ts c.args.file) c.deref.ensures.value) in
    let below : c.loop-node.node < c.nodes-entries.result = omega (arith, c.loop-node-test.true, c.loop-node.auto.node-end) in
    let within = site_within p (record { file = c.args.file; node = c.loop-node.node; first = c.len-first.result }) (site_there p c.args.file c.loop-node.node c.len-first.result c.nodes-entries.result c.requires.file first tree below) in
    omega (arith, within, c.loop-node.invariant.few, c.requires.others)

pub loop-node-preserved : goal.loop-node-preserved
loop-node-preserved c =
    let p = c.args.program.now in
    let first : c.len-first.result ≡ first_node p.trees.items c.args.file = omega (arith, c.len-first.ensures, c.args.numbers.now.all.ok.0, c.requires.begun.long) in
    let tree : c.nodes-entries.result ≡ length (file_at p.trees.items c.args.file).entries = c.nodes-entries.ensures.count ∙ ap (λ (a : Arena). length a.entries) (c.tree_of.ensures ∙ ap (λ (ts : List Arena). file_at ts c.args.file) c.deref.ensures.value) in
    let below : c.loop-node.node < c.nodes-entries.result = omega (arith, c.loop-node-test.true, c.loop-node.auto.node-end) in
    let s : Site = record { file = c.args.file; node = c.loop-node.node; first = c.len-first.result } in
    let there : IsSite p s = site_there p c.args.file c.loop-node.node c.len-first.result c.nodes-entries.result c.requires.file first tree below in
    let e = c.entry.result in
    let code = site_code p s e c.entry.ensures c.has_code.result (c.has_code.ensures (arena_at p s).text (tree_in (arena_at p s)) e.place) in
    let next : suc (c.len-first.result + c.loop-node.node) ≡ c.len-first.result + (c.loop-node.node + 1) = omega arith in
    let other : c.args.others + c.len-first.result + c.loop-node.node ≡ c.args.others + (c.len-first.result + c.loop-node.node) = omega arith in
    subst (λ (k : ℕ). AreBegun p c.args.others k c.add_number.new.numbers) next
    (begun_more p c.args.others (c.len-first.result + c.loop-node.node) c.loop-node.numbers c.add_number.new.numbers c.has_code.result (site_within p s there) code c.loop-node.invariant (rw other at c.in_ok-add_number.ensures.added) c.in_ok-add_number.ensures.coded)

pub returns : goal.returns
returns c =
    let p = c.args.program.now in
    let first : c.len-first.result ≡ first_node p.trees.items c.args.file = omega (arith, c.len-first.ensures, c.args.numbers.now.all.ok.0, c.requires.begun.long) in
    let tree : c.nodes-entries.result ≡ length (file_at p.trees.items c.args.file).entries = c.nodes-entries.ensures.count ∙ ap (λ (a : Arena). length a.entries) (c.tree_of.ensures ∙ ap (λ (ts : List Arena). file_at ts c.args.file) c.deref.ensures.value) in
    let all : c.len-first.result + c.loop-node.node ≡ first_node p.trees.items (suc c.args.file) = omega (arith, first_next p.trees.items c.args.file c.requires.file, first, tree, c.loop-node-test.false, c.loop-node.auto.node-end) in
    subst (λ (k : ℕ). AreBegun p c.args.others k c.loop-node.numbers) all c.loop-node.invariant
