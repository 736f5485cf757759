use Rattle.std.proofs.Common.{◌≡◌, ap, ◌+◌, ◌<◌, length, arith}
use Rattle.kr_ast.specs.Arena.{Arena}
use Rattle.kr_pure.proofs.Numbers.{below_all, one_more, upto_all}
use Rattle.kr_pure.proofs.found.number_of.Goals as goal

pub overflow_add-before : goal.overflow_add-before
overflow_add-before c =
    let files = c.args.trees.now in
    let l : c.loop-file.file < length files = let a = c.requires.node.file in omega arith in
    let here = ap (λ (a : Arena). length a.entries) c.tree_of.ensures in
    omega (arith, one_more files c.loop-file.file l, upto_all files (c.loop-file.file + 1), here)

pub loop-file-preserved : goal.loop-file-preserved
loop-file-preserved c =
    let files = c.args.trees.now in
    let l : c.loop-file.file < length files = let a = c.requires.node.file in omega arith in
    let here = ap (λ (a : Arena). length a.entries) c.tree_of.ensures in
    omega (arith, one_more files c.loop-file.file l, here)

pub overflow_add-result : goal.overflow_add-result
overflow_add-result c =
    let files = c.args.trees.now in
    let below = below_all files c.args.at.file c.args.at.node c.requires.node.file c.requires.node.node in
    let at : c.loop-file.file ≡ c.args.at.file = omega arith in
    let same = ap (λ n. length (Rattle.kr_types.specs.Programs.all_entries (Rattle.std.proofs.Common.take n files))) at in
    omega (arith, below, same)

pub returns-clause-within : goal.returns-clause-within
returns-clause-within c =
    let files = c.args.trees.now in
    let below = below_all files c.args.at.file c.args.at.node c.requires.node.file c.requires.node.node in
    let at : c.loop-file.file ≡ c.args.at.file = omega arith in
    let same = ap (λ n. length (Rattle.kr_types.specs.Programs.all_entries (Rattle.std.proofs.Common.take n files))) at in
    omega (arith, below, same)

pub returns-clause-number : goal.returns-clause-number
returns-clause-number c =
    let at : c.loop-file.file ≡ c.args.at.file = omega arith in
    let same = ap (λ n. length (Rattle.kr_types.specs.Programs.all_entries (Rattle.std.proofs.Common.take n c.args.trees.now))) at in
    omega (arith, same)
