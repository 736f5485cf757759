use Rattle.std.proofs.Common.{arith}
use Rattle.std.proofs.lemmas.Option.{slice_get-get_or}
use Rattle.kr_ast.specs.declared.node.Name.{Name}
use Rattle.kr_parse_tests.proofs.Named.{one_in}
use Rattle.kr_parse_tests.proofs.trees.push_names.Goals as goal

pub name-requires : goal.name-requires
name-requires c =
    let none : Name = record { start = 0; end = 0 } in
    one_in c.args.tree.now.text c.args.names.now c.loop-at.at _ c.requires (slice_get-get_or c.args.names.now c.loop-at.at none (omega (arith, c.loop-at-test.true)))
