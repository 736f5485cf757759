use Rattle.std.proofs.Common.{◌<◌, ◌∙◌, ℕ, List, ap, sym, length, map, arith}
use Rattle.std.specs.Prelude.{flat_map}
use Rattle.kr_ast.specs.Arena.{root}
use Rattle.kr_classes_table.specs.Arrays.{arrays_named}
use Rattle.kr_classes_table.specs.Nodes.{nodes}
use Rattle.kr_classes_table.specs.Table.{headings_of}
use Rattle.kr_ast.specs.Files.{no_file}
use Rattle.kr_classes_names.proofs.Growing.{extends_itself, extends_on}
use Rattle.kr_space_names.specs.Collected.{collected, types_shown}
use Rattle.kr_space_names.proofs.Collecting.{file_next, node_types_kept, no_numbers}
use Rattle.kr_space_names.proofs.Closed.{closed_none}
use Rattle.kr_space_names.proofs.Once.{once_collected}
use Rattle.kr_space_names.proofs.named.array_types.Goals as goal

pub loop-file-init : goal.loop-file-init
loop-file-init c =
    let all = flat_map (arrays_named (headings_of (map root c.args.trees.now))) (flat_map nodes (map root c.args.trees.now)) in
    record {
      numbers = c.requires.numbers;
      arrays = no_numbers c.args.types.now c.new-arrays.result c.new-arrays.ensures;
      closed = closed_none c.args.types.now c.new-arrays.result c.new-arrays.ensures;
      extends = extends_itself c.args.types.now;
      shown = once_collected all ∙ ap (λ (ns : List ℕ). collected (types_shown c.args.types.now ns) all) (sym c.new-arrays.ensures);
    }

pub loop-file-preserved : goal.loop-file-preserved
loop-file-preserved c =
    let inside : c.loop-file.file < length c.args.trees.now = omega arith in
    record {
      numbers = node_types_kept c.args.trees.now c.loop-file.types c.add_file.new.types c.args.numbers.now c.add_file.ensures.extends c.loop-file.invariant.numbers;
      arrays = c.in_ok-add_file.ensures.arrays;
      closed = c.in_ok-add_file.ensures.closed;
      extends = extends_on c.args.types.now c.loop-file.types c.add_file.new.types c.loop-file.invariant.extends c.add_file.ensures.extends;
      shown = file_next (arrays_named (headings_of (map root c.args.trees.now))) _ (types_shown c.loop-file.types c.loop-file.arrays) (types_shown c.add_file.new.types c.add_file.new.arrays) c.args.trees.now c.loop-file.file no_file inside
          c.loop-file.invariant.shown c.in_ok-add_file.ensures.shown;
    }
