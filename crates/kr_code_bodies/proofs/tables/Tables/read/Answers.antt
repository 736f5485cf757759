use Rattle.std.proofs.Common.{map}
use Rattle.kr_classes_names.specs.Types.{type_at}
use Rattle.kr_code.specs.Tables.{row_items}
use Rattle.kr_code_bodies.proofs.Names.{length_alone}
use Rattle.kr_code_bodies.proofs.tables.Tables.read.Goals as goal

pub returns : goal.returns
returns c =
    let files = c.args.trees.now in
    let arrays = map (type_at c.args.types.now) c.args.arrays.now in
    record {
      length_name = length_alone files (map row_items c.args.names.now) c.requires.apart c.requires.first;
      positions = c.in_ok-positions.ensures;
      spots = c.in_ok-spots.ensures;
      dispatch = c.in_ok-dispatch.ensures;
      instances = c.in_ok-instances.ensures files arrays c.requires.members;
      array_types = c.in_ok-array_types.ensures files;
      traps = c.in_ok-trap_classes.ensures files arrays c.requires.heads;
    }
