use Rattle.std.proofs.Common.{◌≡◌, fold, map, drop}
use Rattle.std.specs.Prelude.{flat_map}
use Rattle.kr_mean.specs.declared.mode.Mode.TheVariants.{Method as Testing}
use Rattle.kr_space_meaning.specs.Bounds.{setting_of}
use Rattle.kr_space_meaning.specs.Faults.{parameter_S2}
use Rattle.kr_space_meaning.specs.Order.{lesser}
use Rattle.kr_space_rules.specs.Classes.{files_of}
use Rattle.kr_space_rules.specs.Parameters.{parameter_shown}
use Rattle.kr_space.proofs.elements.note_each_parameter.Given as goal

abbrev pub invariant-loop-parameter : goal.invariant-loop-parameter
invariant-loop-parameter l =
    fold lesser l.initial.least (flat_map (parameter_S2 (setting_of (files_of l.classes) l.document) (Testing l.method)) (map (parameter_shown l.classes.trees.now) l.parameters))
    ≡ fold lesser l.least (flat_map (parameter_S2 (setting_of (files_of l.classes) l.document) (Testing l.method)) (map (parameter_shown l.classes.trees.now) (drop l.parameter-index l.parameters)))
