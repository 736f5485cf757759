use Rattle.std.proofs.Common.{◌≡◌, map, take}
use Rattle.kr_classes_names.specs.Shown.{superclass_shown}
use Rattle.kr_classes_names.proofs.class_names.superclasses.Given as goal

abbrev pub invariant-loop-heading : goal.invariant-loop-heading
invariant-loop-heading l = l.supers.items ≡ map (superclass_shown l.trees) (take l.heading-index l.heading-items)
