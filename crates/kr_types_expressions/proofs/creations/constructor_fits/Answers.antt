use Rattle.std.proofs.Common.{map}
use Rattle.kr_classes_names.specs.Types.{type_at}
use Rattle.kr_types_expressions.proofs.Single.{fits}
use Rattle.kr_types_expressions.proofs.creations.constructor_fits.Goals as goal

pub returns : goal.returns
returns c = λ s e k.
    let files = c.args.classes.now.trees.now in
    fits files s (map (type_at c.args.classes.now.types.now) c.args.arguments.now) c.args.class c.constructors-constructors.result.now c.first_constructor-constructor.result c.arguments_fit.result e
    (c.constructors-constructors.ensures.shown files c.requires.classes.members) k c.first_constructor-constructor.ensures.got c.arguments_fit.ensures
