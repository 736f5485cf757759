use Rattle.std.proofs.Common.{refl, ap, ◌∙◌, subst}
use Rattle.kr_ast.specs.Arena.{ArePartsFrom, parts, tree_in, tree_of}
use Rattle.kr_ast.specs.declared.node.Node.{Node}
use Rattle.kr_ast.specs.declared.node.Node.TheVariants as nodes
use Rattle.kr_types.specs.Sites.{tree_there}
use Rattle.kr_types.proofs.Meant.{object_scope}
use Rattle.kr_types.proofs.meanings.class_before.Goals as goal

pub class_of_object-requires-clause-handed : goal.class_of_object-requires-clause-handed
class_of_object-requires-clause-handed c =
    let s = c.args.site.now in
    let n = nodes.FieldAccess c.in-FieldAccess.object c.in-FieldAccess.name in
    let part = (subst (λ (k : Node). ArePartsFrom (tree_there s).entries c.args.spot.at 0 (parts k)) c.in-FieldAccess.is c.requires.spot.stands).0 in
    object_scope s c.args.types.now c.requires.site c.args.spot.at c.in-FieldAccess.object c.args.spot.place n c.requires.spot.within (c.requires.spot.tree ∙ ap (tree_of (tree_there s).text (tree_in (tree_there s)) c.args.spot.place) c.in-FieldAccess.is) part refl

pub class_of_object-requires-in-MethodCall-clause-handed : goal.class_of_object-requires-in-MethodCall-clause-handed
class_of_object-requires-in-MethodCall-clause-handed c =
    let s = c.args.site.now in
    let n = nodes.MethodCall c.in-MethodCall.object c.in-MethodCall.name c.in-MethodCall.arguments in
    let part = (subst (λ (k : Node). ArePartsFrom (tree_there s).entries c.args.spot.at 0 (parts k)) c.in-MethodCall.is c.requires.spot.stands).0 in
    object_scope s c.args.types.now c.requires.site c.args.spot.at c.in-MethodCall.object c.args.spot.place n c.requires.spot.within (c.requires.spot.tree ∙ ap (tree_of (tree_there s).text (tree_in (tree_there s)) c.args.spot.place) c.in-MethodCall.is) part refl
