use Rattle.std.proofs.Common.{refl, ap, ◌∙◌}
use Rattle.kr_ast.specs.declared.node.Node.{Node}
use Rattle.kr_ast.specs.Arena.{tree_in, tree_of}
use Rattle.kr_ast.specs.Tree.{Tree}
use Rattle.kr_types_meaning.specs.Rules as rules
use Rattle.kr_types_meaning.specs.Scopes.{written}
use Rattle.kr_types_meaning.specs.Noting as noting
use Rattle.kr_types_expressions.specs.Notes.{typed_in}
use Rattle.kr_types.specs.Sites.{scope_of, tree_there}
use Rattle.kr_types.proofs.Making.{made_of}
use Rattle.kr_types.proofs.types.type_name_note.Goals as goal

pub returns-in-PrimitiveType : goal.returns-in-PrimitiveType
returns-in-PrimitiveType c = λ ns.
    let s = c.args.site.now in
    let here = scope_of s c.args.spot.at in
    let a = tree_there s in
    made_of s c.args.types.now ns _ here c.args.spot.place _ _ _ c.in-PrimitiveType.is c.named_type_note.ensures.within c.named_type_note.ensures.no_rest
    (c.named_type_note.ensures.shown here (typed_in c.args.types.now ns) refl
    ∙ ap (λ (t : Tree). noting.leaf c.args.spot.place (rules.type_rule (written here t))) (c.requires.tree ∙ ap (λ (n : Node). tree_of a.text (tree_in a) c.args.spot.place n) c.in-PrimitiveType.is))

pub returns-in-NamedType : goal.returns-in-NamedType
returns-in-NamedType c = λ ns.
    let s = c.args.site.now in
    let here = scope_of s c.args.spot.at in
    let a = tree_there s in
    made_of s c.args.types.now ns _ here c.args.spot.place _ _ _ c.in-NamedType.is c.named_type_note-in-NamedType.ensures.within c.named_type_note-in-NamedType.ensures.no_rest
    (c.named_type_note-in-NamedType.ensures.shown here (typed_in c.args.types.now ns) refl
    ∙ ap (λ (t : Tree). noting.leaf c.args.spot.place (rules.type_rule (written here t))) (c.requires.tree ∙ ap (λ (n : Node). tree_of a.text (tree_in a) c.args.spot.place n) c.in-NamedType.is))

pub returns-in-QualifiedType : goal.returns-in-QualifiedType
returns-in-QualifiedType c = λ ns.
    let s = c.args.site.now in
    let here = scope_of s c.args.spot.at in
    let a = tree_there s in
    made_of s c.args.types.now ns _ here c.args.spot.place _ _ _ c.in-QualifiedType.is c.named_type_note-in-QualifiedType.ensures.within c.named_type_note-in-QualifiedType.ensures.no_rest
    (c.named_type_note-in-QualifiedType.ensures.shown here (typed_in c.args.types.now ns) refl
    ∙ ap (λ (t : Tree). noting.leaf c.args.spot.place (rules.type_rule (written here t))) (c.requires.tree ∙ ap (λ (n : Node). tree_of a.text (tree_in a) c.args.spot.place n) c.in-QualifiedType.is))

pub returns-in-DiamondType : goal.returns-in-DiamondType
returns-in-DiamondType c = λ ns.
    let s = c.args.site.now in
    let here = scope_of s c.args.spot.at in
    let a = tree_there s in
    made_of s c.args.types.now ns _ here c.args.spot.place _ _ _ c.in-DiamondType.is c.diamond_type_note.ensures.within c.diamond_type_note.ensures.no_rest
    (c.diamond_type_note.ensures.shown here (typed_in c.args.types.now ns) refl
    ∙ ap (λ (t : Tree). noting.leaf c.args.spot.place (rules.diamond_rule (written here t))) (c.requires.tree ∙ ap (λ (n : Node). tree_of a.text (tree_in a) c.args.spot.place n) c.in-DiamondType.is))
