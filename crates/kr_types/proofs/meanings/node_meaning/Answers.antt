use Rattle.std.proofs.Common.{refl, ap, ◌∙◌, subst, ℕ, List}
use Rattle.std.specs.Prelude.{Option, option_map}
use Rattle.kr_ast.specs.Arena.{Arena, name_in, tree_in}
use Rattle.kr_ast.specs.declared.node.Node.{Node}
use Rattle.kr_ast.specs.declared.node.Node.TheVariants as nodes
use Rattle.kr_classes_table.specs.Types.{JavaType}
use Rattle.kr_classes_table.specs.Constants.{values_of}
use Rattle.kr_classes_members.specs.Shown.{table_in}
use Rattle.kr_classes_names.specs.Types.{type_at}
use Rattle.kr_types_meaning.specs.Scopes.{class_before, meant, method_meant, super_class}
use Rattle.kr_types_resolving.specs.Meanings.{creation_meaning, field_behind, method_behind, method_meaning, method_of, name_meaning, object_class, super_meaning}
use Rattle.kr_types_expressions.specs.Notes.{shown_notes}
use Rattle.kr_types.specs.Programs.{setting_in}
use Rattle.kr_types.specs.Sites.{IsBefore, scope_of, tree_there}
use Rattle.kr_types.proofs.Meant.{of_kind, of_kind_if, of_no_kind}
use Rattle.kr_types.proofs.meanings.node_meaning.Goals as goal

pub returns-in-Variable : goal.returns-in-Variable
returns-in-Variable c =
    let s = c.args.site.now in
    let l = c.args.types.now in
    let ns = shown_notes l c.args.noted.now.notes in
    let at = c.args.spot.at in
    let here = scope_of s at in
    let t = table_in s.trees.now in
    let name_is = c.name.ensures ∙ ap (λ (a : Arena). name_in a.text c.in-Variable.name) c.tree.ensures in
    of_kind_if s ns at c.args.spot.place c.args.spot.node c.requires.spot.tree c.variable_meaning.result _ (nodes.Variable c.in-Variable.name) c.in-Variable.is c.variable_meaning.ensures.within c.variable_meaning.ensures.shown
    (λ m h. h (values_of t) c.requires.class ∙ ap (λ (n : List ℕ). name_meaning t n (meant here n)) name_is)

pub returns-in-FieldAccess : goal.returns-in-FieldAccess
returns-in-FieldAccess c =
    let s = c.args.site.now in
    let l = c.args.types.now in
    let ns = shown_notes l c.args.noted.now.notes in
    let at = c.args.spot.at in
    let here = scope_of s at in
    let t = table_in s.trees.now in
    let x = name_in (tree_there s).text c.in-FieldAccess.name in
    let name_is = c.name-in-FieldAccess.ensures ∙ ap (λ (a : Arena). name_in a.text c.in-FieldAccess.name) c.tree-in-FieldAccess.ensures in
    let a = c.in-FieldAccess.object in
    let before = subst (λ (k : Node). IsBefore s at k c.args.before) c.in-FieldAccess.is c.requires.before in
    let o = option_map (type_at l) c.object_type-object.result in
    let e = tree_in (tree_there s) a in
    of_kind s ns at c.args.spot.place c.args.spot.node c.requires.spot.tree (nodes.FieldAccess c.in-FieldAccess.object c.in-FieldAccess.name) c.field_behind.result c.in-FieldAccess.is c.field_behind.ensures.within
    (c.field_behind.ensures.shown
    ∙ (ap (λ (n : List ℕ). field_behind t n c.args.before (object_class o)) name_is
    ∙ (ap (λ (b : Option ℕ). field_behind t x b (object_class o)) before
    ∙ ap (λ (y : Option JavaType). field_behind t x (class_before here e) (object_class y)) c.object_type-object.ensures.shown)))

pub returns-in-Call : goal.returns-in-Call
returns-in-Call c =
    let s = c.args.site.now in
    let l = c.args.types.now in
    let ns = shown_notes l c.args.noted.now.notes in
    let at = c.args.spot.at in
    let here = scope_of s at in
    let name_is = c.name-in-Call.ensures ∙ ap (λ (a : Arena). name_in a.text c.in-Call.name) c.tree-in-Call.ensures in
    of_kind s ns at c.args.spot.place c.args.spot.node c.requires.spot.tree (nodes.Call c.in-Call.name c.in-Call.arguments) c.call_meaning.result c.in-Call.is c.call_meaning.ensures.within
    (c.call_meaning.ensures.shown here refl c.requires.class ∙ ap (λ (n : List ℕ). method_meaning (method_meant here n)) name_is)

pub returns-in-MethodCall : goal.returns-in-MethodCall
returns-in-MethodCall c =
    let s = c.args.site.now in
    let l = c.args.types.now in
    let ns = shown_notes l c.args.noted.now.notes in
    let at = c.args.spot.at in
    let here = scope_of s at in
    let t = table_in s.trees.now in
    let x = name_in (tree_there s).text c.in-MethodCall.name in
    let name_is = c.name-in-MethodCall.ensures ∙ ap (λ (a : Arena). name_in a.text c.in-MethodCall.name) c.tree-in-MethodCall.ensures in
    let a = c.in-MethodCall.object in
    let before = subst (λ (k : Node). IsBefore s at k c.args.before) c.in-MethodCall.is c.requires.before in
    let o = option_map (type_at l) c.object_type-object-in-MethodCall.result in
    let e = tree_in (tree_there s) a in
    of_kind s ns at c.args.spot.place c.args.spot.node c.requires.spot.tree (nodes.MethodCall c.in-MethodCall.object c.in-MethodCall.name c.in-MethodCall.arguments) c.method_behind.result c.in-MethodCall.is c.method_behind.ensures.within
    (c.method_behind.ensures.shown
    ∙ (ap (λ (n : List ℕ). method_behind t n c.args.before (object_class o)) name_is
    ∙ (ap (λ (b : Option ℕ). method_behind t x b (object_class o)) before
    ∙ ap (λ (y : Option JavaType). method_behind t x (class_before here e) (object_class y)) c.object_type-object-in-MethodCall.ensures.shown)))

pub returns-in-SuperCall : goal.returns-in-SuperCall
returns-in-SuperCall c =
    let s = c.args.site.now in
    let l = c.args.types.now in
    let ns = shown_notes l c.args.noted.now.notes in
    let at = c.args.spot.at in
    let here = scope_of s at in
    let t = table_in s.trees.now in
    let name_is = c.name-in-SuperCall.ensures ∙ ap (λ (a : Arena). name_in a.text c.in-SuperCall.name) c.tree-in-SuperCall.ensures in
    of_kind s ns at c.args.spot.place c.args.spot.node c.requires.spot.tree (nodes.SuperCall c.in-SuperCall.name c.in-SuperCall.arguments) c.super_meaning.result c.in-SuperCall.is c.super_meaning.ensures.within
    (c.super_meaning.ensures.shown here refl c.requires.class ∙ ap (λ (n : List ℕ). super_meaning (method_of t n (super_class here))) name_is)

pub returns-in-ObjectCreation : goal.returns-in-ObjectCreation
returns-in-ObjectCreation c =
    let s = c.args.site.now in
    let l = c.args.types.now in
    let ns = shown_notes l c.args.noted.now.notes in
    let t = table_in s.trees.now in
    of_kind s ns c.args.spot.at c.args.spot.place c.args.spot.node c.requires.spot.tree (nodes.ObjectCreation c.in-ObjectCreation.class c.in-ObjectCreation.arguments) c.creation_meaning.result c.in-ObjectCreation.is (c.creation_meaning.ensures.within t)
    (c.creation_meaning.ensures.shown t ∙ ap creation_meaning (c.type_of_node-created.ensures (setting_in s.trees.now s.file) refl refl).type_is)

pub returns-in_default : goal.returns-in_default
returns-in_default c =
    let d = c.in_default in
    of_no_kind c.args.site.now (shown_notes c.args.types.now c.args.noted.now.notes) c.args.spot.at c.args.spot.place c.args.spot.node c.requires.spot.tree d.not-Variable d.not-FieldAccess d.not-Call d.not-MethodCall d.not-SuperCall d.not-ObjectCreation

pub variable_meaning-requires-clause-classes : goal.variable_meaning-requires-clause-classes
variable_meaning-requires-clause-classes c = record { heads = c.requires.site.heads; members = c.requires.site.members; roster = c.requires.site.roster }

pub field_behind-requires-clause-classes : goal.field_behind-requires-clause-classes
field_behind-requires-clause-classes c = record { heads = c.requires.site.heads; members = c.requires.site.members; roster = c.requires.site.roster }

pub call_meaning-requires : goal.call_meaning-requires
call_meaning-requires c = record { classes = record { heads = c.requires.site.heads; members = c.requires.site.members; roster = c.requires.site.roster } }

pub method_behind-requires-clause-classes : goal.method_behind-requires-clause-classes
method_behind-requires-clause-classes c = record { heads = c.requires.site.heads; members = c.requires.site.members; roster = c.requires.site.roster }

pub super_meaning-requires : goal.super_meaning-requires
super_meaning-requires c = record { classes = record { heads = c.requires.site.heads; members = c.requires.site.members; roster = c.requires.site.roster } }

pub creation_meaning-requires : goal.creation_meaning-requires
creation_meaning-requires c = let s = c.args.site.now in (c.type_of_node-created.ensures (setting_in s.trees.now s.file) refl refl).within
