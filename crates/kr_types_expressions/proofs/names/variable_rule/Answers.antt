use Rattle.std.proofs.Common.{◌≡◌, ◌∙◌, refl, sym, ap, subst, [], arith}
use Rattle.std.specs.Prelude.{Option, Some, option_map}
use Rattle.kr_ast.specs.Arena.{Arena}
use Rattle.kr_classes_table.specs.Table.{Field}
use Rattle.kr_classes_table.specs.Constants.{field_meant}
use Rattle.kr_types_meaning.specs.Rules.{name_rule}
use Rattle.kr_types_meaning.specs.Scopes.{FieldName, field_or_none, meant_by}
use Rattle.kr_ast.specs.Files.{file_at}
use Rattle.kr_types_scopes.specs.declared.within.Within.{Within}
use Rattle.kr_types_scopes.specs.Settings.{setting, scope_in}
use Rattle.kr_types_scopes.specs.Scoped.{AreScopes, scope_at}
use Rattle.kr_classes_members.specs.Shown.{field_shown, table_in}
use Rattle.kr_types_judging.specs.Shown.{verdict_shown}
use Rattle.kr_types_expressions.proofs.Meanings.{field_said}
use Rattle.kr_types_expressions.proofs.names.variable_rule.Goals as goal

pub local-requires-clause-scopes : goal.local-requires-clause-scopes
local-requires-clause-scopes c = subst (λ (a : Arena). AreScopes a c.args.scopes.now.bindings.items c.args.scopes.now.within.items) (sym c.tree_of-tree.ensures) c.requires.scopes

pub variable_of-requires : goal.variable_of-requires
variable_of-requires c = (c.type_of_node-number.ensures (setting (table_in c.args.classes.now.trees.now) [] (file_at c.args.classes.now.trees.now c.args.file)) refl refl).within

pub at-here-requires : goal.at-here-requires
at-here-requires c = omega (arith, (c.requires.scopes (table_in c.args.classes.now.trees.now) []).long, c.requires.node)

pub returns-in-Some-field_meant-clause-says : goal.returns-in-Some-field_meant-clause-says
returns-in-Some-field_meant-clause-says c = λ known k.
    let files = c.args.classes.now.trees.now in
    let a = file_at files c.args.file in
    let t = table_in files in
    let g = setting t known a in
    let bs = c.args.scopes.now.bindings.items in
    let ws = c.args.scopes.now.within.items in
    let s = scope_at g bs ws c.args.node in
    let n = c.args.name.now in
    let f = field_shown files c.in-Some-field_meant.field in
    let none : (o : Option Field) → meant_by s.locals o n ≡ field_or_none o =
    λ o. subst (λ (x : Arena). meant_by (scope_at (setting t known x) bs ws c.args.node).locals o n ≡ field_or_none o) c.tree_of-tree.ensures (c.in-None.ensures.none t known o) in
    let said : verdict_shown c.args.classes.now.types.now c.field_name_rule.result ≡ name_rule s (FieldName f) =
    c.field_name_rule.ensures.says g bs ∙ ap (λ (w : Within). name_rule (scope_in g bs w) (FieldName f)) c.at-here.ensures in
    let found : field_meant t c.args.class n ≡ Some f = sym (c.field_meant.ensures.shown files c.requires.classes.members) ∙ ap (option_map (field_shown files)) c.in-Some-field_meant.is in
    field_said s f n (verdict_shown c.args.classes.now.types.now c.field_name_rule.result) c.args.class said none found k
