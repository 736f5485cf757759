use Rattle.std.proofs.Common.{◌≡◌, ◌∙◌, refl, ap, [], arith}
use Rattle.std.specs.Prelude.{Option, is_some, slice_index_or}
use Rattle.kr_classes_table.specs.Types.{JavaType}
use Rattle.kr_classes_table.specs.Constants.{value_at}
use Rattle.kr_types_meaning.specs.Rules as rules
use Rattle.kr_types_meaning.specs.Scopes.{meant}
use Rattle.kr_types_meaning.specs.Noting.{concluded}
use Rattle.kr_types_scopes.specs.Settings.{declaring_of, setting, type_there}
use Rattle.kr_types_scopes.specs.Scoped.{nowhere, scope_at}
use Rattle.kr_types_scopes.specs.declared.within.Within.{Within}
use Rattle.kr_ast.specs.Files.{file_at}
use Rattle.kr_classes_members.specs.Shown.{table_in}
use Rattle.kr_classes_names.specs.Types.{type_at}
use Rattle.kr_types_judging.specs.Shown.{known_shown, least_shown, verdict_shown}
use Rattle.kr_types_statements.specs.Declared.{declares}
use Rattle.kr_types_statements.specs.Maybe.{types_in, with_maybe}
use Rattle.kr_types_statements.proofs.Declared.{declares_is, maybe_same, said_likewise}
use Rattle.kr_types_statements.proofs.declarators.declarator_note.Goals as goal

pub at-here-requires : goal.at-here-requires
at-here-requires c = omega (arith, (c.requires.scopes (table_in c.args.classes.now.trees.now) []).long, c.requires.node)

pub declarator_verdict-verdict-requires-clause-declared : goal.declarator_verdict-verdict-requires-clause-declared
declarator_verdict-verdict-requires-clause-declared c = (c.type_of_node-declared.ensures (setting (table_in c.args.classes.now.trees.now) [] (file_at c.args.classes.now.trees.now c.args.file)) refl refl).within

pub declarator_verdict-verdict-requires-clause-initial : goal.declarator_verdict-verdict-requires-clause-initial
declarator_verdict-verdict-requires-clause-initial c = c.maybe_type-initial.ensures.within c.args.classes.now.types.now c.requires.initial

pub returns-clause-within : goal.returns-clause-within
returns-clause-within c = c.conclude.ensures.within c.args.classes.now.types.now c.declarator_verdict-verdict.ensures.within

pub returns-clause-shown : goal.returns-clause-shown
returns-clause-shown c = λ known look kept linked.
    let l = c.args.classes.now.types.now in
    let files = c.args.classes.now.trees.now in
    let t = table_in files in
    let g = setting t known (file_at files c.args.file) in
    let bs = c.args.scopes.now.bindings.items in
    let s = scope_at g bs c.args.scopes.now.within.items c.args.node in
    let p = c.args.place in
    let n = c.args.name.now in
    let o = types_in l c.maybe_type-initial.result in
    let declared = c.type_of_node-declared.ensures g refl refl in
    let e = known_shown l look c.args.x.known in
    let here : c.at-here.result ≡ slice_index_or c.args.scopes.now.within.items c.args.node nowhere = c.at-here.ensures in
    let has : c.is_some-has_value.result ≡ is_some (value_at known p) = c.is_some-has_value.ensures ∙ ap (λ v. is_some v) (c.value_at.ensures known kept) in
    let rule : Option JavaType → rules.Judgement = declares t s.declaring s.declared (rules.is_new s n (meant s n)) (is_some (value_at known p)) in
    let said : verdict_shown l c.declarator_verdict-verdict.result ≡ with_maybe rule o =
    said_likewise t o (verdict_shown l c.declarator_verdict-verdict.result) (declaring_of c.at-here.result.declaring) s.declaring (type_at l c.type_of_node-declared.result) s.declared
    c.is_new-is_new_name.result (rules.is_new s n (meant s n)) c.is_some-has_value.result (is_some (value_at known p))
    (c.declarator_verdict-verdict.ensures.says files c.requires.classes.members) (ap (λ (w : Within). declaring_of w.declaring) here)
    (declared.type_is ∙ ap (λ (w : Within). type_there g w.declared) here) (c.is_new-is_new_name.ensures known) has in
    c.conclude.ensures.shown l look
    ∙ ap (λ (v : rules.Judgement). concluded p v (least_shown c.args.x.least))
    (said ∙ c.maybe_type-initial.ensures.shown l look rule linked ∙ maybe_same rule (rules.declaration_rule s s.declaring p n) (declares_is s s.declaring p n) e)
