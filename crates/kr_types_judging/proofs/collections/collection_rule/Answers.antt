use Rattle.std.proofs.Common.{◌∙◌, sym, ap, map, arith}
use Rattle.kr_types_meaning.specs.Rules.{collection_rule}
use Rattle.kr_types_scopes.specs.Settings.{scope_in}
use Rattle.kr_classes_names.specs.Types.{type_at}
use Rattle.kr_types_judging.proofs.Walking.{single}
use Rattle.kr_types_judging.proofs.collections.collection_rule.Goals as goal

pub returns-in-len1-clause-says : goal.returns-in-len1-clause-says
returns-in-len1-clause-says c = λ files g bs h e.
    let l = c.args.types.now in
    c.member_call_rule.ensures.says files g bs h e
    ∙ ap (λ xs. collection_rule (scope_in g bs c.args.here) c.args.is_list (type_at l c.args.member) c.args.name.now (map (type_at l) xs)) (sym (single c.args.arguments.now (omega arith)))
