use Rattle.std.proofs.Common.{sym, ap, ◌∙◌}
use Rattle.std.specs.Prelude.{option_map}
use Rattle.std.proofs.lemmas.Option.{slice_get-get_or}
use Rattle.kr_classes_members.specs.Rosters.{all_methods, method_numbered, no_method}
use Rattle.kr_code_members.specs.Nodes.{table}
use Rattle.kr_code_lowering.proofs.Read.{static_found}
use Rattle.kr_code_lowering.proofs.calls.static_callee.Goals as goal

pub returns-in-None : goal.returns-in-None
returns-in-None c = λ class before.
    let p = c.args.program.now in
    let t = table p in
    static_found p c.args.site c.args._entry c.requires.here c.meaning_at.result c.meaning_at.ensures c.args._object c.args._name c.args._arguments c.requires.node class before
    ∙ (sym (c.method.ensures.shown t) ∙ ap (option_map (method_numbered t)) c.in-None.is)

pub returns-in-Some : goal.returns-in-Some
returns-in-Some c = λ class before.
    let p = c.args.program.now in
    let t = table p in
    let k = c.in-Some.number in
    let within = rw c.in-Some.is at (c.method.ensures.within t c.meaning_at.ensures.within) in (
      method_numbered t k,
      static_found p c.args.site c.args._entry c.requires.here c.meaning_at.result c.meaning_at.ensures c.args._object c.args._name c.args._arguments c.requires.node class before
          ∙ (sym (c.method.ensures.shown t) ∙ ap (option_map (method_numbered t)) c.in-Some.is),
      slice_get-get_or (all_methods t) k (no_method t) within,
    )
