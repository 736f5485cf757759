use Rattle.std.proofs.Common.{◌≡◌, ◌++◌, Option, sym, ap, subst, ◌∙◌, append-nil}
use Rattle.std.specs.Prelude.{OnOk, map, option_to_list}
use Rattle.kr_value.specs.declared.value.Value.{Value}
use Rattle.kr_mean.specs.Steps.{plain_local}
use Rattle.kr_run_state.specs.Shown.{local_of}
use Rattle.kr_run_method.proofs.evaluating.add_thrown.Goals as goal

pub returns-in-None : goal.returns-in-None
returns-in-None c =
    let before = map local_of c.args.locals.now.items in sym (append-nil before) ∙ ap (λ (x : Option Value). before ++ map plain_local (option_to_list x)) (sym c.in-None.is)

pub returns-in-Some : goal.returns-in-Some
returns-in-Some c =
    subst (λ (x : Option Value). OnOk c.add_locals.result (map local_of c.add_locals.new.locals.items ≡ map local_of c.args.locals.now.items ++ map plain_local (option_to_list x))) (sym c.in-Some.is) c.add_locals.ensures
