use Rattle.std.proofs.Common.{List, ◌++◌, ap, ◌∙◌, append_assoc}
use Rattle.std.specs.Prelude.{map, option_to_list}
use Rattle.kr_value.specs.declared.value.Value.{Value}
use Rattle.kr_mean.specs.Steps.{Local, plain_local}
use Rattle.kr_run_state.specs.Shown.{local_of}
use Rattle.kr_run_method.proofs.evaluating.add_seen.Goals as goal

pub returns : goal.returns
returns c =
    let before = map local_of c.args.locals.now.items in
    let given = map plain_local c.args.env.now.arguments.items in
    let thrown = map plain_local (option_to_list c.args.env.now.thrown) in
    c.in_ok-add_thrown.ensures
    ∙ ap (λ (ls : List Local). ls ++ thrown) c.in_ok-add_locals.ensures
    ∙ ap (λ (vs : List Value). before ++ map plain_local vs ++ thrown) c.as_slice.ensures.value
    ∙ append_assoc before given thrown
