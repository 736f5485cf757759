use Rattle.std.proofs.Common.{◌≡◌, ◌++◌, ◌+◌, ◌∙◌, List, ℕ, ap, arith, drop, get_or, refl, subst, sym, take}
use Rattle.std.specs.Prelude.{codes, flat_map, pos, Option, ◌||◌}
use Rattle.kr_base.specs.Told.{Added, Stopped}
use Rattle.kr_base.specs.Writing.{added_then, stopped_early, stopped_then, writes_exit}
use Rattle.kr_space_layout.specs.Bounds.{bare}
use Rattle.kr_value.specs.declared.value.Value.{Value}
use Rattle.kr_value.specs.declared.value.Value.TheVariants.{Int}
use Rattle.kr_report.specs.Joined.{are_any, separated}
use Rattle.kr_report.specs.Names.{names_of}
use Rattle.kr_report.specs.Texts.{joined_by}
use Rattle.kr_report_rows.specs.Parts.{argument_named, parameter_named}
use Rattle.kr_report_rows.proofs.Fronts.{any_grown, front_grown, front_rest, front_whole, joined_exit, joined_grown}
use Rattle.kr_report_rows.proofs.parameters.put_list.Goals as goal

pub returns-in_err-any : goal.returns-in_err-any
returns-in_err-any g c =
    let d : ℕ × Value = (0, Int (pos 0)) in
    let b = bare c.args.layout.now in
    let names = names_of c.args.trees.now c.args.method in
    let f = parameter_named b names in
    let xs = c.args.structure.now in
    let k = c.loop-entry.entry-index in
    let ps = flat_map f (take k xs) in
    let rest = flat_map f (drop (k + 1) xs) in
    let P : Option ℕ → Type 0 = λ n. Stopped g.K.Sink.taken g.K.Sink.faults c.loop-entry.out c.put_parameter.new.out (separated (codes ",") c.loop-entry.any (argument_named b names (get_or xs k d).1 n)) in
    writes_exit c.from_residual.result c.from_residual.ensures.0
    (stopped_early (separated (codes ",") (are_any (ps ++ f (get_or xs k d))) rest)
    (stopped_then c.loop-entry.invariant.sent (subst P c.parameter_at-parameter.ensures c.in_err-any.ensures.text) refl)
    (joined_exit (codes ",") c.loop-entry.any ps (f (get_or xs k d)) rest (flat_map f xs) c.loop-entry.invariant.any (front_rest f xs k d c.loop-entry-test.true)))

pub loop-entry-preserved : goal.loop-entry-preserved
loop-entry-preserved g c =
    let d : ℕ × Value = (0, Int (pos 0)) in
    let b = bare c.args.layout.now in
    let names = names_of c.args.trees.now c.args.method in
    let f = parameter_named b names in
    let xs = c.args.structure.now in
    let k = c.loop-entry.entry-index in
    let ps = flat_map f (take k xs) in
    let x = f (get_or xs k d) in
    let P : Option ℕ → Type 0 = λ n. Added g.K.Sink.taken g.K.Sink.faults c.loop-entry.out c.put_parameter.new.out (separated (codes ",") c.loop-entry.any (argument_named b names (get_or xs k d).1 n)) in
    let Q : Option ℕ → Type 0 = λ n. c.in_ok-any.any ≡ (c.loop-entry.any || are_any (argument_named b names (get_or xs k d).1 n)) in
    let grown = front_grown f xs k d c.loop-entry-test.true in
    record {
      any = any_grown c.loop-entry.any c.in_ok-any.any ps x c.loop-entry.invariant.any (subst Q c.parameter_at-parameter.ensures c.in_ok-any.ensures.any) ∙ ap are_any (sym grown);
      sent = added_then c.loop-entry.invariant.sent (subst P c.parameter_at-parameter.ensures c.in_ok-any.ensures.text)
          (ap (joined_by (codes ",")) grown ∙ joined_grown (codes ",") c.loop-entry.any ps x c.loop-entry.invariant.any);
    }

pub returns : goal.returns
returns g c =
    let f = parameter_named (bare c.args.layout.now) (names_of c.args.trees.now c.args.method) in
    let xs = c.args.structure.now in
    let k = c.loop-entry.entry-index in
    subst (λ (ts : List (List ℕ)). Added g.K.Sink.taken g.K.Sink.faults c.args.out.now c.loop-entry.out (joined_by (codes ",") ts)) (front_whole f xs k (omega (arith, c.loop-entry-test.false))) c.loop-entry.invariant.sent
