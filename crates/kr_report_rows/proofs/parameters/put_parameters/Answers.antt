use Rattle.std.proofs.Common.{◌≡◌, ◌++◌, ◌∙◌, List, ℕ, false, true, refl, subst, sym, append_assoc}
use Rattle.std.specs.Prelude.{codes, flat_map}
use Rattle.kr_base.specs.Told.{Added}
use Rattle.kr_base.specs.Writing.{added_none, added_then, stopped_early, stopped_then, writes_exit, writes_then}
use Rattle.kr_space_layout.specs.Bounds.{bare}
use Rattle.kr_report.specs.Joined.{are_any}
use Rattle.kr_report.specs.Names.{names_of}
use Rattle.kr_report.specs.Texts.{joined_by}
use Rattle.kr_report_rows.specs.Parts.{parameter_named}
use Rattle.kr_report_rows.proofs.Pieces.{no_parentheses, parenthesised}
use Rattle.kr_report_rows.proofs.parameters.put_parameters.Goals as goal

pub returns-in_err-put_all : goal.returns-in_err-put_all
returns-in_err-put_all g c =
    let names = names_of c.args.trees.now c.args.method in
    let ts = flat_map (parameter_named (bare c.args.layout.now) names) c.args.structure.now in
    let text = joined_by (codes ",") ts in
    let some : are_any ts ≡ true = sym (c.has_parameters.ensures names) ∙ c.if-not-has_parameters.false in
    writes_exit c.from_residual.result c.from_residual.ensures.0
    (stopped_early (text ++ codes ") ") c.in_err-put_all.ensures (parenthesised ts some ∙ append_assoc (codes "(") text (codes ") ")))

pub returns-in_err-put_list : goal.returns-in_err-put_list
returns-in_err-put_list g c =
    let names = names_of c.args.trees.now c.args.method in
    let ts = flat_map (parameter_named (bare c.args.layout.now) names) c.args.structure.now in
    let some : are_any ts ≡ true = sym (c.has_parameters.ensures names) ∙ c.if-not-has_parameters.false in
    writes_exit c.from_residual-in_err-put_list.result c.from_residual-in_err-put_list.ensures.0
    (stopped_early (codes ") ") (stopped_then c.in_ok-put_all.ensures c.in_err-put_list.ensures refl) (parenthesised ts some))

pub returns : goal.returns
returns g c =
    let names = names_of c.args.trees.now c.args.method in
    let ts = flat_map (parameter_named (bare c.args.layout.now) names) c.args.structure.now in
    let some : are_any ts ≡ true = sym (c.has_parameters.ensures names) ∙ c.if-not-has_parameters.false in
    writes_then c.put_all-2.new.out (codes ") ") c.put_all-2.result (added_then c.in_ok-put_all.ensures c.in_ok-put_list.ensures refl) c.put_all-2.ensures (parenthesised ts some)

pub returns-then-not-has_parameters : goal.returns-then-not-has_parameters
returns-then-not-has_parameters g c =
    let names = names_of c.args.trees.now c.args.method in
    let ts = flat_map (parameter_named (bare c.args.layout.now) names) c.args.structure.now in
    let none : are_any ts ≡ false = sym (c.has_parameters.ensures names) ∙ c.if-not-has_parameters.true in
    subst (λ (t : List ℕ). Added g.K.Sink.taken g.K.Sink.faults c.args.out.now c.args.out.now t) (no_parentheses ts none) (added_none c.args.out.now)
