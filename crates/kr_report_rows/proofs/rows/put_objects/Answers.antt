use Rattle.std.proofs.Common.{◌≡◌, ◌++◌, ◌+◌, ◌≤◌, ◌∙◌, List, ℕ, ap, arith, length, map, refl, subst, sym, take}
use Rattle.std.specs.Prelude.{codes, flat_map, pos, ◌||◌}
use Rattle.std.proofs.lemmas.List.{map-append, take_all}
use Rattle.kr_base.specs.Told.{Added, Stopped}
use Rattle.kr_base.specs.Writing.{added_then, stopped_early, stopped_then, writes_exit}
use Rattle.kr_mean.specs.Heaps.{distinct, is_same_object}
use Rattle.kr_mean.specs.Problem.{DomainObject}
use Rattle.kr_space_layout.specs.Bounds.{bare}
use Rattle.kr_space_problem.specs.Posed.{posed}
use Rattle.kr_value.specs.declared.value.Value.{Value}
use Rattle.kr_value.specs.declared.value.Value.TheVariants.{Int}
use Rattle.kr_report.specs.Joined.{are_any, separated}
use Rattle.kr_report.specs.Texts.{joined_by, object_text, objects_named}
use Rattle.kr_report_rows.specs.Parts.{entry_objects}
use Rattle.kr_report_rows.proofs.Fresh.{later, named_grown, named_rest, new_here}
use Rattle.kr_report_rows.proofs.Fronts.{any_grown, joined_exit, joined_grown}
use Rattle.kr_report_rows.proofs.Meant.{named_laid}
use Rattle.kr_report_rows.proofs.rows.put_objects.Goals as goal

pub returns-in_err-any : goal.returns-in_err-any
returns-in_err-any g c =
    let d : ℕ × Value = (0, Int (pos 0)) in
    let problem = posed c.args.prepared.now.problem in
    let b = bare c.args.layout.now in
    let xs = c.args.structure.now in
    let k = c.loop-at.at in
    let h = c.loop-at-test.true in
    let w = object_text problem xs in
    let seen = distinct is_same_object (flat_map (entry_objects b) (take k xs)) in
    let new = new_here b xs k d h in
    let rest = later b xs k d h in
    let P : List DomainObject → Type 0 = λ os. Stopped g.K.Sink.taken g.K.Sink.faults c.loop-at.out c.put_named.new.out (separated (codes " ") c.loop-at.any (map w os)) in
    let whole : map w (objects_named problem xs) ≡ (map w seen ++ map w new) ++ map w rest =
    ap (map w) (sym (named_laid problem c.args.layout.now c.requires.laid xs) ∙ named_rest b xs k d h)
    ∙ (map-append w (seen ++ new) rest ∙ ap (λ (ts : List (List ℕ)). ts ++ map w rest) (map-append w seen new)) in
    writes_exit c.from_residual.result c.from_residual.ensures.0
    (stopped_early (separated (codes " ") (are_any (map w seen ++ map w new)) (map w rest))
    (stopped_then c.loop-at.invariant.sent (subst P c.named_by-named.ensures c.in_err-any.ensures.text) refl)
    (joined_exit (codes " ") c.loop-at.any (map w seen) (map w new) (map w rest) (map w (objects_named problem xs)) c.loop-at.invariant.any whole))

pub loop-at-preserved : goal.loop-at-preserved
loop-at-preserved g c =
    let d : ℕ × Value = (0, Int (pos 0)) in
    let problem = posed c.args.prepared.now.problem in
    let b = bare c.args.layout.now in
    let xs = c.args.structure.now in
    let k = c.loop-at.at in
    let h = c.loop-at-test.true in
    let w = object_text problem xs in
    let seen = distinct is_same_object (flat_map (entry_objects b) (take k xs)) in
    let new = new_here b xs k d h in
    let P : List DomainObject → Type 0 = λ os. Added g.K.Sink.taken g.K.Sink.faults c.loop-at.out c.put_named.new.out (separated (codes " ") c.loop-at.any (map w os)) in
    let Q : List DomainObject → Type 0 = λ os. c.in_ok-any.any ≡ (c.loop-at.any || are_any (map w os)) in
    let grown = ap (map w) (named_grown b xs k d h) ∙ map-append w seen new in
    record {
      any = any_grown c.loop-at.any c.in_ok-any.any (map w seen) (map w new) c.loop-at.invariant.any (subst Q c.named_by-named.ensures c.in_ok-any.ensures.any) ∙ ap are_any (sym grown);
      sent = added_then c.loop-at.invariant.sent (subst P c.named_by-named.ensures c.in_ok-any.ensures.text)
          (ap (joined_by (codes " ")) grown ∙ joined_grown (codes " ") c.loop-at.any (map w seen) (map w new) c.loop-at.invariant.any);
    }

pub returns : goal.returns
returns g c =
    let problem = posed c.args.prepared.now.problem in
    let b = bare c.args.layout.now in
    let xs = c.args.structure.now in
    let k = c.loop-at.at in
    let w = object_text problem xs in
    let end : length xs ≤ k = omega (arith, c.loop-at-test.false) in
    subst (λ (ts : List (List ℕ)). Added g.K.Sink.taken g.K.Sink.faults c.args.out.now c.loop-at.out (joined_by (codes " ") ts))
    (ap (λ (es : List (ℕ × Value)). map w (distinct is_same_object (flat_map (entry_objects b) es))) (take_all k xs end) ∙ ap (map w) (named_laid problem c.args.layout.now c.requires.laid xs))
    c.loop-at.invariant.sent
