use Rattle.std.proofs.Common.{◌++◌, ◌∙◌, Bool, List, [], ℕ, ap, append_assoc, sym}
use Rattle.std.specs.Prelude.{codes}
use Rattle.kr_emit_meaning.specs.Builders.{assigned_text, is_long_spot, local_text, set_text, value_text}
use Rattle.kr_emit.proofs.Lines.{assigned_added, line_as}
use Rattle.kr_space_problem.specs.Posed.{posed}
use Rattle.kr_text.specs.Lines.{line_bytes}
use Rattle.kr_value.specs.declared.object.Spot.TheVariants.{Element}
use Rattle.kr_emit.proofs.assignment.add_element.Goals as goal

pub returns : goal.returns
returns c =
    let program = (posed c.args.prepared.now.problem).program in
    let objects = c.args.objects.now in
    let local = local_text objects c.args.object in
    let number = c.as_bytes.result.now in
    let spot = codes "[" ++ number ++ codes "]" in
    let value = value_text objects c.has_long_element.result c.args.value in
    let old = line_bytes c.args.line.now in
    let new = line_bytes c.add-2.new.self in
    line_as c.add-2.result old new (assigned_text local spot value) (set_text program objects c.args.object c.args.class c.args.value (Element c.args.index))
    (assigned_added c.add-2.result old (line_bytes c.add.new.self) (line_bytes c.add_local.new.line) (line_bytes c.add_all.new.line) (line_bytes c.add_value.new.line) new local spot (codes "[" ++ (number ++ (codes "] = " ++ []))) value
    (ap (λ (t : List ℕ). codes "[" ++ t) (sym (append_assoc number (codes "]") (codes " = ")))) c.in_ok-add.ensures.added c.in_ok-add_local.ensures c.in_ok-add_all.ensures c.in_ok-add_value.ensures c.add-2.ensures.added)
    (ap (λ (n : List ℕ). assigned_text local (codes "[" ++ n ++ codes "]") (value_text objects (is_long_spot program c.args.class (Element c.args.index)) c.args.value)) (sym (c.as_bytes.ensures.value ∙ c.format.ensures.text))
    ∙ ap (λ (b : Bool). assigned_text local spot (value_text objects b c.args.value)) (sym c.has_long_element.ensures))
