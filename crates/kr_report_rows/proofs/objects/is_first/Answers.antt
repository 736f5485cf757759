use Rattle.std.proofs.Common.{◌≡◌, ◌∙◌, ◌+◌, ◌-◌, ℕ, Bool, false, true, suc, ap, arith, drop, get_or, sym, take}
use Rattle.std.specs.Prelude.{◌&&◌, flat_map, pos}
use Rattle.kr_iso.specs.Objects.{object_of}
use Rattle.kr_space_layout.specs.Bounds.{bare}
use Rattle.kr_value.specs.declared.value.Value.{Value}
use Rattle.kr_value.specs.declared.value.Value.TheVariants.{Int}
use Rattle.kr_report.specs.Texts.{objects_in}
use Rattle.kr_report_rows.specs.Parts.{entry_objects, is_new}
use Rattle.kr_report_rows.proofs.Fresh.{new_none, new_step}
use Rattle.kr_report_rows.proofs.objects.is_first.Goals as goal

pub returns-then-left-eq0 : goal.returns-then-left-eq0
returns-then-left-eq0 c =
    sym (c.loop-entry.invariant ∙ ap (λ (n : ℕ). is_new (flat_map (entry_objects (bare c.args.layout.now)) (take n (drop c.loop-entry.entry-index c.args.structure.now))) (object_of c.args.object)) c.if-left-eq0.true)

pub returns-then-not-is_other : goal.returns-then-not-is_other
returns-then-not-is_other c =
    let d : ℕ × Value = (0, Int (pos 0)) in
    let b = bare c.args.layout.now in
    let o = object_of c.args.object in
    let xs = c.args.structure.now in
    let k = c.loop-entry.entry-index in
    let n = c.loop-entry.left - 1 in
    let left : c.loop-entry.left ≡ suc n = omega (arith, c.if-left-eq0.false) in
    let other : is_new (objects_in b (get_or xs k d).1) o ≡ false = sym c.is_other.ensures ∙ c.if-not-is_other.true in
    sym (c.loop-entry.invariant ∙ (new_step b xs k n c.loop-entry.left d o c.loop-entry-test.true left
    ∙ ap (λ (x : Bool). x && is_new (flat_map (entry_objects b) (take n (drop (k + 1) xs))) o) other))

pub loop-entry-preserved : goal.loop-entry-preserved
loop-entry-preserved c =
    let d : ℕ × Value = (0, Int (pos 0)) in
    let b = bare c.args.layout.now in
    let o = object_of c.args.object in
    let xs = c.args.structure.now in
    let k = c.loop-entry.entry-index in
    let n = c.loop-entry.left - 1 in
    let left : c.loop-entry.left ≡ suc n = omega (arith, c.if-left-eq0.false) in
    let other : is_new (objects_in b (get_or xs k d).1) o ≡ true = sym c.is_other.ensures ∙ c.if-not-is_other.false in
    c.loop-entry.invariant ∙ (new_step b xs k n c.loop-entry.left d o c.loop-entry-test.true left
    ∙ ap (λ (x : Bool). x && is_new (flat_map (entry_objects b) (take n (drop (k + 1) xs))) o) other)

pub returns : goal.returns
returns c =
    sym (c.loop-entry.invariant ∙ new_none (bare c.args.layout.now) c.args.structure.now c.loop-entry.entry-index c.loop-entry.left (object_of c.args.object) (omega (arith, c.loop-entry-test.false)))
