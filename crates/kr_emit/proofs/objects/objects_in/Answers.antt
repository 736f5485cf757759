use Rattle.std.proofs.Common.{◌∙◌, ℕ, List, ap, arith, get_or, refl}
use Rattle.std.specs.Prelude.{flat_map, pos}
use Rattle.std.proofs.lemmas.List.{take_all}
use Rattle.kr_emit_meaning.specs.Builders.{referred}
use Rattle.kr_mean.specs.Heaps.{distinct}
use Rattle.kr_mean.specs.Runs.{is_same_number}
use Rattle.kr_value.specs.declared.value.Value.{Value}
use Rattle.kr_value.specs.declared.value.Value.TheVariants.{Int}
use Rattle.kr_emit.proofs.Named.{grown_on}
use Rattle.kr_emit.proofs.objects.objects_in.Goals as goal

pub loop-entry-preserved : goal.loop-entry-preserved
loop-entry-preserved c =
    let d : ℕ × Value = (0, Int (pos 0)) in
    let xs = c.args.structure.now in
    let i = c.loop-entry.entry-index in
    grown_on xs i d c.loop-entry.objects.items c.loop-entry-test.true c.loop-entry.invariant (get_or xs i d).1 c.add_referred.new.objects.items refl c.in_ok-add_referred.ensures

pub returns : goal.returns
returns c = c.loop-entry.invariant ∙ ap (λ (ps : List (ℕ × Value)). distinct is_same_number (flat_map (λ (p : ℕ × Value). referred p.1) ps)) (take_all c.loop-entry.entry-index c.args.structure.now (omega (arith, c.loop-entry-test.false)))
