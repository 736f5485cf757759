use Rattle.std.proofs.Common.{◌≡◌, refl, ap, sym, ◌∙◌, subst, ℕ, ◌+◌, ◌-◌, ◌≤◌, length, add-one, arith}
use Rattle.kr_code_lowering.specs.Numbered.{AreBegun}
use Rattle.kr_code_lowering.specs.Origins.{file_count, first_node}
use Rattle.kr_code_lowering.proofs.Begun.{none_begun, numbers_are}
use Rattle.kr_code_lowering.proofs.Gathered.{first_end}
use Rattle.kr_code_lowering.proofs.numbering.NodeNumbers.of.Goals as goal

pub loop-file-init : goal.loop-file-init
unfolding first_node
loop-file-init c = none_begun c.args.program.now (4294967295 - c.nodes-count.result) 0 (record { all = c.in_ok-all.all; coded = 0 }) refl c.in_ok-all.ensures.items refl

pub loop-file-preserved : goal.loop-file-preserved
loop-file-preserved c =
    let p = c.args.program.now in
    subst (λ (k : ℕ). AreBegun p (4294967295 - c.nodes-count.result) (first_node p.trees.items k) c.add_numbers.new.numbers) (sym (add-one c.loop-file.file)) c.in_ok-add_numbers.ensures

pub returns : goal.returns
returns c =
    let p = c.args.program.now in
    let all : c.loop-file.file ≡ length p.trees.items = omega (arith, c.loop-file-test.false, c.loop-file.auto.file-end, c.len-files.ensures, p.trees.ok.0) in
    let end : first_node p.trees.items c.loop-file.file ≡ file_count p = ap (first_node p.trees.items) all ∙ first_end p.trees.items in
    numbers_are p (4294967295 - c.nodes-count.result) (first_node p.trees.items c.loop-file.file) c.loop-file.numbers end (omega (arith, c.nodes-count.ensures, c.requires.small)) (omega arith) c.loop-file.invariant
