use Rattle.std.proofs.Common.{ap, length, arith}
use Rattle.std.proofs.lemmas.List.{length-map}
use Rattle.kr_classes_names.specs.Shown.{heading_shown}
use Rattle.kr_classes_names.proofs.class_names.Heads.len.Goals as goal

pub returns-clause-all : goal.returns-clause-all
returns-clause-all c = λ files h.
    let same = length-map c.args.self.now.headings.items (heading_shown files) in
    let all = ap length h.shown in
    omega (arith, same, all)
