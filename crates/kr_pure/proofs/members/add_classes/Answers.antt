use Rattle.std.proofs.Common.{refl, ◌<◌, ℕ, List, get_or, length, arith}
use Rattle.std.proofs.lemmas.Option.{slice_get_read}
use Rattle.kr_mean.specs.Program.{program_with}
use Rattle.kr_mean.specs.Code.{Node, code_of_class}
use Rattle.kr_code_members.specs.Nodes.{table}
use Rattle.kr_pure.specs.Entries.{class_entries}
use Rattle.kr_pure.proofs.Entered.{class_entered, entered_more, no_code, one_more_after, whole_entered}
use Rattle.kr_pure.proofs.members.add_classes.Goals as goal

pub loop-class-init : goal.loop-class-init
loop-class-init c = λ before arrays h. no_code c.args.program.now before c.args.entries.now.items h

pub loop-class-preserved : goal.loop-class-preserved
loop-class-preserved c =
    let p = c.args.program.now in
    let cs = c.args.classes.now in
    let i = c.loop-class.class-index in
    let l : i < length cs = omega arith in
    let class = get_or cs i 0 in
    let old = c.loop-class.entries.items in
    let new = c.add_class.new.entries.items in
    let n = c.index.result.now in
    let few : class < length (table p).classes = c.requires.classes i 0 l in
    let count = c.requires.nodes.class_count in
    let got = slice_get_read c.args.nodes.now.classes.items (length c.args.nodes.now.classes.items) class n refl (omega (arith, few, count)) c.index.ensures in
    let is = c.requires.nodes.classes class n got in
    λ before arrays h.
    let g : ℕ → List Node = code_of_class (program_with (table p) arrays) in
    one_more_after p g before cs i 0 old new l (λ ns k. entered_more p ns (g class) old new (class_entries n) c.in_ok-add_class.ensures (class_entered p arrays class n is) k) (c.loop-class.invariant before arrays h)

pub returns : goal.returns
returns c =
    let p = c.args.program.now in
    λ before arrays h. whole_entered p (code_of_class (program_with (table p) arrays)) before c.args.classes.now c.loop-class.class-index c.loop-class.entries.items (omega arith) (c.loop-class.invariant before arrays h)
