use Rattle.std.proofs.Common.{ap, ◌++◌, ◌∷◌, [], ◌<◌, ℕ, List, length, get_or, arith}
use Rattle.kr_classes_members.specs.Rosters.{method_numbered}
use Rattle.kr_mean.specs.Program.{program_with}
use Rattle.kr_mean.specs.Code.{Node, code_of_method}
use Rattle.kr_code_members.specs.Nodes.{table}
use Rattle.kr_pure.proofs.Entered.{body_entered, entered_more, entered_same, mapped_code, method_there, no_code, one_more_after, whole_entered}
use Rattle.kr_pure.proofs.members.add_bodies.Goals as goal

pub loop-method-init : goal.loop-method-init
loop-method-init c = λ before arrays h. no_code c.args._program.now before c.args.entries.now.items h

pub index-found-requires : goal.index-found-requires
index-found-requires c =
    let l : c.loop-method.method-index < length c.args.methods.now = omega arith in
    omega (arith, c.requires.methods c.loop-method.method-index 0 l, c.requires.nodes.method_count)

pub loop-method-preserved : goal.loop-method-preserved
loop-method-preserved c =
    let p = c.args._program.now in
    let ms = c.args.methods.now in
    let i = c.loop-method.method-index in
    let l : i < length ms = omega arith in
    let old = c.loop-method.entries.items in
    let new = c.push.new.self.items in
    let n = c.index-found.result.now in
    let node = method_there p c.args.nodes.now (get_or ms i 0) n c.requires.nodes (c.requires.methods i 0 l) c.index-found.ensures in
    λ before arrays h.
    let g : ℕ → List Node = λ k. code_of_method (program_with (table p) arrays) (method_numbered (table p) k) in
    one_more_after p g before ms i 0 old new l (λ ns k. entered_more p ns _ old new (record { file = n.file; node = n.body } ∷ []) c.in_ok-push.ensures.items (body_entered p arrays _ n node) k) (c.loop-method.invariant before arrays h)

pub returns : goal.returns
returns c =
    let p = c.args._program.now in
    let ms = c.args.methods.now in
    let es = c.loop-method.entries.items in
    λ before arrays h.
    let mean = program_with (table p) arrays in
    let g : ℕ → List Node = λ k. code_of_method mean (method_numbered (table p) k) in
    entered_same p _ _ es (ap (λ (xs : List Node). before ++ xs) (mapped_code (method_numbered (table p)) (code_of_method mean) ms)) (whole_entered p g before ms c.loop-method.method-index es (omega arith) (c.loop-method.invariant before arrays h))
