use Rattle.std.proofs.Common.{◌≡◌, ℕ, ◌+◌, List, [], ◌∷◌, ◌++◌, Bool, take, get_or, subst, sym, arith}
use Rattle.std.proofs.lemmas.List.{length-take}
use Rattle.std.proofs.lemmas.Grind.{take_at_read}
use Rattle.kr_base.specs.Parsing.{Begins, IsFault}
use Rattle.kr_base.specs.Stages.{IsAt, Reads}
use Rattle.kr_base.proofs.Stages.{fault_here, few_numbers}
use Rattle.kr_base.proofs.cut.Cut.parse.Goals as goal

pub read-requires : goal.read-requires
read-requires c =
    let few = few_numbers (take c.loop-at.at c.as_bytes-bytes.result.now) c.loop-at.invariant.0 c.loop-at.reading.begun c.loop-at.reading.kept.items c.loop-at.reading.count c.loop-at.invariant.1 in
    omega (arith, length-take c.loop-at.at c.as_bytes-bytes.result.now)

pub returns-then-not-branch : goal.returns-then-not-branch
returns-then-not-branch c =
    let bytes : List ℕ = c.as_bytes-bytes.result.now in
    let at : ℕ = c.loop-at.at in
    let reads = c.in_ok-read.ensures (take c.loop-at.at c.as_bytes-bytes.result.now) c.loop-at.invariant.0 c.loop-at.invariant.1 in
    let dead = subst (λ (b : Bool). Reads (take c.loop-at.at c.as_bytes-bytes.result.now) c.loop-at.invariant.0 (get_or c.as_bytes-bytes.result.now c.loop-at.at 0) b c.read.new.self.begun c.read.new.self.kept.items c.read.new.self.count) c.if-not-branch.true reads in
    let next : take (c.loop-at.at + 1) c.as_bytes-bytes.result.now ≡ take c.loop-at.at c.as_bytes-bytes.result.now ++ get_or c.as_bytes-bytes.result.now c.loop-at.at 0 ∷ [] = (take_at_read c.as_bytes-bytes.result.now c.loop-at.at 0 c.loop-at-test.true).1 in
    subst (λ (t : List ℕ). IsFault t c.loop-at.at) c.as_bytes-bytes.ensures.value
    (fault_here c.as_bytes-bytes.result.now c.loop-at.invariant.0 c.loop-at.reading.begun c.loop-at.reading.kept.items c.loop-at.reading.count c.loop-at.at c.loop-at-test.true c.loop-at.invariant.1
    (λ b. dead (subst Begins next b)))

pub loop-at-preserved : goal.loop-at-preserved
loop-at-preserved c =
    let reads = c.in_ok-read.ensures (take c.loop-at.at c.as_bytes-bytes.result.now) c.loop-at.invariant.0 c.loop-at.invariant.1 in
    let on = subst (λ (b : Bool). Reads (take c.loop-at.at c.as_bytes-bytes.result.now) c.loop-at.invariant.0 (get_or c.as_bytes-bytes.result.now c.loop-at.at 0) b c.read.new.self.begun c.read.new.self.kept.items c.read.new.self.count) c.if-not-branch.false reads in
    let next : take (c.loop-at.at + 1) c.as_bytes-bytes.result.now ≡ take c.loop-at.at c.as_bytes-bytes.result.now ++ get_or c.as_bytes-bytes.result.now c.loop-at.at 0 ∷ [] = (take_at_read c.as_bytes-bytes.result.now c.loop-at.at 0 c.loop-at-test.true).1 in
    (on.0, subst (λ (t : List ℕ). IsAt t on.0 c.read.new.self.begun c.read.new.self.kept.items c.read.new.self.count) (sym next) on.1)

pub finish-requires : goal.finish-requires
finish-requires c =
    let few = few_numbers (take c.loop-at.at c.as_bytes-bytes.result.now) c.loop-at.invariant.0 c.loop-at.reading.begun c.loop-at.reading.kept.items c.loop-at.reading.count c.loop-at.invariant.1 in
    omega (arith, length-take c.loop-at.at c.as_bytes-bytes.result.now)
