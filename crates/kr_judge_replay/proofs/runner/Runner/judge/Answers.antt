use Rattle.std.proofs.Common.{◌≡◌, [], refl, ap, take, sym, ◌∙◌, List}
use Rattle.std.specs.Prelude.{flat_map, map}
use Rattle.kr_mean.specs.Places.{SlotPlace}
use Rattle.kr_mean.specs.Runs.{slots_for}
use Rattle.kr_space_layout.specs.Bounds.{bare}
use Rattle.kr_judge.specs.Follows.{place_in}
use Rattle.kr_judge.specs.Orders.{with_slots}
use Rattle.kr_judge.proofs.Ends.{order_is}
use Rattle.kr_judge_replay.proofs.Meanings.{in_one}
use Rattle.kr_judge_replay.proofs.runner.Runner.judge.Goals as goal

pub returns-clause-order : goal.returns-clause-order
returns-clause-order g c =
    let b = c.self.inside.layout.now in
    let v = c.self.inside.vector in
    let p = c.self.inside.predicate.now in
    let a = c.self.inside.accesses in
    let reads = c.run.new.world.reads in
    let shared = c.in_ok-went.went.shared in
    let runs = c.in_ok-went.ensures.ends in
    let gone = c.in_ok-went.ensures.went in
    rw (← c.self.view_is) (λ program n q.
    let r = runs program n q in
    let same = in_one (take shared (map place_in a.places.items) ≡ take shared reads) p.code (λ d m. gone.shared d m ∙ sym (ap (λ (ps : List SlotPlace). take shared ps) (gone.reads d m))) program n q.code in
    order_is program b v c.in_ok-went.went.end reads (with_slots [] (flat_map (slots_for (bare b)) reads)) c.take.new.self.order r.0 r.1 refl (c.in_ok-take.ensures.order same))
