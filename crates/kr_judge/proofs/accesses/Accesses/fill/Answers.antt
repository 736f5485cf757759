use Rattle.std.proofs.Common.{◌≡◌, ◌∙◌, [], List, ℕ, ap, length, subst, sym, take}
use Rattle.std.specs.Prelude.{if◌then◌else◌, reverse}
use Rattle.kr_mean.specs.Heaps.{walk}
use Rattle.kr_mean.specs.Runs.{is_accepted, slots_for}
use Rattle.kr_space_layout.specs.Bounds.{bare}
use Rattle.kr_judge.specs.Follows.{AreOf}
use Rattle.kr_judge.specs.Runs.{end_said}
use Rattle.kr_judge.proofs.Follows.{front_is}
use Rattle.kr_judge.proofs.accesses.Accesses.fill.Goals as goal

pub returns-clause-follow : goal.returns-clause-follow
returns-clause-follow c =
    let f = slots_for (bare c.args.layout.now) in
    let read = c.follow.new.order in
    let front : take c.len-self.result c.add_reachable.new.order ≡ read =
    ap (λ (n : ℕ). take n c.add_reachable.new.order) c.len-self.ensures
    ∙ (ap (λ (l : List ℕ). take (length read) l) c.in_ok-add_reachable.ensures
    ∙ front_is read (if is_accepted (end_said c.args.end) then walk (bare c.args.layout.now) c.args.vector.now else [])) in
    subst (λ (l : List ℕ). AreOf f (reverse c.follow.new.places.items) l) (sym front) c.in_ok-follow.ensures.places
