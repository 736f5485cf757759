use Rattle.std.proofs.Common.{ℕ, subst, ◌<◌, ◌^◌, Option, Some, None}
use Rattle.kr_base.specs.Parsing.{IsFault}
use Rattle.kr_base.specs.Stages.{IsAt}
use Rattle.kr_base.proofs.Stages.{fault_at_end, too_many, whole, fits_in}
use Rattle.kr_base.proofs.cut.reading.Reading.finish.Goals as goal

pub returns-in_default : goal.returns-in_default
returns-in_default c = λ text done is end.
    let at : IsAt text done None c.args.self.kept.items c.args.self.count = subst (λ (b : Option ℕ). IsAt text done b c.args.self.kept.items c.args.self.count) c.in_default.is is in
    subst (λ (n : ℕ). IsFault text n) end (fault_at_end text done c.args.self.kept.items c.args.self.count at)

pub returns-then-count-ge-MOST : goal.returns-then-count-ge-MOST
returns-then-count-ge-MOST c = λ text done is end.
    let small : c.in-Some.last < 2 ^ 32 = fits_in text done c.args.self.begun c.args.self.kept.items c.args.self.count c.in-Some.last is c.in-Some.is in
    let at : IsAt text done (Some c.in-Some.last) c.args.self.kept.items c.args.self.count = subst (λ (b : Option ℕ). IsAt text done b c.args.self.kept.items c.args.self.count) c.in-Some.is is in
    too_many text done c.args.self.kept.items c.in-Some.last c.args.self.count small at c.if-count-ge-MOST.true

pub returns : goal.returns
returns c = λ text done is end.
    let small : c.in-Some.last < 2 ^ 32 = fits_in text done c.args.self.begun c.args.self.kept.items c.args.self.count c.in-Some.last is c.in-Some.is in
    let at : IsAt text done (Some c.in-Some.last) c.args.self.kept.items c.args.self.count = subst (λ (b : Option ℕ). IsAt text done b c.args.self.kept.items c.args.self.count) c.in-Some.is is in
    whole text done c.args.self.kept.items c.keep.new.kept.items c.in-Some.last c.args.self.count small at c.if-count-ge-MOST.false (c.in_ok-keep.ensures done)
