use Rattle.std.proofs.Common.{◌≡◌, ℕ, ◌<◌, List, Bool, true, false, refl, sym, ap, subst, ◌∙◌, ◌+◌, length, arith}
use Rattle.std.specs.Prelude.{map}
use Rattle.kr_base.specs.declared.span.Bound.TheVariants.{At}
use Rattle.kr_base.specs.Cuts.{Before}
use Rattle.kr_base.specs.Entries.{through_spent, within}
use Rattle.kr_mean.specs.Entries.{all_entries, vectors}
use Rattle.kr_mean.specs.Space.{Space}
use Rattle.kr_step.specs.declared.candidates.Ending.{Ending}
use Rattle.kr_plain.specs.Plain.{told_entry, mark_by, Follows, Tries}
use Rattle.kr_plain.proofs.Gone.{Trying, none_before, starts, tried, goes, fewer_left, left_over}
use Rattle.kr_plain.proofs.Once.{all_left, one_fewer}
use Rattle.kr_plain.proofs.Whole.{whole_span, through_told}
use Rattle.kr_plain.proofs.plain.list_told.Goals as goal

pub loop-more-init : goal.loop-more-init
loop-more-init g c =
    let S = g.C.Slots.space c.args.candidates.now in
    let o = g.C.Candidate.order c.args.candidates.now in
    let mark = mark_by (g.T.Telling.told c.args.telling.now) (g.C.Candidate.ending c.args.candidates.now) in
    let first = starts S o mark (At c.args.span.now.after) c.args.span.now.upto (g.C.Candidate.vector c.args.candidates.now) c.laws.ensures.space c.requires.first in
    let left = all_left S (g.C.Candidate.vector c.args.candidates.now) first.0 (λ u is b. none_before u S.slots is.long (subst (λ (z : List ℕ). Before u z) c.requires.first b)) in
    record {
      space = refl;
      order = refl;
      ending = refl;
      runs = omega (arith, left);
      trying = subst (λ l. Trying S o mark (At c.args.span.now.after) c.args.span.now.upto true (g.C.Candidate.vector c.args.candidates.now) l) (sym c.new-found.ensures.items)
          first;
    }

pub try_one-requires-clause-fits : goal.try_one-requires-clause-fits
try_one-requires-clause-fits g c = subst (λ (U : Space). g.T.Telling.fits c.args.telling.now U) (sym c.loop-more.invariant.space) c.requires.fits

pub loop-more-smaller : goal.loop-more-smaller
loop-more-smaller g c =
    let T = g.C.Slots.space c.loop-more.candidates in
    let v = g.C.Candidate.vector c.loop-more.candidates in
    let more = c.count_on-more.result in
    let w = g.C.Candidate.vector c.count_on-more.new.candidates in
    let near : Follows T (g.C.Candidate.vector c.try_one.new.candidates) more w = subst (λ (U : Space). Follows U (g.C.Candidate.vector c.try_one.new.candidates) more w) c.in_ok-try_one.ensures.space c.count_on-more.ensures.follows in
    let follows : Follows T v more w = subst (λ (u : List ℕ). Follows T u more w) c.in_ok-try_one.ensures.vector near in
    subst (λ (U : Space). left_over U more w < left_over T c.loop-more.more v) (sym (c.count_on-more.ensures.space ∙ c.in_ok-try_one.ensures.space))
    (subst (λ (m : Bool). left_over T more w < left_over T m v) (sym c.loop-more-test.true) (fewer_left T v more w follows))

pub loop-more-preserved : goal.loop-more-preserved
loop-more-preserved g c =
    let S = g.C.Slots.space c.args.candidates.now in
    let o = g.C.Candidate.order c.args.candidates.now in
    let told = g.T.Telling.told c.args.telling.now in
    let mark = mark_by told (g.C.Candidate.ending c.args.candidates.now) in
    let a = At c.args.span.now.after in
    let b = c.args.span.now.upto in
    let inv = c.loop-more.invariant in
    let v = g.C.Candidate.vector c.loop-more.candidates in
    let old = c.loop-more.found.items in
    let new = c.try_one.new.found.items in
    let more = c.count_on-more.result in
    let w = g.C.Candidate.vector c.count_on-more.new.candidates in
    let near : Follows S (g.C.Candidate.vector c.try_one.new.candidates) more w = subst (λ (U : Space). Follows U (g.C.Candidate.vector c.try_one.new.candidates) more w) (c.in_ok-try_one.ensures.space ∙ inv.space) c.count_on-more.ensures.follows in
    let follows : Follows S v more w = subst (λ (u : List ℕ). Follows S u more w) c.in_ok-try_one.ensures.vector near in
    let on_space : Tries S (g.C.Candidate.order c.loop-more.candidates) (mark_by told (g.C.Candidate.ending c.loop-more.candidates)) a b v old new =
    subst (λ (U : Space). Tries U (g.C.Candidate.order c.loop-more.candidates) (mark_by told (g.C.Candidate.ending c.loop-more.candidates)) a b v old new) inv.space c.in_ok-try_one.ensures.tries in
    let on_order : Tries S o (mark_by told (g.C.Candidate.ending c.loop-more.candidates)) a b v old new =
    subst (λ (p : List ℕ → List ℕ). Tries S p (mark_by told (g.C.Candidate.ending c.loop-more.candidates)) a b v old new) inv.order on_space in
    let tries : Tries S o mark a b v old new = subst (λ (n : List ℕ → Ending). Tries S o (mark_by told n) a b v old new) inv.ending on_order in
    let here : Trying S o mark a b true v old = subst (λ (t : Bool). Trying S o mark a b t v old) c.loop-more-test.true inv.trying in
    record {
      space = c.count_on-more.ensures.space ∙ (c.in_ok-try_one.ensures.space ∙ inv.space);
      order = c.count_on-more.ensures.order ∙ (c.in_ok-try_one.ensures.order ∙ inv.order);
      ending = c.count_on-more.ensures.ending ∙ (c.in_ok-try_one.ensures.ending ∙ inv.ending);
      trying = goes S o mark a b v more w new (tried S o mark a b v old new here.1 tries) follows;
      runs = (let step = one_fewer S v more w follows in let before : c.loop-more.runs + left_over S true v ≡ c.args.runs.now + length (vectors S) = subst (λ (t : Bool). c.loop-more.runs + left_over S t v ≡ c.args.runs.now + length (vectors S)) c.loop-more-test.true inv.runs in omega (arith, step, before, c.in_ok-try_one.ensures.runs));
    }

pub returns-clause-entries : goal.returns-clause-entries
returns-clause-entries g c = λ problem runs told tells.
    let S = g.C.Slots.space c.args.candidates.now in
    let o = g.C.Candidate.order c.args.candidates.now in
    let m = g.C.Candidate.ending c.args.candidates.now in
    let mark = mark_by (g.T.Telling.told c.args.telling.now) m in
    let a = At c.args.span.now.after in
    let b = c.args.span.now.upto in
    let found = c.loop-more.found.items in
    let all : Trying S o mark a b false (g.C.Candidate.vector c.loop-more.candidates) found = subst (λ (t : Bool). Trying S o mark a b t (g.C.Candidate.vector c.loop-more.candidates) found) c.loop-more-test.false c.loop-more.invariant.trying in
    let whole : found ≡ map (told_entry told) (within a b (all_entries problem)) = whole_span told (g.T.Telling.told c.args.telling.now) problem S o m runs tells a b c.plain_law.ensures found all in
    c.end_at_spent.ensures ∙ (ap (λ l. through_spent l) whole ∙ through_told told (within a b (all_entries problem)))
