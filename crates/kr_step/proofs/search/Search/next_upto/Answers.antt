use Rattle.std.proofs.Common.{◌≡◌, ℕ, List, Option, Some, None, true, refl, sym, ap, ◌∙◌, subst, vec_len}
use Rattle.kr_base.specs.declared.span.Bound.TheVariants.{At}
use Rattle.kr_base.specs.Bounds.{less}
use Rattle.kr_step.specs.declared.candidates.Ending.{Ending}
use Rattle.kr_step.specs.Steps.{IsStuck, indices_of}
use Rattle.kr_step.specs.Stages.{ahead_of}
use Rattle.kr_step.specs.Found.{Finds, Counts}
use Rattle.kr_step.specs.Upto.{Compares}
use Rattle.kr_step.proofs.Limits.{opens_along}
use Rattle.kr_step.proofs.Turns.{stuck_along, behind}
use Rattle.kr_step.proofs.Uptos.{cut_below, empty_path, stands_risen, stands_below, stands_along, past_none, past_risen, past_first, past_at, risen, unrisen, is_past_less, comes}
use Rattle.kr_step.proofs.search.Search.next_upto.Goals as goal
use Rattle.kr_step.proofs.search.Search.next_upto.Goals.{else-is_past-via-then-is_past+else-rise, else-is_past-via-else-is_past}

pub invariant_of-self-then-is_empty : goal.invariant_of-self-then-is_empty
invariant_of-self-then-is_empty g c =
    let S = g.C.Slots.space c.self.inside.candidates in
    let o = g.C.Candidate.order c.self.inside.candidates in
    let m = g.C.Candidate.ending c.self.inside.candidates in
    let v = g.C.Candidate.vector c.find.new.candidates in
    let cut = c.self.inside.after.items in
    let below : less (At cut) c.args.upto.now ≡ true = cut_below c.args.upto.now c.args.self.now (record { candidates = c.self.inside.candidates; cut = cut; ahead = ahead_of c.self.inside.stage }) c.self.view_is c.requires in
    let none : Finds S o m cut None v c.find.new.path.items = subst (λ (f : Option Ending). Finds S o m cut f v c.find.new.path.items) c.in-None.is (c.in_ok-find.ensures.found cut c.self.invariant.0) in
    let empty = empty_path (vec_len c.find.new.path) c.find.new.path.items (sym c.is_empty.ensures ∙ c.if-is_empty.true) c.find.new.path.ok.0 in (
      stands_along S (g.C.Slots.space c.find.new.candidates) o (g.C.Candidate.order c.find.new.candidates) m (g.C.Candidate.ending c.find.new.candidates) c.find.new.stage c.rise.new.key.items v c.find.new.path.items c.find.ensures.space c.find.ensures.order c.find.ensures.ending
          (stands_risen S o m c.find.new.stage c.args.upto.now c.rise.result cut c.rise.new.key.items v c.find.new.path.items empty none below c.rise.ensures (c.find.ensures.stands cut c.self.invariant.0)),
      opens_along S (g.C.Slots.space c.find.new.candidates) c.find.new.path.items c.find.new.limit c.find.ensures.space c.find.ensures.opens,
    )

pub returns-then-is_empty-clause-found : goal.returns-then-is_empty-clause-found
returns-then-is_empty-clause-found g c =
    let S = g.C.Slots.space c.self.inside.candidates in
    let o = g.C.Candidate.order c.self.inside.candidates in
    let m = g.C.Candidate.ending c.self.inside.candidates in
    let v = g.C.Candidate.vector c.find.new.candidates in
    let cut = c.self.inside.after.items in
    let none : Finds S o m cut None v c.find.new.path.items = subst (λ (f : Option Ending). Finds S o m cut f v c.find.new.path.items) c.in-None.is (c.in_ok-find.ensures.found cut c.self.invariant.0) in
    rw (← c.self.view_is) (past_none S o c.args.upto.now cut none, past_risen S o c.args.upto.now c.rise.result cut c.rise.new.key.items none c.rise.ensures)

pub invariant_of-self-then-rise : goal.invariant_of-self-then-rise
invariant_of-self-then-rise g c =
    let S = g.C.Slots.space c.self.inside.candidates in
    let o = g.C.Candidate.order c.self.inside.candidates in
    let m = g.C.Candidate.ending c.self.inside.candidates in
    let v = g.C.Candidate.vector c.find.new.candidates in
    let cut = c.self.inside.after.items in
    let below : less (At cut) c.args.upto.now ≡ true = cut_below c.args.upto.now c.args.self.now (record { candidates = c.self.inside.candidates; cut = cut; ahead = ahead_of c.self.inside.stage }) c.self.view_is c.requires in
    let found : Finds S o m cut (Some c.in-Some.ending) v c.find.new.path.items = subst (λ (f : Option Ending). Finds S o m cut f v c.find.new.path.items) c.in-Some.is (c.in_ok-find.ensures.found cut c.self.invariant.0) in
    let written : c.write_key.new.key.items ≡ indices_of c.find.new.path.items = c.in_ok-write_key-in-Some.ensures.ok ∙ ap indices_of c.as_slice.ensures.value in
    let both = behind S o m c.laws.ensures.space c.laws.ensures.reading cut c.write_key.new.key.items v c.find.new.path.items found.0 found.2 written in
    let past : less c.args.upto.now (At c.write_key.new.key.items) ≡ true = subst (λ (x : List ℕ). less c.args.upto.now (At x) ≡ true) c.as_slice-in-Some.ensures.value (is_past_less c.args.upto.now c.as_slice-in-Some.result.now c.in-Some.ending c.compared-found.result (sym c.is_past.ensures ∙ c.if-is_past.true) c.compared-found.ensures) in
    let at : c.args.upto.now ≡ At c.rise-then-is_past.new.key.items = risen c.args.upto.now c.rise-then-is_past.result c.write_key.new.key.items c.rise-then-is_past.new.key.items c.if-rise.true c.rise-then-is_past.ensures in
    let one : ahead_of c.find.new.stage ≡ 1 = subst (λ (f : Option Ending). Counts f (ahead_of c.find.new.stage)) c.in-Some.is c.in_ok-find.ensures.ahead in (
      stands_along S (g.C.Slots.space c.find.new.candidates) o (g.C.Candidate.order c.find.new.candidates) m (g.C.Candidate.ending c.find.new.candidates) c.find.new.stage c.rise-then-is_past.new.key.items v c.find.new.path.items c.find.ensures.space c.find.ensures.order c.find.ensures.ending
          (stands_below S o m c.find.new.stage c.args.upto.now cut c.rise-then-is_past.new.key.items c.write_key.new.key.items v c.find.new.path.items one below at past both.1 (c.find.ensures.stands cut c.self.invariant.0)),
      opens_along S (g.C.Slots.space c.find.new.candidates) c.find.new.path.items c.find.new.limit c.find.ensures.space c.find.ensures.opens,
    )

pub returns-then-rise-clause-found : goal.returns-then-rise-clause-found
returns-then-rise-clause-found g c =
    let S = g.C.Slots.space c.self.inside.candidates in
    let o = g.C.Candidate.order c.self.inside.candidates in
    let m = g.C.Candidate.ending c.self.inside.candidates in
    let v = g.C.Candidate.vector c.find.new.candidates in
    let cut = c.self.inside.after.items in
    let found : Finds S o m cut (Some c.in-Some.ending) v c.find.new.path.items = subst (λ (f : Option Ending). Finds S o m cut f v c.find.new.path.items) c.in-Some.is (c.in_ok-find.ensures.found cut c.self.invariant.0) in
    let written : c.write_key.new.key.items ≡ indices_of c.find.new.path.items = c.in_ok-write_key-in-Some.ensures.ok ∙ ap indices_of c.as_slice.ensures.value in
    let both = behind S o m c.laws.ensures.space c.laws.ensures.reading cut c.write_key.new.key.items v c.find.new.path.items found.0 found.2 written in
    let past : less c.args.upto.now (At c.write_key.new.key.items) ≡ true = subst (λ (x : List ℕ). less c.args.upto.now (At x) ≡ true) c.as_slice-in-Some.ensures.value (is_past_less c.args.upto.now c.as_slice-in-Some.result.now c.in-Some.ending c.compared-found.result (sym c.is_past.ensures ∙ c.if-is_past.true) c.compared-found.ensures) in
    let at : c.args.upto.now ≡ At c.rise-then-is_past.new.key.items = risen c.args.upto.now c.rise-then-is_past.result c.write_key.new.key.items c.rise-then-is_past.new.key.items c.if-rise.true c.rise-then-is_past.ensures in
    rw (← c.self.view_is) (past_first S o c.args.upto.now cut v found.0 (subst (λ (x : List ℕ). less c.args.upto.now (At x) ≡ true) both.1 past), past_at S o c.args.upto.now c.rise-then-is_past.new.key.items at)

pub invariant_of-self-in-Some : goal.invariant_of-self-in-Some
invariant_of-self-in-Some g c =
    let S = g.C.Slots.space c.self.inside.candidates in
    let o = g.C.Candidate.order c.self.inside.candidates in
    let m = g.C.Candidate.ending c.self.inside.candidates in
    let v = g.C.Candidate.vector c.find.new.candidates in
    let cut = c.self.inside.after.items in
    let found : Finds S o m cut (Some c.in-Some.ending) v c.find.new.path.items = subst (λ (f : Option Ending). Finds S o m cut f v c.find.new.path.items) c.in-Some.is (c.in_ok-find.ensures.found cut c.self.invariant.0) in
    let written : c.write_key.new.key.items ≡ indices_of c.find.new.path.items = c.in_ok-write_key-in-Some.ensures.ok ∙ ap indices_of c.as_slice.ensures.value in
    let both = behind S o m c.laws.ensures.space c.laws.ensures.reading cut c.write_key.new.key.items v c.find.new.path.items found.0 found.2 written in
    let stuck = stuck_along S (g.C.Slots.space c.find.new.candidates) o (g.C.Candidate.order c.find.new.candidates) c.write_key.new.key.items v c.find.new.path.items c.find.ensures.space c.find.ensures.order both.0 in
    let opens = opens_along S (g.C.Slots.space c.find.new.candidates) c.find.new.path.items c.find.new.limit c.find.ensures.space c.find.ensures.opens in
    elim c.else-is_past.branch [
      | else-is_past-via-then-is_past+else-rise w ↦
          let same = unrisen c.args.upto.now w.rise-then-is_past.result c.write_key.new.key.items w.rise-then-is_past.new.key.items w.if-rise.false w.rise-then-is_past.ensures in
          let here = subst (λ (x : List ℕ). IsStuck (g.C.Slots.space c.find.new.candidates) (g.C.Candidate.order c.find.new.candidates) x v c.find.new.path.items) (sym same) stuck in
          rw w.self-inside-is (here, opens)
      | else-is_past-via-else-is_past w ↦
          rw w.self-inside-is (stuck, opens)
    ]

pub returns-else-is_past-clause-found : goal.returns-else-is_past-clause-found
returns-else-is_past-clause-found g c =
    let S = g.C.Slots.space c.self.inside.candidates in
    let o = g.C.Candidate.order c.self.inside.candidates in
    let m = g.C.Candidate.ending c.self.inside.candidates in
    let v = g.C.Candidate.vector c.find.new.candidates in
    let cut = c.self.inside.after.items in
    let found : Finds S o m cut (Some c.in-Some.ending) v c.find.new.path.items = subst (λ (f : Option Ending). Finds S o m cut f v c.find.new.path.items) c.in-Some.is (c.in_ok-find.ensures.found cut c.self.invariant.0) in
    let written : c.write_key.new.key.items ≡ indices_of c.find.new.path.items = c.in_ok-write_key-in-Some.ensures.ok ∙ ap indices_of c.as_slice.ensures.value in
    let both = behind S o m c.laws.ensures.space c.laws.ensures.reading cut c.write_key.new.key.items v c.find.new.path.items found.0 found.2 written in
    let compared : Compares c.args.upto.now c.write_key.new.key.items c.in-Some.ending c.compared-found.result = subst (λ (x : List ℕ). Compares c.args.upto.now x c.in-Some.ending c.compared-found.result) c.as_slice-in-Some.ensures.value c.compared-found.ensures in
    rw (← c.self.view_is) (elim c.else-is_past.branch [
      | else-is_past-via-then-is_past+else-rise w ↦
          let same = unrisen c.args.upto.now w.rise-then-is_past.result c.write_key.new.key.items w.rise-then-is_past.new.key.items w.if-rise.false w.rise-then-is_past.ensures in
          rw w.self-inside-is (comes S o m c.args.upto.now cut v c.write_key.new.key.items w.rise-then-is_past.new.key.items c.in-Some.ending c.compared-found.result found.0 found.1 both.1 same compared)
      | else-is_past-via-else-is_past w ↦
          rw w.self-inside-is (comes S o m c.args.upto.now cut v c.write_key.new.key.items c.write_key.new.key.items c.in-Some.ending c.compared-found.result found.0 found.1 both.1 refl compared)
    ])
