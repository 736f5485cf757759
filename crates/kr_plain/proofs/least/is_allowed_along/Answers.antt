use Rattle.std.proofs.Common.{◌≡◌, ◌<◌, ◌+◌, ◌++◌, ◌∷◌, [], ◌∙◌, ℕ, List, true, false, drop, get_or, ap, sym, subst, arith, rules}
use Rattle.kr_mean.specs.Choices.{AllowedAlong, IsAllowed}
use Rattle.kr_mean.specs.Readings.{AllBelow}
use Rattle.kr_plain.proofs.Along.{Goes, below_at, goes_on, stops}
use Rattle.kr_plain.proofs.least.is_allowed_along.Goals as goal

pub index-index-requires : goal.index-index-requires
index-index-requires g c =
    let b = below_at (g.C.Slots.space c.args.candidates.now).slots c.last_order-order.result.now c.loop-slot.slot-index (subst (λ (ss : List ℕ). AllBelow (g.C.Slots.space c.args.candidates.now).slots ss) (sym c.last_order-order.ensures) c.requires.below) c.loop-slot-test.true in
    omega (arith, b, c.requires.vector.long)

pub is_allowed-requires-clause-slot : goal.is_allowed-requires-clause-slot
is_allowed-requires-clause-slot g c = below_at (g.C.Slots.space c.args.candidates.now).slots c.last_order-order.result.now c.loop-slot.slot-index (subst (λ (ss : List ℕ). AllBelow (g.C.Slots.space c.args.candidates.now).slots ss) (sym c.last_order-order.ensures) c.requires.below) c.loop-slot-test.true

pub is_allowed-requires-clause-index : goal.is_allowed-requires-clause-index
is_allowed-requires-clause-index g c =
    let S = g.C.Slots.space c.args.candidates.now in
    let s = get_or c.last_order-order.result.now c.loop-slot.slot-index 0 in
    let b = below_at S.slots c.last_order-order.result.now c.loop-slot.slot-index (subst (λ (ss : List ℕ). AllBelow S.slots ss) (sym c.last_order-order.ensures) c.requires.below) c.loop-slot-test.true in
    subst (λ (i : ℕ). i < S.size s) (sym c.index-index.ensures) (c.requires.vector.within s b)

pub returns-then-not-is_allowed : goal.returns-then-not-is_allowed
returns-then-not-is_allowed g c =
    let S = g.C.Slots.space c.args.candidates.now in
    let v = g.C.Candidate.vector c.args.candidates.now in
    let order = c.last_order-order.result.now in
    let path = c.loop-slot.path.items in
    let s = get_or order c.loop-slot.slot-index 0 in
    let no : c.is_allowed.result ≡ false = search rules in (
      λ t. absurd (cc (t)),
      λ a. absurd (stops S v order c.loop-slot.slot-index path c.loop-slot-test.true c.loop-slot.invariant
          (λ x. absurd (cc (no, c.is_allowed.ensures.1 (subst (λ (p : List (ℕ × ℕ)). IsAllowed S p s c.index-index.result) (sym c.as_slice.ensures.value) (subst (λ (i : ℕ). IsAllowed S path s i) (sym c.index-index.ensures) x)))))
          (subst (λ (ss : List ℕ). AllowedAlong S v [] ss) (sym c.last_order-order.ensures) a)),
    )

pub loop-slot-preserved : goal.loop-slot-preserved
loop-slot-preserved g c =
    let S = g.C.Slots.space c.args.candidates.now in
    let v = g.C.Candidate.vector c.args.candidates.now in
    let order = c.last_order-order.result.now in
    let k = c.loop-slot.slot-index in
    let path = c.loop-slot.path.items in
    let s = get_or order k 0 in
    let b = below_at S.slots order k (subst (λ (ss : List ℕ). AllBelow S.slots ss) (sym c.last_order-order.ensures) c.requires.below) c.loop-slot-test.true in
    let yes : c.is_allowed.result ≡ true = search rules in
    let items : c.push.new.self.items ≡ path ++ (s, c.index-index.result) ∷ [] = search rules in
    subst (λ (p : List (ℕ × ℕ)). Goes S v p (drop (k + 1) order) order) (sym (items ∙ ap (λ (i : ℕ). path ++ (s, i) ∷ []) c.index-index.ensures))
    (goes_on S v order k path c.loop-slot-test.true c.loop-slot.invariant b (c.requires.vector.within s b) (subst (λ (i : ℕ). IsAllowed S path s i) c.index-index.ensures (subst (λ (p : List (ℕ × ℕ)). IsAllowed S p s c.index-index.result) c.as_slice.ensures.value (c.is_allowed.ensures.0 yes))))
