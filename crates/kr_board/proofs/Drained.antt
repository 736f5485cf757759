-- What a drain leaves and takes out, by the lists that were moved.
use Rattle.std.proofs.Common.{◌≡◌, ℕ, ◌+◌, List, [], ◌∷◌, length, take, drop, sym, ap, ◌∙◌, add-one, Vec, Global}
use Rattle.kr_core.specs.declared.event.Event.{Event}
use Rattle.kr_core.specs.States.{State}
use Rattle.kr_core.specs.Steps.{gone}
use Rattle.kr_core.specs.Beside.{fronts, emptied}
use Rattle.kr_board.specs.Rooms.{IsSound}
use Rattle.kr_board.proofs.Sound.{aligned}
use Rattle.kr_board.proofs.Draining.{front-taken, left-emptied}

pub drained_left : {R : Type 0} (core : State) (kept now : List (List R)) (log : Vec Event Global) (n : ℕ) → IsSound core kept log → n ≡ length (gone core.segments) → now ≡ [] ∷ drop (n + 1) kept → now ≡ emptied [] core.segments kept
drained_left {R} core kept now log n k is h =
    h ∙ (ap (λ (m : ℕ). [] ∷ drop (m + 1) kept) is ∙ (ap (λ (m : ℕ). [] ∷ drop m kept) (add-one (length (gone core.segments))) ∙ sym (left-emptied core.segments kept (aligned core kept log k) k.core_kept.some)))

pub drained_front : {R : Type 0} (core : State) (kept front : List (List R)) (log : Vec Event Global) (n : ℕ) → IsSound core kept log → n ≡ length (gone core.segments) → front ≡ take (n + 1) kept → front ≡ fronts core.segments kept
drained_front {R} core kept front log n k is h =
    h ∙ (ap (λ (m : ℕ). take (m + 1) kept) is ∙ (ap (λ (m : ℕ). take m kept) (add-one (length (gone core.segments))) ∙ sym (front-taken core.segments kept (aligned core kept log k) k.core_kept.some)))
