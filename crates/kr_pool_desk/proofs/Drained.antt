-- What the last event took out.
use Rattle.std.proofs.Common.{◌≡◌, ℕ, ◌+◌, ◌-◌, List, [], ◌∷◌, ◌++◌, length, sym, ap, ◌∙◌, arith, Some, length-append, get_or}
use Rattle.std.specs.Prelude.{slice_get}
use Rattle.std.proofs.lemmas.Option.{slice_get_read}
use Rattle.std.proofs.Math.Seq.{get_or-append_seam}
use Rattle.kr_core.specs.declared.event.Event.{Event}
use Rattle.kr_core.specs.Rows.{drains}
use Rattle.kr_pool_desk.specs.Draining.{drains_of, last_rows}

last-at : (log : List Event) (e : Event) (n : ℕ) → n ≡ length log → slice_get (log ++ e ∷ []) n ≡ Some e
last-at log e n is =
    let a = length-append log (e ∷ []) in
    slice_get_read (log ++ e ∷ []) (length log + 1) n e (omega (arith, a)) (omega (arith, is)) (sym (get_or-append_seam log e [] e) ∙ ap (λ (m : ℕ). get_or (log ++ e ∷ []) m e) (sym is))

pub last_drained : (old new : List Event) (e : Event) → new ≡ old ++ e ∷ [] → last_rows new ≡ drains e
last_drained old new e is =
    let a = length-append old (e ∷ []) in
    let b : length (old ++ e ∷ []) - 1 ≡ length old = omega (arith, a) in
    ap (λ (l : List Event). last_rows l) is ∙ ap drains_of (last-at old e (length (old ++ e ∷ []) - 1) b)
