-- A loop that writes the texts of a list's elements in order.
use Rattle.std.proofs.Common.{◌≡◌, ℕ, ◌+◌, ◌<◌, ◌++◌, List, length, drop, get_or, add-one, drop-cons, ap, ◌∙◌, sym, append_assoc}
use Rattle.std.specs.Prelude.{flat_map}

pub sent_more : {R : Type 0} (text : R → List ℕ) (whole : List ℕ) (rows : List R) (i : ℕ) (d : R) (sent : List ℕ) → i < length rows
    → whole ≡ sent ++ flat_map text (drop i rows)
    → whole ≡ (sent ++ text (get_or rows i d)) ++ flat_map text (drop (i + 1) rows)
sent_more text whole rows i d sent h e =
    let step : flat_map text (drop i rows) ≡ text (get_or rows i d) ++ flat_map text (drop (i + 1) rows) = rw (add-one, drop-cons rows i d) in
    e ∙ (ap (λ t. sent ++ t) step ∙ sym (append_assoc sent (text (get_or rows i d)) (flat_map text (drop (i + 1) rows))))
