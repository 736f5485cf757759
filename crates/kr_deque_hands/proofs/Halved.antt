-- A span cut in two, and a scan that came to the end of all.
use Rattle.std.proofs.Common.{◌≡◌, ℕ, List, Bool, true, false, Option, Some, None, refl, sym, ap, ◌∙◌}
use Rattle.kr_base.specs.declared.span.Bound.{Bound}
use Rattle.kr_base.specs.declared.span.Bound.TheVariants.{At, End}
use Rattle.kr_base.specs.declared.span.Span.{Span}
use Rattle.kr_base.specs.Bounds.{less}
use Rattle.kr_base.specs.Inside.{InsideLaw, inside_of}
use Rattle.kr_base.proofs.Orders.{test_from_before}
use Rattle.kr_deque_hands.specs.Turns.{Splits, Ends}

pub halved : InsideLaw → (span whole : Span) (found : Option (List ℕ)) (cut after : List ℕ) → whole ≡ span → found ≡ inside_of span.after span.upto → found ≡ Some cut → after ≡ cut
    → Splits span (record { after = whole.after; upto = At cut }) (Some (record { after = after; upto = whole.upto }))
unfolding less
halved law span whole found cut after copied f is e =
    let l = law span.after cut span.upto (sym f ∙ is) in
    let low : less (At span.after) (At cut) ≡ true = test_from_before span.after cut l.0 in (
      ap (λ (x : Span). x.after) copied,
      ap (λ (x : List ℕ). At x) (sym e),
      ap (λ (x : Span). x.upto) copied,
      ap (λ (x : Span). less (At x.after) (At cut)) copied ∙ low,
      ap (λ (x : List ℕ). less (At x) whole.upto) e ∙ (ap (λ (x : Span). less (At cut) x.upto) copied ∙ l.1),
    )

end_last : (whole : Span) (reach : Bound) → reach ≡ End → less reach whole.upto ≡ false
unfolding less
end_last whole reach e = ap (λ (b : Bound). less b whole.upto) e

pub ends_at_end : (whole : Span) (spent : Bool) (reach : Bound) → (spent ≡ true → (key : List ℕ) × (reach ≡ At key)) → reach ≡ End → Ends spent whole reach None whole None
ends_at_end whole true reach r e = let k = r refl in absurd (cc (sym e ∙ k.1))
ends_at_end whole false reach r e = (refl, (refl, end_last whole reach e))
