-- The line upwards from a class, step by step.
use Rattle.std.proofs.Common.{◌≡◌, sym, ap, ◌∙◌, ℕ, suc, ◌+◌, ◌-◌, ◌<◌, true, false, ◌||◌, nat_eq, List, length, arith}
use Rattle.std.specs.Prelude.{Option, Some, None}
use Rattle.kr_classes_table.specs.Table.{Table, super_of, line_within, is_among, ancestors}
use Rattle.kr_classes_table.proofs.Tables.{no_line}
use Rattle.kr_classes.specs.Faults.{AreSuperclasses, IsLeft, superclass_at}
use Rattle.kr_classes_members.proofs.Upwards.{other, same}

pub start : (supers : List (Option ℕ)) (c : ℕ) → c < length supers → IsLeft supers c 0 (superclass_at supers c)
start supers c l t a =
    let n : length supers - 0 ≡ length t.classes = omega (arith, a.count) in
    ap (λ o. is_among c (line_within (length supers - 0) t o)) (sym (a.each c l)) ∙ ap (λ k. is_among c (line_within k t (super_of t c))) n

one_more : (n i : ℕ) → i < n → n - i ≡ suc (n - (i + 1))
one_more n i l = omega (arith, l)

head_of : (k : ℕ) (t : Table) (c above n : ℕ) → n ≡ suc k → is_among c (line_within n t (Some above)) ≡ (nat_eq c above || is_among c (line_within k t (super_of t above)))
head_of k t c above n e = ap (λ m. is_among c (line_within m t (Some above))) e

pub step : (supers : List (Option ℕ)) (c i above : ℕ) → i < length supers → above < length supers → (above ≡ c → ⊥) → IsLeft supers c i (Some above) → IsLeft supers c (i + 1) (superclass_at supers above)
step supers c i above l m e left t a =
    let k = length supers - (i + 1) in
    ap (λ o. is_among c (line_within k t o)) (sym (a.each above m))
    ∙ ap (λ b. b || is_among c (line_within k t (super_of t above))) (sym (other c above e))
    ∙ sym (head_of k t c above (length supers - i) (one_more (length supers) i l))
    ∙ left t a

pub found : (supers : List (Option ℕ)) (c i above : ℕ) → i < length supers → above ≡ c → IsLeft supers c i (Some above) → (t : Table) → AreSuperclasses supers t → true ≡ is_among c (ancestors t c)
found supers c i above l e left t a =
    let k = length supers - (i + 1) in
    ap (λ b. b || is_among c (line_within k t (super_of t above))) (sym (same c above e))
    ∙ sym (head_of k t c above (length supers - i) (one_more (length supers) i l))
    ∙ left t a

pub at_end : (supers : List (Option ℕ)) (c i : ℕ) → IsLeft supers c i None → (t : Table) → AreSuperclasses supers t → false ≡ is_among c (ancestors t c)
at_end supers c i left t a = sym (no_line (length supers - i) t c) ∙ left t a

nothing : (n : ℕ) (t : Table) (c : ℕ) (o : Option ℕ) → n ≡ 0 → is_among c (line_within n t o) ≡ false
nothing n t c o e = ap (λ m. is_among c (line_within m t o)) e

pub past : (supers : List (Option ℕ)) (c i : ℕ) (o : Option ℕ) → length supers - i ≡ 0 → IsLeft supers c i o → (t : Table) → AreSuperclasses supers t → false ≡ is_among c (ancestors t c)
past supers c i o e left t a = sym (nothing (length supers - i) t c o e) ∙ left t a
