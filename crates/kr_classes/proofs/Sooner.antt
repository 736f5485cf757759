-- The first of several faults, part by part.
use Rattle.std.proofs.Common.{◌≡◌, refl, sym, ap, ◌∙◌, Bool, true, false, List, [], ◌∷◌, ◌++◌, if◌then◌else◌}
use Rattle.std.specs.Prelude.{Option, Some, None}
use Rattle.kr_classes_table.specs.Rules.{Fault, is_before, sooner, least}
use Rattle.kr_classes_table.proofs.Order.{asymmetric, onwards}

no_rest : (b : Bool) (f g : Fault) → sooner (if b then Some g else Some f) None ≡ (if b then Some g else Some f)
no_rest true f g = refl
no_rest false f g = refl

not_both : (b : Bool) → b ≡ true → b ≡ false → ⊥
not_both b e f = cc

three : (f g h : Fault) (p q r : Bool) → is_before g f ≡ p → is_before h g ≡ q → is_before h f ≡ r
    → (if q then (if r then Some h else Some f) else (if p then Some g else Some f)) ≡ (if p then (if q then Some h else Some g) else (if r then Some h else Some f))
three f g h true true true p q r = refl
three f g h true true false p q r = absurd (not_both (is_before h g) q (onwards h f g r (asymmetric f g p)))
three f g h true false r p q s = refl
three f g h false true r p q s = refl
three f g h false false false p q r = refl
three f g h false false true p q r = absurd (not_both (is_before h f) r (onwards h g f q p))

pull : (b : Bool) (f g h : Fault) → sooner (Some f) (if b then Some h else Some g) ≡ (if b then (if is_before h f then Some h else Some f) else (if is_before g f then Some g else Some f))
pull true f g h = refl
pull false f g h = refl

push : (b : Bool) (f g h : Fault) → sooner (if b then Some g else Some f) (Some h) ≡ (if b then (if is_before h g then Some h else Some g) else (if is_before h f then Some h else Some f))
push true f g h = refl
push false f g h = refl

pub grouped : (a b c : Option Fault) → sooner a (sooner b c) ≡ sooner (sooner a b) c
grouped None b c = refl
grouped (Some f) None c = refl
grouped (Some f) (Some g) None = sym (no_rest (is_before g f) f g)
grouped (Some f) (Some g) (Some h) = pull (is_before h g) f g h ∙ three f g h (is_before g f) (is_before h g) (is_before h f) refl refl refl ∙ sym (push (is_before g f) f g h)

pub least_append : (fs gs : List Fault) → least (fs ++ gs) ≡ sooner (least fs) (least gs)
least_append [] gs = refl
least_append (f ∷ fs) gs = ap (sooner (Some f)) (least_append fs gs) ∙ grouped (Some f) (least fs) (least gs)
