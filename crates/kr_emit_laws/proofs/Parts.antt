-- Judgements of nodes whose parts are judged alike in the larger table.
use Rattle.std.proofs.Common.{◌≡◌, refl, ap, ◌∙◌, List, [], ◌++◌, Option, Some, None}
use Rattle.kr_base.specs.declared.place.Place.{Place}
use Rattle.kr_base.proofs.ListLemmas.{append_is_nil, push_is_some}
use Rattle.kr_classes_table.specs.Types.{JavaType}
use Rattle.kr_classes_table.specs.Rules.{Fault}
use Rattle.kr_types_meaning.specs.Rules.{Typed, Untyped, Value, Variable, Values, Judgement, Fits, Breaks, fine, condition_rule}
use Rattle.kr_types_meaning.specs.Typing.{Judged, judge, on_one, on_two, on_list, on_maybe, one, two, three, one_and_list, list, maybe, test}
use Rattle.kr_laws_types.proofs.Typed.{below_none}
use Rattle.kr_emit_laws.proofs.Rules.{Keeps, equal}

pub judge_keeps : (p : Place) (v w : Judgement) (below : List Fault) → Keeps v w → (judge p v below).faults ≡ [] → judge p w below ≡ judge p v below
judge_keeps p (Fits x) w below k e = ap (λ z. judge p z below) (k.kept x refl)
judge_keeps p (Breaks r) w below k e = absurd (push_is_some below (record { place = p; rule = r }) e)

pub on_one_keeps : (f h : JavaType → Judgement) (x : Typed) → ((a : JavaType) → Keeps (f a) (h a)) → Keeps (on_one f x) (on_one h x)
on_one_keeps f h (Value a) k = k a
on_one_keeps f h (Variable a) k = k a
on_one_keeps f h (Values ts) k = equal fine fine refl
on_one_keeps f h Untyped k = equal fine fine refl

on_list_keeps : (f h : List JavaType → Judgement) (x : Typed) → ((ts : List JavaType) → Keeps (f ts) (h ts)) → Keeps (on_list f x) (on_list h x)
on_list_keeps f h (Value a) k = equal fine fine refl
on_list_keeps f h (Variable a) k = equal fine fine refl
on_list_keeps f h (Values ts) k = k ts
on_list_keeps f h Untyped k = equal fine fine refl

pub on_maybe_keeps : (f h : Option JavaType → Judgement) (x : Typed) → ((o : Option JavaType) → Keeps (f o) (h o)) → Keeps (on_maybe f x) (on_maybe h x)
on_maybe_keeps f h (Value a) k = k (Some a)
on_maybe_keeps f h (Variable a) k = k (Some a)
on_maybe_keeps f h (Values ts) k = k None
on_maybe_keeps f h Untyped k = equal fine fine refl

-- a part that is judged alike where it has no broken node
abbrev pub Alike : Judged → Judged → Type 0
Alike x y = x.faults ≡ [] → y ≡ x

-- the rule may look at whether its operand is a variable
pub one_of : (p : Place) (f h : Typed → JavaType → Judgement) (x y : Judged) → Alike x y → ((v : Typed) (a : JavaType) → Keeps (f v a) (h v a)) → (one p (f x.typed) x).faults ≡ [] → one p (h y.typed) y ≡ one p (f x.typed) x
one_of p f h x y same k e =
    let below = below_none p (on_one (f x.typed) x.typed) x.faults e in
    ap (λ (z : Judged). one p (h z.typed) z) (same below) ∙ judge_keeps p (on_one (f x.typed) x.typed) (on_one (h x.typed) x.typed) x.faults (on_one_keeps (f x.typed) (h x.typed) x.typed (k x.typed)) e

pub one_keeps : (p : Place) (f h : JavaType → Judgement) (x y : Judged) → Alike x y → ((a : JavaType) → Keeps (f a) (h a)) → (one p f x).faults ≡ [] → one p h y ≡ one p f x
one_keeps p f h x y same k e = one_of p (λ v. f) (λ v. h) x y same (λ v a. k a) e

pub two_of : (p : Place) (f h : Typed → JavaType → JavaType → Judgement) (x y x2 y2 : Judged) → Alike x x2 → Alike y y2 → ((v : Typed) (a b : JavaType) → Keeps (f v a b) (h v a b)) → (two p (f x.typed) x y).faults ≡ [] → two p (h x2.typed) x2 y2 ≡ two p (f x.typed) x y
two_of p f h x y x2 y2 same other k e =
    let below = append_is_nil x.faults y.faults (below_none p (on_two (f x.typed) x.typed y.typed) (x.faults ++ y.faults) e) in
    ap (λ (z : Judged). two p (h z.typed) z y2) (same below.0)
    ∙ (ap (λ (z : Judged). two p (h x.typed) x z) (other below.1)
    ∙ judge_keeps p (on_two (f x.typed) x.typed y.typed) (on_two (h x.typed) x.typed y.typed) (x.faults ++ y.faults)
    (on_one_keeps (λ a. on_one (f x.typed a) y.typed) (λ a. on_one (h x.typed a) y.typed) x.typed (λ a. on_one_keeps (f x.typed a) (h x.typed a) y.typed (k x.typed a))) e)

pub two_keeps : (p : Place) (f h : JavaType → JavaType → Judgement) (x y x2 y2 : Judged) → Alike x x2 → Alike y y2 → ((a b : JavaType) → Keeps (f a b) (h a b)) → (two p f x y).faults ≡ [] → two p h x2 y2 ≡ two p f x y
two_keeps p f h x y x2 y2 same other k e = two_of p (λ v. f) (λ v. h) x y x2 y2 same other (λ v a b. k a b) e

pub three_keeps : (p : Place) (f h : JavaType → JavaType → JavaType → Judgement) (x y z x2 y2 z2 : Judged) → Alike x x2 → Alike y y2 → Alike z z2 → ((a b c : JavaType) → Keeps (f a b c) (h a b c)) → (three p f x y z).faults ≡ []
    → three p h x2 y2 z2 ≡ three p f x y z
three_keeps p f h x y z x2 y2 z2 same other third k e =
    let v = on_one (λ a. on_two (f a) y.typed z.typed) x.typed in
    let below = append_is_nil (x.faults ++ y.faults) z.faults (below_none p v (x.faults ++ y.faults ++ z.faults) e) in
    let front = append_is_nil x.faults y.faults below.0 in
    ap (λ (q : Judged). three p h q y2 z2) (same front.0)
    ∙ (ap (λ (q : Judged). three p h x q z2) (other front.1)
    ∙ (ap (λ (q : Judged). three p h x y q) (third below.1)
    ∙ judge_keeps p v (on_one (λ a. on_two (h a) y.typed z.typed) x.typed) (x.faults ++ y.faults ++ z.faults)
    (on_one_keeps (λ a. on_two (f a) y.typed z.typed) (λ a. on_two (h a) y.typed z.typed) x.typed (λ a. on_one_keeps (λ b. on_one (f a b) z.typed) (λ b. on_one (h a b) z.typed) y.typed (λ b. on_one_keeps (f a b) (h a b) z.typed (k a b)))) e))

pub one_and_list_keeps : (p : Place) (f h : JavaType → List JavaType → Judgement) (x y x2 y2 : Judged) → Alike x x2 → Alike y y2 → ((a : JavaType) (ts : List JavaType) → Keeps (f a ts) (h a ts)) → (one_and_list p f x y).faults ≡ [] → one_and_list p h x2 y2 ≡ one_and_list p f x y
one_and_list_keeps p f h x y x2 y2 same other k e =
    let v = on_one (λ a. on_list (f a) y.typed) x.typed in
    let below = append_is_nil x.faults y.faults (below_none p v (x.faults ++ y.faults) e) in
    ap (λ (z : Judged). one_and_list p h z y2) (same below.0)
    ∙ (ap (λ (z : Judged). one_and_list p h x z) (other below.1)
    ∙ judge_keeps p v (on_one (λ a. on_list (h a) y.typed) x.typed) (x.faults ++ y.faults) (on_one_keeps (λ a. on_list (f a) y.typed) (λ a. on_list (h a) y.typed) x.typed (λ a. on_list_keeps (f a) (h a) y.typed (k a))) e)

pub list_keeps : (p : Place) (f h : List JavaType → Judgement) (x y : Judged) → Alike x y → ((ts : List JavaType) → Keeps (f ts) (h ts)) → (list p f x).faults ≡ [] → list p h y ≡ list p f x
list_keeps p f h x y same k e =
    let below = below_none p (on_list f x.typed) x.faults e in
    ap (λ (z : Judged). list p h z) (same below) ∙ judge_keeps p (on_list f x.typed) (on_list h x.typed) x.faults (on_list_keeps f h x.typed k) e

pub maybe_keeps : (p : Place) (f h : Option JavaType → Judgement) (x y : Judged) → Alike x y → ((o : Option JavaType) → Keeps (f o) (h o)) → (maybe p f x).faults ≡ [] → maybe p h y ≡ maybe p f x
maybe_keeps p f h x y same k e =
    let below = below_none p (on_maybe f x.typed) x.faults e in
    ap (λ (z : Judged). maybe p h z) (same below) ∙ judge_keeps p (on_maybe f x.typed) (on_maybe h x.typed) x.faults (on_maybe_keeps f h x.typed k) e

-- a condition, and what else is below it
pub test_keeps : (p : Place) (c d : Judged) (more others : List Fault) → Alike c d → (more ≡ [] → others ≡ more) → (test p c more).faults ≡ [] → test p d others ≡ test p c more
test_keeps p c d more others same rest e =
    let below = append_is_nil c.faults more (below_none p (on_one condition_rule c.typed) (c.faults ++ more) e) in
    ap (λ (z : Judged). test p z others) (same below.0) ∙ ap (test p c) (rest below.1)

pub append_alike : (xs ys xs2 ys2 : List Fault) → (xs ≡ [] → xs2 ≡ xs) → (ys ≡ [] → ys2 ≡ ys) → xs ++ ys ≡ [] → xs2 ++ ys2 ≡ xs ++ ys
append_alike xs ys xs2 ys2 f h e = let parts = append_is_nil xs ys e in ap (λ z. z ++ ys2) (f parts.0) ∙ ap (λ z. xs ++ z) (h parts.1)
