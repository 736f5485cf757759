-- A search up to a bound: what is past it, and a cut that rises to it.
use Rattle.std.proofs.Common.{◌≡◌, ◌==◌, ℕ, List, [], ◌∷◌, Bool, true, false, length, refl, sym, ◌∙◌, subst, arith}
use Rattle.std.proofs.lemmas.Bool.Decides.{nat_tests}
use Rattle.kr_base.specs.declared.span.Bound.{Bound}
use Rattle.kr_base.specs.declared.span.Bound.TheVariants.{At}
use Rattle.kr_base.specs.Bounds.{less}
use Rattle.kr_base.specs.Cuts.{Before}
use Rattle.kr_base.proofs.Bounds.{transitive, not_above_less, less_from_before}
use Rattle.kr_base.proofs.Orders.{before_from_test}
use Rattle.kr_mean.specs.Space.{Space}
use Rattle.kr_mean.specs.Runs.{key_along}
use Rattle.kr_mean.specs.Entries.{IsListed}
use Rattle.kr_step.specs.declared.candidates.Ending.{Ending}
use Rattle.kr_step.specs.declared.stage.Stage.{Stage}
use Rattle.kr_step.specs.declared.stage.Stage.TheVariants.{Behind, Moved, Ahead}
use Rattle.kr_step.specs.Steps.{IsFirst, IsStuck}
use Rattle.kr_step.specs.Stages.{StandsAt, Seen, ahead_of}
use Rattle.kr_step.specs.declared.stage.Upto.{Upto}
use Rattle.kr_step.specs.declared.stage.Upto.TheVariants.{Inside, Last, Past}
use Rattle.kr_step.specs.Upto.{AllPast, Rises, Arrives, Compares, ComesUpto, is_past}
use Rattle.kr_step.proofs.Orders.{before_trans}

pub before_from_less : (j k : List ℕ) → less (At j) (At k) ≡ true → Before j k
unfolding less
before_from_less j k h = before_from_test j k h

-- ---- what is past a bound

abbrev pub NoneAbove : Space → (List ℕ → List ℕ) → List ℕ → Type 0
NoneAbove S o c = (u : List ℕ) → IsListed S o u → Before c (key_along u (o u)) → ⊥

pub past_none : (S : Space) (o : List ℕ → List ℕ) (b : Bound) (c : List ℕ) → NoneAbove S o c → AllPast S o b c
past_none S o b c none = λ u l h. absurd (none u l h)

pub past_at : (S : Space) (o : List ℕ → List ℕ) (b : Bound) (c : List ℕ) → b ≡ At c → AllPast S o b c
past_at S o b c e = λ u l h. rw e (less_from_before c (key_along u (o u)) h)

pub past_key : (S : Space) (o : List ℕ → List ℕ) (b : Bound) (c : List ℕ) → less b (At c) ≡ true → AllPast S o b c
past_key S o b c past = λ u l h. transitive b (At c) (At (key_along u (o u))) past (less_from_before c (key_along u (o u)) h)

-- of keys of which the second isn't above the first
past_next : (b : Bound) (j k : List ℕ) → less b (At j) ≡ true → less (At k) (At j) ≡ false → less b (At k) ≡ true
past_next b j k past kept =
    elim (less b (At k)) as (λ t. less b (At k) ≡ t → t ≡ true) [
      | true ↦ λ e. refl
      | false ↦ λ e. sym kept ∙ not_above_less (At k) b (At j) e past
    ] refl

pub past_first : (S : Space) (o : List ℕ → List ℕ) (b : Bound) (c v : List ℕ) → IsFirst S o c v → less b (At (key_along v (o v))) ≡ true → AllPast S o b c
past_first S o b c v is past = λ u l h.
    elim (less (At (key_along u (o u))) (At (key_along v (o v)))) as (λ t. less (At (key_along u (o u))) (At (key_along v (o v))) ≡ t → less b (At (key_along u (o u))) ≡ true) [
      | true ↦ λ e. absurd (is.least u l h (before_from_less (key_along u (o u)) (key_along v (o v)) e))
      | false ↦ λ e. past_next b (key_along v (o v)) (key_along u (o u)) past e
    ] refl

-- ---- a cut that rises

first_from : (S : Space) (o : List ℕ → List ℕ) (c d v : List ℕ) → IsFirst S o c v → Before c d → Before d (key_along v (o v)) → IsFirst S o d v
first_from S o c d v is on later = record {
  listed = is.listed;
  later = later;
  least = λ u l h i. is.least u l (before_trans c d (key_along u (o u)) on h) i;
}

stuck_from : (S : Space) (o : List ℕ → List ℕ) (c d v : List ℕ) → NoneAbove S o c → Before c d → IsStuck S o c v [] → IsStuck S o d v []
stuck_from S o c d v none on k = record {
  of = k.of;
  allowed = k.allowed;
  leads = k.leads;
  cut = (d, refl);
  beyond = λ u l h at. none u l (before_trans c d (key_along u (o u)) on h);
}

-- where nothing is left
pub rises_empty : (S : Space) (o : List ℕ → List ℕ) (m : List ℕ → Ending) (stage : Stage) (c d v : List ℕ) → NoneAbove S o c → Before c d → StandsAt S o m stage c v [] → StandsAt S o m stage d v []
rises_empty S o m Behind c d v none on k = stuck_from S o c d v none on k
rises_empty S o m Moved c d v none on k = absurd (none v k.first.listed k.first.later)
rises_empty S o m (Ahead e) c d v none on k = absurd (none v k.0.listed k.0.later)

-- below a candidate that was run ahead
pub rises_below : (S : Space) (o : List ℕ → List ℕ) (m : List ℕ → Ending) (stage : Stage) (c d v : List ℕ) (path : List (ℕ × ℕ)) → ahead_of stage ≡ 1 → Before c d → Before d (key_along v (o v)) → StandsAt S o m stage c v path → StandsAt S o m stage d v path
rises_below S o m Behind c d v path one on later k = absurd (omega (arith, one))
rises_below S o m Moved c d v path one on later k = absurd (omega (arith, one))
rises_below S o m (Ahead e) c d v path one on later k = (first_from S o c d v k.0 on later, k.1, k.2)

pub stands_along : (S T : Space) (o p : List ℕ → List ℕ) (m n : List ℕ → Ending) (stage : Stage) (c v : List ℕ) (path : List (ℕ × ℕ)) → T ≡ S → p ≡ o → n ≡ m → StandsAt S o m stage c v path → StandsAt T p n stage c v path
stands_along S T o p m n stage c v path e f g k =
    subst (λ (x : Space). StandsAt x p n stage c v path) (sym e) (subst (λ (x : List ℕ → List ℕ). StandsAt S x n stage c v path) (sym f) (subst (λ (x : List ℕ → Ending). StandsAt S o x stage c v path) (sym g) k))

-- ---- after a rise

-- as contracts see the search
pub cut_below : {R : Type 0} (upto : Bound) (now shown : Seen R) → shown ≡ now → less (At now.cut) upto ≡ true → less (At shown.cut) upto ≡ true
cut_below {R} upto now shown e h = subst (λ (x : Seen R). less (At x.cut) upto ≡ true) (sym e) h

pub risen : (upto : Bound) (b : Bool) (old new : List ℕ) → b ≡ true → Rises upto b old new → upto ≡ At new
risen upto b old new e r = subst (λ (x : Bool). Rises upto x old new) e r

pub unrisen : (upto : Bound) (b : Bool) (old new : List ℕ) → b ≡ false → Rises upto b old new → new ≡ old
unrisen upto b old new e r = subst (λ (x : Bool). Rises upto x old new) e r

below_risen : (c d : List ℕ) (upto : Bound) → upto ≡ At d → less (At c) upto ≡ true → Before c d
below_risen c d upto e h = before_from_less c d (subst (λ (b : Bound). less (At c) b ≡ true) e h)

-- where nothing is left
pub past_risen : (S : Space) (o : List ℕ → List ℕ) (upto : Bound) (b : Bool) (c d : List ℕ) → NoneAbove S o c → Rises upto b c d → AllPast S o upto d
past_risen S o upto true c d none r = past_at S o upto d r
past_risen S o upto false c d none r = subst (AllPast S o upto) (sym r) (past_none S o upto c none)

pub stands_risen : (S : Space) (o : List ℕ → List ℕ) (m : List ℕ → Ending) (stage : Stage) (upto : Bound) (b : Bool) (c d v : List ℕ) (path : List (ℕ × ℕ)) → path ≡ [] → NoneAbove S o c → less (At c) upto ≡ true → Rises upto b c d
    → StandsAt S o m stage c v path → StandsAt S o m stage d v path
stands_risen S o m stage upto true c d v path e none h r k =
    subst (StandsAt S o m stage d v) (sym e) (rises_empty S o m stage c d v none (below_risen c d upto r h) (subst (StandsAt S o m stage c v) e k))
stands_risen S o m stage upto false c d v path e none h r k = subst (λ (x : List ℕ). StandsAt S o m stage x v path) (sym r) k

-- below a candidate that was run ahead, whose key this is
pub stands_below : (S : Space) (o : List ℕ → List ℕ) (m : List ℕ → Ending) (stage : Stage) (upto : Bound) (c d key v : List ℕ) (path : List (ℕ × ℕ)) → ahead_of stage ≡ 1 → less (At c) upto ≡ true → upto ≡ At d → less upto (At key) ≡ true → key ≡ key_along v (o v)
    → StandsAt S o m stage c v path → StandsAt S o m stage d v path
stands_below S o m stage upto c d key v path one h e past is k =
    rises_below S o m stage c d v path one (below_risen c d upto e h) (subst (Before d) is (before_from_less d key (subst (λ (b : Bound). less b (At key) ≡ true) e past))) k

-- ---- a key, compared with a bound

pub is_past_less : (upto : Bound) (key : List ℕ) (ending : Ending) (found : Upto) → is_past found ≡ true → Compares upto key ending found → less upto (At key) ≡ true
is_past_less upto key ending (Inside e) h k = absurd (cc (h))
is_past_less upto key ending (Last e) h k = absurd (cc (h))
is_past_less upto key ending Past h k = k

arrives_at : (S : Space) (o : List ℕ → List ℕ) (m : List ℕ → Ending) (c v new : List ℕ) (e ending : Ending) → IsFirst S o c v → ending ≡ m v → new ≡ key_along v (o v) → e ≡ ending → Arrives S o m c v new e
arrives_at S o m c v new e ending is ends key same = record { first = is; ends = same ∙ ends; key = key }

pub comes : (S : Space) (o : List ℕ → List ℕ) (m : List ℕ → Ending) (upto : Bound) (c v key new : List ℕ) (ending : Ending) (found : Upto) → IsFirst S o c v → ending ≡ m v → key ≡ key_along v (o v) → new ≡ key → Compares upto key ending found
    → ComesUpto S o m upto c v new found
comes S o m upto c v key new ending (Inside e) is ends along same k = (arrives_at S o m c v new e ending is ends (same ∙ along) k.0, subst (λ (x : List ℕ). less (At x) upto ≡ true) (sym same) k.1)
comes S o m upto c v key new ending (Last e) is ends along same k =
    (arrives_at S o m c v new e ending is ends (same ∙ along) k.0, subst (λ (x : List ℕ). less (At x) upto ≡ false) (sym same) k.1, subst (λ (x : List ℕ). less upto (At x) ≡ false) (sym same) k.2)
comes S o m upto c v key new ending Past is ends along same k =
    (past_first S o upto c v is (subst (λ (x : List ℕ). less upto (At x) ≡ true) along k), past_key S o upto new (subst (λ (x : List ℕ). less upto (At x) ≡ true) (sym same) k))

zero_is : (n m : ℕ) → (n == 0) ≡ true → n ≡ m → m ≡ 0
zero_is n m h e = grind (arith, nat_tests)

pub empty_path : (n : ℕ) (path : List (ℕ × ℕ)) → (n == 0) ≡ true → n ≡ length path → path ≡ []
empty_path n [] h e = refl
empty_path n (p ∷ path) h e = absurd (omega (arith, zero_is n (length (p ∷ path)) h e))
