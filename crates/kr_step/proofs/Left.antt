-- The entries that a span has above a cut.
use Rattle.std.proofs.Common.{◌≡◌, ℕ, inl, inr, List, [], ◌∷◌, Bool, true, false, refl, sym, ap, ◌∙◌, subst}
use Rattle.std.specs.Prelude.{◌&&◌, not, filter, if◌then◌else◌}
use Rattle.kr_base.specs.declared.span.Bound.{Bound}
use Rattle.kr_base.specs.declared.span.Bound.TheVariants.{At}
use Rattle.kr_base.specs.declared.entry.Entry.{Entry}
use Rattle.kr_base.specs.Bounds.{less}
use Rattle.kr_base.specs.Cuts.{Before, is_before}
use Rattle.kr_base.specs.Entries.{IsAmong, within}
use Rattle.kr_base.proofs.Bounds.{transitive, not_above_less, irreflexive}
use Rattle.kr_mean.specs.Problem.{Problem}
use Rattle.kr_mean.specs.Space.{Space, space_of}
use Rattle.kr_mean.specs.Runs.{order_of, key_of, key_along}
use Rattle.kr_mean.specs.Entries.{mark_of, all_entries}
use Rattle.kr_mean.specs.declared.row.Row.{Row}
use Rattle.kr_laws_pruning.specs.Laws.{PlainLaw}
use Rattle.kr_step.specs.declared.candidates.Ending.{Ending}
use Rattle.kr_step.specs.Steps.{IsFirst, above}
use Rattle.kr_step.specs.Stages.{FirstLaw}
use Rattle.kr_step.specs.Scans.{RunsOn, left, entry_at, Finds}
use Rattle.kr_step.specs.Upto.{AllPast}
use Rattle.kr_step.proofs.Uptos.{before_from_less}
use Rattle.kr_step.proofs.Carried as carried

-- those not above a bound
abbrev upto_bound : {M : Type 0} → Bound → List (Entry M) → List (Entry M)
upto_bound b es = filter (λ e. not (less b (At e.key))) es

within_step : {M : Type 0} (before past : Bool) (e : Entry M) (xs ys : List (Entry M)) (b : Bound) → past ≡ less b (At e.key) → xs ≡ upto_bound b ys
    → (if before && not past then e ∷ xs else xs) ≡ upto_bound b (if before then e ∷ ys else ys)
within_step true past e xs ys b p h = rw p (ap (λ l. if not (less b (At e.key)) then e ∷ l else l) h)
within_step false past e xs ys b p h = h

within_above : {M : Type 0} (c : List ℕ) (b : Bound) (es : List (Entry M)) → within (At c) b es ≡ upto_bound b (above c es)
unfolding less
within_above c b [] = refl
within_above c b (e ∷ es) = within_step (is_before c e.key) (less b (At e.key)) e (within (At c) b es) (above c es) b refl (within_above c b es)

-- a key before a bound isn't past it
pub not_behind : (a b : Bound) → less a b ≡ true → less b a ≡ false
not_behind a b h =
    elim (less b a) as (λ t. less b a ≡ t → t ≡ false) [
      | true ↦ λ e. sym (transitive a b a h e) ∙ irreflexive a
      | false ↦ λ e. refl
    ] refl

-- a span that ends at its cut, or before it, has nothing
ended_one : (a b x : Bound) → less a b ≡ false → (less a x && not (less b x)) ≡ false
ended_one a b x h =
    elim (less a x) as (λ t. less a x ≡ t → (t && not (less b x)) ≡ false) [
      | true ↦ λ e. rw (not_above_less b a x h e) refl
      | false ↦ λ e. refl
    ] refl

pub left_ended : {M : Type 0} (c : List ℕ) (b : Bound) (es : List (Entry M)) → less (At c) b ≡ false → within (At c) b es ≡ []
left_ended c b [] h = refl
left_ended c b (e ∷ es) h = rw (ended_one (At c) b (At e.key) h) (left_ended c b es h)

-- ---- of a problem

pub first_of : (P : Problem) (S : Space) (o : List ℕ → List ℕ) (e : List ℕ → Ending) (c v : List ℕ) → RunsOn P S o e → IsFirst S o c v → IsFirst (space_of P) (order_of P) c v
first_of P S o e c v runs is = subst (λ (T : Space). IsFirst T (order_of P) c v) runs.candidates (carried.first S o (order_of P) c v runs.orders is)

-- the first candidate above the cut, where its key isn't past the bound
pub finds : PlainLaw → FirstLaw Row → (P : Problem) (S : Space) (o : List ℕ → List ℕ) (m : List ℕ → Ending) (b : Bound) (c v new : List ℕ) (ending : Ending) → RunsOn P S o m
    → IsFirst S o c v → ending ≡ m v → new ≡ key_along v (o v) → less b (At new) ≡ false → Finds P b c v new ending
finds plain law P S o m b c v new ending runs is ends key inside =
    let there = first_of P S o m c v runs is in
    let same : new ≡ key_of P v = key ∙ ap (key_along v) (runs.orders v is.listed.vector) in
    let all = (plain P runs.lawful).all in
    let next : above c (all_entries P) ≡ entry_at P v ∷ above (key_of P v) (all_entries P) = (law (space_of P) (order_of P) (mark_of P) (all_entries P) c all).first v there in
    let kept : upto_bound b (entry_at P v ∷ above (key_of P v) (all_entries P)) ≡ entry_at P v ∷ upto_bound b (above (key_of P v) (all_entries P)) =
    rw (subst (λ k. less b (At k) ≡ false) same inside) refl in
    record {
      vector = there.listed.vector;
      ends = ends ∙ runs.ends v is.listed.vector;
      key = same;
      entries = within_above c b (all_entries P) ∙ (ap (upto_bound b) next ∙ (kept ∙ ap (λ l. entry_at P v ∷ l) (sym (within_above (key_of P v) b (all_entries P)) ∙ ap (λ k. left P b k) (sym same))));
    }

-- ---- where each candidate above the cut is past the bound

past_entry : (a b k : Bound) → (less a k ≡ true → less b k ≡ true) → (less a k && not (less b k)) ≡ false
past_entry a b k past =
    elim (less a k) as (λ t. less a k ≡ t → (t && not (less b k)) ≡ false) [
      | true ↦ λ e. rw (past e) refl
      | false ↦ λ e. refl
    ] refl

none_within : {M : Type 0} (c : List ℕ) (b : Bound) (es : List (Entry M)) → ((f : Entry M) → IsAmong f es → Before c f.key → less b (At f.key) ≡ true) → within (At c) b es ≡ []
none_within c b [] past = refl
none_within c b (e ∷ es) past = rw (past_entry (At c) b (At e.key) (λ h. past e (inl refl) (before_from_less c e.key h))) (none_within c b es (λ f m. past f (inr m)))

pub none_left : PlainLaw → (P : Problem) (S : Space) (o : List ℕ → List ℕ) (m : List ℕ → Ending) (b : Bound) (c : List ℕ) → RunsOn P S o m → AllPast S o b c → left P b c ≡ []
none_left plain P S o m b c runs past =
    let there : AllPast (space_of P) (order_of P) b c = subst (λ (T : Space). AllPast T (order_of P) b c) runs.candidates (carried.past S o (order_of P) b c runs.orders past) in
    let all = (plain P runs.lawful).all in
    none_within c b (all_entries P) (λ f among h.
    let of = all.sound f among in
    subst (λ (x : Entry Row). less b (At x.key) ≡ true) of.2 (there of.0 of.1 (subst (λ (x : Entry Row). Before c x.key) (sym of.2) h)))
