-- The entries of a class of one `int` field: every candidate is least, and each value of the field has its entry.
use Rattle.std.proofs.Common.{◌≡◌, ℕ, zero, suc, ◌+◌, ◌-◌, ◌<◌, inl, inr, ℤ, pos, List, [], ◌∷◌, length, get_or, refl, sym, ap, ◌∙◌, subst, arith}
use Rattle.kr_base.specs.declared.entry.Entry.{Entry}
use Rattle.kr_base.specs.Cuts.{Before}
use Rattle.kr_base.specs.Entries.{AllAfter, Ascends, IsAmong}
use Rattle.kr_ast.specs.declared.node.BinaryOperator.{BinaryOperator}
use Rattle.kr_mean.specs.Space.{space_of}
use Rattle.kr_mean.specs.Runs.{IsStuck, order_of, key_along}
use Rattle.kr_mean.specs.Readings.{Lacks}
use Rattle.kr_mean.specs.Isomorphism.{IsLeast}
use Rattle.kr_mean.specs.Entries.{mark_of, entry_of, IsListed, AreAllEntries}
use Rattle.kr_laws_pruning.specs.Laws.{PlainLaw}
use Rattle.kr_laws_pruning.specs.OneField.{one_field, one_field_entry, one_field_entries, IsOneField, OneFieldLaw}
use Rattle.kr_mean.specs.declared.row.Row.{Row}
use Rattle.kr_laws_pruning.proofs.OneFieldSpace.{Form, problem_of, space_for, spelled, is_vector, vectors_stay}
use Rattle.kr_laws_pruning.proofs.OneFieldRun.{never_stuck, orders_both, entry_there}
use Rattle.kr_laws_pruning.proofs.OneFieldOrder.{is_pure, is_lawful}

-- ---- the list

after_all : (test : BinaryOperator) (n : ℕ) (i j : ℕ) (zs : List ℤ) → i < j → AllAfter (0 ∷ i ∷ []) (one_field_entries test n j zs)
after_all test n i j [] h = tt
after_all test n i j (z ∷ zs) h = (inr (refl, inl h), after_all test n i (j + 1) zs (omega (arith, h)))

ascends : (test : BinaryOperator) (n : ℕ) (i : ℕ) (zs : List ℤ) → Ascends (one_field_entries test n i zs)
ascends test n i [] = tt
ascends test n i (z ∷ zs) = (after_all test n i (i + 1) zs (omega arith), ascends test n (i + 1) zs)

-- the entry of the value at a place
abbrev pub entry_for : BinaryOperator → ℕ → ℕ → List ℤ → ℕ → Entry Row
entry_for test n i zs k = one_field_entry test n (i + k) (get_or zs k (pos 0))

one_of_them : (test : BinaryOperator) (n : ℕ) (i : ℕ) (zs : List ℤ) (e : Entry Row) → IsAmong e (one_field_entries test n i zs)
    → (k : ℕ) × (k < length zs) × (entry_for test n i zs k ≡ e)
one_of_them test n i [] e m = absurd m
one_of_them test n i (z ∷ zs) e (inl m) = (0, omega arith, ap (λ j. one_field_entry test n j z) (omega arith) ∙ m)
one_of_them test n i (z ∷ zs) e (inr m) =
    let r = one_of_them test n (i + 1) zs e m in
    (suc r.0, omega (arith, r.1), ap (λ j. one_field_entry test n j (get_or zs r.0 (pos 0))) (omega arith) ∙ r.2)

among_them : (test : BinaryOperator) (n : ℕ) (i : ℕ) (zs : List ℤ) (k : ℕ) → k < length zs → IsAmong (entry_for test n i zs k) (one_field_entries test n i zs)
among_them test n i [] k h = absurd (omega (arith, h))
among_them test n i (z ∷ zs) zero h = inl (ap (λ j. one_field_entry test n j z) (omega arith))
among_them test n i (z ∷ zs) (suc k) h =
    subst (λ j. IsAmong (one_field_entry test n j (get_or zs k (pos 0))) (one_field_entry test n i z ∷ one_field_entries test n (i + 1) zs)) (omega arith)
    (inr (among_them test n (i + 1) zs k (omega (arith, h))))

-- ---- every candidate is listed

not_before_itself : (i : ℕ) → Before (0 ∷ i ∷ []) (0 ∷ i ∷ []) → ⊥
not_before_itself i (inl h) = omega (arith, h)
not_before_itself i (inr (e, inl h)) = omega (arith, h)
not_before_itself i (inr (e, inr (f, h))) = h

key_there : (form : Form) (i : ℕ) → i < length form.values → key_along (0 ∷ i ∷ []) (order_of (problem_of form) (0 ∷ i ∷ [])) ≡ 0 ∷ i ∷ []
key_there form i h = ap (key_along (0 ∷ i ∷ [])) (orders_both form i h)

is_least : (form : Form) (i : ℕ) → i < length form.values → IsLeast (space_for form) (order_of (problem_of form)) (0 ∷ i ∷ [])
is_least form i h name w r m b =
    let key = λ (v : List ℕ). key_along v (order_of (problem_of form) v) in
    let same : key w ≡ 0 ∷ i ∷ [] = ap key (vectors_stay form name (0 ∷ i ∷ []) w r (is_vector form i h) m) ∙ key_there form i h in
    let smaller : Before (0 ∷ i ∷ []) (0 ∷ i ∷ []) = subst (λ k. Before k (0 ∷ i ∷ [])) same (subst (λ k. Before (key w) k) (key_there form i h) b) in
    not_before_itself i smaller

nothing_left : (i s : ℕ) → s < 2 → Lacks (0 ∷ 1 ∷ []) s → get_or (0 ∷ i ∷ []) s 0 ≡ 0
nothing_left i zero h l = absurd (l.0 refl)
nothing_left i (suc zero) h l = absurd (l.1.0 refl)
nothing_left i (suc (suc s)) h l = absurd (omega (arith, h))

settled : (form : Form) (i : ℕ) → i < length form.values → (s : ℕ) → s < (space_for form).slots → Lacks (order_of (problem_of form) (0 ∷ i ∷ [])) s → get_or (0 ∷ i ∷ []) s 0 ≡ 0
unfolding space_of
settled form i h s b l = nothing_left i s b (subst (λ o. Lacks o s) (orders_both form i h) l)

is_listed : (form : Form) (i : ℕ) → i < length form.values → IsListed (space_for form) (order_of (problem_of form)) (0 ∷ i ∷ [])
is_listed form i h = record { vector = is_vector form i h; least = is_least form i h; settled = settled form i h }

-- ---- the list has all entries

abbrev pub entries_for : Form → List (Entry Row)
entries_for form = one_field_entries form.test form.number 0 form.values

entry_spelled : (form : Form) (k : ℕ) → k < length form.values
    → entry_of (order_of (problem_of form)) (mark_of (problem_of form)) (0 ∷ k ∷ []) ≡ entry_for form.test form.number 0 form.values k
entry_spelled form k h = entry_there form k h ∙ ap (λ j. one_field_entry form.test form.number j (get_or form.values k (pos 0))) (omega arith)

listed_from : (form : Form) (e : Entry Row) → IsAmong e (entries_for form)
    → (v : List ℕ) × IsListed (space_for form) (order_of (problem_of form)) v × (entry_of (order_of (problem_of form)) (mark_of (problem_of form)) v ≡ e)
listed_from form e m =
    let r = one_of_them form.test form.number 0 form.values e m in
    (0 ∷ r.0 ∷ [], is_listed form r.0 r.1, entry_spelled form r.0 r.1 ∙ r.2)

listed_there : (form : Form) (v : List ℕ) → IsListed (space_for form) (order_of (problem_of form)) v
    → IsAmong (entry_of (order_of (problem_of form)) (mark_of (problem_of form)) v) (entries_for form)
listed_there form v l =
    let a = spelled form v l.vector in
    let same : entry_of (order_of (problem_of form)) (mark_of (problem_of form)) v ≡ entry_for form.test form.number 0 form.values a.0 =
    ap (entry_of (order_of (problem_of form)) (mark_of (problem_of form))) a.2 ∙ entry_spelled form a.0 a.1 in
    subst (λ e. IsAmong e (entries_for form)) (sym same) (among_them form.test form.number 0 form.values a.0 a.1)

are_all : (form : Form) → AreAllEntries (problem_of form) (entries_for form)
are_all form = record {
  ascends = ascends form.test form.number 0 form.values;
  sound = listed_from form;
  complete = listed_there form;
}

-- ---- the law

law_for : PlainLaw → (form : Form) → 0 < length form.values → IsOneField (problem_of form) (entries_for form)
law_for plain form h =
    let lawful = is_lawful form h in
    record {
      never_stuck = λ v h stuck. let a = spelled form v h in never_stuck form a.0 a.1 (subst (IsStuck (problem_of form)) a.2 stuck);
      pure = is_pure form;
      lawful = lawful;
      listed = sym ((plain (problem_of form) lawful).only (entries_for form) (are_all form));
    }

pub one_field_law_from : PlainLaw → OneFieldLaw
one_field_law_from plain at class_name field_name test n values fuel compares small enough some =
    let spare = fuel - 6 in
    let six : suc (suc (suc (suc (suc (suc spare))))) ≡ fuel = omega arith in
    let form : Form = record { at = at; class_name = class_name; field_name = field_name; test = test; compares = compares; number = n; small = small; values = values; spare = spare } in
    subst (λ f. IsOneField (one_field at class_name field_name test n values f) (one_field_entries test n 0 values)) six (law_for plain form some)
