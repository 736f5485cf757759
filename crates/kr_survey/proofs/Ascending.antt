-- Keys each of which is before the next one ascend.
use Rattle.std.proofs.Common.{◌≡◌, ℕ, List, [], ◌∷◌, true, refl}
use Rattle.std.proofs.lemmas.Bool.{and_parts, and_from}
use Rattle.kr_base.specs.declared.entry.Entry.{Entry}
use Rattle.kr_base.specs.Cuts.{is_before}
use Rattle.kr_base.specs.Entries.{AllAfter, Ascends}
use Rattle.kr_base.proofs.Orders.{before_from_test, test_from_before, test_transitive}
use Rattle.kr_survey.specs.Ascents.{ascends_from}

earlier : {R : Type 0} (j k : List ℕ) (es : List (Entry R)) → is_before j k ≡ true → AllAfter k es → AllAfter j es
earlier j k [] p h = tt
earlier j k (e ∷ es) p h = (before_from_test j e.key (test_transitive j k e.key p (test_from_before k e.key h.0)), earlier j k es p h.1)

pub ascends_test : {R : Type 0} (k : List ℕ) (es : List (Entry R)) → ascends_from k es ≡ true → AllAfter k es × Ascends es
ascends_test k [] h = (tt, tt)
ascends_test k (e ∷ es) h =
    let p = (and_parts (is_before k e.key) (ascends_from e.key es) h).0 in
    let rest = ascends_test e.key es (and_parts (is_before k e.key) (ascends_from e.key es) h).1 in
    ((before_from_test k e.key p, earlier k e.key es p rest.0), (rest.0, rest.1))

pub test_ascends : {R : Type 0} (k : List ℕ) (es : List (Entry R)) → AllAfter k es → Ascends es → ascends_from k es ≡ true
test_ascends k [] a h = refl
test_ascends k (e ∷ es) a h = and_from (is_before k e.key) (ascends_from e.key es) (test_from_before k e.key a.0) (test_ascends e.key es h.0 h.1)
